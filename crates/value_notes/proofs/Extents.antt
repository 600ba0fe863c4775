-- What is under a node of the binary tree: the node itself, what lies inside it in the document, and what is under its next sibling.
use Prim.Native.Nat.{ℕ, suc, ◌≤◌, ◌<◌}
use mathlib.Core.Path.{◌≡◌, refl, sym, ap, subst}
use mathlib.Core.Logic.{inl, inr}
use mathlib.Core.Bool.{true, false}
use mathlib.Core.List.{List}
use lib.ListN.{length}
use native.Mathlib.Omega.{arith}
use native.Mathlib.Decide.{ℕ_discrete, dec_lt}
use Rattle.xpath.specs.Tree.{Child}
use Rattle.document_spec.specs.Library.{Node, Legal}
use Rattle.document_spec.specs.Binary.{tree_of}
use Rattle.document_spec.specs.Verdict.{Accepts}
use Rattle.document_spec.specs.Intervals.{deep, End}
use Rattle.document_spec.proofs.Binary.{left_child, right_child}
use Rattle.document_spec.proofs.Intervals.{end_of}
use Rattle.table.specs.Links.{Points}
use Rattle.table.specs.Tabled.{Tabled}
use Rattle.table.proofs.Trees.{tree_size}
use Rattle.texts.specs.Texts.{Extent, Content}

-- a node of the table is one of the document
pub node_in : {s : List ℕ} {n v : ℕ} {t : List ℕ} → Tabled s n t → (ns : List Node) → Accepts s ns → v < n → v < length ns
node_in {v = v} g ns a l = subst (λ (m : ℕ). v < m) (sym (tree_size g ns a)) l

module _ {ns : List Node} (ok : Legal ns) {v : ℕ} (l : v < length ns) where
  -- what lies inside v is under its left child
  pub left_extent : {x : ℕ} → Points (Child (tree_of ns) true v) x → (m : ℕ) × Content ns v m × Extent ns x (suc v) m
  left_extent {x} (inl c) =
      let (e, r, d) = (left_child ok).0 c in let (m, h) = end_of ns x r in let b = h.behind in
      (m, record { behind = omega arith; within = h.within; deeper = λ u i j. go u i j d e h (ℕ_discrete u x); stops = λ i. let s = h.stops i in omega arith }, inl (e, h))
    where
      go : {m : ℕ} (u : ℕ) → v < u → u < m → deep ns x ≡ suc (deep ns v) → x ≡ suc v → End ns x m → Dec (u ≡ x) → deep ns v < deep ns u
      go u i j d e h (yes z) = let k = ap (deep ns) z in omega arith
      go u i j d e h (no z) = let k = h.level u (omega arith) j in omega arith
  left_extent (inr (e, f)) = (suc v, record { behind = omega arith; within = l; deeper = λ u i j. absurd (omega arith); stops = level }, inr (e, refl))
    where
      level : suc v < length ns → deep ns (suc v) ≤ deep ns v
      level r =
          let s = (ok.depths v r).1 in
          let n : ¬ (deep ns v < deep ns (suc v)) = λ i. f (suc v) ((left_child ok).1 (refl, r, omega arith)) in
          omega arith

  -- behind that stands the right child
  pub right_extent : {y m e : ℕ} → Points (Child (tree_of ns) false v) y → Content ns v m → End ns v e → (m ≤ e) × Extent ns y m e
  right_extent {y} {m} {e} (inl c) k h =
      let (r, i, d, f) = (right_child ok).0 c in
      let same : y ≡ m = here r i d f (dec_lt y m) (dec_lt m y) in
      let more : y < e = far r i d f (dec_lt y e) in
      (omega arith, inl (same, record { behind = more; within = h.within; level = λ u a b. let z = h.level u (omega arith) b in omega arith; stops = λ a. let z = h.stops a in omega arith }))
    where
      here : v < y → y < length ns → deep ns y ≡ deep ns v → ((u : ℕ) → v < u → u < y → deep ns v < deep ns u) → Dec (y < m) → Dec (m < y) → y ≡ m
      here r i d f (yes z) b = let a = k.deeper y r z in absurd (omega arith)
      here r i d f (no a) (yes z) = let b = f m k.behind z in let c = k.stops (omega arith) in absurd (omega arith)
      here r i d f (no a) (no b) = omega arith

      far : v < y → y < length ns → deep ns y ≡ deep ns v → ((u : ℕ) → v < u → u < y → deep ns v < deep ns u) → Dec (y < e) → y < e
      far r i d f (yes z) = z
      far r i d f (no z) = let s = h.stops (omega arith) in absurd (before (ℕ_discrete e y))
        where
          before : Dec (e ≡ y) → ⊥
          before (yes q) = let g = ap (deep ns) q in let s = h.stops (omega arith) in omega arith
          before (no q) = let g = f e h.behind (omega arith) in let s = h.stops (omega arith) in omega arith
  right_extent {y} {m} {e} (inr (z, f)) k h = let same : m ≡ e = here (dec_lt e m) (dec_lt m e) in (omega arith, inr (z, same))
    where
      here : Dec (e < m) → Dec (m < e) → m ≡ e
      here (yes a) b = let w = k.within in let c = k.deeper e h.behind a in let d = h.stops (omega arith) in absurd (omega arith)
      here (no a) (yes b) =
          let w = h.within in let c = k.stops (omega arith) in let d = h.level m k.behind b in
          absurd (f m ((right_child ok).1 (k.behind, omega arith, omega arith, k.deeper)))
      here (no a) (no b) = omega arith
