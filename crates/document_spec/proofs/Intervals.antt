-- The nodes under a node of the binary tree are an interval in document order; the one under its left child is what it holds in the document.
use Prim.Native.Nat.{ℕ, zero, suc, ◌+◌, ◌-◌, ◌≤◌, ◌<◌}
use mathlib.Core.Path.{◌≡◌, refl, sym, ap, ◌∙◌, subst}
use mathlib.Core.Logic.{◌↔◌}
use mathlib.Core.Bool.{Bool, true, false}
use mathlib.Core.List.{List, [], ◌++◌}
use lib.ListN.{length, drop, drop_of_length-le}
use lib.Dec.{ltb}
use lib.Seq.{drop-cons, slice, slice_empty, slice-cons}
use native.Mathlib.Omega.{arith}
use native.Mathlib.Decide.{ℕ_discrete, dec_le, dec_lt}
use borrow.Author.Tests.{lt-ltb, le-ltb}
use Rattle.xpath.specs.Tree.{Child, Down, here, deeper, Under}
use Rattle.xpath.proofs.Trees.{child_after, by_parents}
use Rattle.document_spec.specs.Library.{Node, element, at, Legal}
use Rattle.document_spec.specs.Binary.{pick, text_of, joined, string_of, tree_of}
use Rattle.document_spec.specs.Intervals.{deep, End, texts}
use Rattle.document_spec.proofs.Binary.{up_to, from_on, left_child, right_child, tree_formed}

-- ── A library ──
-- from v on to w no node is shallower than v
abbrev pub Spans : List Node → ℕ → ℕ → Type 0
Spans ns v w = (v ≤ w) × ((u : ℕ) → v < u → u ≤ w → deep ns v ≤ deep ns u)

-- w lies inside v in the document: behind v, up to w, all is deeper than v
abbrev pub Inside : List Node → ℕ → ℕ → Type 0
Inside ns v w = (v < w) × ((u : ℕ) → v < u → u ≤ w → deep ns v < deep ns u)

module _ {ns : List Node} (ok : Legal ns) where
  spans_at : {v w : ℕ} → Spans ns v w → (u : ℕ) → v ≤ u → u ≤ w → deep ns v ≤ deep ns u
  spans_at {v} {w} h = from_on (λ u. u ≤ w → deep ns v ≤ deep ns u) (λ r. omega arith) h.1

  spans_trans : {v y w : ℕ} → Spans ns v y → Spans ns y w → Spans ns v w
  spans_trans {v} {y} {w} h k = (let a = h.0 in let b = k.0 in omega arith, λ u x r. go u x r (dec_le u y))
    where
      go : (u : ℕ) → v < u → u ≤ w → Dec (u ≤ y) → deep ns v ≤ deep ns u
      go u x r (yes s) = h.1 u x s
      go u x r (no f) = let a = spans_at h y h.0 (omega arith) in let b = k.1 u (omega arith) r in omega arith

  child_spans : (side : Bool) {v w : ℕ} → Child (tree_of ns) side v w → Spans ns v w
  child_spans true {v} {w} c =
      let (e, l, d) = (left_child ok).0 c in
      (omega arith, λ u x y. let i : u ≡ w = omega arith in let k = ap (deep ns) i in omega arith)
  child_spans false {v} {w} c =
      let (r, l, d, f) = (right_child ok).0 c in
      (omega arith, λ u x y. up_to (λ u. v < u → deep ns v ≤ deep ns u) (λ s. omega arith) (λ u s k. let g = f u k s in omega arith) u y x)

  down_spans : {v w n : ℕ} → Down (tree_of ns) v w n → Spans ns v w
  down_spans here = (omega arith, λ u x y. absurd (omega arith))
  down_spans (deeper {side = side} d c) = spans_trans (down_spans d) (child_spans side c)

  -- a node before w and no deeper than w is no later than w's parent
  parent_from : (side : Bool) {v y w : ℕ} → Child (tree_of ns) side y w → v < w → deep ns v ≤ deep ns w → v ≤ y
  parent_from true c r h = let e = ((left_child ok).0 c).0 in omega arith
  parent_from false {v} {y} {w} c r h =
      let (s, l, d, f) = (right_child ok).0 c in
      let z : ¬ (y < v) = λ x. let g = f v x r in omega arith in
      omega arith

  spans_under : {v : ℕ} (w : ℕ) → w < length ns → Spans ns v w → Under (tree_of ns) v w
  spans_under {v} =
      by_parents (tree_of ns) (tree_formed ok) (λ w. Spans ns v w → Under (tree_of ns) v w)
      (λ h. self (let r = h.0 in omega arith))
      (λ side y w c ih h. go side c ih h (ℕ_discrete v w))
    where
      self : {w : ℕ} → v ≡ w → Under (tree_of ns) v w
      self e = subst (λ x. Under (tree_of ns) v x) e (0, here)

      go : (side : Bool) {y w : ℕ} → Child (tree_of ns) side y w
          → (Spans ns v y → Under (tree_of ns) v y) → Spans ns v w → Dec (v ≡ w) → Under (tree_of ns) v w
      go side c ih h (yes e) = self e
      go side {y} {w} c ih (o, f) (no g) =
          let r : v < w = omega arith in let s = child_after (tree_formed ok) c in
          let (n, d) = ih (parent_from side c r (f w r (omega arith)), λ u x k. f u x (omega arith)) in
          (suc n, deeper d c)

  -- the nodes under v are v and those behind it up to the next shallower node
  pub under_interval : {v w : ℕ} → w < length ns → Under (tree_of ns) v w ↔ Spans ns v w
  under_interval {w} l = (λ h. down_spans h.1, spans_under w l)

  pub under_end : {v e w : ℕ} → End ns v e → Under (tree_of ns) v w ↔ ((v ≤ w) × (w < e))
  under_end {v} {e} {w} h = (λ u. to u (dec_lt w e), from)
    where
      inside : {w n : ℕ} → Down (tree_of ns) v w n → w < length ns
      inside here = let a = h.behind in let b = h.within in omega arith
      inside (deeper d c) = c.inside

      to : Under (tree_of ns) v w → Dec (w < e) → (v ≤ w) × (w < e)
      to (n, d) (yes r) = ((down_spans d).0, r)
      to (n, d) (no f) =
          let l = inside d in let a = h.stops (omega arith) in
          let b = (down_spans d).1 e h.behind (omega arith) in
          absurd (omega arith)

      from : (v ≤ w) × (w < e) → Under (tree_of ns) v w
      from (r, s) = let l = h.within in spans_under w (omega arith) (r, λ u x y. h.level u x (omega arith))

  -- the nodes inside v are its left child and what is under that
  pub subtree : {v w : ℕ} → w < length ns → Inside ns v w ↔ ((l : ℕ) × Child (tree_of ns) true v l × Under (tree_of ns) l w)
  subtree {v} {w} i = (to, from)
    where
      to : Inside ns v w → (l : ℕ) × Child (tree_of ns) true v l × Under (tree_of ns) l w
      to (r, f) =
          let a = f (suc v) (omega arith) r in let b = (ok.depths v (omega arith)).1 in
          (suc v, (left_child ok).1 (refl, omega arith, omega arith), spans_under w i (r, λ u x y. let g = f u (omega arith) y in omega arith))

      from : (l : ℕ) × Child (tree_of ns) true v l × Under (tree_of ns) l w → Inside ns v w
      from (l, c, (n, d)) =
          let (e, j, k) = (left_child ok).0 c in let s = down_spans d in let o = s.0 in
          (omega arith, λ u x y. let g = spans_at s u (omega arith) y in omega arith)

-- every node has an end
pub end_of : (ns : List Node) (v : ℕ) → v < length ns → (e : ℕ) × End ns v e
end_of ns v l = scan (length ns - suc v) (suc v) (omega arith) (omega arith) (λ u x y. absurd (omega arith))
  where
    Level : ℕ → Type 0
    Level e = (u : ℕ) → v < u → u < e → deep ns v ≤ deep ns u

    scan : (k e : ℕ) → e + k ≡ length ns → v < e → Level e → (e : ℕ) × End ns v e
    scan zero e s r f = (e, record { behind = r; within = omega arith; level = f; stops = λ x. absurd (omega arith) })
    scan (suc k) e s r f = go (λ g. scan k (suc e) (omega arith) (omega arith) g) (dec_le (deep ns v) (deep ns e))
      where
        go : (Level (suc e) → (e : ℕ) × End ns v e) → Dec (deep ns v ≤ deep ns e) → (e : ℕ) × End ns v e
        go on (yes h) = on (λ u x y. up_to (λ u. v < u → deep ns v ≤ deep ns u) (λ x. h) (λ u y x. f u x y) u (omega arith) x)
        go on (no g) = (e, record { behind = r; within = omega arith; level = f; stops = λ x. omega arith })

-- ── String values ──
module _ (ns : List Node) (d : ℕ) where
  -- node by node: the text of a node deeper than d and what is joined behind it; nothing from the first other node on
  pub joined_at : (v : ℕ) → v < length ns → joined d (drop v ns) ≡ pick (ltb d (deep ns v)) (text_of (at ns v) ++ joined d (drop (suc v) ns)) []
  joined_at v l = ap (joined d) (drop-cons ns v (at [] 0) l)

  pub joined_in : (v : ℕ) → v < length ns → d < deep ns v → joined d (drop v ns) ≡ text_of (at ns v) ++ joined d (drop (suc v) ns)
  joined_in v l h = rw (joined_at v l, lt-ltb d (deep ns v) h)

  pub joined_out : (v : ℕ) → (v < length ns → deep ns v ≤ d) → joined d (drop v ns) ≡ []
  joined_out v f = go (dec_lt v (length ns))
    where
      go : Dec (v < length ns) → joined d (drop v ns) ≡ []
      go (yes l) = rw (joined_at v l, le-ltb d (deep ns v) (f l))
      go (no g) = let r : length ns ≤ v = omega arith in ap (joined d) (drop_of_length-le ns r)

  -- what is joined from v up to the first node e that is not deeper
  module _ {e : ℕ} (within : e ≤ length ns) (stops : e < length ns → deep ns e ≤ d) where
    pub joined_slice : (k v : ℕ) → v + k ≡ e → ((u : ℕ) → v ≤ u → u < e → d < deep ns u) → joined d (drop v ns) ≡ texts (slice v e ns)
    joined_slice zero v i f =
        let j : e ≡ v = omega arith in
        subst (λ x. joined d (drop x ns) ≡ texts (slice x e ns)) j (joined_out e stops ∙ sym (ap texts (slice_empty e ns)))
    joined_slice (suc k) v i f =
        joined_in v (omega arith) (f v (omega arith) (omega arith))
        ∙ ap (λ s. text_of (at ns v) ++ s) (joined_slice k (suc v) (omega arith) (λ u x y. f u (omega arith) y))
        ∙ sym (ap texts (slice-cons v e ns (at [] 0) (omega arith) within))

-- the value of an element: the texts under its left child, and empty where there is none
pub element_value : (ns : List Node) (v : ℕ) → (at ns v).kind ≡ element → string_of ns v ≡ joined (deep ns v) (drop (suc v) ns)
element_value ns v k = rw (k, string_of)

module _ {ns : List Node} (ok : Legal ns) (v : ℕ) (kind : (at ns v).kind ≡ element) where
  pub value_inside : {l e : ℕ} → Child (tree_of ns) true v l → End ns l e → string_of ns v ≡ texts (slice l e ns)
  value_inside {l} {e} c h =
      let (i, r, d) = (left_child ok).0 c in let b = h.behind in
      let f = from_on (λ u. u < e → deep ns v < deep ns u) (λ x. omega arith) (λ u x y. let s = h.level u x y in omega arith) in
      element_value ns v kind
      ∙ ap (λ x. joined (deep ns v) (drop x ns)) (sym i)
      ∙ joined_slice ns (deep ns v) h.within (λ x. let s = h.stops x in omega arith) (e - l) l (omega arith) f

  pub value_none : ¬ ((l : ℕ) × Child (tree_of ns) true v l) → string_of ns v ≡ []
  value_none f = element_value ns v kind ∙ joined_out ns (deep ns v) (suc v) level
    where
      level : suc v < length ns → deep ns (suc v) ≤ deep ns v
      level r =
          let s = (ok.depths v r).1 in
          let n : ¬ (deep ns v < deep ns (suc v)) = λ x. f (suc v, (left_child ok).1 (refl, r, omega arith)) in
          omega arith
