-- The tree of a legal library is a binary tree: its children by the depths, each node but the root the child of one node.
use Prim.Native.Nat.{ℕ, zero, suc, ◌≤◌, ◌<◌}
use mathlib.Core.Path.{◌≡◌, refl, sym, ap, subst}
use mathlib.Core.Logic.{◌↔◌, ⊎_elim}
use mathlib.Core.Bool.{Bool, true, false}
use mathlib.Core.List.{List}
use lib.ListN.{length}
use lib.Dec.{eqb}
use native.Mathlib.Nat.{eq-or-lt_of_le}
use native.Mathlib.Omega.{arith}
use borrow.Author.Tests.{ltb-true, ltb-false, eqb-true, eqb-false, lt-ltb, le-ltb}
use Rattle.limits.specs.Limits.{document_nodes}
use Rattle.xpath.specs.Tree.{Child, WellFormed}
use Rattle.xpath.proofs.Trees.{parent_of_lem}
use Rattle.document_spec.specs.Library.{Node, Legal}
use Rattle.document_spec.specs.Binary.{pick, back, is_first, tree_of}
use Rattle.document_spec.specs.Intervals.{deep}

-- what holds at v and before it holds up to v; what holds at v and behind it holds from v on
pub up_to : {v : ℕ} (P : ℕ → Type 0) → P v → ((u : ℕ) → u < v → P u) → (u : ℕ) → u ≤ v → P u
up_to P h f u r = ⊎_elim (λ e. subst P (sym e) h) (f u) (eq-or-lt_of_le r)

pub from_on : {v : ℕ} (P : ℕ → Type 0) → P v → ((u : ℕ) → v < u → P u) → (u : ℕ) → v ≤ u → P u
from_on P h f u r = ⊎_elim (λ e. subst P e h) (f u) (eq-or-lt_of_le r)

-- ── A library ──
-- w is the first child of v in the document: the next node, if that lies deeper
abbrev pub FirstChild : List Node → ℕ → ℕ → Type 0
FirstChild ns v w = (w ≡ suc v) × (w < length ns) × (deep ns w ≡ suc (deep ns v))

-- w is the next sibling of v: the next node of the same depth, with only deeper ones between
abbrev pub NextSibling : List Node → ℕ → ℕ → Type 0
NextSibling ns v w = (v < w) × (w < length ns) × (deep ns w ≡ deep ns v) × ((u : ℕ) → v < u → u < w → deep ns v < deep ns u)

-- b is the last node before v that has depth d, and only deeper ones stand between
record Last (ns : List Node) (d v b : ℕ) : Type 0 where
  before : b < v
  level : deep ns b ≡ d
  between : (u : ℕ) → b < u → u < v → d < deep ns u

-- the parent of suc w by the side
abbrev parent_by : List Node → Bool → ℕ → ℕ
parent_by ns side w = pick side w (back ns (deep ns (suc w)) (suc w))

module _ {ns : List Node} (ok : Legal ns) where
  by_side : {side : Bool} {v w : ℕ} → Child (tree_of ns) side v (suc w) ↔ ((suc w < length ns) × (is_first ns (suc w) ≡ side) × (parent_by ns side w ≡ v))
  by_side {v} {w} = (
    λ c. (c.inside, c.which, subst (λ b. parent_by ns b w ≡ v) c.which c.above),
    λ h. record { inner = omega arith; inside = h.0; above = subst (λ b. parent_by ns b w ≡ v) (sym h.1) h.2; which = h.1 },
  )

  one_last : {d v b b' : ℕ} → Last ns d v b → Last ns d v b' → b ≡ b'
  one_last l k = let p = late l k in let q = late k l in omega arith
    where
      late : {d v b b' : ℕ} → Last ns d v b → Last ns d v b' → ¬ (b < b')
      late {b' = b'} l k r = let h = l.between b' r k.before in let e = k.level in omega arith

  last_step : (d v : ℕ) (b : Bool) → eqb (deep ns v) d ≡ b → d ≤ deep ns v
      → (d < deep ns v → Last ns d v (back ns d v)) → Last ns d (suc v) (pick b v (back ns d v))
  last_step d v true q h ih = record { before = omega arith; level = eqb-true _ _ q; between = λ u x y. absurd (omega arith) }
  last_step d v false q h ih =
      let n : ¬ (deep ns v ≡ d) = eqb-false _ _ q in
      let s : d < deep ns v = omega arith in
      let l = ih s in
      record {
        before = let r = l.before in omega arith;
        level = l.level;
        between = λ u x y. up_to (λ u. back ns d v < u → d < deep ns u) (λ r. s) (λ u r k. l.between u k r) u (omega arith) x;
      }

  -- only the first node has depth 0, so the way back from a node at least as deep as d meets one of depth d
  back_last : (d v : ℕ) → 0 < d → v < length ns → d ≤ deep ns v → Last ns d (suc v) (back ns d (suc v))
  back_last d zero r l h = let e = ok.top in absurd (omega arith)
  back_last d (suc v) r l h =
      let k = (ok.depths v l).1 in
      last_step d (suc v) (eqb (deep ns (suc v)) d) refl h (λ s. back_last d v r (omega arith) (omega arith))

  pub left_child : {v w : ℕ} → Child (tree_of ns) true v w ↔ FirstChild ns v w
  left_child {v} {w} = (to w, from)
    where
      to : (w : ℕ) → Child (tree_of ns) true v w → FirstChild ns v w
      to zero c = let r = c.inner in absurd (omega arith)
      to (suc w) c =
          let (l, q, e) = by_side.0 c in
          let r = ltb-true (deep ns w) (deep ns (suc w)) q in let s = (ok.depths w l).1 in let z = ap (deep ns) e in
          (ap suc e, l, omega arith)

      from : FirstChild ns v w → Child (tree_of ns) true v w
      from (i, l, e) =
          let z = ap (deep ns) i in
          rw i (by_side.1 (omega arith, lt-ltb (deep ns v) (deep ns (suc v)) (omega arith), refl))

  pub right_child : {v w : ℕ} → Child (tree_of ns) false v w ↔ NextSibling ns v w
  right_child {v} {w} = (to w, from w)
    where
      found : (w : ℕ) → suc w < length ns → deep ns (suc w) ≤ deep ns w → Last ns (deep ns (suc w)) (suc w) (back ns (deep ns (suc w)) (suc w))
      found w l h = back_last (deep ns (suc w)) w (ok.depths w l).0 (omega arith) h

      to : (w : ℕ) → Child (tree_of ns) false v w → NextSibling ns v w
      to zero c = let r = c.inner in absurd (omega arith)
      to (suc w) c =
          let (l, q, e) = by_side.0 c in
          let k = subst (λ x. Last ns (deep ns (suc w)) (suc w) x) e (found w l (ltb-false _ _ q)) in
          (k.before, l, sym k.level, rw k.level k.between)

      from : (w : ℕ) → NextSibling ns v w → Child (tree_of ns) false v w
      from zero (r, l, e, f) = absurd (omega arith)
      from (suc w) (r, l, e, f) =
          let g = from_on (λ u. u ≤ w → deep ns (suc w) ≤ deep ns u) (λ x. omega arith) (λ u x y. let k = f u x (omega arith) in omega arith) in
          let h = g w (omega arith) (omega arith) in
          by_side.1 (l, le-ltb _ _ h, one_last (found w l h) (record { before = r; level = sym e; between = rw e f }))

  pub tree_formed : WellFormed (tree_of ns)
  tree_formed =
      record {
        rooted = ok.some;
        upwards = λ v i l. up (is_first ns v) (parent_of_lem i l);
        left_next = λ v w c. (left_child.0 c).0;
        one_right = λ v w w' c k. let p = late c k in let q = late k c in omega arith;
      }
    where
      up : (side : Bool) {v w : ℕ} → Child (tree_of ns) side v w → v < w
      up true c = let e = (left_child.0 c).0 in omega arith
      up false c = (right_child.0 c).0

      late : {v w w' : ℕ} → Child (tree_of ns) false v w → Child (tree_of ns) false v w' → ¬ (w < w')
      late {w} c k r = let (x, l, e, f) = right_child.0 c in let h = (right_child.0 k).3 w x r in omega arith

  -- a depth is at most the node's number, so it is below 4,096
  pub depth_le : (v : ℕ) → v < length ns → deep ns v ≤ v
  depth_le zero l = let e = ok.top in omega arith
  depth_le (suc v) l = let h = (ok.depths v l).1 in let k = depth_le v (omega arith) in omega arith

  pub depth_small : (v : ℕ) → v < length ns → deep ns v < document_nodes
  depth_small v l = let h = depth_le v l in let k = ok.few in omega arith
