-- What is drawn stays where the words of its columns do.
use Prim.Native.Nat.{ℕ, ◌≤◌, ◌<◌}
use mathlib.Core.Path.{◌≡◌, sym, subst}
use mathlib.Core.Logic.{◌⊎◌, ◌↔◌}
use mathlib.Core.Bool.{Bool, true, false}
use mathlib.Core.List.{List}
use native.Mathlib.Omega.{arith}
use Rattle.bits.specs.Sets.{bit}
use Rattle.xpath.specs.Syntax.{Op, Test, XPath, stay}
use Rattle.xpath.specs.Tree.{Tree, Child}
use Rattle.xpath.specs.Meaning.{Rel, Holds}
use Rattle.layout.specs.Part.{STAYS}
use Rattle.layout.specs.Table.{PARENT, RANK, column}
use Rattle.layout.specs.Words.{NONE, word}
use Rattle.table.specs.Links.{Points}
use Rattle.machine.specs.Walks.{Signed}
use Rattle.machine.specs.Meaning.{IsStep, Drawn, RanksTell}

side_early : (side : Bool) → column side ≤ STAYS
side_early true = omega arith
side_early false = omega arith

-- the links and the tests stand in the columns up to that of the tests
pub drawn_same : {P R : XPath} {t : Tree} {n : ℕ} {p p' : List ℕ} → ((c v : ℕ) → c ≤ STAYS → v < n → word p' n c v ≡ word p n c v) → Drawn P R t n p → Drawn P R t n p'
drawn_same {P} {R} {t} {n} {p} {p'} same d = record {
  size = d.size;
  few = d.few;
  children = λ side v r. subst (λ x. Points (Child t side v) x) (sym (same (column side) v (side_early side) r)) (d.children side v r);
  parents = λ v r. subst (λ x. ((v ≡ 0) × (x ≡ NONE)) ⊎ ((0 < v) × (x ≡ t.parent v))) (sym (same PARENT v (omega arith) r)) (d.parents v r);
  tests = λ v j r l. subst (λ x. (bit x j ≡ true) ↔ ((T : Test) × IsStep P R j (stay T) × Holds t T v)) (sym (same STAYS v (omega arith) r)) (d.tests v j r l);
}

-- what the ranks tell stays where the ranks do
pub ranks_kept : (o : Op) (t : Tree) {n : ℕ} (p p' : List ℕ) → ((v : ℕ) → v < n → word p' n RANK v ≡ word p n RANK v) → RanksTell o t n p → RanksTell o t n p'
ranks_kept o t {n} p p' same tell v w r q =
    subst (λ x. Signed o n x (word p' n RANK w) ↔ Rel o (t.value v) (t.value w)) (sym (same v r))
    (subst (λ y. Signed o n (word p n RANK v) y ↔ Rel o (t.value v) (t.value w)) (sym (same w q)) (tell v w r q))
