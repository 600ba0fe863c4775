-- A stage is told by the 16 columns at the front of a part.
use Prim.Native.Nat.{ℕ, ◌+◌, ◌*◌, ◌≤◌, ◌<◌}
use mathlib.Core.Path.{◌≡◌}
use mathlib.Core.List.{List}
use lib.ListN.{get_or}
use native.Mathlib.Nat.{mul-le-mul_right}
use native.Mathlib.Omega.{arith}
use Rattle.xpath.specs.Syntax.{eq, XPath}
use Rattle.xpath.specs.Tree.{Tree}
use Rattle.layout.specs.Part.{STAYS}
use Rattle.layout.specs.Table.{RANK}
use Rattle.layout.specs.Words.{word}
use Rattle.machine.specs.declared.Machine.{Machine}
use Rattle.machine.proofs.Kept.{drawn_same, ranks_kept}
use Rattle.loops.specs.Loops.{Stage}

-- the front is as it was
abbrev pub Front : ℕ → List ℕ → List ℕ → Type 0
Front n p p' = (k : ℕ) → k < 16 * n → get_or p' k 0 ≡ get_or p k 0

pub word_kept : (n : ℕ) (p p' : List ℕ) → Front n p p' → (c v : ℕ) → c < 16 → v < n → word p' n c v ≡ word p n c v
word_kept n p p' kept c v l r = let h : c * n ≤ 15 * n = mul-le-mul_right n (omega arith) in kept (c * n + v) (omega arith)

-- the links, the ranks and the tests stand in the columns up to that of the tests
pub stage_same : {P R : XPath} {t : Tree} {m : Machine} {n : ℕ} {p p' : List ℕ} → ((c v : ℕ) → c ≤ STAYS → v < n → word p' n c v ≡ word p n c v) → Stage P R t m n p → Stage P R t m n p'
stage_same {t = t} {p = p} {p'} same s =
    record { formed = s.formed; machine = s.machine; drawn = drawn_same same s.drawn; ranks = ranks_kept eq t p p' (λ v r. same RANK v (omega arith) r) s.ranks }

pub stage_kept : {P R : XPath} {t : Tree} {m : Machine} {n : ℕ} {p p' : List ℕ} → Front n p p' → Stage P R t m n p → Stage P R t m n p'
stage_kept {n = n} {p} {p'} kept = stage_same (λ c v l r. word_kept n p p' kept c v (omega arith) r)
