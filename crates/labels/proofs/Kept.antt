-- What a pass that writes bits of tests leaves as it was.
use Prim.Native.Nat.{ℕ}
use mathlib.Core.List.{List}
use native.Mathlib.Omega.{arith}
use Rattle.layout.proofs.Frames.{within_more}
use Rattle.table.specs.Tabled.{Worked}
use Rattle.test_bits.proofs.Settling.{Settling}

-- while a pass runs the tree's own columns are not touched
pub settling_worked : {n k : ℕ} {A : ℕ → Type 0} {i : ℕ} {t t' : List ℕ} → Settling n k A i t t' → Worked n t t'
settling_worked g = within_more (omega arith) (omega arith) g.within
