-- `driver::inner_first` meets its contract.
use Prim.Native.Nat.{ℕ, suc, ◌-◌, ◌<◌}
use mathlib.Core.Path.{◌≡◌}
use lib.ListN.{get_or}
use Rattle.driver.proofs.inner_first.Given as goal

-- the places that are lent to the loop are the first ones, as many as there are tests
abbrev pub invariant-loop-place : goal.invariant-loop-place
invariant-loop-place l = (i : ℕ) → i < l.place → get_or l.k-items i 0 ≡ l.count - suc i
