-- `powers::passes::power` meets its contract.
use Prim.Native.Nat.{◌-◌}
use mathlib.Core.Path.{sym}
use native.Mathlib.Omega.{arith}
use Rattle.powers.proofs.Places.{fits_to}
use Rattle.powers.proofs.Passing.{found_to, found_doubled}
use Rattle.powers.proofs.passes.power.Goals as goal

pub doubled-requires : goal.doubled-requires
doubled-requires c = let o = c.if-k-eq0.false in fits_to (omega arith) c.requires

pub returns-then-k-eq0 : goal.returns-then-k-eq0
returns-then-k-eq0 c = found_to (sym c.if-k-eq0.true) c.first_power.ensures

pub returns-else-k-eq0 : goal.returns-else-k-eq0
returns-else-k-eq0 c =
    let o = c.if-k-eq0.false in
    found_to (omega arith) (found_doubled (c.args.k - 1) c.doubled.ensures)
