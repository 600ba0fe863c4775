-- `pair_rounds::rise` meets its contract.
use mathlib.Core.Logic.{inr}
use native.Mathlib.Omega.{arith}
use Rattle.pair_rounds.proofs.Passing.{risen}
use Rattle.pair_rounds.proofs.rise.Goals as goal

pub pair_at-requires-2 : goal.pair_at-requires-2
pair_at-requires-2 c = let h = c.requires.0.parents _ c.requires.1 c.requires.2 in omega arith

pub widen-requires : goal.widen-requires
widen-requires c = let h = c.requires.0.parents _ c.requires.1 c.requires.2 in (inr (omega arith), inr (omega arith), inr (omega arith), omega arith, omega arith, omega arith, omega arith)

pub returns : goal.returns
returns c = risen c.requires.0 c.requires.1 c.requires.2 c.get-x.ensures.0 c.pair_at-2.ensures c.pair_at.ensures c.down_at-edge.ensures c.widen.ensures
