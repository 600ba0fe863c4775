-- `amounts::number::strike_out` meets its contract.
use native.Mathlib.Omega.{arith}
use native.Mathlib.Numerals.{add-one}
use Rattle.layout.proofs.Frames.{room_within}
use Rattle.amounts.proofs.Striking.{struck_none, struck_step, struck_all}
use Rattle.amounts.proofs.number.strike_out.Goals as goal

pub loop-v-init : goal.loop-v-init
loop-v-init c = let x = c.args in struck_none x.n x.t.now

pub shown-r-requires : goal.shown-r-requires
shown-r-requires c = (room_within c.loop-v.invariant.within c.requires, c.loop-v-test.true)

pub put-requires : goal.put-requires
put-requires c = (omega arith, c.loop-v-test.true, room_within c.loop-v.invariant.within c.requires, c.shown-r.ensures.1)

pub loop-v-preserved : goal.loop-v-preserved
loop-v-preserved c = let r = c.shown-r in rw add-one (struck_step r.result c.loop-v.invariant c.loop-v-test.true r.ensures.0 c.put.ensures)

pub shape_of-t : goal.shape_of-t
shape_of-t c = c.loop-v.invariant.within.long

pub returns : goal.returns
returns c = struck_all c.loop-v.invariant c.loop-v-test.false
