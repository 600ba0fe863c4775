-- `test_passes::take` meets its contract.
use native.Mathlib.Omega.{arith}
use native.Mathlib.Numerals.{add-one}
use Rattle.layout.specs.Table.{COLUMNS}
use Rattle.layout.specs.Words.{cell}
use Rattle.test_passes.proofs.Told.{told_one}
use Rattle.test_bits.proofs.Settling.{settling_none, settling_step, settling_all}
use Rattle.test_passes.proofs.take.Goals as goal

pub loop-v-init : goal.loop-v-init
loop-v-init c = settling_none _ _ _ _

pub loop-v-preserved : goal.loop-v-preserved
loop-v-preserved c =
    let g = c.loop-v.invariant in let l = c.loop-v-test.true in
    rw add-one (settling_step c.requires.0 l g
    (told_one (g.within.behind (cell c.args.n COLUMNS c.loop-v.v) (omega arith)))
    c.note.ensures)

pub returns : goal.returns
returns c = settling_all c.loop-v-test.false c.loop-v.invariant
