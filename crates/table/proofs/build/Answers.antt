-- `table::build` meets its contract.
use native.Mathlib.Omega.{arith}
use native.Mathlib.Numerals.{add-one}
use Rattle.layout.specs.Words.{NONE}
use Rattle.table.proofs.Cells.{entered_kept}
use Rattle.table.proofs.Building.{first_stands, building_root, stands, step_asks, building_step, building_all}
use Rattle.table.proofs.build.Goals as goal

pub read_entry-root-requires : goal.read_entry-root-requires
read_entry-root-requires c = let (ns, a, size, room) = c.requires in (ns, 0, first_stands a (c.first_entry-first.ensures ns a))

pub loop-v-init : goal.loop-v-init
loop-v-init c = let (ns, a, size, room) = c.requires in building_root a (c.first_entry-first.ensures ns a) size room c.read_entry-root.ensures c.enter.ensures

pub read_entry-e-requires : goal.read_entry-e-requires
read_entry-e-requires c = let h = c.loop-v.invariant in (h.nodes, c.loop-v.v, stands h c.loop-v-test.true)

pub step-requires : goal.step-requires
step-requires c = step_asks c.loop-v.invariant c.loop-v-test.true c.read_entry-e.ensures

pub loop-v-preserved : goal.loop-v-preserved
loop-v-preserved c = rw add-one (building_step c.loop-v.invariant c.loop-v-test.true c.read_entry-e.ensures c.step.ensures)

pub returns : goal.returns
returns c =
    let x = c.args in let (ns, a, size, room) = c.requires in let some = a.legal.some in
    building_all (entered_kept x.n 0 c.first_entry-first.result 0 NONE (omega arith) (omega arith) c.enter.ensures) c.loop-v.invariant c.loop-v-test.false
