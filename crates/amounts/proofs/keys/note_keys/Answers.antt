-- `amounts::keys::note_keys` meets its contract.
use native.Mathlib.Omega.{arith}
use native.Mathlib.Numerals.{add-one}
use Rattle.layout.proofs.Frames.{room_within}
use Rattle.value_notes.proofs.Annotated.{annotated_behind}
use Rattle.amounts.proofs.Keying.{key_fits, keyed_none, keyed_step, keyed_all}
use Rattle.amounts.proofs.keys.note_keys.Goals as goal

pub loop-v-init : goal.loop-v-init
loop-v-init c = let x = c.args in keyed_none x.s.now x.n x.t.now

pub node_key-k-requires : goal.node_key-k-requires
node_key-k-requires c = (annotated_behind c.requires (omega arith) c.loop-v.invariant.within, c.loop-v-test.true)

pub put_key-requires : goal.put_key-requires
put_key-requires c =
    let p = c.requires in let g = c.loop-v in
    (c.loop-v-test.true, room_within g.invariant.within p.tabled.room, key_fits g.v p c.node_key-k.ensures)

pub loop-v-preserved : goal.loop-v-preserved
loop-v-preserved c = let k = c.node_key-k in rw add-one (keyed_step k.result c.loop-v.invariant c.loop-v-test.true k.ensures c.put_key.ensures)

pub shape_of-t : goal.shape_of-t
shape_of-t c = c.loop-v.invariant.within.long

pub returns : goal.returns
returns c = keyed_all c.loop-v.invariant c.loop-v-test.false
