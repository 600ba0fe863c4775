-- `amounts::number::number` meets its contract.
use native.Mathlib.Omega.{arith}
use native.Mathlib.Numerals.{add-one}
use Rattle.layout.proofs.Frames.{room_within}
use Rattle.amounts.proofs.Numbering.{numbering_none, numbering_within, numbering_small, numbering_last, numbering_below, numbering_step, numbering_all}
use Rattle.amounts.proofs.number.number.Goals as goal

pub get-u-requires : goal.get-u-requires
get-u-requires c = let p = c.requires in (omega arith, p.1, p.0)

pub loop-i-init : goal.loop-i-init
loop-i-init c = let x = c.args in numbering_none x.n c.get-u.result x.t.now c.get-u.ensures.0

pub get-v-requires : goal.get-v-requires
get-v-requires c = (omega arith, c.loop-i-test.true, room_within (numbering_within c.loop-i.invariant) c.requires.0)

pub rise-r-requires : goal.rise-r-requires
rise-r-requires c =
    let p = c.requires in let g = c.loop-i.invariant in let l = c.loop-i-test.true in
    (room_within (numbering_within g) p.0, numbering_last g p.3 l, numbering_below g p.3 l c.get-v.ensures.0)

pub overflow_add-r : goal.overflow_add-r
overflow_add-r c = let q = numbering_small c.loop-i.invariant in let z = c.rise-r.ensures.0 in let l = c.loop-i-test.true in omega arith

pub put-requires : goal.put-requires
put-requires c =
    let p = c.requires in let g = c.loop-i.invariant in let l = c.loop-i-test.true in
    let q = numbering_small g in let z = c.rise-r.ensures.0 in let few = p.2 in
    (omega arith, numbering_below g p.3 l c.get-v.ensures.0, room_within (numbering_within g) p.0, omega arith)

pub loop-i-preserved : goal.loop-i-preserved
loop-i-preserved c =
    let k = c.rise-r in let v = c.get-v in
    rw add-one
    (numbering_step c.loop-i.invariant c.requires.3 c.loop-i-test.true v.ensures.0 k.result k.ensures.0 k.ensures.1 c.put.ensures)

pub shape_of-t : goal.shape_of-t
shape_of-t c = (numbering_within c.loop-i.invariant).long

pub returns : goal.returns
returns c = numbering_all c.loop-i.invariant c.loop-i-test.false
