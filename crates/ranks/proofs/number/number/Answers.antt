-- `ranks::number::number` meets its contract.
use native.Mathlib.Omega.{arith}
use native.Mathlib.Numerals.{add-one}
use Rattle.document_spec.specs.Binary.{compared_of}
use Rattle.layout.specs.Table.{RANK}
use Rattle.layout.proofs.Frames.{room_within}
use Rattle.sorting.proofs.Numbering.{numbering_none, numbering_below, numbering_last, numbering_step, numbering_all}
use Rattle.ranks.proofs.Order.{string_order_lem}
use Rattle.ranks.proofs.Numbering.{numbering_one, ranks_prepared}
use Rattle.ranks.proofs.number.number.Goals as goal

pub loop-i-init : goal.loop-i-init
loop-i-init c = let x = c.args in λ ns a. numbering_none (compared_of ns) x.n RANK c.get-u.result x.t.now c.get-u.ensures.0

pub get-v-requires : goal.get-v-requires
get-v-requires c =
    let h = c.requires.0 in
    (omega arith, c.loop-i-test.true, room_within (numbering_one h c.loop-i.invariant).within h.annotated.tabled.room)

pub rise-r-requires : goal.rise-r-requires
rise-r-requires c =
    let p = c.requires in let g = numbering_one p.0 c.loop-i.invariant in let l = c.loop-i-test.true in
    (ranks_prepared p.0 g.within, numbering_last p.1 g l, numbering_below p.1 g l (omega arith) c.get-v.ensures.0)

pub overflow_add-r : goal.overflow_add-r
overflow_add-r c = let q = (numbering_one c.requires.0 c.loop-i.invariant).small in let z = c.rise-r.ensures.0 in let l = c.loop-i-test.true in omega arith

pub put-requires : goal.put-requires
put-requires c =
    let p = c.requires in let g = numbering_one p.0 c.loop-i.invariant in let l = c.loop-i-test.true in let q = g.small in
    let z = c.rise-r.ensures.0 in let h = p.0.annotated.tabled in let few = h.accepts.legal.few in let size = h.size in
    (omega arith, numbering_below p.1 g l (omega arith) c.get-v.ensures.0, room_within g.within h.room, omega arith)

pub loop-i-preserved : goal.loop-i-preserved
loop-i-preserved c =
    let k = c.rise-r in let v = c.get-v in
    rw add-one
    (λ ns a. numbering_step c.requires.1 (c.loop-i.invariant ns a) c.loop-i-test.true (omega arith) v.ensures.0 string_order_lem k.result k.ensures.0 (k.ensures.1 ns a) c.put.ensures)

pub returns : goal.returns
returns c =
    let h = c.requires.0 in let g = c.loop-i.invariant in
    record { within = (numbering_one h g).within; done = λ ns a. numbering_all string_order_lem (g ns a) c.loop-i-test.false }
