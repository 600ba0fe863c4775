-- `marking::mark` meets its contract.
use Rattle.std.proofs.Common.{take, arith, ap, ◌∙◌}
use Rattle.std.proofs.lemmas.List.{length-take-le}
use Rattle.bits.specs.Sets.{one}
use Rattle.marking.proofs.Marking.{byte_one, marking_none, marking_step, marking_all}
use Rattle.marking.proofs.mark.Goals as goal

pub loop-v-init : goal.loop-v-init
loop-v-init c = let x = c.args in marking_none x.n x.t.now (take x.n x.marks.now) (length-take-le x.n x.marks.now c.requires.1)

pub loop-v-preserved : goal.loop-v-preserved
loop-v-preserved c =
    let long = length-take-le c.args.n c.args.marks.now c.requires.1 in let l = c.loop-v-test.true in
    let b = byte_one c.holds-h.result ∙ ap one c.holds-h.ensures in
    marking_step c.loop-v.invariant (omega arith) (c.from.ensures ∙ b) (c.from-count.ensures ∙ b)

pub returns : goal.returns
returns c =
    let long = length-take-le c.args.n c.args.marks.now c.requires.1 in let l = c.loop-v-test.false in
    marking_all c.requires.1 c.loop-v.invariant (omega arith)
