-- `test_passes::either` meets its contract.
use mathlib.Core.Path.{◌≡◌, ◌∙◌}
use mathlib.Core.Bool.{◌||◌}
use Rattle.std.proofs.Common.{rules}
use Rattle.std.proofs.lemmas.Bool.Decides.{Decides-or}
use native.Mathlib.Numerals.{add-one}
use Rattle.test_passes.proofs.Told.{told}
use Rattle.test_bits.proofs.Settling.{settling_none, settling_here, settling_step, settling_all}
use Rattle.test_passes.proofs.either.Goals as goal

pub loop-v-init : goal.loop-v-init
loop-v-init c = settling_none _ _ _ _

pub loop-v-preserved : goal.loop-v-preserved
loop-v-preserved c =
    let g = c.loop-v.invariant in let l = c.loop-v-test.true in
    let e : c.if-x.note ≡ c.holds-x.result || c.holds-y.result = search rules in
    rw add-one (settling_step c.requires.0 l g
    (rw e (Decides-or _ _
    (told (c.holds-x.ensures ∙ settling_here g c.args.a c.requires.1 l))
    (told (c.holds-y.ensures ∙ settling_here g c.args.b c.requires.2 l))))
    c.note.ensures)

pub returns : goal.returns
returns c = settling_all c.loop-v-test.false c.loop-v.invariant
