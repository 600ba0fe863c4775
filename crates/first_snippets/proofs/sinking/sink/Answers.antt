-- `first_snippets::sinking::sink` meets its contract.
use mathlib.Core.Path.{◌≡◌, subst}
use native.Mathlib.Omega.{arith}
use Rattle.first_snippets.specs.Steps.{Sank}
use Rattle.layout.proofs.Rest.{rest_more}
use Rattle.group_ends.proofs.Rest.{given_rest}
use Rattle.first_snippets.proofs.Descending.{sank_none}
use Rattle.first_snippets.proofs.sinking.sink.Goals as goal

pub loop-v-init : goal.loop-v-init
loop-v-init c = (omega arith, sank_none c.args.p.now)

pub sink_from-v-requires : goal.sink_from-v-requires
sink_from-v-requires c = (given_rest (rest_more (omega arith) c.loop-v.invariant.1.rest) c.requires, c.loop-v-test.true)

pub returns : goal.returns
returns c = let x = c.args in let i = c.loop-v.invariant.0 in let l = c.loop-v-test.false in let whole : c.loop-v.v ≡ x.n = omega arith in subst (λ v. Sank x.m x.n x.b x.first x.r v x.p.now c.loop-v.p) whole c.loop-v.invariant.1
