-- `constants::compare_value` meets its contract.
use mathlib.Core.Path.{subst}
use Rattle.constants.specs.Places.{InRule}
use Rattle.constants.proofs.Targets.{compared_text, compared_key}
use Rattle.constants.proofs.compare_value.Goals as goal

pub compare_text-requires : goal.compare_text-requires
compare_text-requires c =
    let r = subst (λ w. InRule c.args.rule.now w) c.in-Text.is c.requires.2 in
    (c.requires.0, c.requires.1, r.0, r.1)

pub returns-in-Text : goal.returns-in-Text
returns-in-Text c =
    let x = c.args in
    λ ns a. compared_text ns x.rule.now x.v x.c c.compare_text.result c.in-Text.w c.in-Text.is (c.compare_text.ensures ns a)

pub returns-in-Amount : goal.returns-in-Amount
returns-in-Amount c =
    let x = c.args in
    λ ns a. compared_key ns x.rule.now x.v x.c c.cmp.result c.node_key.result c.in-Amount.k c.in-Amount.is (c.node_key.ensures ns a) c.cmp.ensures
