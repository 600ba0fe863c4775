-- `rule_readers::tally::weigh` meets its contract.
use Rattle.rule_readers.proofs.Tallied.{weighed_light, weighed_heavy}
use Rattle.rule_readers.proofs.tally.weigh.Goals as goal

pub returns-then-steps-le-MAX_STEPS : goal.returns-then-steps-le-MAX_STEPS
returns-then-steps-le-MAX_STEPS c = weighed_light c.args.t c.args.at c.args.steps c.if-steps-le-MAX_STEPS.true

pub returns : goal.returns
returns c = weighed_heavy c.args.t c.args.at c.args.steps c.if-steps-le-MAX_STEPS.false c.min.ensures
