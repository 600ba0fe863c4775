-- `rule_parts::counted` meets its contract.
use Rattle.rule_parts.proofs.Counts as counts
use Rattle.rule_parts.proofs.counted.Goals as goal

pub returns : goal.returns
returns c = counts.counted c.args.s.now c.figures-f.ensures
