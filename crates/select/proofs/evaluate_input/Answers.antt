-- `select::evaluate_input` meets its contract.
use Rattle.evaluation.specs.Outcomes.{outcome_of}
use Rattle.select.proofs.Answers.{not_longer, answered_parts}
use Rattle.select.proofs.evaluate_input.Goals as goal

pub returns : goal.returns
returns c =
    answered_parts c.split-bounds.ensures (not_longer c.is_longer.ensures c.if-is_longer.false) c.args.scratch.now c.args.marks.now (outcome_of c.evaluate_parts.result) c.evaluate_parts.new.scratch c.evaluate_parts.new.marks c.evaluate_parts.ensures
