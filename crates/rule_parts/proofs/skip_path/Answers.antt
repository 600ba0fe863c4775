-- `rule_parts::skip_path` meets its contract.
use Rattle.rule_parts.proofs.Determined.{path_ends, path_reads}
use Rattle.rule_parts.proofs.skip_path.Goals as goal

pub returns-in-Ok : goal.returns-in-Ok
returns-in-Ok c = λ T j a. path_ends c.args.s.now a c.in-Ok.ensures

pub returns-in-Err-Stuck : goal.returns-in-Err-Stuck
returns-in-Err-Stuck c = λ T j a. absurd (path_reads c.args.s.now a _ c.in-Err-Stuck.ensures)

pub returns-in-Err-Stuck-2 : goal.returns-in-Err-Stuck-2
returns-in-Err-Stuck-2 c = λ T j a. absurd (path_reads c.args.s.now a _ c.in-Err-Stuck.ensures)
