-- `rule_parts::skip_test` meets its contract.
use Rattle.rule_parts.proofs.Determined.{test_ends, test_reads}
use Rattle.rule_parts.proofs.skip_test.Goals as goal

pub returns-in-Ok : goal.returns-in-Ok
returns-in-Ok c = λ T j a. test_ends c.args.s.now a c.in-Ok.ensures

pub returns-in-Err-Stuck : goal.returns-in-Err-Stuck
returns-in-Err-Stuck c = λ T j a. absurd (test_reads c.args.s.now a _ c.in-Err-Stuck.ensures)

pub returns-in-Err-Stuck-2 : goal.returns-in-Err-Stuck-2
returns-in-Err-Stuck-2 c = λ T j a. absurd (test_reads c.args.s.now a _ c.in-Err-Stuck.ensures)
