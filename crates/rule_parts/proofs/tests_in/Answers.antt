-- `rule_parts::tests_in` meets its contract.
use Prim.Native.Nat.{◌-◌}
use native.Mathlib.Omega.{arith}
use mathlib.Core.Path.{sym}
use lib.ListN.{take}
use lib.Seq.{length-take-le}
use Rattle.rule_parts.proofs.Alone.{test_count, alone_reads, left_less}
use Rattle.rule_parts.proofs.tests_in.Goals as goal

pub overflow_sub-result : goal.overflow_sub-result
overflow_sub-result c = left_less (take c.args.end c.args.s.now) c.in-Ok.ensures

pub returns-in-Ok : goal.returns-in-Ok
returns-in-Ok c = λ T h.
    let a = c.args in
    let e = h.spans.ends in
    test_count a.s.now h (a.end - a.at) 0 0 c.in-Ok.ensures (omega arith)

pub returns-in-Err : goal.returns-in-Err
returns-in-Err c = λ T h. absurd (alone_reads c.args.s.now h _ c.in-Err.ensures)
