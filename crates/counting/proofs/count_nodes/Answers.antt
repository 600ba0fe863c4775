-- `counting::count_nodes` meets its contract.
use Rattle.retracing.proofs.Linked.{linked_same}
use Rattle.counting.proofs.Counting.{answered_all, answered_none, several_zero, several_few, one_answered}
use borrow.Author.Rules.{rules}
use Rattle.counting.proofs.count_nodes.Goals as goal

pub returns-then-k-eq0 : goal.returns-then-k-eq0
returns-then-k-eq0 c = answered_all (λ v. several_zero c.if-k-eq0.true) c.fill.ensures

pub compare_constant-requires : goal.compare_constant-requires
compare_constant-requires c = (search rules, linked_same (λ k l h. c.fill-then-k-eq1.ensures.within.front k h) c.requires.1)

pub returns-then-k-eq1 : goal.returns-then-k-eq1
returns-then-k-eq1 c = one_answered c.if-k-eq1.true c.fill-then-k-eq1.ensures c.compare_constant.ensures

pub returns-then-n-k : goal.returns-then-n-k
returns-then-n-k c = answered_none (λ v. several_few c.if-n-k.true) c.fill-then-n-k.ensures
