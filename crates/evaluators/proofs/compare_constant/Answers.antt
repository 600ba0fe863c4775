-- `evaluators::compare_constant` meets its contract.
use Rattle.machine.proofs.Comparing.{hits_holds}
use Rattle.retracing.proofs.Linked.{linked_drawn}
use Rattle.evaluators.proofs.Staging.{drawn_space, answered_as}
use Rattle.evaluators.proofs.compare_constant.Goals as goal

pub compare_constant-requires : goal.compare_constant-requires
compare_constant-requires c = let x = c.requires in let h = x.0.4 in drawn_space h.formed h.drawn x.1

pub compare_constant-requires-in-Snippets : goal.compare_constant-requires-in-Snippets
compare_constant-requires-in-Snippets c = let x = c.requires in let h = x.0.4 in (drawn_space h.formed h.drawn x.1, linked_drawn h.drawn)

pub returns-in-Plain : goal.returns-in-Plain
returns-in-Plain c P t q a posed = answered_as (hits_holds posed.formed posed.machine posed.drawn q a posed.hits) c.compare_constant.ensures

pub returns-in-Snippets : goal.returns-in-Snippets
returns-in-Snippets c P t q a posed = answered_as (hits_holds posed.formed posed.machine posed.drawn q a posed.hits) c.compare_constant-in-Snippets.ensures
