-- `evaluators::by_walks` meets its contract.
use mathlib.Core.Path.{refl, sym, ◌∙◌}
use Rattle.machine.proofs.Comparing.{meets_holds}
use Rattle.evaluators.proofs.Staging.{drawn_space, equal_small, answered_as}
use Rattle.machine.proofs.Comparing.{second_few_lem}
use Rattle.evaluators.proofs.by_walks.Goals as goal

pub compare_paths-requires : goal.compare_paths-requires
compare_paths-requires c = let x = c.requires in let h = x.0.5 in (drawn_space h.formed h.drawn x.1, λ e. equal_small h (sym e ∙ x.0.4), second_few_lem h.machine)

pub returns : goal.returns
returns c P R t q posed e = record { answered = answered_as (meets_holds posed.formed posed.machine posed.drawn q posed.ranks) (c.compare_paths.ensures q e); adds = refl }
