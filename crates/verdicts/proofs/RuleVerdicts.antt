-- The verdict of the rule check is what the definition of its answer says.
use Rattle.std.specs.Prelude.{Result, Ok, Err}
use Prim.Native.Nat.{ℕ}
use mathlib.Core.Path.{refl, ap}
use mathlib.Core.List.{List}
use Rattle.refusals.specs.Refusals.{Refusal, rule_length, unreadable, nesting, tests, steps, number, place, First}
use Rattle.refusals.proofs.Refusals.{first_one}
use Rattle.xpath.specs.Syntax.{Test}
use Rattle.rule_spec.specs.Verdict.{RuleGround, Accepts, Checked}
use Rattle.rule_spec.proofs.Accepted.{accepted_unrefused}
use Rattle.rule.specs.declared.Refusal as Rule
use Rattle.rule.specs.declared.Refusal.TheVariants.{Length, Unreadable, Nesting, Tests, Steps}
use Rattle.rule.specs.Check.{Judged}
use Rattle.verdicts.specs.Answers.{rule_answer_of}

module _ (s : List ℕ) where
  refused_so : (r : Refusal) → First (RuleGround s) r → Checked s (number r) (place r)
  refused_so r f = record {
    refused = λ q g. let e = first_one (RuleGround s) r q f g in (ap number e, ap place e);
    accepted = λ T a. absurd (accepted_unrefused s a r f.applies);
  }

  accepted_so : (T : Test) → Accepts s T → Checked s 0 0
  accepted_so T a = record { refused = λ r f. absurd (accepted_unrefused s a r f.applies); accepted = λ U b. (refl, refl) }

  pub rule_checked_by : (v : Result (Unit {0}) Rule.Refusal) → Judged s v → Checked s (rule_answer_of v).number (rule_answer_of v).place
  rule_checked_by (Ok u) (T, a) = accepted_so T a
  rule_checked_by (Err Length) f = refused_so rule_length f
  rule_checked_by (Err (Unreadable o)) f = refused_so (unreadable o) f
  rule_checked_by (Err (Nesting o)) f = refused_so (nesting o) f
  rule_checked_by (Err (Tests o)) f = refused_so (tests o) f
  rule_checked_by (Err (Steps o)) f = refused_so (steps o) f
