-- What the check promises.
use Rattle.std.specs.Prelude.{ℕ, List, ltb, Result, Ok, Err}
use Rattle.refusals.specs.Refusals.{rule_length, unreadable, nesting, tests, steps, First}
use Rattle.xpath.specs.Syntax.{Test}
use Rattle.rule_spec.specs.Verdict.{RuleGround, Accepts}
use Rattle.rule_spec.specs.Bytes.{choose}
use Rattle.tokens.specs.declared.read.Tally.{Tally}
use Rattle.tokens.specs.declared.read.Refusal as Read
use Rattle.tokens.specs.declared.read.Refusal.TheVariants as read
use Rattle.rule.specs.declared.Refusal.{Refusal}
use Rattle.rule.specs.declared.Refusal.TheVariants.{Length, Unreadable, Nesting, Tests, Steps}
use Rattle.tokens.specs.Tallies.{nowhere}

-- the verdict of the definition: the rule reads as a test within the limits, or the first ground in the written order
abbrev pub Judged : List ℕ → Result (Unit {0}) Refusal → Type 0
Judged s (Ok u) = (T : Test) × Accepts s T
Judged s (Err Length) = First (RuleGround s) rule_length
Judged s (Err (Unreadable k)) = First (RuleGround s) (unreadable k)
Judged s (Err (Nesting o)) = First (RuleGround s) (nesting o)
Judged s (Err (Tests o)) = First (RuleGround s) (tests o)
Judged s (Err (Steps o)) = First (RuleGround s) (steps o)

-- ── On the way ──
-- of a rule that does not read, or whose nesting is too deep
abbrev pub read_refusal : Read.Refusal → Refusal
read_refusal (read.Stuck k) = Unreadable k
read_refusal (read.Deep o) = Nesting o

-- of a rule that reads, by its tally
abbrev pub judged_by : Tally → Result (Unit {0}) Refusal
judged_by t = choose (ltb t.crowded nowhere) (Err (Tests t.crowded)) (choose (ltb t.heavy nowhere) (Err (Steps t.heavy)) (Ok tt))
