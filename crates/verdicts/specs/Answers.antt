-- The papers' ground for each refusal, and the number, the place and N of what is answered.
use Rattle.std.specs.Prelude.{ℕ, Result, Ok, Err}
use Rattle.refusals.specs.Refusals as Grounds
use Rattle.refusals.specs.Refusals.{document_length, line_form, node_count, tree_rule, duplicate_attribute, rule_length, unreadable, nesting, tests, steps, scratch_length, marks_length, other_comparison, no_such_node, number, place}
use Rattle.document.specs.declared.Refusal as Document
use Rattle.document.specs.declared.Refusal.TheVariants as document
use Rattle.rule.specs.declared.Refusal as Rule
use Rattle.rule.specs.declared.Refusal.TheVariants as rule
use Rattle.verdicts.specs.declared.Refusal.{Refusal}
use Rattle.verdicts.specs.declared.Refusal.TheVariants.{Document, Rule, Words, Marks, Equality, Values}
use Rattle.verdicts.specs.declared.DocumentAnswer.{DocumentAnswer}
use Rattle.verdicts.specs.declared.RuleAnswer.{RuleAnswer}

-- ── Grounds ──
abbrev pub document_ground : Document.Refusal → Grounds.Refusal
document_ground document.Length = document_length
document_ground (document.Form line) = line_form line
document_ground document.Count = node_count
document_ground (document.Tree line) = tree_rule line
document_ground (document.Duplicate line) = duplicate_attribute line

abbrev pub rule_ground : Rule.Refusal → Grounds.Refusal
rule_ground rule.Length = rule_length
rule_ground (rule.Unreadable o) = unreadable o
rule_ground (rule.Nesting o) = nesting o
rule_ground (rule.Tests o) = tests o
rule_ground (rule.Steps o) = steps o

abbrev pub ground_of : Refusal → Grounds.Refusal
ground_of (Document e) = document_ground e
ground_of (Rule e) = rule_ground e
ground_of Words = scratch_length
ground_of Marks = marks_length
ground_of Equality = other_comparison
ground_of Values = no_such_node

-- ── The two checks ──
abbrev pub answer_of : Result ℕ Document.Refusal → DocumentAnswer
answer_of (Ok n) = record { number = 0; place = 0; nodes = n }
answer_of (Err e) = record { number = number (document_ground e); place = place (document_ground e); nodes = 0 }

abbrev pub rule_answer_of : Result (Unit {0}) Rule.Refusal → RuleAnswer
rule_answer_of (Ok u) = record { number = 0; place = 0 }
rule_answer_of (Err e) = record { number = number (rule_ground e); place = place (rule_ground e) }

-- ── Judgements ──
abbrev pub number_of : Result ℕ Refusal → ℕ
number_of (Ok n) = 0
number_of (Err e) = number (ground_of e)

abbrev pub place_of : Result ℕ Refusal → ℕ
place_of (Ok n) = 0
place_of (Err e) = place (ground_of e)

abbrev pub nodes_of : Result ℕ Refusal → ℕ
nodes_of (Ok n) = n
nodes_of (Err e) = 0
