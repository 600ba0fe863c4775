-- What `within` computes: the verdict that a tally gives.
use Rattle.std.specs.Prelude.{Ok, Err}
use Prim.Native.Nat.{◌≤◌, ◌<◌}
use mathlib.Core.Path.{◌≡◌, sym, ap, ◌∙◌}
use lib.Dec.{ltb}
use borrow.Author.Tests.{lt-ltb, le-ltb}
use Rattle.rule_spec.specs.Bytes.{choose}
use Rattle.tokens.specs.declared.read.Tally.{Tally}
use Rattle.rule.specs.declared.Refusal.TheVariants.{Tests, Steps}
use Rattle.rule.specs.Check.{judged_by}
use Rattle.tokens.specs.Tallies.{nowhere}

module _ (t : Tally) where
  pub within_tests : t.crowded < nowhere → Err (Tests t.crowded) ≡ judged_by t
  within_tests h = sym (ap (λ b. choose b (Err (Tests t.crowded)) (choose (ltb t.heavy nowhere) (Err (Steps t.heavy)) (Ok tt))) (lt-ltb t.crowded nowhere h))

  not_crowded : nowhere ≤ t.crowded → choose (ltb t.heavy nowhere) (Err (Steps t.heavy)) (Ok tt) ≡ judged_by t
  not_crowded h = sym (ap (λ b. choose b (Err (Tests t.crowded)) (choose (ltb t.heavy nowhere) (Err (Steps t.heavy)) (Ok tt))) (le-ltb t.crowded nowhere h))

  pub within_steps : nowhere ≤ t.crowded → t.heavy < nowhere → Err (Steps t.heavy) ≡ judged_by t
  within_steps h l = sym (ap (λ b. choose b (Err (Steps t.heavy)) (Ok tt)) (lt-ltb t.heavy nowhere l)) ∙ not_crowded h

  pub within_all : nowhere ≤ t.crowded → nowhere ≤ t.heavy → Ok tt ≡ judged_by t
  within_all h l = sym (ap (λ b. choose b (Err (Steps t.heavy)) (Ok tt)) (le-ltb t.heavy nowhere l)) ∙ not_crowded h
