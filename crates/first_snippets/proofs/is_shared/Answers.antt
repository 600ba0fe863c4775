-- `first_snippets::is_shared` meets its contract.
use mathlib.Core.Path.{sym, ◌∙◌}
use mathlib.Core.Bool.{false≢true}
use native.Mathlib.Omega.{arith}
use borrow.Author.Tests.{lt-ltb, ltb-true}
use Rattle.first_snippets.proofs.Adding.{none_alone, first_somewhere, first_alone}
use Rattle.first_snippets.proofs.is_shared.Goals as goal

pub returns-then-w-n : goal.returns-then-w-n
returns-then-w-n c = let s = c.requires in let g = c.get-w.ensures.0 in let i = c.if-w-n.true in (λ _. first_somewhere s.0 s.2 s.3 g i, λ e. first_alone s.0 s.2 s.3 g i c.get.ensures.0 (λ h. false≢true (sym e ∙ lt-ltb _ _ h)))

pub returns-else-w-n : goal.returns-else-w-n
returns-else-w-n c = let s = c.requires in let f = c.if-w-n.false in (λ e. let h = ltb-true _ _ e in absurd (omega arith), λ _. none_alone s.0 s.2 s.3 c.get-w.ensures.0 (λ h. omega arith))
