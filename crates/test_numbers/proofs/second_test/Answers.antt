-- `test_numbers::second_test` meets its contract.
use native.Mathlib.Omega.{arith}
use Rattle.test_numbers.proofs.Bracketing.{ended, count_told, either}
use Rattle.test_numbers.proofs.second_test.Goals as goal

pub returns-then-behind-at : goal.returns-then-behind-at
returns-then-behind-at c = either _ _ (λ T m a. let (l, r, b) = ended _ _ c.skip_test-behind.ensures T m a in absurd (omega arith))

pub returns-then-s-behind : goal.returns-then-s-behind
returns-then-s-behind c = either _ _ (λ T m a. let (l, r, b) = ended _ _ c.skip_test-behind.ensures T m a in absurd (omega arith))

pub returns-then-s-n : goal.returns-then-s-n
returns-then-s-n c = either _ _ (λ T m a. let (e, l) = count_told _ _ c.skip_test-behind.ensures c.tests_in-n.ensures T m a in absurd (omega arith))

pub returns : goal.returns
returns c = either _ _ (λ T m a. let (e, l) = count_told _ _ c.skip_test-behind.ensures c.tests_in-n.ensures T m a in omega arith)
