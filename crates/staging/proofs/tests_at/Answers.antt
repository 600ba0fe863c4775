-- `staging::tests_at` meets its contract.
use native.Mathlib.Omega.{arith}
use Rattle.staging.proofs.Tests.{gathered_none}
use Rattle.staging.proofs.tests_at.Goals as goal

pub loop-j-init : goal.loop-j-init
loop-j-init c = (omega arith, gathered_none _)
