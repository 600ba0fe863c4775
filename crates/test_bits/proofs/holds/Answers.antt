-- `test_bits::holds` meets its contract.
use Prim.Native.Nat.{◌%◌}
use mathlib.Core.Path.{ap, ◌∙◌}
use Rattle.bits.specs.Sets.{bit}
use Rattle.test_bits.proofs.holds.Goals as goal

pub returns : goal.returns
returns c = c.has.ensures ∙ ap (λ w. bit w (c.args.k % 16)) c.get-w.ensures.0
