-- `settling::answers::answer_at` meets its contract.
use Prim.Native.Nat.{ℕ}
use mathlib.Core.Path.{ap, ◌∙◌}
use lib.ListN.{get_or}
use Rattle.bits.specs.Sets.{bit, one}
use Rattle.settling.proofs.Answering.{wrote_as}
use Rattle.settling.proofs.answers.answer_at.Goals as goal

pub returns : goal.returns
returns c = wrote_as (c.one_if_has.ensures.0 ∙ ap (λ (x : ℕ). one (bit (get_or c.args.p.now x 0) c.args.second)) c.pair_at.ensures) c.put.ensures
