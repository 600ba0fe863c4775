-- `rank_sets::ends::ends_at` meets its contract.
use mathlib.Core.Path.{◌∙◌, ap}
use Prim.Native.Nat.{ℕ}
use Rattle.bits.specs.Sets.{bit, and}
use native.Mathlib.Omega.{arith}
use Rattle.rank_sets.proofs.Ended.{meets_ended}
use Rattle.rank_sets.proofs.ends.ends_at.Goals as goal

pub returns : goal.returns
returns c =
    let x = c.args in
    meets_ended x.n x.last x.w c.meet.result x.p.now (omega arith) (λ i. c.meet.ensures i ∙ ap (λ (s : ℕ). and (bit s i) (bit x.last i)) c.get-seen.ensures.0)
