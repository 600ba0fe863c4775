use mathlib.Core.Path.{ap, ◌∙◌}
use Prim.Native.Nat.{ℕ, ◌^◌}
use lib.Bits.{bit_or}
use Rattle.bits.specs.Sets.{bit, or}
use Rattle.bits.proofs.SetLaws.{bit_or_lem, bit_single, shifted_one, or_comm}
use Rattle.bits.proofs.insert.Goals as goal

-- `bits::insert` meets its contract.

pub returns : goal.returns
returns c i =
    let w = c.args.w in
    let j = c.args.j in
    ap (λ (x : ℕ). bit (bit_or w x) i) (shifted_one j c.requires) ∙ bit_or_lem w (2 ^ j) i ∙ ap (or (bit w i)) (bit_single j i) ∙ or_comm (bit w i) _
