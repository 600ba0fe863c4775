-- `bits::square::with_members` meets its contract.
use Prim.Native.Nat.{ℕ}
use native.Mathlib.Omega.{arith}
use mathlib.Core.Path.{◌≡◌, refl}
use mathlib.Core.Bool.{Bool, false}
use lib.ListN.{get_or}
use Rattle.std.proofs.Common.{rules}
use Rattle.bits.specs.Sets.{bit, or}
use Rattle.bits.proofs.SquareLaws.{made}
use Rattle.bits.proofs.square.with_members.Goals as goal

pub returns : goal.returns
returns c =
    let x = c.args in
    let P : ℕ → Bool → Type 0 = λ j y. y ≡ or (get_or x.row j false) (bit x.b j) in
    λ j h. made P (λ i y q k. (search rules, search rules)) c.from_fn.result false 16 0 _ refl c.from_fn.ensures.items.each j (omega arith) (omega arith)
