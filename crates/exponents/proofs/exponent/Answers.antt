-- `exponents::exponent` meets its contract: the leading zeros tell the place of the highest binary digit, and a number lies between the power of that place and the next power.
use mathlib.Core.Path.{◌≡◌, refl, subst}
use Prim.Native.Nat.{ℕ, ◌+◌, ◌-◌, ◌≤◌}
use native.Mathlib.Omega.{arith}
use lib.Count.{count_leading_zeros, leading_top}
use Rattle.limits.specs.Limits.{document_nodes}
use Rattle.exponents.specs.Exponent.{Exponent}
use Rattle.exponents.proofs.exponent.Goals as goal

-- the highest digit of 1 is its last
one : count_leading_zeros 64 1 ≡ 63
unfolding count_leading_zeros
one = refl

-- the highest digit of a length stands k places higher
above : (n : ℕ) → 1 ≤ n → n ≤ document_nodes → (k : ℕ) × (count_leading_zeros 64 n + k ≡ count_leading_zeros 64 1) × Exponent n k
above n h l = let (k, e, low, high) = leading_top 64 n (omega arith) (omega arith) in (k, omega (arith, one), record { low = low; high = high })

pub overflow_sub-result : goal.overflow_sub-result
overflow_sub-result c = let (k, e, _) = above c.args.length c.requires.0 c.requires.1 in omega arith

pub overflow_cast-result : goal.overflow_cast-result
overflow_cast-result c = omega (arith, one)

pub returns : goal.returns
returns c =
    let n = c.args.length in
    let (k, e, x) = above n c.requires.0 c.requires.1 in
    subst (Exponent n) (let d : k ≡ count_leading_zeros 64 1 - count_leading_zeros 64 n = omega arith in d) x
