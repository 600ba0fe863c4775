-- The place of a block is a number that fits.
use Prim.Native.Nat.{ℕ, ◌*◌, ◌≤◌, ◌<◌}
use native.Mathlib.Nat.{mul-le-mul_right}
use native.Mathlib.Omega.{arith}

-- a product that fits
pub small : (n k : ℕ) → n ≤ 4096 → k < 13 → k * n ≤ 53_248
small n k few low = let s : k * n ≤ 13 * n = mul-le-mul_right n (omega arith) in omega arith
