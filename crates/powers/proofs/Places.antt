-- Where the words of exponents and nodes stand.
use Prim.Native.Nat.{ℕ, suc, ◌+◌, ◌*◌, ◌≤◌, ◌<◌}
use mathlib.Core.Path.{◌≡◌, subst}
use mathlib.Core.List.{List}
use lib.ListN.{length}
use native.Mathlib.Nat.{mul-le-mul_right}
use native.Mathlib.Omega.{arith}
use Rattle.layout.specs.Blocks.{BLOCKS, block_at}
use Rattle.powers.specs.Blocks.{Fits}

-- the words of a lower exponent stand before those of a higher one
pub block_before : (n k l v y : ℕ) → k < l → v < n → block_at n k v + 64 ≤ block_at n l y
block_before n k l v y h r = let s : suc k * n ≤ l * n = mul-le-mul_right n h in omega arith

-- in a part with room for b exponents there is room for each
pub fits_of : {n b k y : ℕ} (p : List ℕ) → k < b → y < n → n ≤ 4096 → b ≤ 13 → (BLOCKS + 64 * b) * n ≤ length p → Fits n k y p
fits_of {n} {b} {k} {y} p h r few low room =
    let s : suc k * n ≤ b * n = mul-le-mul_right n h in
    record { node = r; few = few; low = omega arith; room = omega arith }

pub fits_to : {n j k y : ℕ} {p : List ℕ} → j ≡ k → Fits n j y p → Fits n k y p
fits_to {n} {j} {k} {y} {p} e f = subst (λ (i : ℕ). Fits n i y p) e f
