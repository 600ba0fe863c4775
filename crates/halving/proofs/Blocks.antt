-- The words of the blocks: which of them are no words of snippets, or of snippets of another power.
use mathlib.Core.Path.{◌≡◌}
use Prim.Native.Nat.{ℕ, ◌+◌, ◌*◌, ◌≤◌, ◌<◌}
use mathlib.Core.Logic.{◌≢◌, inl, inr}
use mathlib.Core.List.{List}
use lib.ListN.{length}
use native.Mathlib.Omega.{arith}
use native.Mathlib.Nat.{mul-le-mul_right}
use native.Mathlib.Decide.{dec_le}
use Rattle.matrices.specs.Matrices.{Apart}
use Rattle.powers.specs.Blocks.{BlockRoom}
use Rattle.powers.proofs.Places.{block_before}
use Rattle.layout.specs.Blocks.{BLOCKS, block_at, down_at, up_at, snippet_at, upper_at}

module _ (n k y k' z i : ℕ) (few : i < 16) where
  pub down_apart : (j : ℕ) → j < 16 → down_at n k y + j ≢ snippet_at n k' z + i
  down_apart j h e = omega arith

  pub up_apart : (j : ℕ) → j < 16 → up_at n k y + j ≢ snippet_at n k' z + i
  up_apart j h e = omega arith

  pub upper_apart : upper_at n k y ≢ snippet_at n k' z + i
  upper_apart e = omega arith

  -- a larger exponent
  pub power_apart : (j : ℕ) → j < 16 → z < n → k' < k → snippet_at n k y + j ≢ snippet_at n k' z + i
  power_apart j h l r e = let m = block_before n k' k z y r l in omega arith

-- fewer exponents need less room
pub room_less : (n b c : ℕ) (p q : List ℕ) → c ≤ b → length q ≡ length p → BlockRoom n b p → BlockRoom n c q
room_less n b c p q h e r = let m : c * n ≤ b * n = mul-le-mul_right n h in record { few = r.few; low = let l = r.low in omega arith; room = let o = r.room in omega arith }

-- ── The matrices that are read and written when y hands down to h, the node above it ──
module _ (n k y h source low high room : ℕ) (es : source ≡ block_at n (k + 1) y) (el : low ≡ block_at n k y) (eh : high ≡ block_at n k h)
    (ly : y < n) (lh : h < n) (space : (BLOCKS + 64 * (k + 2)) * n ≤ room) where
  pub upper_places : Apart (source + 32) (high + 32) × Apart low (high + 32) × (source + 32 + 16 ≤ room) × (low + 16 ≤ room) × (high + 32 + 16 ≤ room)
  upper_places = (inr (omega arith), go (dec_le y h), omega arith, omega arith, omega arith)
    where
      go : Dec (y ≤ h) → Apart low (high + 32)
      go (yes r) = inl (omega arith)
      go (no r) = inr (omega arith)

  pub lower_places : Apart (source + 32) (low + 32) × Apart (high + 16) (low + 32) × (source + 32 + 16 ≤ room) × (high + 16 + 16 ≤ room) × (low + 32 + 16 ≤ room)
  lower_places = (inr (omega arith), go (dec_le h y), omega arith, omega arith, omega arith)
    where
      go : Dec (h ≤ y) → Apart (high + 16) (low + 32)
      go (yes r) = inl (omega arith)
      go (no r) = inr (omega arith)
