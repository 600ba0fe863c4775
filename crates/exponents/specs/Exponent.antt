-- The exponent of the largest power of two not above a length: 01, snippets.
use Rattle.std.specs.Prelude.{ℕ, suc, ◌^◌, ◌<◌, ◌≤◌}

pub record Exponent (length k : ℕ) : Type 0 where
  pub low : 2 ^ k ≤ length
  pub high : length < 2 ^ suc k
