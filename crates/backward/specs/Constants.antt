-- The backward evaluation of a constant.
use Rattle.std.specs.Prelude.{ℕ, ◌≡◌, List}
use Rattle.layout.specs.Part.{HIT}
use Rattle.layout.specs.Words.{word}

-- w is a hit
abbrev pub IsHit : List ℕ → ℕ → ℕ → Type 0
IsHit p n w = word p n HIT w ≡ 1

-- x is w, and w is a hit
abbrev pub HitAt : List ℕ → ℕ → ℕ → ℕ → Type 0
HitAt p n w x = (x ≡ w) × IsHit p n w
