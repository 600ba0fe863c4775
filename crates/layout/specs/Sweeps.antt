-- The columns of a comparison's part that hold the range of the ranks where a path ends.
use Rattle.std.specs.Prelude.{ℕ}

-- the least rank where the first path ends, and in the next column the second path's
abbrev pub LEAST : ℕ
LEAST = 12

-- one more than the greatest rank, likewise
abbrev pub ABOVE : ℕ
ABOVE = 14
