-- The columns of a comparison's part that hold the groups of equal values, and what is worked out for one of them.
use Rattle.std.specs.Prelude.{ℕ}

-- before the groups: a node's level, 1 for the root, and else one more than that of the parent
abbrev pub LEVEL : ℕ
LEVEL = 8

-- by rank: the first node that has it, or none
abbrev pub FIRST : ℕ
FIRST = 9

-- the next node of equal rank, or none
abbrev pub NEXT : ℕ
NEXT = 10

-- two things in one word: an odd one for a node that has a node of the group at or below it, and 2 or 3 for a block of nodes that is noted
abbrev pub MARKED : ℕ
MARKED = 11

-- the nodes of a block
abbrev pub BLOCK : ℕ
BLOCK = 16

-- the positions that at a skeleton node end at a node of the group that is at or below it
abbrev pub IN : ℕ
IN = 12

-- those of them that come from the next skeleton node on the left
abbrev pub LEFTIN : ℕ
LEFTIN = 13

-- and on the right
abbrev pub RIGHTIN : ℕ
RIGHTIN = 14

-- the positions that end at a node of the group that is neither at nor below it
abbrev pub ABOVE : ℕ
ABOVE = 15
