-- The columns of the table that tell where the value of each node lies; they stay when the nodes are ranked.
use Rattle.std.specs.Prelude.{ℕ}

-- a note of a node's value: the offset of its bytes in two words, their number, and the blanks around them
abbrev pub LOW : ℕ
LOW = 6

abbrev pub HIGH : ℕ
HIGH = 7

abbrev pub LENGTH : ℕ
LENGTH = 8

abbrev pub BLANKS : ℕ
BLANKS = 9

-- the next node behind a node that has text
abbrev pub NEXT : ℕ
NEXT = 10
