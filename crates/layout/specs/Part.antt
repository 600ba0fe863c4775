-- A comparison's part of the scratch, which begins behind the tree's own words: columns of n words, as in the table.
use Rattle.std.specs.Prelude.{ℕ, ◌*◌, ◌≤◌, ◌<◌, ◌+◌, List, length}
use Rattle.limits.specs.Limits.{document_nodes, positions}
use Rattle.layout.specs.Table.{COLUMNS}

-- 1 where the comparison holds, and else 0
abbrev pub ANSWER : ℕ
ANSWER = 0

-- by rank: 1 for the rank of a node where the first path ends
abbrev pub MARK : ℕ
MARK = 1

-- the links and the rank stand in the same columns as in the table
-- the positions whose bracketed test holds at the node
abbrev pub STAYS : ℕ
STAYS = 6

-- 1 where the node's value is in the relation to the constant
abbrev pub HIT : ℕ
HIT = 7

-- the positions that a walk has come to
abbrev pub SEEN : ℕ
SEEN = 8

-- 1 where the walk of a count has found the node
abbrev pub FOUND : ℕ
FOUND = 9

-- the work list, behind the columns of single words: a column for each position for the nodes of its entries, and one for their positions
abbrev pub NODES : ℕ
NODES = COLUMNS

abbrev pub POSITIONS : ℕ
POSITIONS = NODES + positions

abbrev pub SPACE : ℕ
SPACE = POSITIONS + positions

-- in the same place the matrices of an equality, a row for each position: the loops of a node, and its settled pairs
abbrev pub LOOPS : ℕ
LOOPS = COLUMNS

abbrev pub PAIRS : ℕ
PAIRS = LOOPS + positions

abbrev pub REST : ℕ
REST = PAIRS + positions

-- the matrix of node v
abbrev pub loop_at : ℕ → ℕ → ℕ
loop_at n v = LOOPS * n + positions * v

-- a position of the first path to a row, and those of the second in it
abbrev pub pair_at : ℕ → ℕ → ℕ
pair_at n v = PAIRS * n + positions * v

-- the part has room, and n is a number of nodes
pub record Space (n : ℕ) (p : List ℕ) : Type 0 where
  pub some : 0 < n
  pub few : n ≤ document_nodes
  pub room : SPACE * n ≤ length p
