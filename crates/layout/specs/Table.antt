-- The table of a tree of n nodes, the first words of the scratch: columns of n words.
use Rattle.std.specs.Prelude.{ℕ, ◌+◌, ◌*◌, ◌≤◌, ◌<◌, Bool, true, false, List, length}
use Rattle.limits.specs.Limits.{tree_words, word_values}
use Rattle.layout.specs.Words.{word}

abbrev pub COLUMNS : ℕ
COLUMNS = tree_words

-- the offset of a node's lines takes two words
abbrev pub LOW : ℕ
LOW = 0

abbrev pub HIGH : ℕ
HIGH = 1

abbrev pub LEFT : ℕ
LEFT = 2

abbrev pub RIGHT : ℕ
RIGHT = 3

abbrev pub PARENT : ℕ
PARENT = 4

abbrev pub RANK : ℕ
RANK = 5

-- while the tree is built: the last node so far of a depth
abbrev pub LAST : ℕ
LAST = 6

-- the rank of the node's amount, if its value is a numeral
abbrev pub AMOUNT : ℕ
AMOUNT = 11

-- when the nodes are ranked: a bit for each test, in as many columns as the tests take
abbrev pub TESTS : ℕ
TESTS = 12

-- the children on a side
abbrev pub column : Bool → ℕ
column true = LEFT
column false = RIGHT

abbrev pub offset_of : List ℕ → ℕ → ℕ → ℕ
offset_of t n v = word t n LOW v + word_values * word t n HIGH v

-- the scratch has room for the table
abbrev pub Room : ℕ → List ℕ → Type 0
Room n t = COLUMNS * n ≤ length t

-- each node's rank is below n
abbrev pub SmallRanks : ℕ → List ℕ → Type 0
SmallRanks n t = (v : ℕ) → v < n → word t n RANK v < n
