-- What `settle` leaves: the answer of each node.
use Rattle.std.specs.Prelude.{ℕ, ◌*◌, ◌≤◌, ◌<◌, ◌≡◌, ◌⊎◌, ◌↔◌, Bool, List, get_or}
use Rattle.limits.specs.Limits.{positions}
use Rattle.bits.specs.Sets.{bit, one}
use Rattle.xpath.specs.Syntax.{XPath}
use Rattle.xpath.specs.Tree.{Tree, Child}
use Rattle.layout.specs.Blocks.{snippet_at}
use Rattle.layout.specs.Part.{ANSWER, PAIRS, REST, pair_at}
use Rattle.layout.specs.Words.{word, Same, Kept}
use Rattle.matrices.specs.Matrices.{Related}
use Rattle.machine.specs.declared.Machine.{Machine}
use Rattle.powers.specs.Powers.{Founded}
use Rattle.settling.specs.Pairs.{Settles}

-- the words have a snippet of power 0 from x down to its child y: i at x and j at y
pub record Marked (t : Tree) (n : ℕ) (p : List ℕ) (x y i j : ℕ) : Type 0 where
  pub side : Bool
  pub child : Child t side x y
  pub upper_few : i < positions
  pub lower_few : j < positions
  pub marked : Related p (snippet_at n 0 y) i j

-- k is no word of the answers and none of the pairs
abbrev pub Untouched : ℕ → ℕ → Type 0
Untouched n k = (n ≤ k) × ((k < PAIRS * n) ⊎ (REST * n ≤ k))

pub record Settled (m : Machine) (n : ℕ) (p p' : List ℕ) : Type 0 where
  -- all words but those are as before
  pub same : Same (Untouched n) p p'
  -- an answer is 0 or 1
  pub small : (v : ℕ) → v < n → word p' n ANSWER v ≤ 1
  -- it is 1 where the snippets settle the two starts
  pub answers : (P R : XPath) (t : Tree) → Founded P R t m n 1 p → (v : ℕ) → v < n → (word p' n ANSWER v ≡ 1) ↔ Settles P R t (Marked t n p) v 0 m.second

-- ── The answers ──
-- those of the nodes below k tell whether 0 and the second start are a pair, and all other words are as before
pub record Answering (second n k : ℕ) (p p' : List ℕ) : Type 0 where
  pub kept : Kept k p p'
  pub done : (v : ℕ) → v < k → word p' n ANSWER v ≡ one (bit (get_or p (pair_at n v) 0) second)
