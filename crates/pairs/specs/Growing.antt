-- How the pairs of the nodes grow: what each function adds to them, and what it keeps.
use Rattle.std.specs.Prelude.{ℕ, ◌+◌, ◌*◌, ◌≤◌, ◌<◌, ◌≡◌, ◌⊎◌, Bool, true, List, length}
use Rattle.limits.specs.Limits.{document_nodes, positions, words_per_digit}
use Rattle.bits.specs.Sets.{bit}
use Rattle.layout.specs.Blocks.{snippet_at, BLOCKS}
use Rattle.layout.specs.Part.{PAIRS, REST, pair_at}
use Rattle.layout.specs.Table.{PARENT}
use Rattle.layout.specs.Words.{word, Within}
use Rattle.matrices.specs.Matrices.{Related}
use Rattle.pairs.specs.Derived.{Turned, Over, MeetsBy, Sees, EndsAt, Derived}

-- the part has room for the matrices of exponent 0, and each node but the root has its parent before it
pub record Ready (n : ℕ) (p : List ℕ) : Type 0 where
  pub few : n ≤ document_nodes
  pub room : (BLOCKS + words_per_digit) * n ≤ length p
  pub parents : (v : ℕ) → 0 < v → v < n → word p n PARENT v < v

-- ── One matrix ──
-- the pairs of two members of w
abbrev pub Square : ℕ → ℕ → ℕ → Type 0
Square w a b = (bit w a ≡ true) × (bit w b ≡ true)

-- what is related already, or comes to what the matrix at `by` relates
abbrev pub Widened : List ℕ → ℕ → ℕ → ℕ → Bool → ℕ → ℕ → ℕ → Type 0
Widened p at from by back to a b = Related p at a b ⊎ Over (Turned back p by) p from to a b

-- what is related already, or meets a pair of the matrix at `by`
abbrev pub Planted : List ℕ → ℕ → ℕ → ℕ → ℕ → ℕ → ℕ → Type 0
Planted p at by up down a b = Related p at a b ⊎ MeetsBy p by up down a b

-- ── All matrices ──
-- all other words are as before
abbrev pub Framed : ℕ → List ℕ → List ℕ → Type 0
Framed n p p' = Within n PAIRS REST p p'

-- the pairs of the nodes below k are among those that the words tell
abbrev pub Held : ℕ → ℕ → ℕ → List ℕ → Type 0
Held last n k p = (v a b : ℕ) → v < k → a < positions → b < positions → Related p (pair_at n v) a b → Derived n p last v a b

-- the pairs that end at the nodes below k are there
abbrev pub Ended : ℕ → ℕ → ℕ → List ℕ → Type 0
Ended last n k p = (v a b : ℕ) → v < k → a < positions → b < positions → EndsAt n p last v a b → Related p (pair_at n v) a b

-- those are the pairs of the nodes below k
pub record Started (last n k : ℕ) (p p' : List ℕ) : Type 0 where
  pub framed : Framed n p p'
  pub ended : Ended last n k p'
  pub held : Held last n k p'

-- pairs are added, and those only that the words tell
pub record Grown (n : ℕ) (p p' : List ℕ) : Type 0 where
  pub framed : Framed n p p'
  pub grow : (v a b : ℕ) → v < n → a < positions → b < positions → Related p (pair_at n v) a b → Related p' (pair_at n v) a b
  pub sound : (last : ℕ) → Held last n n p → Held last n n p'

-- the pairs that meet a snippet at the edge between y and its parent are there
abbrev pub Met : ℕ → List ℕ → ℕ → Type 0
Met n p y = (v up down a b : ℕ) → a < positions → b < positions → Sees n p y v up down → MeetsBy p (snippet_at n 0 y) up down a b → Related p (pair_at n v) a b

-- at every node that has a parent
abbrev pub Everywhere : (ℕ → Type 0) → ℕ → Type 0
Everywhere B n = (y : ℕ) → 0 < y → y < n → B y
