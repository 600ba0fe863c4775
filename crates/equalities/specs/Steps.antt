-- What the steps of the evaluation leave: rows without snippets, the loops and the powers, and then the snippets.
use Rattle.std.specs.Prelude.{ℕ, ◌+◌, ◌*◌, ◌<◌, ◌≡◌, ◌≢◌, ◌↔◌, List, length, get_or}
use Rattle.lists.specs.Lists.{Number}
use Rattle.limits.specs.Limits.{positions}
use Rattle.xpath.specs.Syntax.{XPath}
use Rattle.xpath.specs.Tree.{Tree}
use Rattle.snippets.specs.Values.{YieldedBy, IsSnippetBy}
use Rattle.machine.specs.declared.Machine.{Machine}
use Rattle.loops.specs.Loops.{Stage}
use Rattle.layout.specs.Blocks.{snippet_at, rows_at}
use Rattle.layout.specs.Table.{COLUMNS}
use Rattle.layout.specs.Words.{Frame, Same}
use Rattle.powers.specs.Powers.{Founded}
use Rattle.settling.specs.Settled.{Marked}
use Rattle.group_ends.specs.Ends.{Enough}

-- ── Rows without snippets ──
-- the first k words from an offset on become 0
pub record Zeroed (at k : ℕ) (p p' : List ℕ) : Type 0 where
  pub frame : Frame at (at + k) p p'
  pub zero : (i : ℕ) → i < k → get_or p' (at + i) 0 ≡ 0

-- the rows of the first c blocks become 0, and all other words are as before
pub record Cleared (n c : ℕ) (p p' : List ℕ) : Type 0 where
  pub same : Same (λ k. (l i : ℕ) → l < c → i < positions → k ≢ rows_at n l + i) p p'
  pub zero : (l i : ℕ) → l < c → i < positions → get_or p' (rows_at n l + i) 0 ≡ 0

-- there are no snippets
abbrev pub Empty : ℕ → ℕ → List ℕ → Type 0
Empty n b p = (k y i : ℕ) → k < b → y < n → i < positions → get_or p (snippet_at n k y + i) 0 ≡ 0

-- ── Before the snippets ──
-- the loops and the powers are found, and there are no snippets yet; the columns of single words stay
pub record Prepares (m : Machine) (n b : ℕ) (p p' : List ℕ) : Type 0 where
  pub long : length p' ≡ length p
  pub front : (k : ℕ) → k < COLUMNS * n → get_or p' k 0 ≡ get_or p k 0
  pub founded : (P R : XPath) (t : Tree) → Stage P R t m n p → Founded P R t m n b p'
  pub empty : Empty n b p'

-- ── The snippets ──
-- those that the values in the list yield are found, r in all, where the powers are enough; those of power 0 are in the rows
pub record Gathers (vs : List ℕ) (m : Machine) (n b : ℕ) (p p' : List ℕ) (r : ℕ) : Type 0 where
  pub long : length p' ≡ length p
  pub founded : (P R : XPath) (t : Tree) → Founded P R t m n b p → Founded P R t m n b p'
  pub number : (P R : XPath) (t : Tree) → Founded P R t m n b p → Enough t b → Number (IsSnippetBy t vs (record { first = P; second = R })) r
  pub marked : (P R : XPath) (t : Tree) → Founded P R t m n b p → Enough t b → (x y i j : ℕ) → Marked t n p' x y i j ↔ YieldedBy t vs P R 0 x y i j
