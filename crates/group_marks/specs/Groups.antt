-- The group of the nodes of one value: its nodes by their rank, their marks, and the blocks of nodes that can have skeleton nodes.
use Rattle.std.specs.Prelude.{ℕ, suc, ◌/◌, ◌%◌, ◌<◌, ◌≡◌, ◌↔◌, List}
use Rattle.xpath.specs.Tree.{Tree}
use Rattle.snippets.specs.Snippets.{Skeleton}
use Rattle.snippets.specs.Marks.{Marked}
use Rattle.layout.specs.Table.{RANK}
use Rattle.layout.specs.Words.{word, Within}
use Rattle.layout.specs.Groups.{MARKED, BLOCK}
use Rattle.machine.specs.Shape.{Shape}

-- the nodes of rank r are those that have the value d
abbrev pub Ranks : Tree → List ℕ → ℕ → ℕ → List ℕ → Type 0
Ranks t d n r p = (w : ℕ) → w < n → (word p n RANK w ≡ r) ↔ (t.value w ≡ d)

-- ── The marks ──
-- v is marked
abbrev pub IsMarked : List ℕ → ℕ → ℕ → Type 0
IsMarked p n v = word p n MARKED v % 2 ≡ 1

-- v's block is noted
abbrev pub IsNoted : List ℕ → ℕ → ℕ → Type 0
IsNoted p n v = word p n MARKED (v / BLOCK) / 2 ≡ 1

-- the nodes of rank r are those that have the value d, the marks are theirs, and the blocks of their skeleton are noted
pub record Group (t : Tree) (d : List ℕ) (n r : ℕ) (p : List ℕ) : Type 0 where
  pub shape : Shape t n p
  pub ranks : Ranks t d n r p
  pub marks : (v : ℕ) → v < n → Marked t d v ↔ IsMarked p n v
  pub noted : (v : ℕ) → Skeleton t d v → IsNoted p n v

-- the marks of the nodes of rank r are written, and the blocks of their skeleton are noted; all other columns are as before
pub record Grouped (n r : ℕ) (p p' : List ℕ) : Type 0 where
  pub within : Within n MARKED (suc MARKED) p p'
  pub group : (t : Tree) (d : List ℕ) → Shape t n p → Ranks t d n r p → Group t d n r p'
