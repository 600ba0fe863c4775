-- What the words of a machine and of a part stand for.
use Rattle.std.specs.Prelude.{ℕ, ◌+◌, ◌≤◌, ◌<◌, ◌≡◌, ◌⊎◌, ◌↔◌, Bool, true, List, ◌++◌, get_or}
use Rattle.lists.specs.Blanks.{trim}
use Rattle.limits.specs.Limits.{document_nodes, positions, comparison_steps}
use Rattle.bits.specs.Sets.{bit}
use Rattle.xpath.specs.Syntax.{Op, Test, XPath, Step, to_left, to_right, from_left, from_right, stay, steps, size}
use Rattle.xpath.specs.Tree.{Tree, Child}
use Rattle.xpath.specs.Meaning.{Rel, Holds}
use Rattle.positions.specs.Positions.{Numbered, second, Follows, IsLast}
use Rattle.layout.specs.Part.{STAYS, HIT}
use Rattle.layout.specs.Table.{PARENT, RANK, column}
use Rattle.layout.specs.Words.{NONE, word}
use Rattle.table.specs.Links.{Points}
use Rattle.machine.specs.declared.Machine.{Machine}
use Rattle.machine.specs.Walks.{Signed}

-- step j of the two paths is s
abbrev pub IsStep : XPath → XPath → ℕ → Step → Type 0
IsStep P R j s = Numbered 1 (steps P ++ steps R) j s

-- m is the automaton of P and R
pub record IsMachine (P R : XPath) (m : Machine) : Type 0 where
  pub few : size P + size R ≤ comparison_steps
  pub rows : (i j : ℕ) → i < positions → j < positions → (bit (get_or m.rows i 0) j ≡ true) ↔ Follows P R i j
  pub left : (j : ℕ) → j < positions → (bit m.left j ≡ true) ↔ IsStep P R j to_left
  pub right : (j : ℕ) → j < positions → (bit m.right j ≡ true) ↔ IsStep P R j to_right
  pub from_left : (j : ℕ) → j < positions → (bit m.leftup j ≡ true) ↔ IsStep P R j from_left
  pub from_right : (j : ℕ) → j < positions → (bit m.rightup j ≡ true) ↔ IsStep P R j from_right
  pub brackets : (j : ℕ) → j < positions → (bit m.brackets j ≡ true) ↔ ((T : Test) × IsStep P R j (stay T))
  pub last : (j : ℕ) → (bit m.last j ≡ true) ↔ IsLast P R j
  -- the positions of the first path: its start 0 and the numbers of its steps
  pub first : (j : ℕ) → j < positions → (bit m.first j ≡ true) ↔ (j ≤ size P)
  pub start : m.second ≡ second P R

-- the links of the tree t, and where the bracketed tests hold
pub record Drawn (P R : XPath) (t : Tree) (n : ℕ) (p : List ℕ) : Type 0 where
  pub size : t.size ≡ n
  pub few : n ≤ document_nodes
  pub children : (side : Bool) (v : ℕ) → v < n → Points (Child t side v) (word p n (column side) v)
  pub parents : (v : ℕ) → v < n → ((v ≡ 0) × (word p n PARENT v ≡ NONE)) ⊎ ((0 < v) × (word p n PARENT v ≡ t.parent v))
  pub tests : (v j : ℕ) → v < n → j < positions → (bit (word p n STAYS v) j ≡ true) ↔ ((T : Test) × IsStep P R j (stay T) × Holds t T v)

-- the sign stands between the ranks of two nodes exactly if it stands between their values
abbrev pub RanksTell : Op → Tree → ℕ → List ℕ → Type 0
RanksTell o t n p = (v w : ℕ) → v < n → w < n → Signed o n (word p n RANK v) (word p n RANK w) ↔ Rel o (t.value v) (t.value w)

-- where the value is in the relation to the constant
abbrev pub Judges : Op → List ℕ → Tree → ℕ → List ℕ → Type 0
Judges o c t n p = (v : ℕ) → v < n → (word p n HIT v ≡ 1) ↔ Rel o (t.value v) (trim c)
