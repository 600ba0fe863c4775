-- The automaton of a comparison's paths P and R: 01, snippets.
use Rattle.std.specs.Prelude.{ℕ, suc, ◌+◌, ◌<◌, ◌≡◌, Bool, true, ◌⊎◌, ◌↔◌, List, Option}
use Rattle.limits.specs.Limits.{positions}
use Rattle.bits.specs.Sets.{bit}
use Rattle.bits.specs.Square.{cell}
use Rattle.xpath.specs.Syntax.{XPath, size}
use Rattle.positions.specs.Positions.{Follows, IsLast}
use Rattle.positions.specs.Glushkov.{Nullable, Begins, Stops}
use Rattle.path_sets.specs.declared.sets.Scan.{Scan}
use Rattle.path_sets.specs.Scanned.{Sets}
use Rattle.path_sets.specs.Paths.{PathsAt}
use Rattle.automaton.specs.declared.automaton.Automaton.{Automaton}

module _ (P : XPath) (b n : ℕ) where
  -- the last positions of P, whose start is n
  pub record Ended (r : ℕ) : Type 0 where
    pub told : (i : ℕ) → (bit r i ≡ true) ↔ (((i ≡ n) × Nullable P) ⊎ Stops P b i)

  -- the relation after holds what it held before, and that the first steps of P follow its start n
  pub record Started (before after : List (List Bool)) : Type 0 where
    pub told : (i j : ℕ) → i < positions → j < positions → (cell after i j ≡ true) ↔ ((cell before i j ≡ true) ⊎ ((i ≡ n) × Begins P b j))

-- 01, "Which position may follow which is a square of 16 by 16": cell j of row i tells whether j follows i
pub record FollowSquare (P R : XPath) (f : List (List Bool)) : Type 0 where
  pub follow : (i j : ℕ) → i < positions → j < positions → (cell f i j ≡ true) ↔ Follows P R i j

-- 01, "A position is last if": the set of those, and the numbers of each path's last step
pub record IsAutomaton (P R : XPath) (r : Automaton) : Type 0 where
  pub last : (i : ℕ) → (bit r.last i ≡ true) ↔ IsLast P R i
  pub middle : r.middle ≡ size P
  pub count : r.count ≡ size P + size R

-- whatever paths have the scans p and q, R numbered behind P
abbrev pub Sums : Scan → Scan → Automaton → Type 0
Sums p q r = (P R : XPath) → Sets P 1 p → Sets R (suc (size P)) q → IsAutomaton P R r

module _ (s : List ℕ) (at : ℕ) (behind : Option ℕ) where
  -- whatever paths stand at the offsets, this is their automaton
  abbrev pub Tells : Automaton → Type 0
  Tells r = (P R : XPath) → PathsAt s at behind P R → IsAutomaton P R r

  -- and this their square
  abbrev pub TellsFollow : List (List Bool) → Type 0
  TellsFollow f = (P R : XPath) → PathsAt s at behind P R → FollowSquare P R f
