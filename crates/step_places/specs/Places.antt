-- Where the steps of a path stand.
use Rattle.std.specs.Prelude.{ℕ, ◌+◌, ◌<◌, ◌≤◌, ◌≡◌, List, ◌++◌, get_or, Option}
use Rattle.limits.specs.Limits.{positions}
use Rattle.xpath.specs.Syntax.{XPath, one, Step, steps, size}
use Rattle.positions.specs.Positions.{Numbered}
use Rattle.rule_parts.specs.Standing.{PathAt}
use Rattle.path_sets.specs.Paths.{PathsAt}
use Rattle.step_places.specs.declared.Spot.{Spot}

module _ (s : List ℕ) where
  -- every step of P stands where its number says; the places below b are as they were
  pub record Located (P : XPath) (b : ℕ) (before after : List ℕ) (j : ℕ) (r : Spot) : Type 0 where
    pub places : (i : ℕ) (t : Step) → Numbered b (steps P) i t → (k : ℕ) × PathAt s (one t) (get_or after i 0) k
    pub kept : (i : ℕ) → i < b → get_or after i 0 ≡ get_or before i 0
    pub count : r.count ≡ b + size P
    pub next : r.next ≡ j

  -- whatever path stands at the offset
  abbrev pub Locates : ℕ → ℕ → List ℕ → List ℕ → Spot → Type 0
  Locates at b before after r = (P : XPath) (j : ℕ) → PathAt s P at j → b + size P ≤ positions → Located P b before after j r

  -- each numbered step stands at its place
  abbrev pub Placed : List Step → List ℕ → Type 0
  Placed xs r = (i : ℕ) (t : Step) → Numbered 1 xs i t → (m : ℕ) × PathAt s (one t) (get_or r i 0) m

  -- the steps of the two paths that stand at the offsets
  abbrev pub Places : ℕ → Option ℕ → List ℕ → Type 0
  Places at behind r = (P R : XPath) → PathsAt s at behind P R → Placed (steps P ++ steps R) r
