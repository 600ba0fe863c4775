-- What is told of the path P whose steps are numbered from b.
use Rattle.std.specs.Prelude.{ℕ, ◌+◌, ◌≤◌, ◌≡◌, true, ◌↔◌, List}
use Rattle.limits.specs.Limits.{positions}
use Rattle.bits.specs.Sets.{bit}
use Rattle.xpath.specs.Syntax.{XPath, size}
use Rattle.positions.specs.Glushkov.{Nullable, Begins, Stops}
use Rattle.rule_parts.specs.Standing.{PathAt}
use Rattle.path_sets.specs.declared.sets.Scan.{Scan}

pub record Sets (P : XPath) (b : ℕ) (r : Scan) : Type 0 where
  pub null : (r.null ≡ true) ↔ Nullable P
  pub first : (i : ℕ) → (bit r.first i ≡ true) ↔ Begins P b i
  pub last : (i : ℕ) → (bit r.last i ≡ true) ↔ Stops P b i
  pub count : r.count ≡ b + size P

pub record Scanned (P : XPath) (b j : ℕ) (r : Scan) : Type 0 where
  pub sets : Sets P b r
  pub next : r.next ≡ j

module _ (s : List ℕ) (at b : ℕ) where
  -- whatever path stands at the offset, the scan tells it
  abbrev pub Scans : Scan → Type 0
  Scans r = (P : XPath) (j : ℕ) → PathAt s P at j → b + size P ≤ positions → Scanned P b j r
