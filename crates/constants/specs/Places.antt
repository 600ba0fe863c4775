-- Where a constant belongs among the values of the nodes, told by their ranks.
--   Compares Smaller x y o  o is how x compares with y
--   Against                 a value for each node, of any kind and in any order, and the one that they are held against
--   against ns rule c       those that the target c stands for
--   column_of c              the column of the ranks that go with them
--   Nearest n rank low v    v has the smallest of the ranks from low on
--   Told p r o              o is what the place p tells of the rank r
--   Placed k n rank p       it is how the values with this rank compare
use Rattle.std.specs.Prelude.{ℕ, ◌≤◌, ◌<◌, ◌≡◌, List, length}
use Rattle.document_spec.specs.Library.{Node}
use Rattle.document_spec.specs.Binary.{compared_of}
use Rattle.layout.specs.Table.{RANK, AMOUNT}
use Rattle.blanks.specs.Trimmed.{between}
use Rattle.string_order.specs.Bytes as Bytes
use Rattle.std.specs.declared.cmp.Ordering.{Ordering}
use Rattle.std.specs.declared.cmp.Ordering.TheVariants.{Less, Equal, Greater}
use Rattle.amounts.specs.Weighed.{key_at}
use Rattle.constants.specs.declared.Place.{Place}
use Rattle.constants.specs.declared.Target.{Target}
use Rattle.constants.specs.declared.Target.TheVariants.{Text, Amount}

abbrev pub Compares : {A : Type 0} → (A → A → Type 0) → A → A → Ordering → Type 0
Compares Smaller x y Less = Smaller x y
Compares Smaller x y Equal = x ≡ y
Compares Smaller x y Greater = Smaller y x

-- ── What values are held against ──
pub record Against : Type 1 where
  pub Kind : Type 0
  pub Smaller : Kind → Kind → Type 0
  pub value : ℕ → Kind
  pub wanted : Kind

abbrev pub ComparesAt : Against → ℕ → Ordering → Type 0
ComparesAt k v o = Compares k.Smaller (k.value v) k.wanted o

abbrev pub against : List Node → List ℕ → Target → Against
against ns rule (Text c) = record { Kind = List ℕ; Smaller = Bytes.Less; value = compared_of ns; wanted = between rule c }
against ns rule (Amount k) = record { Kind = ℕ; Smaller = ◌<◌; value = key_at ns; wanted = k }

abbrev pub column_of : Target → ℕ
column_of (Text c) = RANK
column_of (Amount k) = AMOUNT

-- a text stands in the rule
abbrev pub InRule : List ℕ → Target → Type 0
InRule rule (Text c) = (c.from ≤ c.to) × (c.to ≤ length rule)
InRule rule (Amount k) = Unit {0}

-- ── What ranks tell: those below n, for a node has no other ──
-- where no node has a rank from low on, v is n
pub record Nearest (n : ℕ) (rank : ℕ → ℕ) (low v : ℕ) : Type 0 where
  pub within : v ≤ n
  pub high : v < n → (low ≤ rank v) × (rank v < n)
  pub least : (w : ℕ) → w < n → low ≤ rank w → rank w < n → (v < n) × (rank v ≤ rank w)

abbrev pub Told : Place → ℕ → Ordering → Type 0
Told p r Less = r < p.first
Told p r Equal = (p.first ≤ r) × (r < p.behind)
Told p r Greater = p.behind ≤ r

pub record Placed (k : Against) (n : ℕ) (rank : ℕ → ℕ) (p : Place) : Type 0 where
  pub tells : (v : ℕ) (o : Ordering) → v < n → rank v < n → Told p (rank v) o → ComparesAt k v o
