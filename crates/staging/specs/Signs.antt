-- The signs of comparisons, whatever is compared.
--   Stands q c  the sign q stands for values that compare like this
--   ByText q    it compares texts, and not amounts
--   ranks_of q   the column of the table that has the ranks that it compares
use Rattle.std.specs.Prelude.{ℕ, ◌≡◌, ◌≢◌}
use Rattle.xpath.specs.Syntax.{Op, eq, ne, lt, le, gt, ge}
use Rattle.layout.specs.Table.{RANK, AMOUNT}
use Rattle.std.specs.declared.cmp.Ordering.{Ordering}
use Rattle.std.specs.declared.cmp.Ordering.TheVariants.{Less, Equal, Greater}

abbrev pub Stands : Op → Ordering → Type 0
Stands eq c = c ≡ Equal
Stands ne c = c ≢ Equal
Stands lt c = c ≡ Less
Stands le c = c ≢ Greater
Stands gt c = c ≡ Greater
Stands ge c = c ≢ Less

abbrev pub ByText : Op → Type 0
ByText eq = Unit {0}
ByText ne = Unit {0}
ByText lt = ⊥
ByText le = ⊥
ByText gt = ⊥
ByText ge = ⊥

abbrev pub ranks_of : Op → ℕ
ranks_of eq = RANK
ranks_of ne = RANK
ranks_of lt = AMOUNT
ranks_of le = AMOUNT
ranks_of gt = AMOUNT
ranks_of ge = AMOUNT
