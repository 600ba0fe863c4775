-- The two kinds of constants: the texts of the nodes with their ranks, and the keys of their amounts with theirs.
use Prim.Native.Nat.{ℕ, ◌≤◌, ◌<◌}
use mathlib.Core.Path.{◌≡◌, sym, subst, subst₂}
use mathlib.Core.List.{List}
use lib.ListN.{length}
use native.Mathlib.Omega.{arith}
use Rattle.document_spec.specs.Library.{Node}
use Rattle.document_spec.specs.Binary.{compared_of}
use Rattle.document_lines.specs.declared.entries.Span.{Span}
use Rattle.blanks.specs.Trimmed.{between}
use Rattle.layout.specs.Table.{COLUMNS, AMOUNT}
use Rattle.layout.specs.Words.{NONE, word}
use Rattle.string_order.specs.Bytes as Bytes
use Rattle.string_order.specs.Ordered.{Ordered}
use Rattle.std.specs.declared.cmp.Ordering.{Ordering}
use Rattle.std.specs.declared.cmp.Ordering.TheVariants.{Less, Equal, Greater}
use Rattle.std.specs.Ordering.{nat_cmp}
use Rattle.std.proofs.lemmas.Cmp.{ranked}
use Rattle.string_order.proofs.Bytes.{less_transitive}
use Rattle.numerals.specs.Keys.{no_key}
use Rattle.ranks.specs.Ranks.{Ranked}
use Rattle.amounts.specs.Weighed.{key_at, Weighed}
use Rattle.amounts.proofs.Kept.{weighed_some}
use Rattle.constants.specs.declared.Place.{Place}
use Rattle.constants.specs.declared.Target.{Target}
use Rattle.constants.specs.declared.Target.TheVariants.{Text, Amount}
use Rattle.constants.specs.Places.{Compares, Against, ComparesAt, against, column_of, Placed}
use Rattle.constants.proofs.Placing.{Valued}

pub column_inside : (c : Target) → column_of c < COLUMNS
column_inside (Text c) = omega arith
column_inside (Amount k) = omega arith

-- texts compare by their bytes
pub compares_text : (bs cs : List ℕ) (o : Ordering) → Ordered bs cs o → Compares Bytes.Less bs cs o
compares_text bs cs Less h = h
compares_text bs cs Equal h = h
compares_text bs cs Greater h = h

-- and numbers as std compares them
compares_number : (a b : ℕ) (o : Ordering) → o ≡ nat_cmp a b → Compares ◌<◌ a b o
compares_number a b Less e = ranked a b Less e
compares_number a b Equal e = ranked a b Equal e
compares_number a b Greater e = ranked a b Greater e

-- ── What is read of node v ──
module _ (ns : List Node) (rule : List ℕ) (v : ℕ) (c : Target) (o : Ordering) where
  pub compared_text : (w : Span) → c ≡ Text w → Ordered (compared_of ns v) (between rule w) o → ComparesAt (against ns rule c) v o
  compared_text w e h = subst (λ x. ComparesAt (against ns rule x) v o) (sym e) (compares_text (compared_of ns v) (between rule w) o h)

  pub compared_amount : (a k : ℕ) → c ≡ Amount k → a ≡ key_at ns v → Compares ◌<◌ a k o → ComparesAt (against ns rule c) v o
  compared_amount a k e f h = subst (λ x. ComparesAt (against ns rule x) v o) (sym e) (subst (λ x. Compares ◌<◌ x k o) f h)

  -- the same, as std compares them
  pub compared_key : (a k : ℕ) → c ≡ Amount k → a ≡ key_at ns v → o ≡ nat_cmp a k → ComparesAt (against ns rule c) v o
  compared_key a k e f h = compared_amount a k e f (compares_number a k o h)

-- ── The ranks ──
-- k is the column that goes with c
pub valued : {ns : List Node} {n k : ℕ} {t : List ℕ} (rule : List ℕ) (c : Target) → k ≡ column_of c → length ns ≡ n → length ns ≤ NONE → Ranked ns t → Weighed ns t
    → Valued (against ns rule c) n (word t n k)
valued {ns} {n} {k} {t} rule c e size few r g =
    subst₂ (λ (m j : ℕ). Valued (against ns rule c) m (word t m j)) size (sym e) (go c)
  where
    some : (v : ℕ) → v < length ns → word t (length ns) AMOUNT v < length ns → key_at ns v < no_key
    some = weighed_some few g

    go : (c : Target) → Valued (against ns rule c) (length ns) (word t (length ns) (column_of c))
    go (Text c) =
        record {
          transitive = less_transitive;
          rises = λ v w a b i j. (r.ordered v w a b).0;
          agrees = λ v w a b i j. (r.same v w a b).0;
        }
    go (Amount k) =
        record {
          transitive = λ x y z h q. omega arith;
          rises = λ v w a b i j. (g.ordered v w a b (some v a i) (some w b j)).0;
          agrees = λ v w a b i j. (g.same v w a b (some v a i) (some w b j)).0;
        }

pub placed_there : {k : Against} {n i j : ℕ} (t : List ℕ) {p : Place} → i ≡ j → Placed k n (word t n i) p → Placed k n (word t n j) p
placed_there {k} {n} t {p} e h = subst (λ (c : ℕ). Placed k n (word t n c) p) e h
