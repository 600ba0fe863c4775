-- The notes of all values: where they come from, and what keeps them.
use Prim.Native.Nat.{ℕ, zero, suc, ◌*◌, ◌-◌, ◌≤◌, ◌<◌}
use mathlib.Core.Path.{◌≡◌, sym, subst}
use mathlib.Core.Logic.{◌≢◌}
use mathlib.Core.List.{List}
use lib.ListN.{length, get_or}
use native.Mathlib.Nat.{mul-le-mul_right}
use native.Mathlib.Omega.{arith}
use native.Mathlib.Decide.{dec_lt}
use Rattle.layout.specs.Table.{RANK, AMOUNT}
use Rattle.layout.specs.Values.{LOW, HIGH, LENGTH, BLANKS, NEXT}
use Rattle.layout.specs.Words.{cell, word, Within}
use Rattle.layout.proofs.Frames.{before_within}
use Rattle.table.specs.Tabled.{Tabled}
use Rattle.table.proofs.Linked.{linked_same}
use Rattle.value_notes.specs.Values.{Next}
use Rattle.value_notes.specs.Notes.{Valued, Marked, Annotated}
use Rattle.value_notes.proofs.Columns.{note_same}

pub annotated : {s : List ℕ} {n : ℕ} {t : List ℕ} → Marked s n 0 t → Annotated s n t
annotated h = record { tabled = h.tabled; valued = λ ns a v l. h.valued ns a v (omega arith) l; next = λ ns a v l. h.next ns a v (omega arith) l }

-- ── What keeps them ──
-- what holds of the words of each column holds of all words of the columns
by_columns : (n : ℕ) (P : ℕ → Type 0) (d : ℕ) → ((c v : ℕ) → c < d → v < n → P (cell n c v)) → (k : ℕ) → k < d * n → P k
by_columns n P zero f k l = absurd (omega arith)
by_columns n P (suc d) f k l = go (by_columns n P d (λ c v i j. f c v (omega arith) j) k) (dec_lt k (d * n))
  where
    go : (k < d * n → P k) → Dec (k < d * n) → P k
    go on (yes r) = on r
    go on (no r) = let e : cell n d (k - d * n) ≡ k = omega arith in subst P e (f d (k - d * n) (omega arith) (omega arith))

module _ {s : List ℕ} {n : ℕ} {t t' : List ℕ} (h : Annotated s n t) where
  -- all columns before the ranks of amounts but for the ranks of text
  pub annotated_same : length t' ≡ length t → ((c v : ℕ) → c < AMOUNT → c ≢ RANK → v < n → word t' n c v ≡ word t n c v) → Annotated s n t'
  annotated_same long same =
      record {
        tabled = record { nodes = g.nodes; accepts = g.accepts; linked = linked_same g.linked tree; size = g.size; room = let r = g.room in omega arith };
        valued = λ ns a v l. subst (λ x. Valued s ns v x)
            (note_same t t' n v
            (sym (same LOW v (omega arith) (omega arith) l))
            (sym (same HIGH v (omega arith) (omega arith) l))
            (sym (same LENGTH v (omega arith) (omega arith) l))
            (sym (same BLANKS v (omega arith) (omega arith) l)))
            (h.valued ns a v l);
        next = λ ns a v l. subst (λ (x : ℕ). Next ns (suc v) x) (sym (same NEXT v (omega arith) (omega arith) l)) (h.next ns a v l);
      }
    where
      g : Tabled s n t
      g = h.tabled

      tree : (k : ℕ) → k < 5 * length g.nodes → get_or t' k 0 ≡ get_or t k 0
      tree k l =
          let size = g.size in
          by_columns n (λ k. get_or t' k 0 ≡ get_or t k 0) 5 (λ c v i j. same c v (omega arith) (omega arith) j) k (omega arith)

  -- work behind them
  pub annotated_behind : {c d : ℕ} → AMOUNT ≤ c → Within n c d t t' → Annotated s n t'
  annotated_behind l q = annotated_same q.long (λ c v i j k. before_within q c v (omega arith) k)

  -- work in the ranks
  pub annotated_ranks : Within n RANK (suc RANK) t t' → Annotated s n t'
  annotated_ranks q = annotated_same q.long (λ c v i j k. go c v j k (dec_lt c RANK))
    where
      go : (c v : ℕ) → c ≢ RANK → v < n → Dec (c < RANK) → word t' n c v ≡ word t n c v
      go c v j k (yes r) = before_within q c v r k
      go c v j k (no r) = let m : suc RANK * n ≤ c * n = mul-le-mul_right n (omega arith) in q.behind (cell n c v) (omega arith)
