-- The tests that hold at a node, gathered into a word, and the column of these words.
use Prim.Native.Nat.{ℕ, ◌+◌, ◌*◌, ◌/◌, ◌%◌, ◌≤◌, ◌<◌}
use mathlib.Core.Path.{◌≡◌, refl, sym, ap, ◌∙◌}
use mathlib.Core.Logic.{⊎_elim}
use mathlib.Core.Bool.{Bool, true, false}
use mathlib.Core.List.{List}
use native.Mathlib.Nat.{mul-le-mul_right, eq-or-lt_of_le}
use native.Mathlib.Omega.{arith}
use lib.ListN.{get_or}
use borrow.Author.Tests.{eq-eqb, ne_eqb}
use Rattle.bits.specs.Sets.{bit, or, and, is}
use Rattle.bits.proofs.SetLaws.{bit_none}
use Rattle.layout.specs.Part.{STAYS}
use Rattle.layout.specs.Table.{COLUMNS, TESTS}
use Rattle.layout.specs.Words.{cell}
use Rattle.test_bits.specs.Columns.{held}
use Rattle.staging.specs.Drawing.{Stayed}
use Rattle.staging.proofs.Drawn.{Drawn, drawn_within}

-- the members of w are the positions below j that P holds of
pub record Gathered (P : ℕ → Bool) (j w : ℕ) : Type 0 where
  pub inside : (i : ℕ) → i < j → bit w i ≡ P i
  pub outside : (i : ℕ) → j ≤ i → bit w i ≡ false

pub gathered_none : (P : ℕ → Bool) → Gathered P 0 0
gathered_none P = record { inside = λ i h. absurd (omega arith); outside = λ i h. bit_none i }

pub gathered_skip : (P : ℕ → Bool) {j w : ℕ} → Gathered P j w → P j ≡ false → Gathered P (j + 1) w
gathered_skip P {j} {w} g e =
    record {
      inside = λ i h. ⊎_elim (λ (q : i ≡ j). g.outside i (omega arith) ∙ sym e ∙ ap P (sym q)) (λ (q : i < j). g.inside i q) (eq-or-lt_of_le (omega arith));
      outside = λ i h. g.outside i (omega arith);
    }

pub gathered_add : (P : ℕ → Bool) {j w x : ℕ} → Gathered P j w → P j ≡ true → ((i : ℕ) → bit x i ≡ or (is i j) (bit w i)) → Gathered P (j + 1) x
gathered_add P {j} {w} {x} g e f =
    record {
      inside = λ i h. ⊎_elim (λ (q : i ≡ j). f i ∙ ap (λ (b : Bool). or b (bit w i)) (eq-eqb i j q) ∙ sym e ∙ ap P (sym q)) (λ (q : i < j). other i (omega arith) ∙ g.inside i q) (eq-or-lt_of_le (omega arith));
      outside = λ i h. other i (omega arith) ∙ g.outside i (omega arith);
    }
  where
    other : (i : ℕ) → ¬ (i ≡ j) → bit x i ≡ bit w i
    other i q = f i ∙ ap (λ (b : Bool). or b (bit w i)) (ne_eqb i j q)

-- ── The column ──
-- position j is bracketed, and its test holds at v
abbrev pub stays : List ℕ → ℕ → ℕ → List ℕ → ℕ → ℕ → Bool
stays t n brackets numbers v j = and (bit brackets j) (held t n (get_or numbers j 0) v)

-- the members of x are those positions
abbrev pub Gathers : List ℕ → ℕ → ℕ → List ℕ → ℕ → ℕ → Type 0
Gathers t n brackets numbers v x = (j : ℕ) → j < 16 → bit x j ≡ stays t n brackets numbers v j

-- the tests are told by columns before this one
held_same : (n k v : ℕ) (t t' : List ℕ) → k < 64 → v < n → ((i : ℕ) → i < (COLUMNS + STAYS) * n → get_or t' i 0 ≡ get_or t i 0) → held t' n k v ≡ held t n k v
held_same n k v t t' h r same =
    let b : (TESTS + k / 16) * n ≤ (TESTS + 3) * n = mul-le-mul_right n (omega arith) in
    ap (λ (w : ℕ). bit w (k % 16)) (same (cell n (TESTS + k / 16) v) (omega arith))

pub gathers_same : (n brackets : ℕ) (numbers t t' : List ℕ) (v x : ℕ) {F : ℕ → ℕ → Type 0} {m i : ℕ} → ((j : ℕ) → j < 16 → get_or numbers j 0 < 64) → v < n
    → Drawn F ((COLUMNS + STAYS) * n) m i t t' → Gathers t' n brackets numbers v x → Gathers t n brackets numbers v x
gathers_same n brackets numbers t t' v x small r d h =
    λ j l. h j l ∙ ap (λ (b : Bool). and (bit brackets j) b) (held_same n (get_or numbers j 0) v t t' (small j l) r d.frame.front)

pub gathers_all : (n brackets : ℕ) (numbers : List ℕ) {i : ℕ} {t t' : List ℕ} → Drawn (Gathers t n brackets numbers) ((COLUMNS + STAYS) * n) n i t t' → n ≤ i
    → Stayed n brackets numbers t t'
gathers_all n brackets numbers d l =
    record { within = drawn_within n (COLUMNS + STAYS) (COLUMNS + STAYS + 1) refl (omega arith) d; done = λ v j r h. d.done v (omega arith) j h }
