-- A refusal is its number and place, the written order is total, and so a verdict is one.
use Prim.Native.Nat.{ℕ, zero, suc, ◌+◌, ◌*◌, ◌/◌, ◌%◌, ◌≤◌, ◌<◌, suc-le-suc}
use mathlib.Core.Path.{◌≡◌, refl, sym, ap₂, ◌∙◌, subst}
use mathlib.Core.Logic.{◌⊎◌, inl, inr, ⊎_elim, ⊎_map}
use mathlib.Core.List.{[], ◌∷◌}
use lib.ListN.{get_or}
use lib.Arith.{digits_div, digits_mod, digits_lt}
use lib.Dec.{lit<}
use native.Mathlib.Omega.{arith}
use native.Mathlib.Decide.{dec_lt, ℕ_discrete}
use Rattle.refusals.specs.Refusals.{Refusal, document_length, line_form, node_count, tree_rule, rule_length, unreadable, nesting, tests, steps, scratch_length, marks_length, duplicate_attribute, other_comparison, no_such_node, number, place, stage, Earlier, First}

-- ── Number and place ──
-- every refusal's number is below this
abbrev numbers : ℕ
numbers = 24

-- stands where a number is no refusal's: at 0, 12, and from 15 to 22
none : ℕ → Refusal
none p = document_length

-- the table, read from its left column
back : ℕ → ℕ → Refusal
back n =
    get_or
    (
    none ∷ (λ p. document_length) ∷ line_form ∷ (λ p. node_count) ∷ tree_rule ∷ (λ p. rule_length) ∷ unreadable ∷ nesting ∷ tests ∷ steps
    ∷ (λ p. scratch_length) ∷ (λ p. marks_length) ∷ none ∷ (λ p. no_such_node) ∷ duplicate_attribute
    ∷ none ∷ none ∷ none ∷ none ∷ none ∷ none ∷ none ∷ none ∷ (λ p. other_comparison) ∷ []
    )
    n none

tabled : (r : Refusal) → (back (number r) (place r) ≡ r) × (number r < numbers)
unfolding back
tabled document_length = (refl, lit< tt)
tabled (line_form line) = (refl, lit< tt)
tabled node_count = (refl, lit< tt)
tabled (tree_rule line) = (refl, lit< tt)
tabled rule_length = (refl, lit< tt)
tabled (unreadable offset) = (refl, lit< tt)
tabled (nesting offset) = (refl, lit< tt)
tabled (tests offset) = (refl, lit< tt)
tabled (steps offset) = (refl, lit< tt)
tabled scratch_length = (refl, lit< tt)
tabled marks_length = (refl, lit< tt)
tabled (duplicate_attribute line) = (refl, lit< tt)
tabled other_comparison = (refl, lit< tt)
tabled no_such_node = (refl, lit< tt)

pub refusal_of : (r q : Refusal) → number r ≡ number q → place r ≡ place q → r ≡ q
refusal_of r q e f = sym (tabled r).0 ∙ ap₂ back e f ∙ (tabled q).0

-- ── The order ──
-- a first, and R where they are even: Earlier is Lex of the stages, then of the places, then the order of the numbers
abbrev Lex : ℕ → ℕ → Type 0 → Type 0
Lex a b R = (a < b) ⊎ ((a ≡ b) × R)

lex_irrefl : {R : Type 0} (a : ℕ) → ¬ R → ¬ Lex a a R
lex_irrefl a f (inl h) = omega arith
lex_irrefl a f (inr h) = f h.1

lex_trans : {R S T : Type 0} (a b c : ℕ) → (R → S → T) → Lex a b R → Lex b c S → Lex a c T
lex_trans a b c f (inl h) (inl g) = inl (omega arith)
lex_trans a b c f (inl h) (inr g) = inl (omega arith)
lex_trans a b c f (inr h) (inl g) = inl (omega arith)
lex_trans a b c f (inr h) (inr g) = inr (omega arith, f h.1 g.1)

trichotomy : (a b : ℕ) → (a < b) ⊎ (a ≡ b) ⊎ (b < a)
trichotomy a b = go (dec_lt a b) (ℕ_discrete a b)
  where
    go : Dec (a < b) → Dec (a ≡ b) → (a < b) ⊎ (a ≡ b) ⊎ (b < a)
    go (yes h) d = inl h
    go (no f) (yes e) = inr (inl e)
    go (no f) (no g) = inr (inr (omega arith))

lex_total : {R E S : Type 0} (a b : ℕ) → R ⊎ E ⊎ S → Lex a b R ⊎ ((a ≡ b) × E) ⊎ Lex b a S
lex_total {R} {E} {S} a b t = go (trichotomy a b)
  where
    go : (a < b) ⊎ (a ≡ b) ⊎ (b < a) → Lex a b R ⊎ ((a ≡ b) × E) ⊎ Lex b a S
    go (inl h) = inl (inl h)
    go (inr (inl e)) = ⊎_map (λ r. inr (e, r)) (⊎_map (λ x. (e, x)) (λ s. inr (sym e, s))) t
    go (inr (inr h)) = inr (inr (inl h))

pub earlier_irrefl : (r : Refusal) → ¬ Earlier r r
earlier_irrefl r = lex_irrefl (stage r) (lex_irrefl (place r) (omega arith))

-- what is judged at a later stage does not come earlier
pub stage_later : (q r : Refusal) → stage r < stage q → ¬ Earlier q r
stage_later q r h (inl e) = omega arith
stage_later q r h (inr e) = let i = e.0 in omega arith

pub earlier_trans : (r q s : Refusal) → Earlier r q → Earlier q s → Earlier r s
earlier_trans r q s = lex_trans (stage r) (stage q) (stage s) (lex_trans (place r) (place q) (place s) (omega arith))

pub earlier_total : (r q : Refusal) → Earlier r q ⊎ (r ≡ q) ⊎ Earlier q r
earlier_total r q =
    ⊎_map (λ h. h) (⊎_map (λ e. refusal_of r q e.1.1 e.1.0) (λ h. h))
    (lex_total (stage r) (stage q) (lex_total (place r) (place q) (trichotomy (number r) (number q))))

-- 02, (d): number 14 is taken in line order with 2 to 4
pub duplicate_before_later_lines : (i j : ℕ) → i < j → Earlier (duplicate_attribute i) (line_form j) × Earlier (duplicate_attribute i) (tree_rule j)
duplicate_before_later_lines i j h = (inr (refl, inl h), inr (refl, inl h))

pub duplicate_after_earlier_lines : (i j : ℕ) → j < i → Earlier (line_form j) (duplicate_attribute i) × Earlier (tree_rule j) (duplicate_attribute i)
duplicate_after_earlier_lines i j h = (inr (refl, inl h), inr (refl, inl h))

-- 02, (m): number 23 is taken after 9 and before 10
pub other_between : (offset : ℕ) → Earlier (steps offset) other_comparison × Earlier other_comparison scratch_length
other_between offset = (inl (lit< tt), inl (lit< tt))

-- 02, (c): number 13 is taken after 10 and 11
pub node_last : Earlier scratch_length no_such_node × Earlier marks_length no_such_node
node_last = (inl (lit< tt), inl (lit< tt))

-- ── Verdicts ──
-- a list of all refusals, by place and then by number
abbrev index : Refusal → ℕ
index r = place r * numbers + number r

at : ℕ → Refusal
at i = back (i % numbers) (i / numbers)

at_index : (r : Refusal) → at (index r) ≡ r
unfolding at
at_index r = let h = tabled r in ap₂ back (digits_mod (place r) h.1) (digits_div (place r) h.1) ∙ h.0

one_more : (A : ℕ → Type 0) (k : ℕ) → ((i : ℕ) → i < k → A i) → A k → (i : ℕ) → i < suc k → A i
one_more A k f a i h = go (ℕ_discrete i k)
  where
    go : Dec (i ≡ k) → A i
    go (yes e) = subst A (sym e) a
    go (no n) = f i (omega arith)

module _ (Applies : Refusal → Type 0) where
  pub first_one : (r q : Refusal) → First Applies r → First Applies q → r ≡ q
  first_one r q f g = go (earlier_total r q)
    where
      go : Earlier r q ⊎ (r ≡ q) ⊎ Earlier q r → r ≡ q
      go (inl h) = absurd (g.first r f.applies h)
      go (inr (inl e)) = e
      go (inr (inr h)) = absurd (f.first q g.applies h)

  -- of the first k in the list, the earliest that applies
  abbrev Ahead : ℕ → Refusal → Type 0
  Ahead k q = (i : ℕ) → i < k → Applies (at i) → ¬ Earlier (at i) q

  abbrev Among : ℕ → Type 0
  Among k = ((q : Refusal) × Applies q × Ahead k q) ⊎ ((i : ℕ) → i < k → ¬ Applies (at i))

  among : ((r : Refusal) → Dec (Applies r)) → (k : ℕ) → Among k
  among d zero = inr (λ i h. absurd (omega arith))
  among d (suc k) = go (among d k) (d (at k))
    where
      ahead : (q : Refusal) → Ahead k q → (Applies (at k) → ¬ Earlier (at k) q) → Ahead (suc k) q
      ahead q = one_more (λ i. Applies (at i) → ¬ Earlier (at i) q) k

      sooner : (q : Refusal) → Applies q → Ahead k q → Applies (at k) → Earlier (at k) q ⊎ (at k ≡ q) ⊎ Earlier q (at k) → Among (suc k)
      sooner q a h x (inl l) = inl (at k, x, ahead (at k) (λ i j y m. h i j y (earlier_trans (at i) (at k) q m l)) (λ y. earlier_irrefl (at k)))
      sooner q a h x (inr t) =
          inl (q, a, ahead q h (λ y l. earlier_irrefl q (⊎_elim (λ e. subst (λ z. Earlier z q) e l) (λ m. earlier_trans q (at k) q m l) t)))

      go : Among k → Dec (Applies (at k)) → Among (suc k)
      go (inl (q, a, h)) (yes x) = sooner q a h x (earlier_total (at k) q)
      go (inl (q, a, h)) (no f) = inl (q, a, ahead q h (λ y. absurd (f y)))
      go (inr n) (yes x) = inl (at k, x, ahead (at k) (λ i j y. absurd (n i j y)) (λ y. earlier_irrefl (at k)))
      go (inr n) (no f) = inr (one_more (λ i. ¬ Applies (at i)) k n f)

  -- where no place is above a bound, there is a verdict or nothing applies
  pub first_of : ((r : Refusal) → Dec (Applies r)) → (bound : ℕ) → ((r : Refusal) → Applies r → place r ≤ bound)
      → ((r : Refusal) × First Applies r) ⊎ ((r : Refusal) → ¬ Applies r)
  first_of d bound b = go (among d (suc bound * numbers))
    where
      listed : (r : Refusal) → Applies r → index r < suc bound * numbers
      listed r x = digits_lt {m = suc bound} (suc-le-suc (b r x)) (tabled r).1

      go : Among (suc bound * numbers) → ((r : Refusal) × First Applies r) ⊎ ((r : Refusal) → ¬ Applies r)
      go (inl (q, a, h)) =
          inl (q, record { applies = a; first = λ r x. subst (λ z. Applies z → ¬ Earlier z q) (at_index r) (h (index r) (listed r x)) x })
      go (inr n) = inr (λ r x. subst (λ z. ¬ Applies z) (at_index r) (n (index r) (listed r x)) x)
