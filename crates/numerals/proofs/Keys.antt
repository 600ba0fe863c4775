-- Keys are in the order of amounts: no numeral has as many ten-thousandths as the key of 0.
use Prim.Native.Nat.{ℕ, ◌+◌, ◌-◌, ◌*◌, ◌^◌, ◌≤◌, ◌<◌}
use mathlib.Core.Path.{◌≡◌, refl, sym, ap, ◌∙◌, subst}
use mathlib.Core.Bool.{Bool, true, false}
use mathlib.Core.Logic.{◌↔◌}
use mathlib.Core.Option.{Option, none, some}
use mathlib.Core.List.{List, ◌++◌}
use lib.Dec.{lit<}
use lib.ListN.{length, length-append}
use lib.Pow.{pow-add}
use native.Mathlib.Omega.{arith}
use native.Mathlib.Nat.{pow-le-pow_right, mul-lt-mul_of_pos_right}
use Rattle.limits.specs.Limits.{numeral_digits, numeral_decimals}
use Rattle.lists.specs.Text.{Digit}
use Rattle.lists.specs.Numerals.{reading}
use Rattle.lists.proofs.Lists.{all_append}
use Rattle.lists.proofs.Numerals.{reading_below}
use Rattle.xpath.specs.Meaning.{ByAmount}
use Rattle.xpath.proofs.Amounts.{amount_iff}
use Rattle.xpath.specs.Amounts.{Amount, amount, HasAmount, Below, AtMost}
use Rattle.xpath.specs.Reading.{amount_of}
use Rattle.numerals.specs.Keys.{bias, no_key, key_of}
use Rattle.numerals.proofs.Scans.{number_below}

-- ── How much a numeral can be ──
padded_small : (k m : ℕ) → k ≤ numeral_decimals → m < 10 ^ (numeral_digits + k) → m * 10 ^ (numeral_decimals - k) < bias
padded_small k m h l =
    let p : 1 ≤ 10 ^ (numeral_decimals - k) = pow-le-pow_right {n = 10} (lit< tt) {i = 0} (omega arith) in
    let e : numeral_digits + k + (numeral_decimals - k) ≡ numeral_digits + numeral_decimals = omega arith in
    subst (λ x. m * 10 ^ (numeral_decimals - k) < x) (sym (pow-add 10 (numeral_digits + k) (numeral_decimals - k)) ∙ ap (λ x. 10 ^ x) e)
    (mul-lt-mul_of_pos_right l (omega arith))

-- fewer ten-thousandths than the key of 0, above it and below it
pub record Small (a : Amount) : Type 0 where
  pub above : a.above < bias
  pub below : a.below < bias

amount_small : (minus : Bool) (n : ℕ) → n < bias → Small (amount minus n)
amount_small true n h = record { above = omega arith; below = h }
amount_small false n h = record { above = h; below = omega arith }

pub numeral_small : (bs : List ℕ) (a : Amount) → amount_of bs ≡ some a → Small a
numeral_small bs a e =
    subst Small (sym h.exact) (amount_small h.minus _ (padded_small (length h.decimals) (reading (h.whole ++ h.decimals)) h.fine (number_below _ _ _ few (omega (arith, h.few, length-append h.whole h.decimals)))))
  where
    h : HasAmount bs a
    h = (amount_iff bs a).1 e

    few : reading (h.whole ++ h.decimals) < 10 ^ length (h.whole ++ h.decimals)
    few = reading_below (h.whole ++ h.decimals) ((all_append Digit h.whole h.decimals).1 (h.whole_digits, h.decimal_digits))

-- ── The order of keys ──
pub small_key : {a : Amount} → Small a → key_of (some a) < no_key
small_key s = omega (arith, s.above, s.below)

pub small_less_iff : {a b : Amount} → Small a → Small b → Below a b ↔ (key_of (some a) < key_of (some b))
small_less_iff s t = ((λ h. omega (arith, s.below, t.below)), (λ h. omega (arith, s.below, t.below)))

pub small_at_most_iff : {a b : Amount} → Small a → Small b → AtMost a b ↔ (key_of (some a) ≤ key_of (some b))
small_at_most_iff s t = ((λ h. omega (arith, s.below, t.below)), (λ h. omega (arith, s.below, t.below)))

-- ── The keys of byte strings ──
module _ (bs : List ℕ) (a : Amount) (e : amount_of bs ≡ some a) where
  pub key_below : key_of (amount_of bs) < no_key
  key_below = rw e (small_key (numeral_small bs a e))

  module _ (cs : List ℕ) (b : Amount) (f : amount_of cs ≡ some b) where
    pub key_less_iff : Below a b ↔ (key_of (amount_of bs) < key_of (amount_of cs))
    key_less_iff = rw (e, f) (small_less_iff (numeral_small bs a e) (numeral_small cs b f))

    pub key_at_most_iff : AtMost a b ↔ (key_of (amount_of bs) ≤ key_of (amount_of cs))
    key_at_most_iff = rw (e, f) (small_at_most_iff (numeral_small bs a e) (numeral_small cs b f))

pub key_most : (bs : List ℕ) → key_of (amount_of bs) ≤ no_key
key_most bs = go (amount_of bs) refl
  where
    go : (o : Option Amount) → amount_of bs ≡ o → key_of o ≤ no_key
    go none e = omega arith
    go (some a) e = let h = small_key (numeral_small bs a e) in omega arith

-- ── The order signs, by keys ──
-- a relation of amounts that is one of their keys
module _ (R : Amount → Amount → Type 0) (K : ℕ → ℕ → Type 0)
    (keyed : (bs : List ℕ) (a : Amount) → amount_of bs ≡ some a → (cs : List ℕ) (b : Amount) → amount_of cs ≡ some b → R a b ↔ K (key_of (amount_of bs)) (key_of (amount_of cs))) where
  by_keys : (bs cs : List ℕ) → ByAmount R bs cs ↔ ((key_of (amount_of bs) < no_key) × (key_of (amount_of cs) < no_key) × K (key_of (amount_of bs)) (key_of (amount_of cs)))
  by_keys bs cs = (
    λ (a, b, h, i, r).
        let e = (amount_iff bs a).0 h in let f = (amount_iff cs b).0 i in
        (key_below bs a e, key_below cs b f, (keyed bs a e cs b f).0 r),
    λ (x, y, r). let (a, e) = has bs x in let (b, f) = has cs y in (a, b, (amount_iff bs a).1 e, (amount_iff cs b).1 f, (keyed bs a e cs b f).1 r),
  )
    where
      has : (ds : List ℕ) → key_of (amount_of ds) < no_key → (a : Amount) × (amount_of ds ≡ some a)
      has ds x = go (amount_of ds) x
        where
          go : (o : Option Amount) → key_of o < no_key → (a : Amount) × (o ≡ some a)
          go none x = absurd (omega arith)
          go (some a) x = (a, refl)

pub below_by_keys : (bs cs : List ℕ) → ByAmount Below bs cs ↔ ((key_of (amount_of bs) < no_key) × (key_of (amount_of cs) < no_key) × (key_of (amount_of bs) < key_of (amount_of cs)))
below_by_keys = by_keys Below (λ x y. x < y) key_less_iff

pub at_most_by_keys : (bs cs : List ℕ) → ByAmount AtMost bs cs ↔ ((key_of (amount_of bs) < no_key) × (key_of (amount_of cs) < no_key) × (key_of (amount_of bs) ≤ key_of (amount_of cs)))
at_most_by_keys = by_keys AtMost (λ x y. x ≤ y) key_at_most_iff
