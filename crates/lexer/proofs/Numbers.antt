-- A run of digits is the numeral of the number that it makes, or none.
use Prim.Native.Nat.{ℕ, ◌+◌, ◌-◌, ◌^◌, ◌≤◌, ◌<◌}
use mathlib.Core.Path.{◌≡◌, refl, sym, ap, ◌∙◌, subst}
use mathlib.Core.Logic.{◌⊎◌, inl, inr}
use mathlib.Core.Bool.{Bool, true, false, ◌&&◌}
use mathlib.Core.List.{List, [], ◌∷◌, ◌++◌, append_assoc}
use lib.ListN.{length, get_or, drop, length-drop, length-append, length-map, get_or-append}
use lib.Seq.{get_or-drop, slice}
use lib.Dec.{T, ltb, eqb}
use native.Mathlib.Omega.{arith}
use native.Mathlib.Nat.{pow-le-pow_right}
use lib.Dec.{lit<}
use borrow.Author.Tests.{ltb-true, ltb-false, eqb-true, eqb-false, le-leb}
use Rattle.lists.specs.Lists.{All}
use Rattle.lists.specs.Text.{Digit, decimal, digits}
use Rattle.lists.specs.Numerals.{reading}
use Rattle.lists.proofs.Lists.{all_imp}
use Rattle.lists.proofs.Numerals.{Decimal, decimal_decimal, decimal_digits_lem, decimal_reading, decimal_short, digits_above}
use Rattle.std.specs.Prelude.{Some, None}
use Rattle.lexer.specs.declared.Class.{Class}
use Rattle.lexer.specs.declared.Class.TheVariants as Classes
use Rattle.lexer.specs.Reading.{Ended, in_class, Run, Digits, zero_led, numeral_line, Numbered}
use Rattle.lexer.proofs.Classes.{between_is, lf_out}
use Rattle.lists.proofs.Indices.{at_all}
use Rattle.lexer.proofs.Laws.{slice_of}

-- ── A run that was read ──
pub record Found (k : Class) (most : ℕ) (s : List ℕ) (at j : ℕ) : Type 0 where
  pub field : List ℕ
  pub all : All (λ b. T (in_class k b)) field
  pub short : length field ≤ most
  pub next : j ≡ at + length field + 1
  pub inside : j ≤ length s
  pub spelled : drop at s ≡ field ++ 10 ∷ drop j s
  pub slices : slice at (j - 1) s ≡ field

pub found : (k : Class) (most : ℕ) (s : List ℕ) (at j : ℕ) → at ≤ length s → Ended (Run k most) s at (Some j) → Found k most s at j
found k most s at j r (l, f, p) = record { field = x; all = f.all; short = f.short; next = next; inside = p.inside; spelled = spelled; slices = slices }
  where
    x : List ℕ
    x = f.field

    spelled : drop at s ≡ x ++ 10 ∷ drop j s
    spelled = p.spelled ∙ ap (λ (y : List ℕ). y ++ drop j s) f.line ∙ append_assoc x (10 ∷ []) (drop j s)

    next : j ≡ at + length x + 1
    next = omega (arith, p.inside, length-drop at s, length-drop j s, ap length spelled, length-append x (10 ∷ drop j s))

    slices : slice at (j - 1) s ≡ x
    slices = let e : j - 1 ≡ at + length x = omega (arith, next) in ap (λ (n : ℕ). slice at n s) e ∙ slice_of s at x (10 ∷ drop j s) r spelled

pub byte_at : {k : Class} {most : ℕ} {s : List ℕ} {at j : ℕ} (f : Found k most s at j) (i : ℕ) → i < length f.field → get_or f.field i 0 ≡ get_or s (at + i) 0
byte_at {s = s} {at = at} {j = j} f i r =
    sym (get_or-append f.field (10 ∷ drop j s) 0 i r) ∙ ap (λ (y : List ℕ). get_or y i 0) (sym f.spelled) ∙ get_or-drop at s i 0

-- ── One line ──
-- what stands before the first LF is one
pub before_lf : (x y r q : List ℕ) → All (λ b. ¬ (b ≡ 10)) x → All (λ b. ¬ (b ≡ 10)) y → x ++ 10 ∷ r ≡ y ++ 10 ∷ q → x ≡ y
before_lf [] [] r q f g e = refl
before_lf [] (b ∷ y) r q f g e = absurd (g.0 (cc))
before_lf (a ∷ x) [] r q f g e = absurd (f.0 (cc))
before_lf (a ∷ x) (b ∷ y) r q f g e =
    let h : a ≡ b = cc in let t : x ++ 10 ∷ r ≡ y ++ 10 ∷ q = cc in
    let i = before_lf x y r q f.1 g.1 t in (cc)

pub no_lf : (k : Class) (x : List ℕ) → All (λ b. T (in_class k b)) x → All (λ b. ¬ (b ≡ 10)) x
no_lf k x = all_imp (λ b. T (in_class k b)) (λ b. ¬ (b ≡ 10)) (λ b h e. subst T (lf_out k) (subst (λ c. T (in_class k c)) e h)) x

digit_class : (b : ℕ) → Digit b → T (in_class Classes.Digit b)
digit_class b h = let e : in_class Classes.Digit b ≡ true = simp (le-leb 48 b h.0, le-leb b 57 h.1) in subst T (sym e) tt

decimal_run : (n : ℕ) → All (λ b. T (in_class Classes.Digit b)) (decimal n)
decimal_run n = all_imp Digit (λ b. T (in_class Classes.Digit b)) digit_class (decimal n) (decimal_digits_lem n)

decimal_above : (n : ℕ) → n < 10 ^ length (decimal n)
unfolding decimal
decimal_above n = subst (λ x. n < 10 ^ x) (sym (length-map (digits 10 n) (λ d. 48 + d))) (digits_above 10 (lit< tt) n)

both_true : (a b : Bool) → a && b ≡ true → (a ≡ true) × (b ≡ true)
both_true true b e = (refl, e)
both_true false b e = absurd (subst T (sym e) tt)

module _ (most : ℕ) (some : 0 < most) (s : List ℕ) (at : ℕ) where
  -- no run of digits, no numeral
  pub number_none : Ended (Run Classes.Digit most) s at None → Numbered most s at None
  number_none f n r h e = f (numeral_line n) r (record { field = decimal n; all = decimal_run n; short = decimal_short n most h some; line = refl }) e

  module _ (j : ℕ) (f : Found Classes.Digit most s at j) where
    abbrev x : List ℕ
    x = f.field

    -- a numeral that begins here is the run
    run_is : (n : ℕ) (r : List ℕ) → drop at s ≡ numeral_line n ++ r → x ≡ decimal n
    run_is n r e =
        before_lf x (decimal n) (drop j s) r (no_lf Classes.Digit x f.all) (no_lf Classes.Digit (decimal n) (decimal_run n))
        (sym f.spelled ∙ e ∙ append_assoc (decimal n) (10 ∷ []) r)

    pub number_empty : j - 1 ≡ at → Numbered most s at None
    number_empty q n r h e = go x (run_is n r e) (omega (arith, f.next))
      where
        go : (y : List ℕ) → y ≡ decimal n → length y ≡ 0 → ⊥
        go [] i l = subst Decimal (sym i) (decimal_decimal n)
        go (b ∷ y) i l = omega arith

    pub number_zero : zero_led s at (j - 1) ≡ true → Numbered most s at None
    number_zero q n r h e = go x (run_is n r e) (λ k. first_byte k) (omega (arith, f.next, more))
      where
        halves : (ltb (at + 1) (j - 1) ≡ true) × (eqb (get_or s at 0) 48 ≡ true)
        halves = both_true (ltb (at + 1) (j - 1)) (eqb (get_or s at 0) 48) q

        more : at + 1 < j - 1
        more = ltb-true (at + 1) (j - 1) halves.0

        first_byte : (k : ℕ) → k ≡ 0 → get_or x k 0 ≡ 48
        first_byte k z = byte_at f k (omega (arith, f.next, more)) ∙ let w : at + k ≡ at = omega arith in ap (λ (i : ℕ). get_or s i 0) w ∙ eqb-true (get_or s at 0) 48 halves.1

        go : (y : List ℕ) → y ≡ decimal n → ((k : ℕ) → k ≡ 0 → get_or y k 0 ≡ 48) → 1 < length y → ⊥
        go [] i z l = omega arith
        go (b ∷ y) i z l = lead (z 0 refl) (subst Decimal (sym i) (decimal_decimal n)).1
          where
            lead : b ≡ 48 → (48 < b) ⊎ (y ≡ []) → ⊥
            lead p (inl o) = omega arith
            lead p (inr o) = omega (arith, ap length o)

    pub number_value : ¬ (j - 1 ≡ at) → zero_led s at (j - 1) ≡ false → Numbered most s at (Some (record { value = reading (slice at (j - 1) s); next = j }))
    number_value ne q = (bound, record { inside = f.inside; spelled = spelled })
      where
        n : ℕ
        n = reading (slice at (j - 1) s)

        whole : decimal n ≡ x
        whole = ap (λ (y : List ℕ). decimal (reading y)) f.slices ∙ decimal_reading x (leads x f.all refl (omega (arith, f.next)))
          where
            -- the first byte is not 0, or it is alone
            first : (b : ℕ) (y : List ℕ) → x ≡ b ∷ y → (48 ≤ b) × (b ≤ 57) → (c d : Bool) → ltb (at + 1) (j - 1) ≡ c → eqb (get_or s at 0) 48 ≡ d → c && d ≡ false → (48 < b) ⊎ (y ≡ [])
            first b y i g true true u w z = absurd (subst T z tt)
            first b y i g true false u w z =
                let k : get_or s at 0 ≡ b = ap (λ (m : ℕ). get_or s m 0) (let w : at ≡ at + 0 = omega arith in w) ∙ sym (byte_at f 0 (omega (arith, ap length i))) ∙ ap (λ (l : List ℕ). get_or l 0 0) i in
                let v : ¬ (b ≡ 48) = λ o. eqb-false (get_or s at 0) 48 w (k ∙ o) in
                inl (omega arith)
            first b y i g false d u w z = inr (empty y (omega (arith, f.next, ap length i, ltb-false (at + 1) (j - 1) u)))
              where
                empty : (y : List ℕ) → length y ≡ 0 → y ≡ []
                empty [] o = refl
                empty (c ∷ y) o = absurd (omega arith)

            leads : (y : List ℕ) → All (λ b. T (in_class Classes.Digit b)) y → x ≡ y → 0 < length x → Decimal y
            leads [] a i l = omega (arith, ap length i)
            leads (b ∷ y) a i l = (all_imp (λ b. T (in_class Classes.Digit b)) Digit (λ b. between_is 48 57 b) (b ∷ y) a, first b y i (between_is 48 57 b a.0) (ltb (at + 1) (j - 1)) (eqb (get_or s at 0) 48) refl refl q)

        bound : n < 10 ^ most
        bound = let h : 10 ^ length (decimal n) ≤ 10 ^ most = pow-le-pow_right {n = 10} (lit< tt) (subst (λ (y : List ℕ). length y ≤ most) (sym whole) f.short) in omega (arith, h, decimal_above n)

        spelled : drop at s ≡ numeral_line n ++ drop j s
        spelled = f.spelled ∙ ap (λ (y : List ℕ). y ++ 10 ∷ drop j s) (sym whole) ∙ sym (append_assoc (decimal n) (10 ∷ []) (drop j s))

-- a run of at most five digits may be read as a number
pub digits_of : {most : ℕ} {s : List ℕ} {at j : ℕ} → Found Classes.Digit most s at j → most ≤ 5 → Digits s at (j - 1)
digits_of {most} {s} {at} {j} f h = record {
  from = let n = f.next in omega arith;
  inside = let i = f.inside in omega arith;
  few = let n = f.next in let l = f.short in omega arith;
  digits = λ m p q. let n = f.next in let w : at + (m - at) ≡ m = omega arith in
      subst (λ i. T (in_class Classes.Digit (get_or s i 0))) w
      (subst (λ b. T (in_class Classes.Digit b)) (byte_at f (m - at) (omega arith)) (at_all 0 (λ b. T (in_class Classes.Digit b)) f.field f.all (m - at) (omega arith)));
}
