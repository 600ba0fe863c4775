-- The laws of amounts: a numeral has one, which reading its bytes gives, and amounts are in a total order.
use Prim.Native.Nat.{ℕ, suc, ◌+◌, ◌-◌, ◌*◌, ◌^◌, ◌≤◌, ◌<◌}
use mathlib.Core.Path.{◌≡◌, refl, sym, ap, ◌∙◌, subst, subst₂}
use mathlib.Core.Logic.{◌⊎◌, inl, inr, ◌↔◌}
use mathlib.Core.Bool.{Bool, true, false}
use mathlib.Core.Option.{Option, none, some, some-injective, none-ne-some}
use mathlib.Core.List.{List, [], ◌∷◌, ◌++◌, map}
use native.Mathlib.Omega.{arith}
use native.Mathlib.Decide.{ℕ_discrete, dec_lt}
use lib.ListN.{length}
use lib.Dec.{T, ltb, eqb}
use Rattle.lists.specs.Lists.{All}
use Rattle.lists.specs.Text.{Digit}
use Rattle.lists.specs.Numerals.{value_from, reading}
use Rattle.xpath.specs.Booleans.{both}
use Rattle.xpath.specs.Amounts.{signed, pointed, Amount, amount, HasAmount, Below, AtMost}
use Rattle.xpath.specs.Reading.{given, is_digit, decimals_from, whole_from, with_sign, amount_of}
use Rattle.xpath.proofs.Booleans.{T-both, eqb_iff, ltb_iff, ×-iff, trans}

-- ── Read byte by byte ──
given_iff : {A : Type 0} (b : Bool) (x : Option A) (a : A) → (given b x ≡ some a) ↔ (T b × (x ≡ some a))
given_iff true x a = (λ e. (tt, e), λ h. h.1)
given_iff false x a = (λ e. absurd (none-ne-some a e), λ h. absurd h.0)

digit_iff : (b : ℕ) → T (is_digit b) ↔ Digit b
digit_iff b =
    trans (T-both (ltb 47 b) (ltb b 58)) (trans (×-iff (ltb_iff 47 b) (ltb_iff b 58)) (λ h. (h.0, let l = h.1 in omega arith), λ h. (h.0, let l = h.1 in omega arith)))

abbrev digits : List ℕ → List ℕ
digits bs = map (λ b. b - 48) bs

some_iff : {A : Type 0} (x y : A) → (some x ≡ some y) ↔ (y ≡ x)
some_iff x y = (λ e. sym (some-injective x y e), λ e. ap {B = Option _} some (sym e))

-- bs are the other decimals of a numeral that has k of them so far
record DecimalsTo (k m : ℕ) (bs : List ℕ) (x : ℕ) : Type 0 where
  pub digital : All Digit bs
  pub some : 1 ≤ k + length bs
  pub fine : k + length bs ≤ 4
  pub exact : x ≡ value_from 10 m (digits bs) * 10 ^ (4 - (k + length bs))

decimals_none : (k m : ℕ) → decimals_from k m [] ≡ given (ltb 0 k) (some (m * 10 ^ (4 - k)))
unfolding decimals_from
decimals_none k m = refl

decimals_more : (k m b : ℕ) (bs : List ℕ) → decimals_from k m (b ∷ bs) ≡ given (both (is_digit b) (ltb k 4)) (decimals_from (suc k) (m * 10 + (b - 48)) bs)
unfolding decimals_from
decimals_more k m b bs = refl

decimals_iff : (k m : ℕ) (bs : List ℕ) (x : ℕ) → k ≤ 4 → (decimals_from k m bs ≡ some x) ↔ DecimalsTo k m bs x
decimals_iff k m [] x few = (
  λ e.
      let (l, y) = (given_iff (ltb 0 k) (some (m * 10 ^ (4 - k))) x).0 (sym (decimals_none k m) ∙ e) in
      let q = (ltb_iff 0 k).0 l in
      record { digital = tt; some = omega arith; fine = omega arith; exact = (some_iff (m * 10 ^ (4 - k)) x).0 y ∙ ap (λ (j : ℕ). m * 10 ^ (4 - j)) (omega arith) },
  λ h.
      let l = h.some in
      decimals_none k m ∙ (given_iff (ltb 0 k) (some (m * 10 ^ (4 - k))) x).1 ((ltb_iff 0 k).1 (omega arith), (some_iff (m * 10 ^ (4 - k)) x).1 (h.exact ∙ ap (λ (j : ℕ). m * 10 ^ (4 - j)) (omega arith))),
)
decimals_iff k m (b ∷ bs) x few = (
  λ e.
      let (l, y) = (given_iff (both (is_digit b) (ltb k 4)) (decimals_from (suc k) (m * 10 + (b - 48)) bs) x).0 (sym (decimals_more k m b bs) ∙ e) in
      let (d, f) = (T-both (is_digit b) (ltb k 4)).0 l in
      let h = (decimals_iff (suc k) (m * 10 + (b - 48)) bs x ((ltb_iff k 4).0 f)).0 y in
      let u = h.some in let v = h.fine in
      record { digital = ((digit_iff b).0 d, h.digital); some = omega arith; fine = omega arith; exact = h.exact ∙ ap (λ (j : ℕ). value_from 10 m (digits (b ∷ bs)) * 10 ^ (4 - j)) (omega arith) },
  λ h.
      let v = h.fine in let f : k < 4 = omega arith in
      let g : DecimalsTo (suc k) (m * 10 + (b - 48)) bs x = record { digital = h.digital.1; some = omega arith; fine = omega arith; exact = h.exact ∙ ap (λ (j : ℕ). value_from 10 m (digits (b ∷ bs)) * 10 ^ (4 - j)) (omega arith) } in
      decimals_more k m b bs
      ∙ (given_iff (both (is_digit b) (ltb k 4)) (decimals_from (suc k) (m * 10 + (b - 48)) bs) x).1 ((T-both (is_digit b) (ltb k 4)).1 ((digit_iff b).1 h.digital.0, (ltb_iff k 4).1 f), (decimals_iff (suc k) (m * 10 + (b - 48)) bs x f).1 g),
)

-- bs are the other digits of a numeral that has k before its point so far, and its decimals
record WholeTo (k m : ℕ) (bs : List ℕ) (x : ℕ) : Type 0 where
  pub whole : List ℕ
  pub decimals : List ℕ
  pub spelled : bs ≡ whole ++ pointed decimals
  pub whole_digits : All Digit whole
  pub decimal_digits : All Digit decimals
  pub some : 1 ≤ k + length whole
  pub few : k + length whole ≤ 9
  pub fine : length decimals ≤ 4
  pub exact : x ≡ value_from 10 m (digits (whole ++ decimals)) * 10 ^ (4 - length decimals)

whole_none : (k m : ℕ) → whole_from k m [] ≡ given (ltb 0 k) (some (m * 10 ^ 4))
unfolding whole_from
whole_none k m = refl

whole_digit : (k m b : ℕ) (bs : List ℕ) → T (is_digit b) → whole_from k m (b ∷ bs) ≡ given (ltb k 9) (whole_from (suc k) (m * 10 + (b - 48)) bs)
unfolding whole_from
whole_digit k m b bs h = go (is_digit b) h
  where
    go : (d : Bool) → T d → elim d [ true ↦ given (ltb k 9) (whole_from (suc k) (m * 10 + (b - 48)) bs) | false ↦ given (both (eqb b 46) (ltb 0 k)) (decimals_from 0 m bs) ] ≡ given (ltb k 9) (whole_from (suc k) (m * 10 + (b - 48)) bs)
    go true h = refl
    go false h = absurd h

whole_other : (k m b : ℕ) (bs : List ℕ) → ¬ T (is_digit b) → whole_from k m (b ∷ bs) ≡ given (both (eqb b 46) (ltb 0 k)) (decimals_from 0 m bs)
unfolding whole_from
whole_other k m b bs h = go (is_digit b) h
  where
    go : (d : Bool) → ¬ T d → elim d [ true ↦ given (ltb k 9) (whole_from (suc k) (m * 10 + (b - 48)) bs) | false ↦ given (both (eqb b 46) (ltb 0 k)) (decimals_from 0 m bs) ] ≡ given (both (eqb b 46) (ltb 0 k)) (decimals_from 0 m bs)
    go true h = absurd (h tt)
    go false h = refl

nothing : {b : ℕ} {bs : List ℕ} → ¬ ([] ≡ b ∷ bs)
nothing e = let z : ◌≡◌ {A = ℕ} 0 1 = cc in absurd (omega arith)

dec_T : (b : Bool) → Dec (T b)
dec_T true = yes tt
dec_T false = no (λ h. h)

module _ (k m : ℕ) (x : ℕ) where
  whole_empty : (ds es : List ℕ) → [] ≡ ds ++ pointed es → x ≡ value_from 10 m (digits (ds ++ es)) * 10 ^ (4 - length es) → 1 ≤ k + length ds → (0 < k) × (x ≡ m * 10 ^ 4)
  whole_empty [] [] e f s = (omega arith, f)
  whole_empty [] (c ∷ es) e f s = absurd (nothing e)
  whole_empty (d ∷ ds) es e f s = absurd (nothing e)

  module _ (b : ℕ) (bs : List ℕ) where
    -- the next byte is a digit before the point
    whole_on : WholeTo (suc k) (m * 10 + (b - 48)) bs x → Digit b → WholeTo k m (b ∷ bs) x
    whole_on h d =
        let u = h.some in let v = h.few in
        record {
          whole = b ∷ h.whole;
          decimals = h.decimals;
          spelled = ap (λ (cs : List ℕ). b ∷ cs) h.spelled;
          whole_digits = (d, h.whole_digits);
          decimal_digits = h.decimal_digits;
          some = omega arith;
          few = omega arith;
          fine = h.fine;
          exact = h.exact;
        }

    whole_back : Digit b → (ds es : List ℕ) → b ∷ bs ≡ ds ++ pointed es → All Digit ds → All Digit es → k + length ds ≤ 9 → length es ≤ 4
        → x ≡ value_from 10 m (digits (ds ++ es)) * 10 ^ (4 - length es) → (k < 9) × WholeTo (suc k) (m * 10 + (b - 48)) bs x
    whole_back d [] [] e f g few fine exact = absurd (nothing (sym e))
    whole_back d [] (c ∷ es) e f g few fine exact = let z : b ≡ 46 = cc in let l = d.0 in absurd (omega arith)
    whole_back d (c ∷ ds) es e f g few fine exact = (
      omega arith,
      record {
        whole = ds;
        decimals = es;
        spelled = cc;
        whole_digits = f.1;
        decimal_digits = g;
        some = omega arith;
        few = omega arith;
        fine = fine;
        exact = let z : c ≡ b = cc in subst (λ (y : ℕ). x ≡ value_from 10 (m * 10 + (y - 48)) (digits (ds ++ es)) * 10 ^ (4 - length es)) z exact;
      },
    )

    -- the next byte is the point
    point_on : 0 < k → k ≤ 9 → b ≡ 46 → (cs : List ℕ) → bs ≡ cs → DecimalsTo 0 m cs x → WholeTo k m (b ∷ bs) x
    point_on one few e [] f h = let l = h.some in absurd (omega arith)
    point_on one few e (c ∷ cs) f h =
        let l = h.fine in
        record {
          whole = [];
          decimals = c ∷ cs;
          spelled = cc;
          whole_digits = tt;
          decimal_digits = h.digital;
          some = omega arith;
          few = omega arith;
          fine = omega arith;
          exact = h.exact ∙ ap (λ (j : ℕ). value_from 10 m (digits (c ∷ cs)) * 10 ^ (4 - j)) (omega arith);
        }

    point_back : ¬ Digit b → (ds es : List ℕ) → b ∷ bs ≡ ds ++ pointed es → All Digit ds → All Digit es → 1 ≤ k + length ds → length es ≤ 4
        → x ≡ value_from 10 m (digits (ds ++ es)) * 10 ^ (4 - length es) → (b ≡ 46) × (0 < k) × DecimalsTo 0 m bs x
    point_back d [] [] e f g one fine exact = absurd (nothing (sym e))
    point_back d [] (c ∷ es) e f g one fine exact = (
      cc,
      omega arith,
      subst (λ (cs : List ℕ). DecimalsTo 0 m cs x) (let z : c ∷ es ≡ bs = cc in z) (record { digital = g; some = omega arith; fine = omega arith; exact = exact ∙ ap (λ (j : ℕ). value_from 10 m (digits (c ∷ es)) * 10 ^ (4 - j)) (omega arith) }),
    )
    point_back d (c ∷ ds) es e f g one fine exact = absurd (d (subst Digit (let z : c ≡ b = cc in z) f.0))

whole_iff : (k m : ℕ) (bs : List ℕ) (x : ℕ) → k ≤ 9 → (whole_from k m bs ≡ some x) ↔ WholeTo k m bs x
whole_iff k m [] x few = (
  λ e.
      let (l, y) = (given_iff (ltb 0 k) (some (m * 10 ^ 4)) x).0 (sym (whole_none k m) ∙ e) in
      let q = (ltb_iff 0 k).0 l in
      record { whole = []; decimals = []; spelled = refl; whole_digits = tt; decimal_digits = tt; some = omega arith; few = omega arith; fine = omega arith; exact = (some_iff (m * 10 ^ 4) x).0 y },
  λ h.
      let (l, e) = whole_empty k m x h.whole h.decimals h.spelled h.exact h.some in
      whole_none k m ∙ (given_iff (ltb 0 k) (some (m * 10 ^ 4)) x).1 ((ltb_iff 0 k).1 l, (some_iff (m * 10 ^ 4) x).1 e),
)
whole_iff k m (b ∷ bs) x few = go (dec_T (is_digit b)) (λ l. whole_iff (suc k) (m * 10 + (b - 48)) bs x l)
  where
    go : Dec (T (is_digit b)) → (suc k ≤ 9 → (whole_from (suc k) (m * 10 + (b - 48)) bs ≡ some x) ↔ WholeTo (suc k) (m * 10 + (b - 48)) bs x) → (whole_from k m (b ∷ bs) ≡ some x) ↔ WholeTo k m (b ∷ bs) x
    go (yes d) ih = (
      λ e.
          let (l, y) = (given_iff (ltb k 9) (whole_from (suc k) (m * 10 + (b - 48)) bs) x).0 (sym (whole_digit k m b bs d) ∙ e) in
          whole_on k m x b bs ((ih ((ltb_iff k 9).0 l)).0 y) ((digit_iff b).0 d),
      λ h.
          let (l, g) = whole_back k m x b bs ((digit_iff b).0 d) h.whole h.decimals h.spelled h.whole_digits h.decimal_digits h.few h.fine h.exact in
          whole_digit k m b bs d ∙ (given_iff (ltb k 9) (whole_from (suc k) (m * 10 + (b - 48)) bs) x).1 ((ltb_iff k 9).1 l, (ih l).1 g),
    )
    go (no d) ih = (
      λ e.
          let (l, y) = (given_iff (both (eqb b 46) (ltb 0 k)) (decimals_from 0 m bs) x).0 (sym (whole_other k m b bs d) ∙ e) in
          let (f, g) = (T-both (eqb b 46) (ltb 0 k)).0 l in
          point_on k m x b bs ((ltb_iff 0 k).0 g) few ((eqb_iff b 46).0 f) bs refl ((decimals_iff 0 m bs x (omega arith)).0 y),
      λ h.
          let (e, l, g) = point_back k m x b bs (λ z. d ((digit_iff b).1 z)) h.whole h.decimals h.spelled h.whole_digits h.decimal_digits h.some h.fine h.exact in
          whole_other k m b bs d ∙ (given_iff (both (eqb b 46) (ltb 0 k)) (decimals_from 0 m bs) x).1 ((T-both (eqb b 46) (ltb 0 k)).1 ((eqb_iff b 46).1 e, (ltb_iff 0 k).1 l), (decimals_iff 0 m bs x (omega arith)).1 g),
    )

-- ── A numeral has one amount, which reading it gives ──
sign_iff : (minus : Bool) (x : Option ℕ) (a : Amount) → (with_sign minus x ≡ some a) ↔ ((m : ℕ) × (x ≡ some m) × (a ≡ amount minus m))
sign_iff minus none a = (λ e. absurd (none-ne-some a e), λ h. absurd (none-ne-some h.0 h.1))
sign_iff minus (some m) a = (
  λ e. (m, refl, (some_iff (amount minus m) a).0 e),
  λ h. (some_iff (amount minus m) a).1 (h.2 ∙ ap (λ (k : ℕ). amount minus k) (sym (some-injective m h.0 h.1))),
)

amount_none : amount_of [] ≡ none
unfolding amount_of
amount_none = refl

amount_minus : (bs : List ℕ) → amount_of (45 ∷ bs) ≡ with_sign true (whole_from 0 0 bs)
unfolding amount_of
amount_minus bs = refl

amount_plain : (b : ℕ) (bs : List ℕ) → ¬ (b ≡ 45) → amount_of (b ∷ bs) ≡ with_sign false (whole_from 0 0 (b ∷ bs))
unfolding amount_of
amount_plain b bs h = go (eqb b 45) (λ z. h ((eqb_iff b 45).0 z))
  where
    go : (d : Bool) → ¬ T d → elim d [ true ↦ with_sign true (whole_from 0 0 bs) | false ↦ with_sign false (whole_from 0 0 (b ∷ bs)) ] ≡ with_sign false (whole_from 0 0 (b ∷ bs))
    go true h = absurd (h tt)
    go false h = refl

-- the amount with its sign, and the digits behind the sign
module _ (minus : Bool) (bs : List ℕ) (a : Amount) where
  to_amount : ((m : ℕ) × (whole_from 0 0 bs ≡ some m) × (a ≡ amount minus m)) → HasAmount (signed minus bs) a
  to_amount (m, e, f) =
      let h = (whole_iff 0 0 bs m (omega arith)).0 e in
      let u = h.some in let v = h.few in
      record {
        minus = minus;
        whole = h.whole;
        decimals = h.decimals;
        spelled = ap (signed minus) h.spelled;
        whole_digits = h.whole_digits;
        decimal_digits = h.decimal_digits;
        some = omega arith;
        few = omega arith;
        fine = h.fine;
        exact = f ∙ ap (λ (k : ℕ). amount minus k) h.exact;
      }

  from_amount : (ds es : List ℕ) → bs ≡ ds ++ pointed es → All Digit ds → All Digit es → 1 ≤ length ds → length ds ≤ 9 → length es ≤ 4
      → a ≡ amount minus (reading (ds ++ es) * 10 ^ (4 - length es)) → with_sign minus (whole_from 0 0 bs) ≡ some a
  from_amount ds es e f g one few fine exact =
      let m = reading (ds ++ es) * 10 ^ (4 - length es) in
      let h : WholeTo 0 0 bs m = record { whole = ds; decimals = es; spelled = e; whole_digits = f; decimal_digits = g; some = omega arith; few = omega arith; fine = fine; exact = refl } in
      (sign_iff minus (whole_from 0 0 bs) a).1 (m, (whole_iff 0 0 bs m (omega arith)).1 h, exact)

-- no sign stands in front of a digit
unsigned : (ds cs : List ℕ) → All Digit ds → 1 ≤ length ds → amount_of (ds ++ cs) ≡ with_sign false (whole_from 0 0 (ds ++ cs))
unsigned [] cs f one = absurd (omega arith)
unsigned (d ∷ ds) cs f one = let l = f.0.0 in amount_plain d (ds ++ cs) (λ e. omega arith)

pub amount_iff : (bs : List ℕ) (a : Amount) → HasAmount bs a ↔ (amount_of bs ≡ some a)
amount_iff bs a = (λ h. from h.minus h.whole h.decimals h.spelled h.whole_digits h.decimal_digits h.some h.few h.fine h.exact, to bs)
  where
    from : (minus : Bool) (ds es : List ℕ) → bs ≡ signed minus (ds ++ pointed es) → All Digit ds → All Digit es → 1 ≤ length ds → length ds ≤ 9 → length es ≤ 4
        → a ≡ amount minus (reading (ds ++ es) * 10 ^ (4 - length es)) → amount_of bs ≡ some a
    from true ds es e f g one few fine exact = ap amount_of e ∙ amount_minus (ds ++ pointed es) ∙ from_amount true (ds ++ pointed es) a ds es refl f g one few fine exact
    from false ds es e f g one few fine exact = ap amount_of e ∙ unsigned ds (pointed es) f one ∙ from_amount false (ds ++ pointed es) a ds es refl f g one few fine exact

    to : (bs : List ℕ) → amount_of bs ≡ some a → HasAmount bs a
    to [] e = absurd (none-ne-some a (sym amount_none ∙ e))
    to (b ∷ bs) e = go (ℕ_discrete b 45)
      where
        go : Dec (b ≡ 45) → HasAmount (b ∷ bs) a
        go (yes z) =
            subst (λ (c : ℕ). HasAmount (c ∷ bs) a) (sym z)
            (to_amount true bs a ((sign_iff true (whole_from 0 0 bs) a).0 (sym (amount_minus bs) ∙ ap (λ (c : ℕ). amount_of (c ∷ bs)) (sym z) ∙ e)))
        go (no z) = to_amount false (b ∷ bs) a ((sign_iff false (whole_from 0 0 (b ∷ bs)) a).0 (sym (amount_plain b bs z) ∙ e))

pub amount_one : {bs : List ℕ} {a b : Amount} → HasAmount bs a → HasAmount bs b → a ≡ b
amount_one {bs} {a} {b} h k = some-injective a b (sym ((amount_iff bs a).0 h) ∙ (amount_iff bs b).0 k)

-- ── The order of amounts is total ──
pub at_most_total : (a b : Amount) → AtMost a b ⊎ AtMost b a
at_most_total a b = go (dec_lt (a.above + b.below) (b.above + a.below))
  where
    go : Dec (Below a b) → AtMost a b ⊎ AtMost b a
    go (yes l) = inl (omega arith)
    go (no l) = inr (omega arith)

pub at_most_transitive : (a b c : Amount) → AtMost a b → AtMost b c → AtMost a c
at_most_transitive a b c h k = omega arith

pub at_most_reflexive : (a : Amount) → AtMost a a
at_most_reflexive a = omega arith

-- at most each other: the same amount
pub at_most_antisymmetric : {bs cs : List ℕ} {a b : Amount} → HasAmount bs a → HasAmount cs b → AtMost a b → AtMost b a → a ≡ b
at_most_antisymmetric {a = a} {b = b} h k u v =
    h.exact ∙ go h.minus k.minus _ _ (subst₂ AtMost h.exact k.exact u) (subst₂ AtMost k.exact h.exact v) ∙ sym k.exact
  where
    go : (i j : Bool) (m o : ℕ) → AtMost (amount i m) (amount j o) → AtMost (amount j o) (amount i m) → amount i m ≡ amount j o
    go true true m o u v = ap (amount true) (omega arith)
    go true false m o u v = let e : m ≡ 0 = omega arith in let f : o ≡ 0 = omega arith in ap (amount true) e ∙ ap (amount false) (sym f)
    go false true m o u v = let e : m ≡ 0 = omega arith in let f : o ≡ 0 = omega arith in ap (amount false) e ∙ ap (amount true) (sym f)
    go false false m o u v = ap (amount false) (omega arith)

-- less is not at least
pub below_iff : (a b : Amount) → Below a b ↔ (¬ AtMost b a)
below_iff a b = (λ h k. omega arith, λ h. omega arith)
