-- Bytes that stand at an offset, and what is behind them.
use Prim.Native.Nat.{ℕ, suc, ◌+◌, ◌-◌, ◌*◌, ◌^◌, ◌≤◌, ◌<◌}
use mathlib.Core.Path.{◌≡◌, refl, sym, ap, ap₂, ◌∙◌, subst}
use mathlib.Core.Bool.{false}
use mathlib.Core.List.{List, [], ◌∷◌, ◌++◌, map, append_assoc}
use lib.ListN.{length, get_or, take, drop, length-drop, length-append, take-append-drop, get_or-append, drop_of_length-le}
use lib.Seq.{get_or-drop, get_or-take, drop-drop, drop-cons, get_or-append_seam, length-take-le, slice, slice-cons, slice_empty, take-add, take-append_seam, drop_at}
use lib.Dec.{T, lit<}
use native.Mathlib.Omega.{arith}
use native.Mathlib.Numerals.{add-one}
use native.Mathlib.Nat.{pow-le-pow_right}
use Rattle.lists.specs.Numerals.{value_from}
use native.Mathlib.Decide.{dec_lt}
use Rattle.lists.proofs.Indices.{all_at, at_all}
use Rattle.std.specs.Prelude.{Some, None}
use Rattle.lexer.specs.declared.Class.{Class}
use Rattle.lexer.specs.Reading.{Ended, in_class, AllIn, Run}
use Rattle.lexer.proofs.Classes.{lf_out}

module _ (s : List ℕ) (at i : ℕ) (k : Class) (most : ℕ) (from : at ≤ i) (passed : AllIn k s at i) where
  -- the LF at i ends the run
  pub run_ends : i < length s → get_or s i 0 ≡ 10 → i - at ≤ most → Ended (Run k most) s at (Some (i + 1))
  run_ends r e h =
      let l = take (i - at) (drop at s) in
      let n : length l ≡ i - at = length-take-le (i - at) (drop at s) (omega (arith, length-drop at s)) in
      let step : drop i s ≡ 10 ∷ drop (i + 1) s = drop-cons s i 0 r ∙ ap₂ (λ (x m : ℕ). x ∷ drop m s) e (sym (add-one i)) in
      let w : at + (i - at) ≡ i = omega arith in
      let q : drop (i - at) (drop at s) ≡ drop i s = drop-drop (i - at) at s ∙ ap (λ m. drop m s) w in (
        l ++ 10 ∷ [],
        record {
          field = l;
          all = all_at 0 (λ b. T (in_class k b)) l (λ j p. subst (λ b. T (in_class k b)) (sym (get_or-take (i - at) (drop at s) j 0 (omega arith) ∙ get_or-drop at s j 0)) (passed (at + j) (omega arith) (omega arith)));
          short = omega arith;
          line = refl;
        },
        record { inside = omega arith; spelled = sym (take-append-drop (i - at) (drop at s)) ∙ ap (λ m. l ++ m) (q ∙ step) ∙ sym (append_assoc l (10 ∷ []) (drop (i + 1) s)) },
      )

  -- a run from at on ends at or behind i; where that cannot be, there is none
  pub run_never : ((m : ℕ) → i ≤ at + m → m ≤ most → at + m < length s → get_or s (at + m) 0 ≡ 10 → ((j : ℕ) → j < m → T (in_class k (get_or s (at + j) 0))) → ⊥)
      → Ended (Run k most) s at None
  run_never stop l r f e = go (dec_lt (at + length f.field) i)
    where
      x : List ℕ
      x = f.field

      spelled : drop at s ≡ x ++ 10 ∷ r
      spelled = e ∙ ap (λ (y : List ℕ). y ++ r) f.line ∙ append_assoc x (10 ∷ []) r

      byte : (j : ℕ) → get_or s (at + j) 0 ≡ get_or (x ++ 10 ∷ r) j 0
      byte j = sym (get_or-drop at s j 0) ∙ ap (λ (y : List ℕ). get_or y j 0) spelled

      here : get_or s (at + length x) 0 ≡ 10
      here = byte (length x) ∙ get_or-append_seam x 10 r 0

      long : at + length x < length s
      long = omega (arith, length-drop at s, ap length spelled, length-append x (10 ∷ r))

      before : (j : ℕ) → j < length x → T (in_class k (get_or s (at + j) 0))
      before j q = subst (λ b. T (in_class k b)) (sym (byte j ∙ get_or-append x (10 ∷ r) 0 j q)) (at_all 0 (λ b. T (in_class k b)) x f.all j q)

      go : Dec (at + length x < i) → ⊥
      go (yes q) = subst T (lf_out k) (subst (λ b. T (in_class k b)) here (passed (at + length x) (omega arith) q))
      go (no q) = stop (length x) (omega arith) f.short long here before

  -- a byte that is neither of the class nor the LF
  pub run_stops : ¬ (get_or s i 0 ≡ 10) → in_class k (get_or s i 0) ≡ false → Ended (Run k most) s at None
  run_stops ne e = run_never (λ m p q r h f. go m p h f (dec_lt i (at + m)))
    where
      go : (m : ℕ) → i ≤ at + m → get_or s (at + m) 0 ≡ 10 → ((j : ℕ) → j < m → T (in_class k (get_or s (at + j) 0))) → Dec (i < at + m) → ⊥
      go m p h f (yes r) =
          let z : at + (i - at) ≡ i = omega arith in
          subst T e (subst (λ x. T (in_class k (get_or s x 0))) z (f (i - at) (omega arith)))
      go m p h f (no r) = let z : at + m ≡ i = omega arith in ne (subst (λ x. get_or s x 0 ≡ 10) z h)

-- ── Numerals ──
-- reading a byte more: what was read so far, times ten, plus the digit
pub reading_step : (s : List ℕ) (i j n : ℕ) → i < j → j ≤ length s
    → value_from 10 n (map (λ b. b - 48) (slice i j s)) ≡ value_from 10 (n * 10 + (get_or s i 0 - 48)) (map (λ b. b - 48) (slice (i + 1) j s))
reading_step s i j n h k = ap (λ (l : List ℕ). value_from 10 n (map (λ b. b - 48) l)) (slice-cons i j s 0 h k) ∙ ap (λ (m : ℕ). value_from 10 (n * 10 + (get_or s i 0 - 48)) (map (λ b. b - 48) (slice m j s))) (sym (add-one i))

-- nothing is left to read, of a part and of what is behind an index
pub reading_end : (s : List ℕ) (i j n : ℕ) → i ≡ j → value_from 10 n (map (λ b. b - 48) (slice i j s)) ≡ n
reading_end s i j n e = ap (λ (m : ℕ). value_from 10 n (map (λ b. b - 48) (slice m j s))) e ∙ ap (λ (l : List ℕ). value_from 10 n (map (λ b. b - 48) l)) (slice_empty j s)

pub reading_over : (l : List ℕ) (i n : ℕ) → length l ≤ i → value_from 10 n (map (λ b. b - 48) (drop i l)) ≡ n
reading_over l i n h = ap (λ (x : List ℕ). value_from 10 n (map (λ b. b - 48) x)) (drop_of_length-le l h)

pub ten_more : (n d k m : ℕ) → n < 10 ^ k → d < 10 → m ≡ suc k → n * 10 + d < 10 ^ m
ten_more n d k m h g e = subst (λ x. n * 10 + d < 10 ^ x) (sym e) (omega (arith, h, g))

pub ten_small : (n k : ℕ) → n < 10 ^ k → k ≤ 5 → n < 100000
ten_small n k h g = omega (arith, h, pow-le-pow_right {n = 10} (lit< tt) g)

-- what stands at an offset, as a slice
pub slice_of : (s : List ℕ) (i : ℕ) (a r : List ℕ) → i ≤ length s → drop i s ≡ a ++ r → slice i (i + length a) s ≡ a
slice_of s i a r h e =
    ap (drop i) (take-add i (length a) s ∙ ap (λ (y : List ℕ). take i s ++ y) (ap (take (length a)) e ∙ take-append_seam a r)) ∙ drop_at (take i s) a i (length-take-le i s h)
