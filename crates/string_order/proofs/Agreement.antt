-- How far two strings agree, byte by byte.
use Prim.Native.Nat.{ℕ, ◌+◌, ◌-◌, ◌≤◌, ◌<◌}
use mathlib.Core.Path.{◌≡◌, sym, ◌∙◌, subst}
use mathlib.Core.Logic.{◌≢◌}
use mathlib.Core.List.{List}
use native.Mathlib.Omega.{arith}
use native.Mathlib.Decide.{dec_lt}
use lib.ListN.{length, get_or, take, drop, length-drop}
use lib.Seq.{slice, take-take, length-take-le, get_or-take, get_or-drop, ext_get_or}
use Rattle.std.proofs.lemmas.List.{drop-take}
use Rattle.string_order.specs.Ordered.{Common, Begins, Agrees}

-- ── Parts that are lent ──
-- so many bytes from an offset on
abbrev pub part : ℕ → ℕ → List ℕ → List ℕ
part i most x = take (i + most - i) (drop i x)

pub part_byte : (i most m : ℕ) (x : List ℕ) → m < most → get_or (part i most x) m 0 ≡ get_or x (i + m) 0
part_byte i most m x h = get_or-take (i + most - i) (drop i x) m 0 (omega arith) ∙ get_or-drop i x m 0

pub part_length : (i most : ℕ) (x : List ℕ) → i + most ≤ length x → length (part i most x) ≡ most
part_length i most x h = let e = length-drop i x in let f : i + most - i ≡ most = omega arith in length-take-le (i + most - i) (drop i x) (omega arith) ∙ f

part_front : (i most k : ℕ) (x : List ℕ) → k ≤ most → take k (part i most x) ≡ slice i (i + k) x
part_front i most k x h = take-take k (i + most - i) (drop i x) (omega arith) ∙ sym (drop-take i k x)

-- ── The same bytes, and more of them ──
module _ (x y : List ℕ) where
  pub common_none : Common x y 0
  common_none m h = absurd (omega arith)

  pub common_join : (k l : ℕ) → Common x y k → Common (part k l x) (part k l y) l → Common x y (k + l)
  common_join k l a b m h = go (dec_lt m k)
    where
      go : Dec (m < k) → get_or x m 0 ≡ get_or y m 0
      go (yes r) = a m r
      go (no r) =
          let e : k + (m - k) ≡ m = omega arith in
          subst (λ (n : ℕ). get_or x n 0 ≡ get_or y n 0) e
          (sym (part_byte k l (m - k) x (omega arith)) ∙ b (m - k) (omega arith) ∙ part_byte k l (m - k) y (omega arith))

  pub common_more : (k : ℕ) → Common x y k → get_or x k 0 ≡ get_or y k 0 → Common x y (k + 1)
  common_more k a e m h = go (dec_lt m k)
    where
      go : Dec (m < k) → get_or x m 0 ≡ get_or y m 0
      go (yes r) = a m r
      go (no r) = let f : k ≡ m = omega arith in subst (λ (n : ℕ). get_or x n 0 ≡ get_or y n 0) f e

  -- ── At least so many ──
  pub begins_none : Begins x y 0
  begins_none = record { within = omega arith; common = common_none }

  pub begins_join : (k l : ℕ) → Begins x y k → k + l ≤ length x → Common (part k l x) (part k l y) l → Begins x y (k + l)
  begins_join k l a h b = record { within = h; common = common_join k l a.common b }

  pub begins_more : (k : ℕ) → Begins x y k → k < length x → get_or x k 0 ≡ get_or y k 0 → Begins x y (k + 1)
  begins_more k a h e = record { within = omega arith; common = common_more k a.common e }

  -- ── And no further one ──
  pub begins_all : (k : ℕ) → length x ≡ length y → Begins x y k → (k < length x → get_or x k 0 ≢ get_or y k 0) → Agrees x y k
  begins_all k l a d =
      let w = a.within in let m = length-take-le k x (omega arith) in let o = length-take-le k y (omega arith) in
      record {
        within = w;
        same = ext_get_or 0 (take k x) (take k y) (omega arith) (λ n z. get_or-take k x n 0 (omega arith) ∙ a.common n (omega arith) ∙ sym (get_or-take k y n 0 (omega arith)));
        differ = d;
      }

-- ── What parts that agree say of the whole ──
module _ (x y : List ℕ) (i j most k : ℕ) (l : i + most ≤ length x) (h : Agrees (part i most x) (part j most y) k) where
  pub parts_within : k ≤ most
  parts_within = let e = part_length i most x l in omega (arith, h.within)

  pub parts_same : slice i (i + k) x ≡ slice j (j + k) y
  parts_same = sym (part_front i most k x parts_within) ∙ h.same ∙ part_front j most k y parts_within

  pub parts_differ : k < most → get_or x (i + k) 0 ≢ get_or y (j + k) 0
  parts_differ m e =
      let f = part_length i most x l in
      h.differ (omega arith) (part_byte i most k x m ∙ e ∙ sym (part_byte j most k y m))
