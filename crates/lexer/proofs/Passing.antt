-- Bytes of a class, one further and a stretch further.
use Prim.Native.Nat.{ℕ, ◌+◌, ◌-◌, ◌≤◌, ◌<◌}
use mathlib.Core.List.{List}
use mathlib.Core.Path.{◌≡◌, subst}
use lib.ListN.{length, get_or}
use lib.Dec.{T}
use native.Mathlib.Decide.{dec_lt}
use native.Mathlib.Omega.{arith}
use Rattle.lexer.specs.declared.Class.{Class}
use Rattle.lexer.specs.Reading.{in_class, AllIn, Passed}

module _ (k : Class) (s : List ℕ) (i j : ℕ) where
  pub in_join : (l : ℕ) → AllIn k s i j → AllIn k s j l → AllIn k s i l
  in_join l a b m p q = go (dec_lt m j)
    where
      go : Dec (m < j) → T (in_class k (get_or s m 0))
      go (yes r) = a m p r
      go (no r) = b m (omega arith) q

  in_one : T (in_class k (get_or s j 0)) → AllIn k s j (j + 1)
  in_one h m p q = let z : j ≡ m = omega arith in subst (λ x. T (in_class k (get_or s x 0))) z h

  pub in_more : AllIn k s i j → T (in_class k (get_or s j 0)) → AllIn k s i (j + 1)
  in_more a h = in_join (j + 1) a (in_one h)

pub passed_none : (k : Class) (s : List ℕ) (i most : ℕ) → i ≤ length s → Passed k most s i i
passed_none k s i most h = record { from = omega arith; inside = h; short = omega arith; fits = λ m p q. absurd (omega arith) }

pub passed_join : (k : Class) (s : List ℕ) (i j most l : ℕ) → Passed k most s i j → j ≤ l → l ≤ length s → l - i ≤ most → AllIn k s j l → Passed k most s i l
passed_join k s i j most l p f n h b = record { from = omega (arith, p.from); inside = n; short = h; fits = in_join k s i j l p.fits b }

pub passed_more : (k : Class) (s : List ℕ) (i j most : ℕ) → Passed k most s i j → j < length s → j + 1 - i ≤ most → T (in_class k (get_or s j 0)) → Passed k most s i (j + 1)
passed_more k s i j most p r h t = passed_join k s i j most (j + 1) p (omega arith) (omega arith) h (in_one k s i j t)
