-- Bytes where they stand, cut in two, and blanks with one more at either end.
use Prim.Native.Nat.{ℕ, suc, ◌+◌, ◌-◌, ◌≤◌, ◌<◌}
use mathlib.Core.Path.{◌≡◌, sym, ap, ◌∙◌, subst}
use mathlib.Core.List.{List, [], ◌∷◌, ◌++◌}
use native.Mathlib.Omega.{arith}
use lib.ListN.{length, get_or, take, drop, take-append-drop}
use lib.Seq.{slice, slice_empty, slice-cons, take-take, drop-append-le, length-take-le}
use Rattle.lists.specs.Blanks.{blank, Blanks}
use Rattle.lists.proofs.Lists.{all_append}

-- ── A stretch and the one behind it ──
pub slice_join : (s : List ℕ) (a b c : ℕ) → a ≤ b → b ≤ c → b ≤ length s → slice a c s ≡ slice a b s ++ slice b c s
slice_join s a b c i j h =
    let l = length-take-le b s h in
    ap (drop a) (sym (take-append-drop b (take c s)) ∙ ap (λ (x : List ℕ). x ++ slice b c s) (take-take b c s j)) ∙ drop-append-le a (take b s) (slice b c s) (omega arith)

pub slice_one : (s : List ℕ) (a : ℕ) → a < length s → slice a (a + 1) s ≡ get_or s a 0 ∷ []
slice_one s a h =
    let e : suc a ≡ a + 1 = omega arith in
    slice-cons a (a + 1) s 0 (omega arith) (omega arith) ∙ ap (λ (x : List ℕ). get_or s a 0 ∷ x) (subst (λ (t : ℕ). slice (suc a) t s ≡ []) e (slice_empty (suc a) s))

-- ── Blanks, and one more ──
module _ (s : List ℕ) where
  pub blanks_none : (a : ℕ) → Blanks (slice a a s)
  blanks_none a = subst Blanks (sym (slice_empty a s)) tt

  pub blanks_join : (a b c : ℕ) → a ≤ b → b ≤ c → b ≤ length s → Blanks (slice a b s) → Blanks (slice b c s) → Blanks (slice a c s)
  blanks_join a b c i j h p q = subst Blanks (sym (slice_join s a b c i j h)) ((all_append (λ x. x ≡ blank) (slice a b s) (slice b c s)).1 (p, q))

  blanks_one : (a : ℕ) → a < length s → get_or s a 0 ≡ blank → Blanks (slice a (a + 1) s)
  blanks_one a h e = subst Blanks (sym (slice_one s a h)) (e, tt)

  pub blanks_more : (a b : ℕ) → a ≤ b → b < length s → Blanks (slice a b s) → get_or s b 0 ≡ blank → Blanks (slice a (b + 1) s)
  blanks_more a b i h p e = blanks_join a b (b + 1) i (omega arith) (omega arith) p (blanks_one b h e)

  pub blanks_before : (b c : ℕ) → 0 < b → b ≤ c → b ≤ length s → Blanks (slice b c s) → get_or s (b - 1) 0 ≡ blank → Blanks (slice (b - 1) c s)
  blanks_before b c z j h p e =
      let w : (b - 1) + 1 ≡ b = omega arith in
      blanks_join (b - 1) b c (omega arith) j h (subst (λ (t : ℕ). Blanks (slice (b - 1) t s)) w (blanks_one (b - 1) (omega arith) e)) p
