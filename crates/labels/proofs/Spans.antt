-- Two spans of bytes are the same exactly if they are as long and agree byte by byte. A span as the code takes it: so many bytes from an offset on.
use Prim.Native.Nat.{ℕ, ◌+◌, ◌-◌, ◌≤◌, ◌<◌}
use mathlib.Core.Path.{◌≡◌, sym, ap, ◌∙◌}
use mathlib.Core.List.{List}
use native.Mathlib.Omega.{arith}
use lib.ListN.{length, get_or, take, drop}
use lib.Seq.{slice, length-slice, get_or-take, get_or-drop, ext_get_or}
use Rattle.std.proofs.lemmas.List.{drop-take}

slice_at : (f t : ℕ) (s : List ℕ) (k : ℕ) → f + k < t → get_or (slice f t s) k 0 ≡ get_or s (f + k) 0
slice_at f t s k h = get_or-drop f (take t s) k 0 ∙ get_or-take t s (f + k) 0 h

module _ (s r : List ℕ) (f t a e : ℕ) where
  pub slices_long : t ≤ length s → e ≤ length r → slice f t s ≡ slice a e r → t - f ≡ e - a
  slices_long h l q = sym (length-slice f t s h) ∙ ap length q ∙ length-slice a e r l

  pub slices_agree : slice f t s ≡ slice a e r → (k : ℕ) → f + k < t → a + k < e → get_or s (f + k) 0 ≡ get_or r (a + k) 0
  slices_agree q k h l = sym (slice_at f t s k h) ∙ ap (λ (x : List ℕ). get_or x k 0) q ∙ slice_at a e r k l

  pub slices_same : t ≤ length s → e ≤ length r → t - f ≡ e - a → ((k : ℕ) → k < t - f → get_or s (f + k) 0 ≡ get_or r (a + k) 0)
      → slice f t s ≡ slice a e r
  slices_same h l q g =
      let m = length-slice f t s h in let o = length-slice a e r l in
      ext_get_or 0 (slice f t s) (slice a e r) (m ∙ q ∙ sym o)
      (λ k z. slice_at f t s k (omega arith) ∙ g k (omega arith) ∙ sym (slice_at a e r k (omega arith)))

pub span_taken : (f t : ℕ) (s : List ℕ) → f ≤ t → take (t - f) (drop f s) ≡ slice f t s
span_taken f t s h = let e : f + (t - f) ≡ t = omega arith in sym (drop-take f (t - f) s) ∙ ap (λ n. drop f (take n s)) e
