-- One bit of one node is written: no other bit of the tests is touched.
use Prim.Native.Nat.{ℕ, suc, ◌+◌, ◌*◌, ◌/◌, ◌%◌, ◌≤◌, ◌<◌}
use mathlib.Core.Path.{◌≡◌, refl, sym, ap, ◌∙◌}
use mathlib.Core.Bool.{Bool}
use mathlib.Core.List.{List, [], ◌∷◌}
use native.Mathlib.Nat.{mul-le-mul_right}
use native.Mathlib.Omega.{arith}
use native.Mathlib.Decide.{ℕ_discrete, dec_lt}
use lib.ListN.{get_or}
use borrow.Author.Tests.{eq-eqb, ne_eqb}
use Rattle.bits.specs.Sets.{bit, is}
use Rattle.document_spec.specs.Binary.{pick}
use Rattle.layout.specs.Table.{TESTS}
use Rattle.layout.specs.Words.{cell, word, Wrote}
use Rattle.layout.proofs.Frames.{within_put}
use Rattle.test_bits.specs.Columns.{held, Noted}

-- two cells are one only in one column and for one node
one_cell : (n c d u v : ℕ) → u < n → v < n → cell n c u ≡ cell n d v → (c ≡ d) × (u ≡ v)
one_cell n c d u v l r e = go (dec_lt c d) (dec_lt d c)
  where
    go : Dec (c < d) → Dec (d < c) → (c ≡ d) × (u ≡ v)
    go (yes h) q = let m : suc c * n ≤ d * n = mul-le-mul_right n h in absurd (omega arith)
    go (no h) (yes q) = let m : suc d * n ≤ c * n = mul-le-mul_right n q in absurd (omega arith)
    go (no h) (no q) = let f : c ≡ d = omega arith in let g = ap (λ (x : ℕ). x * n) f in (f, omega arith)

pub noted : {n k v w r : ℕ} {b : Bool} {t t' : List ℕ} → k < 64 → v < n → w ≡ word t n (TESTS + k / 16) v
    → ((i : ℕ) → bit r i ≡ pick (is i (k % 16)) b (bit w i)) → Wrote ((cell n (TESTS + k / 16) v, r) ∷ []) t t' → Noted n k v b t t'
noted {n} {k} {v} {w} {r} {b} {t} {t'} h l e f p =
    record {
      here = now ∙ ap (λ (x : Bool). pick x b (bit w (k % 16))) (eq-eqb (k % 16) (k % 16) refl);
      others = λ i u g m a. go i u g m a (ℕ_discrete (cell n (TESTS + i / 16) u) (cell n (TESTS + k / 16) v));
      within = within_put (omega arith) (omega arith) l p;
    }
  where
    now : held t' n k v ≡ pick (is (k % 16) (k % 16)) b (bit w (k % 16))
    now = ap (λ (x : ℕ). bit x (k % 16)) p.here.0 ∙ f (k % 16)

    go : (i u : ℕ) → i < 64 → u < n → ¬ ((i ≡ k) × (u ≡ v)) → Dec (cell n (TESTS + i / 16) u ≡ cell n (TESTS + k / 16) v) → held t' n i u ≡ held t n i u
    go i u g m a (no d) = ap (λ (x : ℕ). bit x (i % 16)) (p.other (cell n (TESTS + i / 16) u) (d, tt))
    go i u g m a (yes d) =
        let (y, z) = one_cell n (TESTS + i / 16) (TESTS + k / 16) u v m l d in
        let apart : ¬ (i % 16 ≡ k % 16) = λ x. a (omega arith, z) in
        ap (λ (x : ℕ). bit x (i % 16)) (ap (λ (x : ℕ). get_or t' x 0) d ∙ p.here.0)
        ∙ f (i % 16)
        ∙ ap (λ (x : Bool). pick x b (bit w (i % 16))) (ne_eqb (i % 16) (k % 16) apart)
        ∙ ap (λ (x : ℕ). bit x (i % 16)) (e ∙ sym (ap (λ (x : ℕ). get_or t x 0) d))
