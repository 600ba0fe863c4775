-- The least place in a list at which something is B, found by a test.
use Prim.Native.Nat.{ℕ, ◌≤◌}
use native.Mathlib.Omega.{arith}
use native.Mathlib.Nat.{le_refl}
use mathlib.Core.Path.{◌≡◌, refl, sym, ◌∙◌, subst}
use mathlib.Core.Logic.{inl, inr, ◌↔◌, ⊎_elim}
use mathlib.Core.Bool.{Bool, true, false}
use mathlib.Core.Option.{Option, none, some}
use mathlib.Core.List.{List, [], ◌∷◌}
use lib.Dec.{leb}
use borrow.Author.Tests.{leb-true, leb-false}
use Rattle.lists.specs.Lists.{Occurs}
use Rattle.rule_spec.specs.Bytes.{choose}
use Rattle.rule_spec.proofs.Bytes.{clash}

-- ── What is to be found ──
-- C holds at the number found and at no other, and nowhere if none is found
abbrev pub Settles : (ℕ → Type 0) → Option ℕ → Type 0
Settles C none = (o : ℕ) → ¬ C o
Settles C (some o) = C o × ((i : ℕ) → C i → i ≡ o)

module _ {A : Type 0} (at : A → ℕ) where
  pub record Least (B : A → Type 0) (xs : List A) (o : ℕ) : Type 0 where
    pub one : A
    pub among : Occurs one xs
    pub fits : B one
    pub here : at one ≡ o
    pub first : (a : A) → Occurs a xs → B a → o ≤ at a

  -- ── The search ──
  abbrev lower : ℕ → Option ℕ → ℕ
  lower n none = n
  lower n (some m) = choose (leb n m) n m

  unfoldable pub least_of : (A → Bool) → List A → Option ℕ
  least_of t [] = none
  least_of t (x ∷ xs) = choose (t x) (some (lower (at x) (least_of t xs))) (least_of t xs)

  -- ── It finds the least place ──
  module _ (B : A → Type 0) (t : A → Bool) (e : (a : A) → (t a ≡ true) ↔ B a) where
    abbrev Found : List A → Option ℕ → Type 0
    Found xs none = (a : A) → Occurs a xs → ¬ B a
    Found xs (some o) = Least B xs o

    each : (P : A → Type 0) (x : A) (xs : List A) → P x → ((a : A) → Occurs a xs → P a) → (a : A) → Occurs a (x ∷ xs) → P a
    each P x xs h k a o = ⊎_elim (λ e. subst P (sym e) h) (k a) o

    skip : (x : A) (xs : List A) → ¬ B x → (r : Option ℕ) → Found xs r → Found (x ∷ xs) r
    skip x xs n none h = each (λ a. ¬ B a) x xs n h
    skip x xs n (some o) h =
        record { one = h.one; among = inr h.among; fits = h.fits; here = h.here; first = each (λ a. B a → o ≤ at a) x xs (λ b. absurd (n b)) h.first }

    meet : (x : A) (xs : List A) → B x → (r : Option ℕ) → Found xs r → Least B (x ∷ xs) (lower (at x) r)
    meet x xs b none h =
        record { one = x; among = inl refl; fits = b; here = refl; first = each (λ a. B a → at x ≤ at a) x xs (λ b. le_refl (at x)) (λ a o c. absurd (h a o c)) }
    meet x xs b (some o) h = go (leb (at x) o) refl
      where
        go : (u : Bool) → leb (at x) o ≡ u → Least B (x ∷ xs) (choose u (at x) o)
        go true p = record {
          one = x;
          among = inl refl;
          fits = b;
          here = refl;
          first = each (λ a. B a → at x ≤ at a) x xs (λ b. le_refl (at x)) (λ a i c. let l = leb-true (at x) o p in let k = h.first a i c in omega arith);
        }
        go false p = record {
          one = h.one;
          among = inr h.among;
          fits = h.fits;
          here = h.here;
          first = each (λ a. B a → o ≤ at a) x xs (λ b. let l = leb-false (at x) o p in omega arith) h.first;
        }

    found : (xs : List A) → Found xs (least_of t xs)
    unfolding least_of
    found [] = λ a o b. o
    found (x ∷ xs) = go (t x) refl (found xs)
      where
        go : (u : Bool) → t x ≡ u → Found xs (least_of t xs) → Found (x ∷ xs) (choose u (some (lower (at x) (least_of t xs))) (least_of t xs))
        go true p h = meet x xs ((e x).0 p) (least_of t xs) h
        go false p h = skip x xs (λ b. clash (sym p ∙ (e x).1 b)) (least_of t xs) h

    -- ── That it exists, and what it settles ──
    pub least_exists : (xs : List A) (a : A) → Occurs a xs → B a → (o : ℕ) × Least B xs o
    least_exists xs a o b = go (least_of t xs) (found xs)
      where
        go : (r : Option ℕ) → Found xs r → (o : ℕ) × Least B xs o
        go none h = absurd (h a o b)
        go (some i) h = (i, h)

    -- so what says the same is settled
    pub settle : (xs : List A) (C : ℕ → Type 0) → ((o : ℕ) → Least B xs o ↔ C o) → Settles C (least_of t xs)
    settle xs C f = go (least_of t xs) (found xs)
      where
        go : (r : Option ℕ) → Found xs r → Settles C r
        go none h = λ o c. let l = (f o).1 c in h l.one l.among l.fits
        go (some o) h = (
          (f o).0 h,
          λ i c. let l = (f i).1 c in let p = h.first l.one l.among l.fits in let q = l.first h.one h.among h.fits in omega arith,
        )
