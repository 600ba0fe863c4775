-- The union of the rows that the members of a set name, as `image` gathers it: the row of a member that was taken out is in the result.
use Prim.Native.Nat.{ℕ, ◌<◌}
use mathlib.Core.Path.{◌≡◌, sym, ap, ◌∙◌}
use mathlib.Core.Bool.{true, false, false≢true}
use mathlib.Core.Logic.{◌⊎◌, inl, inr, ◌↔◌}
use native.Mathlib.Decide.{ℕ_discrete}
use Rattle.bits.specs.Sets.{bit, or, size}
use Rattle.bits.proofs.SetLaws.{bit_none}
use Rattle.matrices.specs.Matrices.{Exactly}
use Rattle.matrices.proofs.Members.{size_less, union_iff, Taken}

-- j is in the row of a member of w that is not in rest
abbrev pub Followed : (ℕ → ℕ) → ℕ → ℕ → ℕ → Type 0
Followed row w rest j = (i : ℕ) × (i < 16) × (bit w i ≡ true) × (bit rest i ≡ false) × (bit (row i) j ≡ true)

pub record Following (row : ℕ → ℕ) (w rest r : ℕ) : Type 0 where
  pub part : (i : ℕ) → bit rest i ≡ true → bit w i ≡ true
  pub done : Exactly r (Followed row w rest)

pub following_none : (row : ℕ → ℕ) (w : ℕ) → Following row w w 0
following_none row w =
    record {
      part = λ i h. h;
      done = λ j h. (λ e. absurd (false≢true (sym (bit_none j) ∙ e)), λ f. absurd (false≢true (sym f.3 ∙ f.2)));
    }

module _ {i rest rest' : ℕ} (t : Taken i rest rest') (member : bit rest i ≡ true) where
  -- nothing comes in
  fewer : (k : ℕ) → bit rest' k ≡ true → bit rest k ≡ true
  fewer k e = go (ℕ_discrete k i)
    where
      go : Dec (k ≡ i) → bit rest k ≡ true
      go (yes q) = ap (bit rest) q ∙ member
      go (no n) = sym (t.other k n) ∙ e

  pub rest_less : i < 16 → size 16 rest' < size 16 rest
  rest_less small = size_less 16 rest' rest i (λ k l. fewer k) small t.out member

  pub following_step : {row : ℕ → ℕ} {w r r' : ℕ} → i < 16 → Following row w rest r
      → ((j : ℕ) → bit r' j ≡ or (bit r j) (bit (row i) j)) → Following row w rest' r'
  following_step {row} {w} {r} {r'} small f union =
      record {
        part = λ k e. f.part k (fewer k e);
        done = λ j h. (λ e. to j h ((both j).0 e), λ x. from j h x (ℕ_discrete x.0 i));
      }
    where
      both : (j : ℕ) → (bit r' j ≡ true) ↔ ((bit r j ≡ true) ⊎ (bit (row i) j ≡ true))
      both = union_iff r (row i) r' union

      out : (k : ℕ) → bit rest k ≡ false → bit rest' k ≡ false
      out k b = t.other k (λ q. false≢true (sym b ∙ ap (bit rest) q ∙ member)) ∙ b

      to : (j : ℕ) → j < 16 → (bit r j ≡ true) ⊎ (bit (row i) j ≡ true) → Followed row w rest' j
      to j h (inl x) = let (k, l, a, b, c) = (f.done j h).0 x in (k, l, a, out k b, c)
      to j h (inr x) = (i, small, f.part i member, t.out, x)

      from : (j : ℕ) → j < 16 → (x : Followed row w rest' j) → Dec (x.0 ≡ i) → bit r' j ≡ true
      from j h x (yes q) = (both j).1 (inr (ap (λ (k : ℕ). bit (row k) j) (sym q) ∙ x.4))
      from j h x (no n) = (both j).1 (inl ((f.done j h).1 (x.0, x.1, x.2, sym (t.other x.0 n) ∙ x.3, x.4)))

-- no member is left
pub following_all : {row : ℕ → ℕ} {w rest r : ℕ} → Following row w rest r → rest ≡ 0
    → Exactly r (λ j. (i : ℕ) × (i < 16) × (bit w i ≡ true) × (bit (row i) j ≡ true))
following_all f e j h =
    (λ x. let (i, l, a, b, c) = (f.done j h).0 x in (i, l, a, c), λ (i, l, a, c). (f.done j h).1 (i, l, a, ap (λ (x : ℕ). bit x i) e ∙ bit_none i, c))
