-- The parts of an input: every input has them, and no input has two. The search for the LF.
use Prim.Native.Nat.{ℕ, zero, suc, ◌+◌, ◌≤◌, ◌<◌}
use mathlib.Core.Path.{◌≡◌, refl, sym, ap, ◌∙◌, subst}
use mathlib.Core.Logic.{◌⊎◌, inl, inr, ⊎_elim}
use mathlib.Core.List.{List, [], ◌∷◌, ◌++◌}
use lib.ListN.{length, get_or, take, drop, drop_of_length-le}
use lib.Seq.{take-suc, take_all, split_at}
use native.Mathlib.Numerals.{add-one}
use native.Mathlib.Decide.{ℕ_discrete}
use native.Mathlib.Omega.{arith}
use Rattle.lists.specs.Lists.{Occurs}
use Rattle.lists.proofs.Lists.{occurs_append, occurs_right}
use Rattle.streams.specs.Input.{lf, Parts, SplitAt}

-- ── Every input has its parts ──
pub parts_some : (input : List ℕ) → (rule : List ℕ) × (document : List ℕ) × Parts input rule document
parts_some [] = ([], [], record { one_line = λ o. o; joined = inr (refl, refl) })
parts_some (b ∷ s) = go (ℕ_discrete lf b) (parts_some s)
  where
    go : Dec (lf ≡ b) → (rule : List ℕ) × (document : List ℕ) × Parts s rule document → (rule : List ℕ) × (document : List ℕ) × Parts (b ∷ s) rule document
    go (yes e) p = ([], s, record { one_line = λ o. o; joined = inl (ap (λ x. x ∷ s) (sym e)) })
    go (no n) (r, d, p) = (b ∷ r, d, record { one_line = ⊎_elim n p.one_line; joined = more p.joined })
      where
        more : (s ≡ r ++ (lf ∷ d)) ⊎ ((s ≡ r) × (d ≡ [])) → (b ∷ s ≡ b ∷ (r ++ (lf ∷ d))) ⊎ ((b ∷ s ≡ b ∷ r) × (d ≡ []))
        more (inl e) = inl (ap (λ l. b ∷ l) e)
        more (inr (e, f)) = inr (ap (λ l. b ∷ l) e, f)

-- ── No input has two ──
cut_one : (r r' d d' : List ℕ) → ¬ Occurs lf r → ¬ Occurs lf r' → r ++ (lf ∷ d) ≡ r' ++ (lf ∷ d') → (r ≡ r') × (d ≡ d')
cut_one [] [] d d' n n' e = (refl, cc)
cut_one [] (y ∷ r') d d' n n' e = absurd (n' (inl (cc)))
cut_one (x ∷ r) [] d d' n n' e = absurd (n (inl (cc)))
cut_one (x ∷ r) (y ∷ r') d d' n n' e =
    let same = cut_one r r' d d' (λ o. n (inr o)) (λ o. n' (inr o)) (cc) in
    let a = same.0 in
    let b = same.1 in (cc, b)

-- an input with an LF is not all rule
not_both : (r d : List ℕ) {input r' : List ℕ} → ¬ Occurs lf r' → input ≡ r ++ (lf ∷ d) → input ≡ r' → ⊥
not_both r d n e f = n (subst (Occurs lf) (sym e ∙ f) (occurs_right lf r (lf ∷ d) (inl refl)))

pub parts_one : {input r d r' d' : List ℕ} → Parts input r d → Parts input r' d' → (r ≡ r') × (d ≡ d')
parts_one {input} {r} {d} {r'} {d'} p q = go p.joined q.joined
  where
    go : (input ≡ r ++ (lf ∷ d)) ⊎ ((input ≡ r) × (d ≡ [])) → (input ≡ r' ++ (lf ∷ d')) ⊎ ((input ≡ r') × (d' ≡ [])) → (r ≡ r') × (d ≡ d')
    go (inl e) (inl f) = cut_one r r' d d' p.one_line q.one_line (sym e ∙ f)
    go (inl e) (inr (f, g)) = absurd (not_both r d q.one_line e f)
    go (inr (e, g)) (inl f) = absurd (not_both r' d' p.one_line f e)
    go (inr (e, g)) (inr (f, h)) = (sym e ∙ f, g ∙ sym h)

-- ── The search: no LF is among the first i bytes ──
pub record Searched (s : List ℕ) (i : ℕ) : Type 0 where
  pub inside : i ≤ length s
  pub none : ¬ Occurs lf (take i s)

pub searched_none : (s : List ℕ) → Searched s 0
searched_none s = record { inside = omega arith; none = λ o. o }

pub searched_more : {s : List ℕ} {i : ℕ} → Searched s i → i < length s → ¬ (get_or s i 0 ≡ lf) → Searched s (i + 1)
searched_more {s} {i} h l n = record { inside = omega arith; none = λ o. new (rw (add-one, take-suc s i 0) at o) }
  where
    new : ¬ Occurs lf (take i s ++ (get_or s i 0 ∷ []))
    new o = ⊎_elim h.none (⊎_elim (λ e. n (sym e)) (λ z. z)) (occurs_append lf (take i s) (get_or s i 0 ∷ []) o)

-- no byte before i is an LF
searched_to : (s : List ℕ) (i : ℕ) → i ≤ length s → ((k : ℕ) → k < i → ¬ (get_or s k 0 ≡ lf)) → Searched s i
searched_to s zero l f = searched_none s
searched_to s (suc i) l f = rw (← add-one) (searched_more (searched_to s i (omega arith) (λ k m. f k (omega arith))) (omega arith) (f i (omega arith)))

-- the LF that is found ends the rule; where none is, the rule is all
pub split_found : {s : List ℕ} {i : ℕ} → Searched s i → i < length s → get_or s i 0 ≡ lf → SplitAt s i (i + 1)
split_found {s} {i} h l e = record { ends = h.inside; begins = omega arith; parts = record { one_line = h.none; joined = inl cut } }
  where
    cut : s ≡ take i s ++ (lf ∷ drop (i + 1) s)
    cut = subst (λ b. s ≡ take i s ++ (b ∷ drop (i + 1) s)) e (rw add-one (split_at s i 0 l))

pub split_none : {s : List ℕ} {i : ℕ} → Searched s i → length s ≤ i → SplitAt s i i
split_none {s} {i} h m = record { ends = h.inside; begins = h.inside; parts = record { one_line = h.none; joined = inr (sym (take_all i s m), drop_of_length-le s m) } }

-- the same, of what a search hands back
pub split_first : (s : List ℕ) (i : ℕ) → i < length s → get_or s i 0 ≡ lf → ((k : ℕ) → k < i → ¬ (get_or s k 0 ≡ lf)) → SplitAt s i (i + 1)
split_first s i l e f = split_found (searched_to s i (omega arith) f) l e

pub split_all : (s : List ℕ) → ((k : ℕ) → k < length s → ¬ (get_or s k 0 ≡ lf)) → SplitAt s (length s) (length s)
split_all s f = let l : length s ≤ length s = omega arith in split_none (searched_to s (length s) l f) l
