-- Words that are cleared one by one from the front.
use Prim.Native.Nat.{ℕ, ◌+◌, ◌≤◌, ◌<◌}
use mathlib.Core.Path.{◌≡◌, refl, ap, ◌∙◌, subst}
use mathlib.Core.List.{List, [], ◌∷◌, ◌++◌}
use lib.ListN.{length, take, drop, replicate, set, length-set, replicate-append-replicate}
use lib.Seq.{take-suc-set, drop-set-lt}
use native.Mathlib.Numerals.{add-one}
use native.Mathlib.Omega.{arith}

-- the first i of m words are 0, and all from m on is as before
pub record Clearing (m i : ℕ) (before after : List ℕ) : Type 0 where
  pub inside : i ≤ m
  pub long : length after ≡ length before
  pub zeros : take i after ≡ replicate i 0
  pub later : drop m after ≡ drop m before

pub clearing_none : (m : ℕ) (t : List ℕ) → Clearing m 0 t t
clearing_none m t = record { inside = omega arith; long = refl; zeros = refl; later = refl }

pub clearing_step : {m i : ℕ} {before after : List ℕ} → m ≤ length before → Clearing m i before after → i < m → Clearing m (i + 1) before (set after i 0)
clearing_step {m} {i} {before} {after} room c l =
    let e = c.long in
    record {
      inside = omega arith;
      long = length-set after i 0 ∙ e;
      zeros = rw (add-one i) (take-suc-set after i 0 (omega arith)) ∙ ap (λ (xs : List ℕ). xs ++ (0 ∷ [])) c.zeros ∙ replicate-append-replicate i 1 0;
      later = drop-set-lt m after i 0 l ∙ c.later;
    }

pub clearing_all : {m i : ℕ} {before after : List ℕ} → Clearing m i before after → m ≤ i → (take m after ≡ replicate m 0) × (drop m after ≡ drop m before)
clearing_all {m} {i} {before} {after} c l =
    let h = c.inside in
    let e : i ≡ m = omega arith in
    (subst (λ j. take j after ≡ replicate j 0) e c.zeros, c.later)
