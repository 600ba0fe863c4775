-- The loop that strikes out the numbers of nodes without a key.
use Prim.Native.Nat.{ℕ, suc, ◌≤◌, ◌<◌}
use mathlib.Core.Path.{◌≡◌, refl, sym, ◌∙◌, subst}
use mathlib.Core.List.{List, [], ◌∷◌}
use native.Mathlib.Omega.{arith}
use native.Mathlib.Decide.{ℕ_discrete}
use Rattle.layout.specs.Table.{AMOUNT}
use Rattle.layout.specs.Words.{cell, word, Wrote}
use Rattle.layout.proofs.Frames.{within_none, within_then, within_put}
use Rattle.amounts.specs.Keys.{key_in, Keys}
use Rattle.amounts.specs.Steps.{Shown, Struck}
use Rattle.amounts.proofs.Sorting.{keys_kept}

pub struck_none : (n : ℕ) (t : List ℕ) → Struck n 0 t t
struck_none n t = record { inside = omega arith; within = within_none t; shown = λ v l. absurd (omega arith); others = λ v l r. refl }

pub struck_step : {n m : ℕ} {t₀ t t' : List ℕ} (r : ℕ) → Struck n m t₀ t → m < n → Shown n m t r → Wrote ((cell n AMOUNT m, r) ∷ []) t t' → Struck n (suc m) t₀ t'
struck_step {n} {m} {t₀} {t} {t'} r g l h w =
    record {
      inside = l;
      within = within_then g.within (within_put (omega arith) (omega arith) l w);
      shown = λ v q. go v q (ℕ_discrete v m);
      others = λ v q z. w.other (cell n AMOUNT v) (omega arith, tt) ∙ g.others v (omega arith) z;
    }
  where
    keys : Keys n (λ v. key_in t₀ n v) t
    keys = keys_kept (omega arith) g.within (λ v q. refl)

    here : Shown n m t₀ (word t' n AMOUNT m)
    here = record { none = λ e. w.here.0 ∙ h.none (keys m l ∙ e); some = λ d. w.here.0 ∙ h.some (λ e. d (sym (keys m l) ∙ e)) ∙ g.others m (omega arith) l }

    go : (v : ℕ) → v < suc m → Dec (v ≡ m) → Shown n v t₀ (word t' n AMOUNT v)
    go v q (yes e) = subst (λ u. Shown n u t₀ (word t' n AMOUNT u)) (sym e) here
    go v q (no d) = subst (λ x. Shown n v t₀ x) (sym (w.other (cell n AMOUNT v) (omega arith, tt))) (g.shown v (omega arith))

pub struck_all : {n m : ℕ} {t t' : List ℕ} → Struck n m t t' → n ≤ m → Struck n n t t'
struck_all {n} {m} {t} {t'} g l = let i = g.inside in let e : m ≡ n = omega arith in subst (λ k. Struck n k t t') e g
