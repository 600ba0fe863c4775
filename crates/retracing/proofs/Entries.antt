-- The new entries hold just what is new.
use Prim.Native.Nat.{ℕ, ◌≤◌, ◌<◌}
use mathlib.Core.Path.{◌≡◌, sym, ap, ◌∙◌, subst}
use mathlib.Core.List.{List}
use native.Mathlib.Decide.{dec_lt}
use native.Mathlib.Omega.{arith}
use Rattle.bits.specs.Sets.{bit}
use Rattle.reach.specs.Work.{Seen, Has, node_of, Work, Added}
use Rattle.retracing.specs.Backward.{OfEntries, New}

module _ {R : ℕ → ℕ → Type 0} {n d a b : ℕ} {p q : List ℕ} (list : Work n a p) (g : Added R n d a b p q) where
  pub entry_new : (i v : ℕ) → v < n → i < 16 → OfEntries q n i a b v → New n i p q v
  entry_new i v l h (k, r, t, (e, s)) = (subst (λ (x : ℕ). Seen q n x i) (sym e) (g.work.told k i t h s), old)
    where
      old : ¬ Seen p n v i
      old y =
          let (o, f, z, c) = list.listed v i l h y in
          let e' = g.work.once o k i (omega arith) t h (g.nodes o f ∙ z ∙ e) (ap (λ (x : ℕ). bit x i) (g.sets o f) ∙ c) s in
          absurd (omega arith)

  pub new_entry : (i v : ℕ) → v < n → i < 16 → New n i p q v → OfEntries q n i a b v
  new_entry i v l h (s, d) = go (g.work.listed v i l h s)
    where
      later : (k : ℕ) → node_of q n k ≡ v → Has q n k i → Dec (k < a) → a ≤ k
      later k e t (yes r) = absurd (d (subst (λ (x : ℕ). Seen p n x i) (sym (g.nodes k r) ∙ e) (list.told k i r h (ap (λ (x : ℕ). bit x i) (sym (g.sets k r)) ∙ t))))
      later k e t (no r) = omega arith

      go : (k : ℕ) × (k < b) × (node_of q n k ≡ v) × Has q n k i → OfEntries q n i a b v
      go (k, r, e, t) = (k, later k e t (dec_lt k a), r, (sym e, t))
