-- Laws of tallies: what `begin` and `weigh` compute, and a comparison or a count that is weighed when it ends.
use Prim.Native.Nat.{ℕ, zero, suc, ◌-◌, ◌≤◌, ◌<◌, min}
use native.Mathlib.Omega.{arith}
use mathlib.Core.Path.{◌≡◌, refl, sym, ap, ◌∙◌}
use mathlib.Core.Logic.{◌≢◌}
use mathlib.Core.Bool.{Bool, true, false}
use mathlib.Core.List.{List, [], ◌∷◌}
use lib.Dec.{leb}
use borrow.Author.Tests.{eq-eqb, ne_eqb, le-leb, lt-leb}
use Rattle.limits.specs.Limits.{comparison_steps}
use Rattle.rule_spec.specs.Parts.{Part, Sort}
use Rattle.rule_spec.specs.Bytes.{choose}
use Rattle.tokens.specs.declared.read.Tally.{Tally}
use Rattle.tokens.specs.Tallies.{nowhere, tally, crowds, begins, begun, heavier, weighed, noted, tallied}

-- ── How the code computes them ──
pub begun_some : (t : Tally) (o : ℕ) → 0 < t.left → tally (t.left - 1) t.crowded t.heavy ≡ begun t o
unfolding begun
begun_some t o h = go t.left h
  where
    go : (l : ℕ) → 0 < l → tally (l - 1) t.crowded t.heavy ≡ begins l t.crowded t.heavy o
    go zero h = absurd (omega arith)
    go (suc l) h = let e : suc l - 1 ≡ l = omega arith in ap (λ m. tally m t.crowded t.heavy) e

begun_full : (t : Tally) (o : ℕ) → t.left ≡ 0 → begun t o ≡ tally 0 (crowds t.crowded o) t.heavy
unfolding begun
begun_full t o e = ap (λ l. begins l t.crowded t.heavy o) e

pub begun_first : (t : Tally) (o : ℕ) → t.left ≡ 0 → t.crowded ≡ nowhere → tally t.left o t.heavy ≡ begun t o
begun_first t o e f =
    ap (λ l. tally l o t.heavy) e ∙ sym (begun_full t o e ∙ ap (λ b. tally 0 (choose b o t.crowded) t.heavy) (eq-eqb t.crowded nowhere f))

pub begun_later : (t : Tally) (o : ℕ) → t.left ≡ 0 → t.crowded ≢ nowhere → t ≡ begun t o
begun_later t o e f =
    ap (λ l. tally l t.crowded t.heavy) e ∙ sym (begun_full t o e ∙ ap (λ b. tally 0 (choose b o t.crowded) t.heavy) (ne_eqb t.crowded nowhere f))

module _ (t : Tally) (o m : ℕ) where
  weighed_by : (h : ℕ) → heavier t.heavy o m ≡ h → tally t.left t.crowded h ≡ weighed t o m
  unfolding weighed
  weighed_by h e = ap (λ x. tally t.left t.crowded x) (sym e)

  pub weighed_light : m ≤ comparison_steps → t ≡ weighed t o m
  weighed_light h = weighed_by t.heavy (ap (λ b. choose b t.heavy (min t.heavy o)) (le-leb m comparison_steps h))

  pub weighed_heavy : comparison_steps < m → {h : ℕ} → h ≡ min t.heavy o → tally t.left t.crowded h ≡ weighed t o m
  weighed_heavy l {h} e = weighed_by h (ap (λ b. choose b t.heavy (min t.heavy o)) (lt-leb m comparison_steps l) ∙ sym e)

-- ── Weighing may wait ──
heavier_swap : (h o m p l : ℕ) → heavier (heavier h o m) p l ≡ heavier (heavier h p l) o m
heavier_swap h o m p l = go (leb m comparison_steps) (leb l comparison_steps)
  where
    go : (x y : Bool) → choose y (choose x h (min h o)) (min (choose x h (min h o)) p) ≡ choose x (choose y h (min h p)) (min (choose y h (min h p)) o)
    go true true = refl
    go true false = refl
    go false true = refl
    go false false = omega arith

begun_weighed : (t : Tally) (o m p : ℕ) → begun (weighed t o m) p ≡ weighed (begun t p) o m
unfolding begun weighed
begun_weighed t o m p = go t.left
  where
    go : (l : ℕ) → begins l t.crowded (heavier t.heavy o m) p
        ≡ record { left = (begins l t.crowded t.heavy p).left; crowded = (begins l t.crowded t.heavy p).crowded; heavy = heavier (begins l t.crowded t.heavy p).heavy o m }
    go zero = refl
    go (suc l) = refl

weighed_swap : (t : Tally) (o m p l : ℕ) → weighed (weighed t o m) p l ≡ weighed (weighed t p l) o m
unfolding weighed
weighed_swap t o m p l = ap (λ h. tally t.left t.crowded h) (heavier_swap t.heavy o m p l)

noted_weighed : (t : Tally) (o m p : ℕ) (x : Sort) → noted (weighed t o m) p x ≡ weighed (noted t p x) o m
unfolding noted
noted_weighed t o m p Sort.test = begun_weighed t o m p
noted_weighed t o m p (Sort.stepped l) = ap (λ u. weighed u p l) (begun_weighed t o m p) ∙ weighed_swap (begun t p) o m p l
noted_weighed t o m p Sort.path = refl

-- what is weighed behind its parts is weighed as it would be before them
pub weighed_last : (ps : List Part) (t : Tally) (o m : ℕ) → weighed (tallied t ps) o m ≡ tallied (weighed t o m) ps
unfolding tallied
weighed_last [] t o m = refl
weighed_last (p ∷ ps) t o m = weighed_last ps (noted t p.offset p.sort) o m ∙ ap (λ u. tallied u ps) (sym (noted_weighed t o m p.offset p.sort))
