-- `texts::under` meets its contract.
use Prim.Native.Nat.{ℕ, ◌<◌}
use mathlib.Core.Path.{◌≡◌, sym, subst₂}
use mathlib.Core.Logic.{◌⊎◌, inl, inr}
use native.Mathlib.Omega.{arith}
use Rattle.layout.specs.Words.{NONE}
use Rattle.texts.specs.Texts.{Bounds}
use Rattle.texts.proofs.Told.{under_none, under_some}
use Rattle.texts.proofs.under.Goals as goal

is-node : {v n : ℕ} → (v < n) ⊎ (v ≡ NONE) → ¬ (v ≡ NONE) → v < n
is-node (inl l) z = l
is-node (inr e) z = absurd (z e)

pub returns-then-v-eq-NONE : goal.returns-then-v-eq-NONE
returns-then-v-eq-NONE c = λ ns i a b s h r k. under_none ns s c.if-v-eq-NONE.true c.silence.ensures.0 c.silence.ensures.1 k

pub get-requires : goal.get-requires
get-requires c = let p = c.requires in (omega arith, is-node p.1 c.if-v-eq-NONE.false, p.0)

pub get-requires-2 : goal.get-requires-2
get-requires-2 c = let p = c.requires in (omega arith, is-node p.1 c.if-v-eq-NONE.false, p.0)

pub returns : goal.returns
returns c =
    let z = c.if-v-eq-NONE.false in
    λ ns i a b s h r k.
    subst₂ (λ f l. Bounds ns a b f l) (sym c.get.ensures.0) (sym c.get-2.ensures.0) (under_some c.args.t.now z (is-node c.requires.1 z) h r k)
