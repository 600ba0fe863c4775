-- `tokens::goes_on` meets its contract.
use Prim.Native.Nat.{ℕ}
use mathlib.Core.Path.{◌≡◌, sym, ap, ◌∙◌}
use mathlib.Core.Logic.{inl, inr}
use mathlib.Core.Bool.{not}
use lib.Dec.{eqb}
use Rattle.tokens.proofs.Numbers.{in_digits, no_digit_more, none_behind_zero, within_limit}
use Rattle.tokens.proofs.goes_on.Goals as goal
use Rattle.tokens.proofs.goes_on.Goals.{then-fits, else-fits}

pub with_digit-requires : goal.with_digit-requires
with_digit-requires c = (c.requires, in_digits _ (sym c.fits.ensures ∙ c.if-n-ne0.true.0))

pub returns-then-n-ne0 : goal.returns-then-n-ne0
returns-then-n-ne0 c = within_limit _ _ (sym c.fits.ensures ∙ c.if-n-ne0.true.0) c.if-n-ne0.true.1 c.with_digit.ensures

pub returns-else-n-ne0 : goal.returns-else-n-ne0
returns-else-n-ne0 c =
    elim c.if-fits.branch [
      | then-fits w ↦
          let z : c.args.n ≡ 0 = elim c.if-n-ne0.either [ inl h ↦ h.1 | inr h ↦ absurd cc ] in
          w.t-4-is ∙ ap (λ (n : ℕ). not (eqb n 0)) z ∙ none_behind_zero _ _ (sym c.fits.ensures ∙ w.if-fits.true) z
      | else-fits w ↦ w.t-4-is ∙ w.if-fits.false ∙ no_digit_more c.args.n _ (sym c.fits.ensures ∙ w.if-fits.false)
    ]
