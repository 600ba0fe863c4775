-- A test that says whether A holds.
use Rattle.std.proofs.lemmas.Bool.{iff_false}
use mathlib.Core.Path.{◌≡◌, refl}
use mathlib.Core.Logic.{◌↔◌}
use mathlib.Core.Bool.{Bool, true, false, false≢true}

module _ {A : Type 0} where
  pub tells_yes : A → (true ≡ true) ↔ A
  tells_yes a = (λ e. a, λ h. refl)

  pub tells_no : ¬ A → (false ≡ true) ↔ A
  tells_no f = (λ e. absurd (false≢true e), λ h. absurd (f h))

  pub denied : {b : Bool} → (b ≡ true) ↔ A → b ≡ false → ¬ A
  denied t e = iff_false t e
