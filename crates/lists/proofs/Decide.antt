-- Decisions of a sum and of an implication; mathlib.Core.Logic has those of a product and of a negation, Dec·and and Dec·not.
use mathlib.Core.Logic.{◌⊎◌, inl, inr, ⊎_elim}

module _ {P Q : Type 0} where
  pub dec_or : Dec P → Dec Q → Dec (P ⊎ Q)
  dec_or (yes p) e = yes (inl p)
  dec_or (no f) (yes q) = yes (inr q)
  dec_or (no f) (no g) = no (⊎_elim f g)

  pub dec_implies : Dec P → Dec Q → Dec (P → Q)
  dec_implies (no f) e = yes (λ p. absurd (f p))
  dec_implies (yes p) (yes q) = yes (λ _. q)
  dec_implies (yes p) (no g) = no (λ h. g (h p))
