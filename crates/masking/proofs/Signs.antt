-- What the six signs say of a value and itself: whether it is a numeral, and nothing else. So "a node with itself included" asks that numerals stay numerals, and words words.
use Prim.Native.Nat.{ℕ}
use mathlib.Core.Path.{refl, sym, subst}
use mathlib.Core.Logic.{◌↔◌}
use mathlib.Core.List.{List}
use native.Mathlib.Omega.{arith}
use Rattle.xpath.specs.Syntax.{Op, eq, ne, lt, le, gt, ge}
use Rattle.xpath.specs.Amounts.{Amount, HasAmount, Below, AtMost}
use Rattle.xpath.specs.Meaning.{ByAmount, Rel}
use Rattle.xpath.proofs.Amounts.{amount_one, at_most_reflexive}
use Rattle.masking.specs.Masking.{SameSigns}

abbrev pub Numeral : List ℕ → Type 0
Numeral b = (a : Amount) × HasAmount b a

-- no value is below itself
not_below : (b : List ℕ) → ¬ ByAmount Below b b
not_below b (a, c, h, g, l) = let e = amount_one h g in let r : Below a a = subst (λ x. Below a x) (sym e) l in omega arith

-- at most itself is every numeral
at_most_itself : (b : List ℕ) → ByAmount AtMost b b ↔ Numeral b
at_most_itself b = (λ (a, c, h, g, l). (a, h), λ (a, h). (a, a, h, h, at_most_reflexive a))

-- two that say the same of themselves
by_numerals : (b b' : List ℕ) → (Numeral b → Numeral b') → (o : Op) → Rel o b b → Rel o b' b'
by_numerals b b' n eq h = refl
by_numerals b b' n ne h = absurd (h refl)
by_numerals b b' n lt h = absurd (not_below b h)
by_numerals b b' n le h = (at_most_itself b').1 (n ((at_most_itself b).0 h))
by_numerals b b' n gt h = absurd (not_below b h)
by_numerals b b' n ge h = (at_most_itself b').1 (n ((at_most_itself b).0 h))

pub itself_iff : (b b' : List ℕ) → SameSigns b b b' b' ↔ (Numeral b ↔ Numeral b')
itself_iff b b' = (
  λ s. (λ n. (at_most_itself b').0 ((s le).0 ((at_most_itself b).1 n)), λ n. (at_most_itself b).0 ((s le).1 ((at_most_itself b').1 n))),
  λ n o. (by_numerals b b' n.0 o, by_numerals b' b n.1 o),
)
