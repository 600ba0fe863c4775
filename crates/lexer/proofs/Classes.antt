-- The classes of bytes, as tests and as facts.
use Prim.Native.Nat.{ℕ, ◌≤◌}
use mathlib.Core.Path.{◌≡◌, refl, sym, subst}
use mathlib.Core.Logic.{◌⊎◌, inl, inr}
use mathlib.Core.Bool.{Bool, true, false, ◌&&◌, ◌||◌}
use lib.Dec.{T, leb, eqb}
use borrow.Author.Tests.{leb-true, eqb-true, le-leb, eq-eqb}
use Rattle.lists.specs.Text.{NameByte}
use Rattle.lexer.specs.declared.Class.{Class}
use Rattle.lexer.specs.declared.Class.TheVariants.{Digit, Label, Text}
use Rattle.lexer.specs.Reading.{is_between, in_class}

-- no class has the LF
pub lf_out : (k : Class) → in_class k 10 ≡ false
lf_out Digit = refl
lf_out Label = refl
lf_out Text = refl

pub between_is : (low high b : ℕ) → T (is_between low high b) → (low ≤ b) × (b ≤ high)
between_is low high b = go (leb low b) (leb b high) refl refl
  where
    go : (x y : Bool) → leb low b ≡ x → leb b high ≡ y → T (x && y) → (low ≤ b) × (b ≤ high)
    go true true p q t = (leb-true low b p, leb-true b high q)
    go true false p q t = absurd t
    go false y p q t = absurd t

pub is_between_lem : (low high b : ℕ) → (low ≤ b) × (b ≤ high) → T (is_between low high b)
is_between_lem low high b h = let e : is_between low high b ≡ true = simp (le-leb low b h.0, le-leb b high h.1) in subst T (sym e) tt

or_is : (a b : Bool) → T (a || b) → T a ⊎ T b
or_is true b t = inl tt
or_is false b t = inr t

is_or : (a b : Bool) → T a ⊎ T b → T (a || b)
is_or true b h = tt
is_or false b (inl h) = absurd h
is_or false b (inr h) = h

pub name_byte : (b : ℕ) → T (in_class Label b) → NameByte b
name_byte b h = go (or_is (eqb b 45) (is_between 48 57 b || is_between 97 122 b) h)
  where
    rest : T (is_between 48 57 b) ⊎ T (is_between 97 122 b) → NameByte b
    rest (inl t) = inr (inl (between_is 48 57 b t))
    rest (inr t) = inl (between_is 97 122 b t)

    go : T (eqb b 45) ⊎ T (is_between 48 57 b || is_between 97 122 b) → NameByte b
    go (inl t) = inr (inr (eq_of (eqb b 45) refl t))
      where
        eq_of : (x : Bool) → eqb b 45 ≡ x → T x → b ≡ 45
        eq_of true e t = eqb-true b 45 e
        eq_of false e t = absurd t
    go (inr t) = rest (or_is (is_between 48 57 b) (is_between 97 122 b) t)

pub label_byte : (b : ℕ) → NameByte b → T (in_class Label b)
label_byte b (inl h) = is_or (eqb b 45) (is_between 48 57 b || is_between 97 122 b) (inr (is_or (is_between 48 57 b) (is_between 97 122 b) (inr (is_between_lem 97 122 b h))))
label_byte b (inr (inl h)) = is_or (eqb b 45) (is_between 48 57 b || is_between 97 122 b) (inr (is_or (is_between 48 57 b) (is_between 97 122 b) (inl (is_between_lem 48 57 b h))))
label_byte b (inr (inr h)) = is_or (eqb b 45) (is_between 48 57 b || is_between 97 122 b) (inl (subst T (sym (eq-eqb b 45 h)) tt))
