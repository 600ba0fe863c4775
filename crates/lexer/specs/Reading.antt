-- What the readers of a line answer: the bytes from an offset on are some field and what is behind it, or no field of this form begins there.
use Rattle.std.specs.Prelude.{ℕ, ◌+◌, ◌-◌, ◌^◌, ◌≤◌, ◌<◌, ◌≡◌, Bool, ◌&&◌, ◌||◌, List, ◌++◌, length, drop, get_or, Option, Some, None, T, leb, ltb, eqb}
use Rattle.lists.specs.Lists.{All}
use Rattle.lists.specs.Text.{bytes, decimal}
use Rattle.limits.specs.Limits.{count_digits}
use Rattle.lexer.specs.declared.Number.{Number}
use Rattle.lexer.specs.declared.Class.{Class}
use Rattle.lexer.specs.declared.Class.TheVariants.{Digit, Label, Text}

-- the bytes of s from i on are l and then those from j on
pub record Spans (s : List ℕ) (i : ℕ) (l : List ℕ) (j : ℕ) : Type 0 where
  pub inside : j ≤ length s
  pub spelled : drop i s ≡ l ++ drop j s

-- what a reader of this form answers at i: where it ends, or that nothing of the form begins there
abbrev pub Ended : (List ℕ → Type 0) → List ℕ → ℕ → Option ℕ → Type 0
Ended Form s i (Some j) = (l : List ℕ) × Form l × Spans s i l j
Ended Form s i None = (l r : List ℕ) → Form l → ¬ (drop i s ≡ l ++ r)

abbrev pub is_between : ℕ → ℕ → ℕ → Bool
is_between low high b = leb low b && leb b high

-- 0-9; a-z, 0-9 and hyphen; 0x20 to 0x7E
abbrev pub in_class : Class → ℕ → Bool
in_class Digit b = is_between 48 57 b
in_class Label b = eqb b 45 || (is_between 48 57 b || is_between 97 122 b)
in_class Text b = is_between 0x20 0x7e b

-- the bytes from i up to j belong to a class
abbrev pub AllIn : Class → List ℕ → ℕ → ℕ → Type 0
AllIn k s i j = (m : ℕ) → i ≤ m → m < j → T (in_class k (get_or s m 0))

-- the bytes that are looked at together
abbrev pub block : ℕ
block = 16

-- from i up to j stand bytes of a class, at most so many
pub record Passed (k : Class) (most : ℕ) (s : List ℕ) (i j : ℕ) : Type 0 where
  pub from : i ≤ j
  pub inside : j ≤ length s
  pub short : j - i ≤ most
  pub fits : AllIn k s i j

-- at most so many bytes of a class, and the LF that ends their line
pub record Run (k : Class) (most : ℕ) (l : List ℕ) : Type 0 where
  pub field : List ℕ
  pub all : All (λ b. T (in_class k b)) field
  pub short : length field ≤ most
  pub line : l ≡ field ++ bytes "\n"

-- at most as many digits as N has from i up to j
pub record Digits (s : List ℕ) (i j : ℕ) : Type 0 where
  pub from : i ≤ j
  pub inside : j ≤ length s
  pub few : j ≤ i + count_digits
  pub digits : AllIn Digit s i j

-- the bytes from i up to j begin with a zero and go on
abbrev pub zero_led : List ℕ → ℕ → ℕ → Bool
zero_led s i j = ltb (i + 1) j && eqb (get_or s i 0) 48

-- a numeral of at most so many digits, and the LF that ends its line
abbrev pub numeral_line : ℕ → List ℕ
numeral_line n = decimal n ++ bytes "\n"

abbrev pub Numbered : ℕ → List ℕ → ℕ → Option Number → Type 0
Numbered most s i (Some x) = (x.value < 10 ^ most) × Spans s i (numeral_line x.value) x.next
Numbered most s i None = (n : ℕ) (r : List ℕ) → n < 10 ^ most → ¬ (drop i s ≡ numeral_line n ++ r)

-- a key and then something of a form
abbrev pub Behind : List ℕ → (List ℕ → Type 0) → List ℕ → Type 0
Behind key Form l = (x : List ℕ) × Form x × (l ≡ key ++ x)

abbrev pub NumberedLine : List ℕ → ℕ → List ℕ → ℕ → Option Number → Type 0
NumberedLine key most s i (Some x) = (x.value < 10 ^ most) × Spans s i (key ++ numeral_line x.value) x.next
NumberedLine key most s i None = (n : ℕ) (r : List ℕ) → n < 10 ^ most → ¬ (drop i s ≡ (key ++ numeral_line n) ++ r)
