-- How a rule is spelled: 01, the rule.
use Rattle.std.specs.Prelude.{ℕ, ◌≤◌, ◌≢◌, List, ◌++◌, length}
use Rattle.limits.specs.Limits.{constant_bytes, rule_count}
use Rattle.lists.specs.Lists.{All}
use Rattle.lists.specs.Text.{bytes, Printable, decimal}
use Rattle.limits.specs.Names.{Name}
use Rattle.xpath.specs.Syntax.{Op, eq, ne, lt, le, gt, ge, Test, named, not, and, or, compare, compare_to, at_least, XPath, empty, one, seq, union, star, Step, to_left, to_right, from_left, from_right, stay}

-- o is one of = != < <= > >=
abbrev pub sign : Op → List ℕ
sign eq = bytes "="
sign ne = bytes "!="
sign lt = bytes "<"
sign le = bytes "<="
sign gt = bytes ">"
sign ge = bytes ">="

unfoldable mutual
  pub spell_test : Test → List ℕ
  spell_test (named n) = bytes ":" ++ n
  spell_test (not T) = bytes "!" ++ spell_test T
  spell_test (and T U) = bytes "&" ++ (spell_test T ++ spell_test U)
  spell_test (or T U) = bytes "|" ++ (spell_test T ++ spell_test U)
  spell_test (compare o P Q) = bytes "(" ++ (spell_path P ++ (sign o ++ (spell_path Q ++ bytes ")")))
  spell_test (compare_to o P c) = bytes "(" ++ (spell_path P ++ (sign o ++ (bytes "\"" ++ (c ++ bytes "\")"))))
  spell_test (at_least n P) = bytes "#" ++ (decimal n ++ spell_path P)

  pub spell_path : XPath → List ℕ
  spell_path empty = bytes "e"
  spell_path (one s) = spell_step s
  spell_path (seq P Q) = bytes "." ++ (spell_path P ++ spell_path Q)
  spell_path (union P Q) = bytes "+" ++ (spell_path P ++ spell_path Q)
  spell_path (star P) = bytes "*" ++ spell_path P

  pub spell_step : Step → List ℕ
  spell_step to_left = bytes "l"
  spell_step to_right = bytes "r"
  spell_step from_left = bytes "L"
  spell_step from_right = bytes "R"
  spell_step (stay T) = bytes "[" ++ (spell_test T ++ bytes "]")

-- c is 0 to 32 bytes from 0x20 to 0x7E without the double quote
unfoldable pub Constant : List ℕ → Type 0
Constant c = All (λ b. Printable b × (b ≢ 34)) c × (length c ≤ constant_bytes)

-- every name is spelled as S and every constant as c; 02 (h): n is 0 to 4,096
unfoldable mutual
  pub LegalTest : Test → Type 0
  LegalTest (named n) = Name n
  LegalTest (not T) = LegalTest T
  LegalTest (and T U) = LegalTest T × LegalTest U
  LegalTest (or T U) = LegalTest T × LegalTest U
  LegalTest (compare o P Q) = LegalPath P × LegalPath Q
  LegalTest (compare_to o P c) = LegalPath P × Constant c
  LegalTest (at_least n P) = (n ≤ rule_count) × LegalPath P

  pub LegalPath : XPath → Type 0
  LegalPath empty = Unit {0}
  LegalPath (one s) = LegalStep s
  LegalPath (seq P Q) = LegalPath P × LegalPath Q
  LegalPath (union P Q) = LegalPath P × LegalPath Q
  LegalPath (star P) = LegalPath P

  pub LegalStep : Step → Type 0
  LegalStep to_left = Unit {0}
  LegalStep to_right = Unit {0}
  LegalStep from_left = Unit {0}
  LegalStep from_right = Unit {0}
  LegalStep (stay T) = LegalTest T
