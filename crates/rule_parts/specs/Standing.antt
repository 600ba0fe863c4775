-- Where the tests and paths of a rule stand in it.
use Rattle.std.specs.Prelude.{ℕ, ◌+◌, ◌≤◌, ◌≡◌, List, ◌++◌, length, drop}
use Rattle.xpath.specs.Syntax.{Op, Test, XPath}
use Rattle.rule_spec.specs.Spelling.{sign, spell_test, spell_path, LegalTest, LegalPath}
use Rattle.rule_spec.specs.Parts.{test_parts, path_parts}
use Rattle.rule_spec.specs.Readers.{keys, Unnamed}
use Rattle.tokens.specs.Readers.{Shallow, Lacks}

module _ (s : List ℕ) where
  -- the bytes w stand from i to j
  pub record Spans (w : List ℕ) (i j : ℕ) : Type 0 where
    pub inside : j ≤ length s
    pub ends : j ≡ i + length w
    pub spelled : drop i s ≡ w ++ drop j s

  -- the test T stands from i to j, and no byte of a name follows it
  pub record TestAt (T : Test) (i j : ℕ) : Type 0 where
    pub legal : LegalTest T
    pub shallow : Shallow (keys (test_parts T i 1))
    pub spans : Spans (spell_test T) i j
    pub apart : Unnamed (drop j s)

  pub record PathAt (P : XPath) (i j : ℕ) : Type 0 where
    pub legal : LegalPath P
    pub shallow : Shallow (keys (path_parts P i 1))
    pub spans : Spans (spell_path P) i j

  -- the sign o, which no = follows
  pub record SignAt (o : Op) (i j : ℕ) : Type 0 where
    pub spans : Spans (sign o) i j
    pub apart : Lacks 61 (drop j s)
