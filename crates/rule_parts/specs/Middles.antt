-- The two sides of a comparison, and the number and the path of a count.
use Rattle.std.specs.Prelude.{ℕ, ◌+◌, ◌≡◌, List, ◌++◌}
use Rattle.lists.specs.Text.{bytes}
use Rattle.xpath.specs.Syntax.{Op, Test, named, not, and, or, compare, compare_to, at_least, XPath}
use Rattle.rule_parts.specs.declared.Middle.{Middle}
use Rattle.rule_parts.specs.declared.Count.{Count}
use Rattle.rule_parts.specs.Standing.{Spans, PathAt, SignAt}
use Rattle.rule_parts.specs.Kinds.{operator}

module _ (s : List ℕ) where
  -- the first path stands from i + 1 to the sign o, and that up to the second operand
  pub record FirstSide (o : Op) (P : XPath) (i : ℕ) (m : Middle) : Type 0 where
    pub told : m.operator ≡ operator o
    pub first : PathAt s P (i + 1) m.sign
    pub sign : SignAt s o m.sign m.second

  -- the second operand is a path and the bracket, or a constant in quotes and the bracket
  abbrev pub Parted : Test → ℕ → ℕ → Middle → Type 0
  Parted (named a) i j m = Unit {0}
  Parted (not T) i j m = Unit {0}
  Parted (and T U) i j m = Unit {0}
  Parted (or T U) i j m = Unit {0}
  Parted (compare o P Q) i j m = FirstSide o P i m × ((k : ℕ) × PathAt s Q m.second k × Spans s (bytes ")") k j)
  Parted (compare_to o P c) i j m = FirstSide o P i m × Spans s (bytes "\"" ++ (c ++ bytes "\")")) m.second j
  Parted (at_least n P) i j m = Unit {0}

  -- n, and the path that stands behind it up to the count's end j
  pub record Counted (n : ℕ) (P : XPath) (j : ℕ) (c : Count) : Type 0 where
    pub told : c.nodes ≡ n
    pub path : PathAt s P c.path j
