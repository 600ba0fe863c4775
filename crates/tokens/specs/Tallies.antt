-- What is kept of the parts that are passed, for numbers 8 and 9.
use Rattle.std.specs.Prelude.{ℕ, zero, suc, min, List, [], ◌∷◌, eqb, leb}
use Rattle.limits.specs.Limits.{rule_bytes, rule_tests, comparison_steps}
use Rattle.rule_spec.specs.Parts.{Part, Sort}
use Rattle.rule_spec.specs.Bytes.{choose}
use Rattle.tokens.specs.declared.read.Tally.{Tally}

-- no part of a rule that is short enough begins there
abbrev pub nowhere : ℕ
nowhere = rule_bytes

abbrev pub tally : ℕ → ℕ → ℕ → Tally
tally l c h = record { left = l; crowded = c; heavy = h }

-- the first test for which none is left is the first too many
abbrev pub crowds : ℕ → ℕ → ℕ
crowds c o = choose (eqb c nowhere) o c

abbrev pub begins : ℕ → ℕ → ℕ → ℕ → Tally
begins zero c h o = tally zero (crowds c o) h
begins (suc l) c h o = tally l c h

-- a test begins at o
unfoldable pub begun : Tally → ℕ → Tally
begun t o = begins t.left t.crowded t.heavy o

-- of several comparisons and counts of too many steps the first is named
abbrev pub heavier : ℕ → ℕ → ℕ → ℕ
heavier h o m = choose (leb m comparison_steps) h (min h o)

-- a comparison or a count at o has m steps
unfoldable pub weighed : Tally → ℕ → ℕ → Tally
weighed t o m = tally t.left t.crowded (heavier t.heavy o m)

unfoldable pub noted : Tally → ℕ → Sort → Tally
noted t o Sort.test = begun t o
noted t o (Sort.stepped m) = weighed (begun t o) o m
noted t o Sort.path = t

unfoldable pub tallied : Tally → List Part → Tally
tallied t [] = t
tallied t (p ∷ ps) = tallied (noted t p.offset p.sort) ps

-- before the first byte
abbrev pub untold : Tally
untold = tally rule_tests nowhere nowhere
