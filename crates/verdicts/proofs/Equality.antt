-- Whether a rule is an equality between two paths: by its kind, its sign, and the quote with which a constant begins.
use Prim.Native.Nat.{ℕ, ◌≤◌, ◌<◌}
use native.Mathlib.Omega.{arith}
use mathlib.Core.Path.{◌≡◌, refl, sym, ap, ◌∙◌, subst}
use mathlib.Core.Logic.{◌⊎◌, inl, inr, ◌≢◌}
use mathlib.Core.Bool.{Bool, true, false}
use mathlib.Core.Bool as booleans
use mathlib.Core.List.{List}
use lib.ListN.{length}
use Rattle.xpath.specs.Syntax.{Op, eq, ne, lt, le, gt, ge, Test, named, not, and, or, compare, compare_to, at_least, XPath}
use Rattle.rule_spec.specs.Verdict.{Accepts}
use Rattle.rule_spec.proofs.Reading.{test_head}
use Rattle.tokens.specs.Readers.{Stood}
use Rattle.rule_parts.specs.declared.kinds.TestKind.{TestKind}
use Rattle.rule_parts.specs.declared.kinds.TestKind.TheVariants.{Comparison}
use Rattle.rule_parts.specs.declared.kinds.Operator.TheVariants.{Equal}
use Rattle.rule_parts.specs.declared.Middle.{Middle}
use Rattle.rule_parts.specs.Kinds.{test_kind, operator}
use Rattle.rule_parts.specs.Standing.{TestAt}
use Rattle.rule_parts.specs.Middles.{Parted}
use Rattle.rule_parts.proofs.Inner.{rule_at}
use Rattle.rule_parts.proofs.Operands.{unquoted, quoted, quote_stands}
use Rattle.verdicts.specs.Judging.{Equates}

-- a comparison has two paths, or a path and a constant
abbrev Sides : Test → Type 0
Sides T = ((o : Op) × (P R : XPath) × (T ≡ compare o P R)) ⊎ ((o : Op) × (P : XPath) × (c : List ℕ) × (T ≡ compare_to o P c))

sides : (T : Test) → test_kind T ≡ Comparison → Sides T
sides (named a) e = absurd cc
sides (not T) e = absurd cc
sides (and T U) e = absurd cc
sides (or T U) e = absurd cc
sides (compare o P R) e = inl (o, P, R, refl)
sides (compare_to o P c) e = inr (o, P, c, refl)
sides (at_least n P) e = absurd cc

equal_sign : (o : Op) → operator o ≡ Equal → o ≡ eq
equal_sign eq e = refl
equal_sign ne e = absurd cc
equal_sign lt e = absurd cc
equal_sign le e = absurd cc
equal_sign gt e = absurd cc
equal_sign ge e = absurd cc

module _ {s : List ℕ} {T : Test} (a : Accepts s T) where
  pub some_bytes : 0 < length s
  some_bytes = let (b, u, e, h) = test_head T in let n = ap length (a.reads.spelled ∙ e) in omega arith

  module _ {kind : TestKind} (told : (U : Test) (j : ℕ) → TestAt s U 0 j → kind ≡ test_kind U) where
    pub other_kind : kind ≢ Comparison → Equates T false
    other_kind n P R e = n (told T (length s) (rule_at s a) ∙ ap test_kind e)

    module _ (comparison : kind ≡ Comparison) {m : Middle} (parted : (U : Test) (j : ℕ) → TestAt s U 0 j → Parted s U 0 j m) where
      -- the middle of the rule, as what it is
      middle : {U : Test} → T ≡ U → Parted s U 0 (length s) m
      middle {U} e = parted U (length s) (subst (λ W. TestAt s W 0 (length s)) e (rule_at s a))

      both : Sides T
      both = sides T (sym (told T (length s) (rule_at s a)) ∙ comparison)

      pub second_inside : m.second ≤ length s
      second_inside = go both
        where
          go : Sides T → m.second ≤ length s
          go (inl (o, P, R, e)) = (middle e).0.sign.spans.inside
          go (inr (o, P, c, e)) = (middle e).0.sign.spans.inside

      pub other_sign : m.operator ≢ Equal → Equates T false
      other_sign n P R e = n (middle e).0.told

      pub by_quote : m.operator ≡ Equal → (b : Bool) → Stood s m.second 34 b → Equates T (booleans.not b)
      by_quote z true q = λ P R e. quote_stands s q (unquoted s (middle e).1.1)
      by_quote z false l = go both
        where
          go : Sides T → (P R : XPath) × (T ≡ compare eq P R)
          go (inl (o, P, R, e)) = (P, R, e ∙ ap (λ x. compare x P R) (equal_sign o (sym (middle e).0.told ∙ z)))
          go (inr (o, P, c, e)) = absurd (quote_stands s (quoted s c (middle e).1) l)
