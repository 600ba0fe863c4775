-- The second operand of a comparison is a constant exactly if it begins with a quote.
use Prim.Native.Nat.{ℕ, ◌+◌}
use native.Mathlib.Omega.{arith}
use native.Mathlib.Numerals.{add-one}
use mathlib.Core.Path.{◌≡◌, refl, sym, ap, ◌∙◌, subst}
use mathlib.Core.List.{List, ◌∷◌, ◌++◌}
use lib.ListN.{drop, length-append}
use borrow.Author.Tests.{eqb-false}
use Rattle.lists.specs.Text.{bytes}
use Rattle.xpath.specs.Syntax.{XPath}
use Rattle.rule_spec.proofs.Reading.{path_head}
use Rattle.tokens.specs.Readers.{Lacks, Stands}
use Rattle.rule_parts.specs.Standing.{Spans, PathAt}
use Rattle.rule_parts.proofs.Inner.{spans_next}

module _ (s : List ℕ) where
  -- no path begins with a quote
  pub unquoted : {P : XPath} {i j : ℕ} → PathAt s P i j → Lacks 34 (drop i s)
  unquoted {P} {i} {j} a =
      let (b, u, e, h) = path_head P in
      subst (Lacks 34) (sym (a.spans.spelled ∙ ap (λ w. w ++ drop j s) e)) (eqb-false b 34 h.0)

  -- a constant does
  pub quoted : (c : List ℕ) {i j : ℕ} → Spans s (bytes "\"" ++ (c ++ bytes "\")")) i j → Stands s i 34
  quoted c {i} {j} h =
      let e = h.ends in let l = h.inside in let n = length-append c (bytes "\")") in
      let rest : drop (i + 1) s ≡ (c ++ bytes "\")") ++ drop j s = (spans_next s 34 h).spelled in
      record { inside = omega arith; here = h.spelled ∙ ap (λ w. 34 ∷ w) (sym rest) ∙ ap (λ m. 34 ∷ drop m s) (add-one i) }

  pub quote_stands : {i : ℕ} → Stands s i 34 → ¬ Lacks 34 (drop i s)
  quote_stands h k = subst (Lacks 34) h.here k refl
