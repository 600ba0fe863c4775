-- Which comparison stands at an offset: the second operand is a constant exactly if it begins with a quote.
use Prim.Native.Nat.{ℕ, ◌+◌, ◌-◌, ◌≤◌}
use native.Mathlib.Omega.{arith}
use mathlib.Core.Path.{◌≡◌, sym, ap, ◌∙◌, subst}
use mathlib.Core.Logic.{inl, inr}
use mathlib.Core.Bool.{true, false}
use mathlib.Core.List.{List}
use lib.ListN.{length}
use lib.Seq.{slice}
use Rattle.lists.specs.Text.{bytes}
use Rattle.xpath.specs.Syntax.{Op, Test, compare, compare_to, XPath}
use Rattle.document_spec.specs.Library.{Node}
use Rattle.tokens.specs.Readers.{Stood}
use Rattle.rule_parts.specs.Standing.{TestAt}
use Rattle.rule_parts.specs.Middles.{Parted}
use Rattle.rule_parts.specs.declared.Middle.{Middle}
use Rattle.rule_parts.specs.declared.kinds.TestKind.TheVariants.{Comparison}
use Rattle.rule_parts.proofs.Inner.{spans_split, spans_next}
use Rattle.rule_parts.proofs.Operands.{unquoted, quoted, quote_stands}
use Rattle.test_numbers.specs.Tests.{tests_of, test}
use Rattle.driver.specs.Tasks.{Shape, Task, Paths, Constant}
use Rattle.driver.proofs.Arms.{spans_slice}

module _ {s rule : List ℕ} {ns : List Node} {T : Test} {n at k : ℕ} {t : List ℕ} (task : Task s rule ns T n at k t)
    {m : Middle} (parted : (U : Test) (j : ℕ) → TestAt rule U at j → Parted rule U at j m) where
  abbrev due : Test
  due = test (tests_of T) k

  pub told : {U : Test} → due ≡ U → Parted rule U at task.end m
  told {U} e = parted U task.end (subst (λ A. TestAt rule A at task.end) e task.stands)

  -- the second operand begins inside the rule
  pub second_inside : Shape Comparison due → m.second ≤ length rule
  second_inside (inl (o, P, R, e)) = (told e).0.sign.spans.inside
  second_inside (inr (o, P, c, e)) = (told e).0.sign.spans.inside

  -- two paths
  abbrev pub both_paths : {o : Op} {P R : XPath} → due ≡ compare o P R → Paths s rule ns T n at k t m.second m.operator
  both_paths {o} {P} {R} e =
      let (f, (j, q, r)) = told e in
      record { task = task; sign = o; first = P; second = R; is = e; told = f.told; first_end = m.sign; first_at = f.first; second_end = j; second_at = q }

  pub is_paths : Shape Comparison due → Stood rule m.second 34 false → Paths s rule ns T n at k t m.second m.operator
  is_paths (inl (o, P, R, e)) lacks = both_paths e
  is_paths (inr (o, P, c, e)) lacks = let (f, q) = told e in absurd (quote_stands rule (quoted rule c q) lacks)

  pub is_constant : Shape Comparison due → Stood rule m.second 34 true → Constant s rule ns T n at k t (m.second + 1) (task.end - 2) m.operator
  is_constant (inl (o, P, R, e)) quote =
      let (f, (j, q, r)) = told e in absurd (quote_stands rule quote (unquoted rule q))
  is_constant (inr (o, P, c, e)) quote =
      let (f, q) = told e in
      let (a, b) = spans_split rule c (bytes "\")") (spans_next rule 34 q) in
      let x = a.ends in let y = b.ends in let z = b.inside in let w = a.inside in
      let stop : m.second + 1 + length c ≡ task.end - 2 = omega arith in
      record {
        task = task;
        sign = o;
        first = P;
        is = e ∙ ap (compare_to o P) (sym (subst (λ i. slice (m.second + 1) i rule ≡ c) stop (spans_slice a)));
        told = f.told;
        first_end = m.sign;
        first_at = f.first;
        ordered = omega arith;
        inside = omega arith;
      }

  -- the quote and the bracket stand behind a constant
  pub constant_ends : Shape Comparison due → Stood rule m.second 34 true → 2 ≤ task.end
  constant_ends shape quote = let h = (is_constant shape quote).ordered in omega arith
