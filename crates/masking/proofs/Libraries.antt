-- Two libraries as 02 (n) supposes them have trees that are alike, so a rule selects the same nodes of both.
use Prim.Native.Nat.{ℕ, zero, suc, ◌≤◌, ◌<◌}
use mathlib.Core.Path.{◌≡◌, refl, ap₂}
use mathlib.Core.Logic.{◌↔◌}
use mathlib.Core.List.{List}
use lib.ListN.{length}
use lib.Dec.{eqb, ltb}
use native.Mathlib.Omega.{arith}
use Rattle.lists.specs.Lists.{Occurs}
use Rattle.xpath.specs.Syntax.{Test}
use Rattle.document_spec.specs.Library.{Node, at, Legal}
use Rattle.document_spec.specs.Binary.{compared_of, pick, back, is_first, parent_of, tree_of}
use Rattle.document_spec.proofs.Binary.{tree_formed}
use Rattle.evaluation_spec.specs.Evaluation.{Selects}
use Rattle.masking.specs.Masking.{constants, Masked}
use Rattle.masking.specs.Alike.{Alike}
use Rattle.masking.proofs.Signs.{Numeral, itself_iff}
use Rattle.masking.proofs.Meaning.{holds_alike}

-- a constant of the rule
abbrev pub ConstantOf : Test → List ℕ → Type 0
ConstantOf T c = Occurs c (constants T)

module _ {T : Test} {ns ns' : List Node} (m : Masked T ns ns') where
  -- ── The tree is told by the depths ──
  back_same : (d v : ℕ) → v ≤ length ns → back ns d v ≡ back ns' d v
  back_same d zero r = refl
  back_same d (suc v) r = ap₂ (λ e u. pick (eqb e d) v u) (m.depths v (omega arith)) (back_same d v (omega arith))

  first_same : (v : ℕ) → v < length ns → is_first ns v ≡ is_first ns' v
  first_same zero r = refl
  first_same (suc v) r = ap₂ ltb (m.depths v (omega arith)) (m.depths (suc v) r)

  parent_same : (v : ℕ) → v < length ns → parent_of ns v ≡ parent_of ns' v
  parent_same v r = rw (first_same v r, m.depths v r, back_same (at ns' v).depth v (omega arith)) refl

  -- ── A node with itself ──
  -- numerals stay numerals, and words words
  pub numerals_kept : (v : ℕ) → v < length ns → Numeral (compared_of ns v) ↔ Numeral (compared_of ns' v)
  numerals_kept v r = (itself_iff (compared_of ns v) (compared_of ns' v)).0 (m.values v v r r)

  -- ── The trees are alike ──
  pub masked_alike : Legal ns → Legal ns' → Alike (ConstantOf T) (tree_of ns) (tree_of ns')
  masked_alike ok ok' = record {
    formed = tree_formed ok;
    formed' = tree_formed ok';
    size = m.nodes;
    parent = parent_same;
    is_left = first_same;
    label = m.labels;
    values = m.values;
    against = m.against;
  }

  -- ── The rule selects the same nodes ──
  pub selects_masked : Legal ns → Legal ns' → (v : ℕ) → Selects ns T v ↔ Selects ns' T v
  selects_masked ok ok' v =
      let same = holds_alike (masked_alike ok ok') T (λ c o. o) v in
      (λ (r, h). (let e = m.nodes in omega arith, (same r).0 h), λ (r, h). let e = m.nodes in let q : v < length ns = omega arith in (q, (same q).1 h))
