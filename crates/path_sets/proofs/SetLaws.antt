-- The sets of a path from those of its parts.
use Prim.Native.Nat.{ℕ, ◌+◌}
use native.Mathlib.Omega.{arith}
use mathlib.Core.Path.{◌≡◌, refl, sym, ap, subst, ◌∙◌}
use mathlib.Core.Bool.{true, false}
use mathlib.Core.Logic.{◌⊎◌, inl, inr, ◌↔◌}
use lib.ListN.{length-append}
use Rattle.bits.specs.Sets.{bit, is, or, and}
use Rattle.bits.proofs.SetLaws.{bit_none}
use Rattle.xpath.specs.Syntax.{XPath, empty, one, seq, union, star, Step, steps, size}
use Rattle.rule_spec.proofs.Bytes.{eq_iff}
use Rattle.positions.specs.Glushkov.{Begins, Stops}
use Rattle.path_sets.specs.declared.sets.Scan.{Scan}
use Rattle.path_sets.specs.Scanned.{Sets}
use Rattle.path_sets.proofs.Truth.{tells_or, tells_and, tells_none}

module _ (P Q : XPath) (b : ℕ) (p q r : Scan) (h : Sets P b p) (g : Sets Q (b + size P) q) (k : r.count ≡ q.count) where
  counted : r.count ≡ b + size (seq P Q)
  counted = let n = length-append (steps P) (steps Q) in let e = g.count in omega arith

  pub seq_sets : r.null ≡ and p.null q.null
      → ((i : ℕ) → bit r.first i ≡ or (bit p.first i) (and p.null (bit q.first i)))
      → ((i : ℕ) → bit r.last i ≡ or (bit q.last i) (and q.null (bit p.last i)))
      → Sets (seq P Q) b r
  seq_sets n f l = record {
    null = tells_and p.null q.null h.null g.null r.null n;
    first = λ i. tells_or (bit p.first i) (and p.null (bit q.first i)) (h.first i) (tells_and p.null (bit q.first i) h.null (g.first i) _ refl) _ (f i);
    last = λ i. tells_or (bit q.last i) (and q.null (bit p.last i)) (g.last i) (tells_and q.null (bit p.last i) g.null (h.last i) _ refl) _ (l i);
    count = counted;
  }

  pub union_sets : r.null ≡ or p.null q.null
      → ((i : ℕ) → bit r.first i ≡ or (bit p.first i) (bit q.first i))
      → ((i : ℕ) → bit r.last i ≡ or (bit p.last i) (bit q.last i))
      → Sets (union P Q) b r
  union_sets n f l = record {
    null = tells_or p.null q.null h.null g.null r.null n;
    first = λ i. tells_or (bit p.first i) (bit q.first i) (h.first i) (g.first i) _ (f i);
    last = λ i. tells_or (bit p.last i) (bit q.last i) (h.last i) (g.last i) _ (l i);
    count = counted;
  }

pub empty_sets : (b : ℕ) (r : Scan) → r.null ≡ true → r.first ≡ 0 → r.last ≡ 0 → r.count ≡ b → Sets empty b r
empty_sets b r n f l k = record {
  null = (λ e. tt, λ h. n);
  first = λ i. tells_none _ (ap (λ (w : ℕ). bit w i) f ∙ bit_none i);
  last = λ i. tells_none _ (ap (λ (w : ℕ). bit w i) l ∙ bit_none i);
  count = omega arith;
}

-- a set of one member
pub single_tells : (w b : ℕ) → ((i : ℕ) → bit w i ≡ or (is i b) (bit 0 i)) → (i : ℕ) → (bit w i ≡ true) ↔ (i ≡ b)
single_tells w b f i = let t = tells_or (is i b) (bit 0 i) (eq_iff i b) (tells_none _ (bit_none i)) _ (f i) in (λ e. only (t.0 e), λ h. t.1 (inl h))
  where
    only : (i ≡ b) ⊎ ⊥ → i ≡ b
    only (inl h) = h
    only (inr h) = absurd h

pub one_sets : (t : Step) (b : ℕ) (r : Scan) → r.null ≡ false → ((i : ℕ) → bit r.first i ≡ or (is i b) (bit 0 i)) → r.last ≡ r.first → r.count ≡ b + 1
    → Sets (one t) b r
one_sets t b r n f l k = record {
  null = tells_none r.null n;
  first = single_tells r.first b f;
  last = λ i. subst (λ (w : ℕ). (bit w i ≡ true) ↔ (i ≡ b)) (sym l) (single_tells r.first b f i);
  count = k;
}

pub star_sets : (P : XPath) (b : ℕ) (p r : Scan) → r.null ≡ true → r.first ≡ p.first → r.last ≡ p.last → r.count ≡ p.count → Sets P b p → Sets (star P) b r
star_sets P b p r n f l k h = record {
  null = (λ e. tt, λ u. n);
  first = λ i. subst (λ (w : ℕ). (bit w i ≡ true) ↔ Begins P b i) (sym f) (h.first i);
  last = λ i. subst (λ (w : ℕ). (bit w i ≡ true) ↔ Stops P b i) (sym l) (h.last i);
  count = k ∙ h.count;
}
