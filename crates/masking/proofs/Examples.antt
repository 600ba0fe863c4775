-- Pairs of libraries that the supposition of 02 (n) takes in, so that it can be met; and pairs that it shuts out, where a rule selects other nodes, so that it is needed. All computed.
use Prim.Native.Nat.{ℕ, ◌<◌}
use mathlib.Core.Path.{◌≡◌, refl}
use mathlib.Core.Logic.{◌↔◌}
use mathlib.Core.Bool.{Bool}
use mathlib.Core.List.{map}
use lib.Dec.{T, ltb, ltb→lt}
use lib.ListN.{length}
use Rattle.lists.specs.Lists.{Occurs}
use Rattle.lists.specs.Text.{decimal, digits, digits_by}
use Rattle.lists.specs.Blanks.{trim, trim_end, trim_start}
use Rattle.xpath.specs.Meaning.{Holds}
use Rattle.xpath.specs.Booleans.{both}
use Rattle.xpath.specs.Reading.{amount_of, whole_from, decimals_from}
use Rattle.xpath.proofs.Booleans.{neg, T-both, T-neg}
use Rattle.xpath.proofs.Decide.{some_below, some_iff, allb, each_by, sideb, sides_iff, formedb, formed_by, holdsb, holds_iff}
use Rattle.document_spec.specs.Binary.{compared_of, tree_of}
use Rattle.rule_spec.specs.Spelling.{spell_test, spell_path, spell_step}
use Rattle.masking.specs.Masking.{Masked}
use Rattle.masking.specs.Pairs.{Pair, rules, written, kept, broken}
use Rattle.masking.proofs.Supposed.{maskedb, masked_iff}

-- the rules, by their bytes
pub rules_written : map spell_test rules ≡ written
unfolding spell_test spell_path spell_step decimal digits digits_by
rules_written = refl

-- ── Tests that compute ──
abbrev told : Pair → Bool
told p = maskedb p.test p.before p.after

-- the rule's test holds at a node of one of the two alone
abbrev otherb : Pair → ℕ → Bool
otherb p v = neg (sideb (holdsb (tree_of p.before) p.test v) (holdsb (tree_of p.after) p.test v))

abbrev formed : Pair → Bool
formed p = both (formedb (tree_of p.before)) (formedb (tree_of p.after))

-- and the node is one of both
abbrev shared : Pair → ℕ → Bool
shared p v = both (ltb v (length p.after)) (otherb p v)

abbrev apart : Pair → Bool
apart p = both (neg (told p)) (both (formed p) (some_below (length p.before) (shared p)))

computed : T (allb told kept) × T (allb apart broken)
unfolding compared_of trim trim_end trim_start amount_of whole_from decimals_from
computed = (tt, tt)

-- ── What they show ──
pub kept_masked : (p : Pair) → Occurs p kept → Masked p.test p.before p.after
kept_masked = each_by told (λ p. Masked p.test p.before p.after) (λ p. (masked_iff p.test p.before p.after).0) kept computed.0

-- not as supposed, and at a node of both the rule's test holds in one alone
pub record Broken (p : Pair) : Type 0 where
  pub unmasked : ¬ Masked p.test p.before p.after
  pub v : ℕ
  pub inside : v < length p.before
  pub inside' : v < length p.after
  pub other : ¬ (Holds (tree_of p.before) p.test v ↔ Holds (tree_of p.after) p.test v)

broken_by : (p : Pair) → T (apart p) → Broken p
broken_by p h =
    let (f, g) = (T-both (neg (told p)) (both (formed p) (some_below (length p.before) (shared p)))).0 h in
    let (k, s) = (T-both (formed p) (some_below (length p.before) (shared p))).0 g in
    let (t, t') = (T-both (formedb (tree_of p.before)) (formedb (tree_of p.after))).0 k in
    let (v, r, o) = (some_iff (length p.before) (shared p)).0 s in
    let (q, n) = (T-both (ltb v (length p.after)) (otherb p v)).0 o in
    let q' = ltb→lt v (length p.after) q in
    let a = holdsb (tree_of p.before) p.test v in
    let b = holdsb (tree_of p.after) p.test v in
    let i = holds_iff (tree_of p.before) (formed_by (tree_of p.before) t) p.test v r in
    let j = holds_iff (tree_of p.after) (formed_by (tree_of p.after) t') p.test v q' in
    record {
      unmasked = λ m. (T-neg (told p)).0 f ((masked_iff p.test p.before p.after).1 m);
      v = v;
      inside = r;
      inside' = q';
      other = λ e. (T-neg (sideb a b)).0 n ((sides_iff a b i j).1 e);
    }

pub broken_told : (p : Pair) → Occurs p broken → Broken p
broken_told = each_by apart Broken broken_by broken computed.1
