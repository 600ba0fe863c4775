-- For an accepted call, who has counted the snippets has all that demand 3 says of the count: the bound follows from the limits of the rule.
use Prim.Native.Nat.{ℕ, suc, ◌+◌, ◌≤◌, ◌<◌}
use mathlib.Core.Path.{◌≡◌, refl, sym, ap}
use mathlib.Core.Logic.{◌⊎◌, inl, inr, ⊎_elim}
use mathlib.Core.List.{List, ◌∷◌, ◌++◌}
use lib.ListN.{length}
use native.Mathlib.Omega.{arith}
use native.Mathlib.Decide.{dec_lt}
use Rattle.lists.specs.Lists.{Occurs}
use Rattle.lists.proofs.Lists.{occurs_left, occurs_right, occurs_append}
use Rattle.lists.specs.Text.{decimal}
use Rattle.limits.specs.Limits.{comparison_steps}
use Rattle.xpath.specs.Syntax.{Op, eq, ne, lt, le, gt, ge, Test, named, not, and, or, compare, compare_to, at_least, XPath, empty, one, seq, union, star, Step, to_left, to_right, from_left, from_right, stay, size}
use Rattle.snippets.specs.Count.{Pair, comparisons, in_path, in_step, Counted, SnippetCount}
use Rattle.snippets.proofs.Counting.{snippet_count}
use Rattle.document_spec.specs.Library.{Node}
use Rattle.document_spec.specs.Binary.{tree_of}
use Rattle.document_spec.proofs.Binary.{tree_formed}
use Rattle.rule_spec.specs.Spelling.{sign, spell_test, spell_path}
use Rattle.rule_spec.specs.Parts.{Part, stepped, test_parts, path_parts, step_parts, parts}
use Rattle.rule_spec.specs.Verdict as Rule
use Rattle.evaluation_spec.specs.Buffers.{Accepted}

-- a part that is this comparison
record Is (c : Pair) (ps : List Part) : Type 0 where
  part : Part
  among : Occurs part ps
  same : part.sort ≡ stepped (size c.first + size c.second)

later : {c : Pair} {p : Part} {ps : List Part} → Is c ps → Is c (p ∷ ps)
later i = record { part = i.part; among = inr i.among; same = i.same }

left : {c : Pair} (ps qs : List Part) → Is c ps → Is c (ps ++ qs)
left ps qs i = record { part = i.part; among = occurs_left i.part ps qs i.among; same = i.same }

right : {c : Pair} (ps qs : List Part) → Is c qs → Is c (ps ++ qs)
right ps qs i = record { part = i.part; among = occurs_right i.part ps qs i.among; same = i.same }

-- from two lists of comparisons to two lists of parts
split : (c : Pair) (xs ys : List Pair) (ps qs : List Part) → (Occurs c xs → Is c ps) → (Occurs c ys → Is c qs) → Occurs c (xs ++ ys) → Is c (ps ++ qs)
split c xs ys ps qs f g o = ⊎_elim (λ h. left ps qs (f h)) (λ h. right ps qs (g h)) (occurs_append c xs ys o)

-- a comparison of a comparison is it itself, or inside its paths
itself_or_inside : (s : Op) (P Q : XPath) (c : Pair) → Occurs c (comparisons (compare s P Q)) → (size c.first + size c.second ≡ size P + size Q) ⊎ Occurs c (in_path P ++ in_path Q)
itself_or_inside eq P Q c (inl e) = inl (ap (λ (d : Pair). size d.first + size d.second) e)
itself_or_inside eq P Q c (inr h) = inr h
itself_or_inside ne P Q c h = inr h
itself_or_inside lt P Q c h = inr h
itself_or_inside le P Q c h = inr h
itself_or_inside gt P Q c h = inr h
itself_or_inside ge P Q c h = inr h

-- ── Each equality between two paths is a part of the rule ──
mutual
  unfolding test_parts

  in_test : (T : Test) (o n : ℕ) (c : Pair) → Occurs c (comparisons T) → Is c (test_parts T o n)
  in_test (named a) o n c h = absurd h
  in_test (not T) o n c h = later (in_test T (suc o) (suc n) c h)
  in_test (and T U) o n c h = later (split c (comparisons T) (comparisons U) _ _ (λ i. in_test T (suc o) (suc n) c i) (λ i. in_test U (suc o + length (spell_test T)) (suc n) c i) h)
  in_test (or T U) o n c h = later (split c (comparisons T) (comparisons U) _ _ (λ i. in_test T (suc o) (suc n) c i) (λ i. in_test U (suc o + length (spell_test T)) (suc n) c i) h)
  in_test (compare s P Q) o n c h =
      ⊎_elim (λ e. record { part = record { offset = o; nesting = n; sort = stepped (size P + size Q) }; among = inl refl; same = ap stepped (sym e) })
      (λ h. later (split c (in_path P) (in_path Q) _ _ (λ i. in_path_lem P (suc o) (suc n) c i) (λ i. in_path_lem Q (suc o + length (spell_path P) + length (sign s)) (suc n) c i) h))
      (itself_or_inside s P Q c h)
  in_test (compare_to s P a) o n c h = later (in_path_lem P (suc o) (suc n) c h)
  in_test (at_least k P) o n c h = later (in_path_lem P (suc o + length (decimal k)) (suc n) c h)

  in_path_lem : (P : XPath) (o n : ℕ) (c : Pair) → Occurs c (in_path P) → Is c (path_parts P o n)
  in_path_lem empty o n c h = absurd h
  in_path_lem (one s) o n c h = later (in_step_lem s o n c h)
  in_path_lem (seq P Q) o n c h = later (split c (in_path P) (in_path Q) _ _ (λ i. in_path_lem P (suc o) (suc n) c i) (λ i. in_path_lem Q (suc o + length (spell_path P)) (suc n) c i) h)
  in_path_lem (union P Q) o n c h = later (split c (in_path P) (in_path Q) _ _ (λ i. in_path_lem P (suc o) (suc n) c i) (λ i. in_path_lem Q (suc o + length (spell_path P)) (suc n) c i) h)
  in_path_lem (star P) o n c h = later (in_path_lem P (suc o) (suc n) c h)

  in_step_lem : (s : Step) (o n : ℕ) (c : Pair) → Occurs c (in_step s) → Is c (step_parts s o n)
  in_step_lem to_left o n c h = absurd h
  in_step_lem to_right o n c h = absurd h
  in_step_lem from_left o n c h = absurd h
  in_step_lem from_right o n c h = absurd h
  in_step_lem (stay T) o n c h = in_test T (suc o) (suc n) c h

-- ── The steps of an accepted rule ──
pub few_steps : (s : List ℕ) (T : Test) → Rule.Accepts s T → (c : Pair) → Occurs c (comparisons T) → size c.first + size c.second ≤ comparison_steps
unfolding parts
few_steps s T a c h = let i = in_test T 0 1 c h in go i.part i.same (a.light i.part i.among) (dec_lt comparison_steps (size c.first + size c.second))
  where
    go : (p : Part) → p.sort ≡ stepped (size c.first + size c.second) → ¬ Rule.Heavy p → Dec (comparison_steps < size c.first + size c.second) → size c.first + size c.second ≤ comparison_steps
    go p e f (yes r) = absurd (f (size c.first + size c.second, e, r))
    go p e f (no r) = omega arith

pub accepted_count : (document rule : List ℕ) (words marks : ℕ) (ns : List Node) (T : Test) → Accepted document rule words marks ns T
    → (n : ℕ) → Counted (tree_of ns) (comparisons T) n → SnippetCount (tree_of ns) T n
accepted_count document rule words marks ns T a n h = snippet_count (tree_of ns) (tree_formed a.library.legal) T (few_steps rule T a.test) n h
