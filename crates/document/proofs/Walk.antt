-- The walk over the nodes: from the count line to what is behind the last node.
use Prim.Native.Nat.{ℕ, ◌+◌, ◌*◌, ◌≤◌, ◌<◌}
use mathlib.Core.Path.{◌≡◌, refl, sym, ap, ◌∙◌, subst}
use mathlib.Core.Logic.{◌⊎◌}
use mathlib.Core.List.{List}
use lib.ListN.{length, drop, length-drop, drop_of_length-le}
use native.Mathlib.Omega.{arith}
use Rattle.limits.specs.Limits.{document_bytes, document_nodes}
use Rattle.lists.specs.Text.{bytes}
use Rattle.refusals.specs.Refusals.{line_form, node_count, First}
use Rattle.document_spec.specs.Library as Library
use Rattle.document_spec.specs.Verdict.{CountIs, DocumentGround, Accepts, behind_lines}
use Rattle.document_spec.proofs.Lines.{line_none}
use Rattle.document_spec.proofs.Cursor.{count_here, count_split}
use Rattle.document_spec.proofs.Grounds.{first_uncounted, first_number}
use Rattle.document_spec.proofs.Good.{good_start, first_extra}
use Rattle.document_spec.proofs.Accepted.{good_accepts}
use Rattle.std.specs.Prelude.{Some, None}
use Rattle.lexer.specs.Reading.{NumberedLine}
use Rattle.document_lines.specs.declared.rules.Kind.{Kind}
use Rattle.document_lines.specs.declared.rules.Kind.TheVariants.{Element, Attribute, Text}
use Rattle.label_trees.specs.Trees.{Copied}
use Rattle.document.specs.declared.nodes.Progress.{Progress}
use Rattle.document.specs.Check.{Cursor, Labelled, Run, Carries, Reached}

-- ── Words ──
-- before the first node nothing is held
pub first_reached : {s t : List ℕ} {n i : ℕ} → Cursor s n 1 i → Reached s t n (record { node = 0; at = i; before = record { depth = 0; kind = Element } })
first_reached c = record { cursor = c; before = tt; small = omega arith; carries = tt }

-- the words were changed, and hold what they must
pub reached_still : {s t t' : List ℕ} {n : ℕ} {h : Progress} → Reached s t n h → Carries s t' h.node h.at h.before.kind → Reached s t' n h
reached_still r c = record { cursor = r.cursor; before = r.before; small = r.small; carries = c }

-- with more words the same is held
module _ {s t u u' : List ℕ} (c : Copied t u u') where
  run_copied : {v i : ℕ} → Run s t v i → Run s u' v i
  run_copied {v} {i} r =
      let e = c.same in
      let l = r.holds.room in
      record {
        holds = c.holds s r.holds;
        first = r.first;
        upto = let m = r.upto in omega arith;
        opens = r.opens;
        labelled = λ k h. subst (Labelled s (r.first + k)) (sym (c.offsets k (omega arith))) (r.labelled k (omega arith));
        below = λ k h. omega (arith, c.offsets k (omega arith), r.below k (omega arith));
      }

  pub reached_copied : {n : ℕ} {h : Progress} → Reached s t n h → Reached s u' n h
  reached_copied {h} r = reached_still r (go h.before.kind r.carries)
    where
      go : (k : Kind) → Carries s t h.node h.at k → Carries s u' h.node h.at k
      go Element q = tt
      go Attribute q = run_copied q
      go Text q = tt

-- ── Behind the last node ──
module _ {s : List ℕ} {n : ℕ} where
  module _ {i : ℕ} (c : Cursor s n (4 * n + 1) i) where
    pub more_lines : i < length s → First (DocumentGround s) (line_form (4 * n + 2))
    more_lines h = first_extra c.good refl
        (λ e. let z = (line_none s (4 * n + 1) (4 * n + 2) (omega arith)).0 e in omega (arith, length-drop i s, ap length (sym c.here ∙ z)))

    pub no_more : length s ≤ i → (ns : List Library.Node) × Accepts s ns × (length ns ≡ n)
    no_more h =
        let (ns, l, a) = good_accepts c.good ((line_none s (4 * n + 1) (4 * n + 2) (omega arith)).1 (c.here ∙ drop_of_length-le s h)) in
        (ns, a, l)

-- ── The first line ──
module _ (s : List ℕ) (short : length s ≤ document_bytes) where
  pub no_count : NumberedLine (bytes "nodes=") 5 s 0 None → First (DocumentGround s) (line_form 1)
  no_count h = first_uncounted s short (λ n q. h n (behind_lines 1 s) q.0 (count_split s n q))

  module _ (n i : ℕ) (h : NumberedLine (bytes "nodes=") 5 s 0 (Some (record { value = n; next = i }))) where
    counted : CountIs s n × (behind_lines 1 s ≡ drop i s)
    counted = count_here s n (drop i s) h.0 h.1.spelled

    pub bad_count : (n ≡ 0) ⊎ (document_nodes < n) → First (DocumentGround s) node_count
    bad_count r = first_number s short n counted.0 r

    pub good_count : 0 < n → n ≤ document_nodes → Cursor s n 1 i
    good_count p q = record { good = good_start s n short counted.0 p q; here = counted.1; inside = h.1.inside }
