-- The labels of the element at hand: how they are kept from node to node, and what they tell of a further one.
use Prim.Native.Nat.{ℕ, zero, suc, ◌+◌, ◌-◌, ◌*◌, ◌≤◌, ◌<◌}
use mathlib.Core.Path.{◌≡◌, sym, ap, ◌∙◌, subst}
use mathlib.Core.List.{List, ◌++◌, append_cancel_right}
use native.Mathlib.Omega.{arith}
use native.Mathlib.Decide.{dec_lt, dec_le}
use lib.ListN.{length, get_or, drop}
use lib.Seq.{drop-drop}
use Rattle.lists.specs.Text.{bytes}
use Rattle.limits.specs.Names.{Name}
use Rattle.document_spec.specs.Library as Library
use Rattle.document_spec.specs.Library.{kind_line, label_line}
use Rattle.document_spec.specs.Verdict.{CountIs, KindIs, LabelIs, Duplicate}
use Rattle.document_spec.proofs.Reading.{label_one}
use Rattle.document_spec.proofs.Duplicates.{Repeated, repeated_at}
use Rattle.document_lines.specs.declared.rules.Kind.{Kind}
use Rattle.document_lines.specs.declared.rules.Kind.TheVariants.{Element, Attribute, Text}
use Rattle.document_lines.specs.declared.rules.Node.{Node}
use Rattle.document_lines.specs.Nodes.{kind_of}
use Rattle.label_trees.specs.Trees.{key_at, held, offset_at, IsHeld, Stands, Grown}
use Rattle.label_trees.proofs.Keys.{key_is}
use Rattle.document.specs.Check.{Before, Labelled, Run, Carries, Cleared, Opened}

-- ── A label line ──
module _ (s : List ℕ) (i j : ℕ) (a : List ℕ) (n : Name a) (spelled : drop i s ≡ label_line a ++ drop j s) where
  label_behind : drop (i + 6) s ≡ (a ++ bytes "\n") ++ drop j s
  label_behind = sym (drop-drop 6 i s) ∙ ap (drop 6) spelled

  pub label_stands : j ≤ length s → Stands s (i + 6) j
  label_stands l = record { label = a; name = n; here = label_behind; inside = l }

  pub label_key : j ≤ length s → key_at s (i + 6) ≡ a ++ bytes "\n"
  unfolding label_stands
  label_key l = key_is s (i + 6) j (label_stands l)

module _ (s : List ℕ) where
  -- a line says one kind
  no_attribute : (v : ℕ) (k : Library.Kind) → ¬ (get_or (kind_line k) 5 0 ≡ 97) → KindIs s v k → ¬ KindIs s v Library.attribute
  no_attribute v k d h g = d (ap (λ l. get_or l 5 0) (sym h ∙ g))

  -- a node that is no attribute repeats no label
  pub single : (v : ℕ) (k : Library.Kind) → ¬ (get_or (kind_line k) 5 0 ≡ 97) → KindIs s v k → ¬ Duplicate s (4 * v + 4)
  single v k d h r = no_attribute v k d h ((repeated_at v r).together.all v (let b = (repeated_at v r).together.before in omega arith) (omega arith))

  -- the node before says its kind
  pub before_kind : (v : ℕ) (p : Node) → Before s v p → (u : ℕ) → suc u ≡ v → KindIs s u (kind_of p.kind)
  before_kind zero p b u e = absurd (omega arith)
  before_kind (suc v) p b u e = subst (λ w. KindIs s w (kind_of p.kind)) (omega arith) b.kind

  -- ── From line to line ──
  pub run_on : {t : List ℕ} {v i j : ℕ} → i ≤ j → Run s t v i → Run s t v j
  run_on l r = record { holds = r.holds; first = r.first; upto = r.upto; opens = r.opens; labelled = r.labelled; below = λ k h. omega (arith, r.below k h) }

  -- an element's first attribute has none before it
  run_none : {t : List ℕ} (v j : ℕ) (k : Library.Kind) → ¬ (get_or (kind_line k) 5 0 ≡ 97) → ((u : ℕ) → suc u ≡ v → KindIs s u k) → Cleared t → Run s t v j
  run_none v j k d h c =
      let z = c.none in
      record {
        holds = c.holds s;
        first = v;
        upto = omega arith;
        opens = λ u e. no_attribute u k d (h u e);
        labelled = λ k h. absurd (omega arith);
        below = λ k h. absurd (omega arith);
      }

  module _ (t t' : List ℕ) (v i : ℕ) where
    -- at the label line the words are those of the element of the node at hand
    pub opened_run : (j : ℕ) (b k : Kind) → ((u : ℕ) → suc u ≡ v → KindIs s u (kind_of b)) → i ≤ j → Carries s t v i b → Opened b k t t' → Carries s t' v j k
    opened_run j b Element h l c o = tt
    opened_run j Element Attribute h l c o = run_none v j Library.element (omega arith) h o
    opened_run j Attribute Attribute h l c o = run_on l (subst (λ t. Run s t v i) (sym o) c)
    opened_run j Text Attribute h l c o = run_none v j Library.text (omega arith) h o
    opened_run j b Text h l c o = tt

    -- behind an attribute nothing is forgotten
    pub opened_kept : (b k : Kind) → Carries s t v i b → Opened b k t t' → Carries s t' v i b
    opened_kept Element k c o = tt
    opened_kept Attribute k c o = subst (λ t. Run s t v i) (sym (same k o)) c
      where
        same : (k : Kind) → Opened Attribute k t t' → t' ≡ t
        same Element o = o
        same Attribute o = o
        same Text o = o
    opened_kept Text k c o = tt

-- ── A further attribute ──
module _ (s : List ℕ) {t : List ℕ} {v i : ℕ} (r : Run s t v i) (here : KindIs s v Library.attribute) (a : List ℕ) (label : LabelIs s v a) (key : key_at s (i + 6) ≡ a ++ bytes "\n") where
  -- node w of the run, by its number among those that are held
  of_run : (w : ℕ) → r.first ≤ w → w < v → Labelled s w (offset_at t (w - r.first))
  of_run w p q =
      let u = r.upto in
      let e : r.first + (w - r.first) ≡ w = omega arith in
      subst (λ w'. Labelled s w' (offset_at t (w - r.first))) e (r.labelled (w - r.first) (omega arith))

  all_attributes : (u : ℕ) → r.first ≤ u → (w : ℕ) → u ≤ w → w ≤ v → KindIs s w Library.attribute
  all_attributes u f w p q = go (dec_lt w v)
    where
      go : Dec (w < v) → KindIs s w Library.attribute
      go (yes l) = (of_run w (omega arith) l).kind
      go (no l) = let e : v ≡ w = omega arith in subst (λ w. KindIs s w Library.attribute) e here

  -- its label is held: it is given twice
  pub run_twice : {n : ℕ} → CountIs s n → v < n → IsHeld s t (i + 6) → Duplicate s (4 * v + 4)
  run_twice c l (k, h, e) =
      let x = r.labelled k h in
      let u = r.upto in
      let same : x.name ≡ a = append_cancel_right x.name a (bytes "\n") (sym x.key ∙ e ∙ key) in
      Duplicate.label {u = r.first + k} a c l (record { before = omega arith; all = all_attributes (r.first + k) (omega arith) }) (subst (LabelIs s (r.first + k)) same x.label) label

  -- its label is not held: no attribute of its element before it has it, since a node that is none stands before the first
  pub run_fresh : ¬ IsHeld s t (i + 6) → ¬ Duplicate s (4 * v + 4)
  run_fresh h d = let q = repeated_at v d in go q (dec_le r.first q.node)
    where
      go : (q : Repeated s v) → Dec (r.first ≤ q.node) → ⊥
      go q (yes f) =
          let l = q.together.before in
          let x = of_run q.node f l in
          let m = r.upto in
          let e : x.name ≡ a = label_one s q.node x.name q.name x.label q.there ∙ label_one s v q.name a q.here label in
          h (q.node - r.first, omega arith, x.key ∙ ap (λ (b : List ℕ). b ++ bytes "\n") e ∙ sym key)
      go q (no f) = let m = r.upto in r.opens (r.first - 1) (omega arith) (q.together.all (r.first - 1) (omega arith) (omega arith))

  -- it joins the others
  pub run_more : {t' : List ℕ} (j : ℕ) → Grown s t (i + 6) t' → i + 6 ≤ j → Run s t' (suc v) j
  run_more {t'} j g l =
      let u = r.upto in
      let m = g.more in
      record {
        holds = g.holds;
        first = r.first;
        upto = omega arith;
        opens = r.opens;
        labelled = λ k h. joined k (omega arith) (dec_lt k (held t));
        below = λ k h. lower k (omega arith) (dec_lt k (held t));
      }
    where
      last : (k : ℕ) → k < suc (held t) → ¬ (k < held t) → offset_at t' k ≡ i + 6
      last k h f = let e : held t ≡ k = omega arith in subst (λ k. offset_at t' k ≡ i + 6) e g.new

      joined : (k : ℕ) → k < suc (held t) → Dec (k < held t) → Labelled s (r.first + k) (offset_at t' k)
      joined k h (yes f) = subst (Labelled s (r.first + k)) (sym (g.old k f)) (r.labelled k f)
      joined k h (no f) =
          let u = r.upto in
          let e : v ≡ r.first + k = omega arith in
          let x : Labelled s v (offset_at t' k) = record { kind = here; name = a; label = label; key = ap (key_at s) (last k h f) ∙ key } in
          subst (λ w. Labelled s w (offset_at t' k)) e x

      lower : (k : ℕ) → k < suc (held t) → Dec (k < held t) → offset_at t' k ≤ j
      lower k h (yes f) = omega (arith, g.old k f, r.below k f)
      lower k h (no f) = omega (arith, last k h f)
