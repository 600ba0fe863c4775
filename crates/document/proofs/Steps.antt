-- Each line of a node in turn: a line of another form, a broken rule or a repeated label is the first ground, and a good line moves the cursor on.
use Prim.Native.Nat.{ℕ, zero, suc, ◌+◌, ◌*◌, ◌≤◌, ◌<◌}
use mathlib.Core.Path.{◌≡◌, refl, sym, ap, ◌∙◌, subst, subst₂}
use mathlib.Core.List.{List, ◌++◌}
use lib.ListN.{length, drop, length-drop, length-append}
use native.Mathlib.Omega.{arith}
use Rattle.lists.specs.Text.{bytes, decimal}
use Rattle.refusals.specs.Refusals.{line_form, tree_rule, duplicate_attribute, First}
use Rattle.document_spec.specs.Library as Library
use Rattle.document_spec.specs.Library.{LabelRule, ValueRule, kind_line, label_line, value_line}
use Rattle.document_spec.specs.Verdict.{behind_lines, DepthIs, KindIs, LabelIs, ValueIs, Breaks, Duplicate, DocumentGround}
use Rattle.document_spec.specs.Fields.{Field, depth, kind, label, value, line_of, Formed, Ruled}
use Rattle.document_spec.proofs.Good.{good_on, first_form, first_rule, first_duplicate}
use Rattle.document_spec.proofs.Duplicates.{unrepeated}
use Rattle.document_spec.proofs.Rules.{ruled_top, ruled_root, ruled_depth, ruled_kind, ruled_label, ruled_value}
use Rattle.document_spec.proofs.Cursor.{depth_here, kind_here, label_here, value_here, depth_split, kind_split, label_split, value_split}
use Rattle.std.specs.Prelude.{Some, None, Result, Ok, Err}
use Rattle.lexer.specs.Reading.{Ended, NumberedLine}
use Rattle.document_lines.specs.declared.rules.Kind.{Kind}
use Rattle.document_lines.specs.declared.rules.Kind.TheVariants.{Element, Attribute, Text}
use Rattle.document_lines.specs.declared.rules.Node.{Node}
use Rattle.document_lines.specs.Nodes.{kind_of, DepthRule, KindRule, KindRead, IsLabel, IsValue}
use Rattle.label_trees.specs.declared.NotAdded.TheVariants.{Twice, Full}
use Rattle.label_trees.specs.Trees.{key_at}
use Rattle.document.specs.declared.Refusal.{Refusal}
use Rattle.document.specs.declared.nodes.Progress.{Progress}
use Rattle.document.specs.declared.nodes.Stop.{Stop}
use Rattle.document.specs.declared.nodes.Stop.TheVariants as stop
use Rattle.document.specs.Check.{Cursor, Before, Carries, AtKind, AtLabel, AtValue, Reached, Opened, Enterable, Entered, Valued, Stepped, UsedUp, NoWords}
use Rattle.document.proofs.Runs.{label_stands, label_key, single, before_kind, opened_run, opened_kept, run_twice, run_fresh, run_more}

-- a step by what the value line gives: the verdict is handed on
abbrev pub step_of : Result Progress Refusal → Result Progress Stop
step_of (Ok h) = Ok h
step_of (Err w) = Err (stop.Refused w)

-- the cursor goes forth
forth : (s : List ℕ) (i j : ℕ) (l : List ℕ) → i ≤ length s → j ≤ length s → drop i s ≡ l ++ drop j s → j ≡ i + length l
forth s i j l p q e = omega (arith, length-drop i s, length-drop j s, ap length e, length-append l (drop j s))

module _ {s : List ℕ} {n v i : ℕ} where
  -- the cursor behind one more good line
  moved : {k j : ℕ} (f : Field) → Cursor s n k i → line_of v f ≡ suc k → v < n → Formed s v f → Ruled s v f → ¬ Duplicate s (line_of v f) → behind_lines (line_of v f) s ≡ drop j s → j ≤ length s → Cursor s n (line_of v f) j
  moved f c e l p r u h q = record { good = good_on c.good v f e l p r u; here = h; inside = q }

-- ── Depth ──
module _ {s t : List ℕ} {n : ℕ} {h : Progress} (a : Reached s t n h) (inside : h.node < n) where
  pub depth_form : NumberedLine (bytes "depth=") 4 s h.at None → First (DocumentGround s) (line_form (4 * h.node + 2))
  depth_form g = first_form a.cursor.good h.node depth (omega arith) inside
      (λ (d, q). g d (behind_lines (4 * h.node + 2) s) q.0 (sym a.cursor.here ∙ depth_split s h.node d q))

  module _ (d j : ℕ) (g : NumberedLine (bytes "depth=") 4 s h.at (Some (record { value = d; next = j }))) where
    says : DepthIs s h.node d × (behind_lines (4 * h.node + 2) s ≡ drop j s)
    says = depth_here s h.node d (drop j s) g.0 (a.cursor.here ∙ g.1.spelled)

    ruled : (v : ℕ) → Before s v h.before → DepthIs s v d → DepthRule v h.before d → Ruled s v depth
    ruled zero b q r = ruled_top s d q r
    ruled (suc v) b q r = ruled_depth s v h.before.depth d (kind_of h.before.kind) b.depth b.kind q r

    pub depth_on : DepthRule h.node h.before d → AtKind s t n h d j
    depth_on r = record {
      inside = inside;
      reached = a;
      cursor = moved depth a.cursor (omega arith) inside (d, says.0) (ruled h.node a.before says.0 r) (unrepeated h.node depth (omega arith)) says.1 g.1.inside;
      forth = omega (arith, forth s h.at j (bytes "depth=" ++ (decimal d ++ bytes "\n")) a.cursor.inside g.1.inside g.1.spelled);
      depth = says.0;
    }

    breaks : (v : ℕ) → v < n → Before s v h.before → DepthIs s v d → ¬ DepthRule v h.before d → Breaks s (4 * v + 2)
    breaks zero l b q r = Breaks.top a.cursor.good.count l q r
    breaks (suc v) l b q r = Breaks.depth a.cursor.good.count l b.depth b.kind q r

    pub depth_tree : ¬ DepthRule h.node h.before d → First (DocumentGround s) (tree_rule (4 * h.node + 2))
    depth_tree r = first_rule a.cursor.good h.node depth (omega arith) (breaks h.node inside a.before says.0 r)

-- ── Kind ──
module _ {s t : List ℕ} {n : ℕ} {h : Progress} {d i : ℕ} (a : AtKind s t n h d i) where
  pub kind_form : KindRead s i None → First (DocumentGround s) (line_form (4 * h.node + 3))
  kind_form g = first_form a.cursor.good h.node kind (omega arith) a.inside
      (λ (k, q). g k (behind_lines (4 * h.node + 3) s) (sym a.cursor.here ∙ kind_split s h.node k q))

  module _ (k : Kind) (j : ℕ) (g : KindRead s i (Some (k, j))) where
    says_kind : KindIs s h.node (kind_of k) × (behind_lines (4 * h.node + 3) s ≡ drop j s)
    says_kind = kind_here s h.node (kind_of k) (drop j s) (a.cursor.here ∙ g.spelled)

    ruled_by : (v : ℕ) → Before s v h.before → DepthIs s v d → KindIs s v (kind_of k) → KindRule v h.before d k → Ruled s v kind
    ruled_by zero b e q r = ruled_root s (kind_of k) q r
    ruled_by (suc v) b e q r = ruled_kind s v h.before.depth d (kind_of h.before.kind) b.depth b.kind e (kind_of k) q r

    behind : h.at ≤ j
    behind = let e = a.forth in omega (arith, forth s i j (kind_line (kind_of k)) a.cursor.inside g.inside g.spelled)

    -- the words are as they must be at the label
    pub kind_on : {t' : List ℕ} → Opened h.before.kind k t t' → KindRule h.node h.before d k → AtLabel s t' n h.node (record { depth = d; kind = k }) j
    kind_on {t'} o r = record {
      inside = a.inside;
      cursor = moved kind a.cursor (omega arith) a.inside (kind_of k, says_kind.0) (ruled_by h.node a.reached.before a.depth says_kind.0 r) (unrepeated h.node kind (omega arith)) says_kind.1 g.inside;
      says = record { depth = a.depth; kind = says_kind.0 };
      carries = opened_run s t t' h.node h.at j h.before.kind k (before_kind s h.node h.before a.reached.before) behind a.reached.carries o;
    }

    -- where there are no words for the label, those that were held are held
    pub kind_behind : (t' t'' : List ℕ) → Opened h.before.kind k t t' → (r : Result Progress Stop) → Stepped s t'' n h.node ((t'' ≡ t') × UsedUp t'' h.node) r → Stepped s t'' n h.node (NoWords s t'' h) r
    kind_behind t' t'' o (Ok g) q = q
    kind_behind t' t'' o (Err (stop.Refused w)) q = q
    kind_behind t' t'' o (Err stop.Full) q =
        (subst (λ t. Carries s t h.node h.at h.before.kind) (sym q.0) (opened_kept s t t' h.node h.at h.before.kind k a.reached.carries o), q.1)

    breaks_kind : (v : ℕ) → v < n → Before s v h.before → DepthIs s v d → KindIs s v (kind_of k) → ¬ KindRule v h.before d k → Breaks s (4 * v + 3)
    breaks_kind zero l b e q r = Breaks.rooted a.cursor.good.count l q r
    breaks_kind (suc v) l b e q r = Breaks.kind a.cursor.good.count l b.depth b.kind e q r

    pub kind_tree : ¬ KindRule h.node h.before d k → First (DocumentGround s) (tree_rule (4 * h.node + 3))
    kind_tree r = first_rule a.cursor.good h.node kind (omega arith) (breaks_kind h.node a.inside a.reached.before a.depth says_kind.0 r)

module _ {s : List ℕ} {n v i : ℕ} where
  -- ── Label ──
  module _ {t : List ℕ} {x : Node} (a : AtLabel s t n v x i) where
    pub label_form : Ended IsLabel s i None → First (DocumentGround s) (line_form (4 * v + 4))
    label_form h = first_form a.cursor.good v label (omega arith) a.inside
        (λ (b, q). h (label_line b) (behind_lines (4 * v + 4) s) (b, q.0, refl) (sym a.cursor.here ∙ label_split s v b q))

    module _ (j : ℕ) (h : Ended IsLabel s i (Some j)) where
      abbrev the_label : List ℕ
      the_label = h.1.0

      pub label_spelled : drop i s ≡ label_line the_label ++ drop j s
      label_spelled = h.2.spelled ∙ ap (λ (l : List ℕ). l ++ drop j s) h.1.2

      says_label : LabelIs s v the_label × (behind_lines (4 * v + 4) s ≡ drop j s)
      says_label = label_here s v the_label (drop j s) h.1.1 (a.cursor.here ∙ label_spelled)

      -- the line's length, in its two parts
      label_length : j ≡ i + 6 + length (the_label ++ bytes "\n")
      label_length = omega (arith, forth s i j (label_line the_label) a.cursor.inside h.2.inside label_spelled)

      pub label_enterable : Enterable s t i j x.kind
      label_enterable = go x.kind a.carries
        where
          go : (k : Kind) → Carries s t v i k → Enterable s t i j k
          go Element r = tt
          go Attribute r = (label_stands s i j the_label h.1.1 label_spelled h.2.inside, r.holds, λ k l. omega (arith, r.below k l))
          go Text r = tt

      key : key_at s (i + 6) ≡ the_label ++ bytes "\n"
      key = label_key s i j the_label h.1.1 label_spelled h.2.inside

      -- a label that is new is no repeat
      fresh : (t' : List ℕ) (k : Kind) → KindIs s v (kind_of k) → Carries s t v i k → Entered s t i k t' (Ok tt) → ¬ Duplicate s (4 * v + 4)
      fresh t' Element q r e = single s v Library.element (omega arith) q
      fresh t' Attribute q r e = run_fresh s r q the_label says_label.0 key e.fresh
      fresh t' Text q r e = single s v Library.text (omega arith) q

      pub label_on : (t' : List ℕ) → Entered s t i x.kind t' (Ok tt) → LabelRule (kind_of x.kind) the_label → AtValue s n v x j
      label_on t' e r = record {
        inside = a.inside;
        cursor = moved label a.cursor (omega arith) a.inside (the_label, says_label.0) (ruled_label s v (kind_of x.kind) a.says.kind the_label says_label.0 r) (fresh t' x.kind a.says.kind a.carries e) says_label.1 h.2.inside;
        says = a.says;
      }

      -- the words as they must be behind the node, wherever its value ends
      pub label_carries : (t' : List ℕ) (m : ℕ) → Entered s t i x.kind t' (Ok tt) → j ≤ m → Carries s t' (suc v) m x.kind
      label_carries t' m e l = go x.kind a.says.kind a.carries e
        where
          go : (k : Kind) → KindIs s v (kind_of k) → Carries s t v i k → Entered s t i k t' (Ok tt) → Carries s t' (suc v) m k
          go Element q r e = tt
          go Attribute q r e = run_more s r q the_label says_label.0 key m e (omega (arith, label_length))
          go Text q r e = tt

      -- behind the value line the node is done
      pub label_reached : (t' : List ℕ) → Entered s t i x.kind t' (Ok tt) → (h : Progress) → Valued s n v x j (Ok h) → (h.node ≡ suc v) × Reached s t' n h
      label_reached t' e h q = (
        q.0,
        record {
          cursor = subst (λ w. Cursor s n (4 * w + 1) h.at) (sym q.0) q.3;
          before = subst₂ (Before s) (sym q.0) (sym q.1) a.says;
          small = subst (λ y. y.depth < 10_000) (sym q.1) a.says.depth.0;
          carries = subst₂ (λ w y. Carries s t' w h.at y.kind) (sym q.0) (sym q.1) (label_carries t' h.at e q.2);
        },
      )

      pub label_behind_value : (t' : List ℕ) → Entered s t i x.kind t' (Ok tt) → LabelRule (kind_of x.kind) the_label → (F : Type 0) (r : Result Progress Refusal) → (AtValue s n v x j → Valued s n v x j r) → Stepped s t' n v F (step_of r)
      label_behind_value t' e l F (Ok h) f = label_reached t' e h (f (label_on t' e l))
      label_behind_value t' e l F (Err w) f = f (label_on t' e l)

      pub label_twice : (t' : List ℕ) → Entered s t i x.kind t' (Err Twice) → First (DocumentGround s) (duplicate_attribute (4 * v + 4))
      label_twice t' e = go x.kind a.says.kind a.carries e
        where
          go : (k : Kind) → KindIs s v (kind_of k) → Carries s t v i k → Entered s t i k t' (Err Twice) → First (DocumentGround s) (duplicate_attribute (4 * v + 4))
          go Element q r e = let f = e.1 in let z : ◌≡◌ {A = ℕ} 0 1 = cc in absurd (omega arith)
          go Attribute q r e = first_duplicate a.cursor.good v (omega arith) (run_twice s r q the_label says_label.0 key a.cursor.good.count a.inside e.1)
          go Text q r e = let f = e.1 in let z : ◌≡◌ {A = ℕ} 0 1 = cc in absurd (omega arith)

      pub label_full : (t' : List ℕ) → Entered s t i x.kind t' (Err Full) → (t' ≡ t) × UsedUp t' v
      label_full t' e = go x.kind a.carries e
        where
          go : (k : Kind) → Carries s t v i k → Entered s t i k t' (Err Full) → (t' ≡ t) × UsedUp t' v
          go Element r e = let f = e.1 in let z : ◌≡◌ {A = ℕ} 0 1 = cc in absurd (omega arith)
          go Attribute r e = let u = r.upto in (e.0, subst (λ t. UsedUp t v) (sym e.0) (let l = e.1 in omega arith))
          go Text r e = let f = e.1 in let z : ◌≡◌ {A = ℕ} 0 1 = cc in absurd (omega arith)

      pub label_tree : ¬ LabelRule (kind_of x.kind) the_label → First (DocumentGround s) (tree_rule (4 * v + 4))
      label_tree r = first_rule a.cursor.good v label (omega arith) (Breaks.label v a.cursor.good.count a.inside a.says.kind says_label.0 r)

  -- ── Value ──
  module _ {x : Node} (a : AtValue s n v x i) where
    pub value_form : Ended IsValue s i None → First (DocumentGround s) (line_form (4 * v + 5))
    value_form h = first_form a.cursor.good v value (omega arith) a.inside
        (λ (b, q). h (value_line b) (behind_lines (4 * suc v + 1) s) (b, q.0, refl) (sym a.cursor.here ∙ value_split s v b q))

    module _ (j : ℕ) (h : Ended IsValue s i (Some j)) where
      abbrev the_value : List ℕ
      the_value = h.1.0

      value_spelled : drop i s ≡ value_line the_value ++ drop j s
      value_spelled = h.2.spelled ∙ ap (λ (l : List ℕ). l ++ drop j s) h.1.2

      -- how long the line is
      pub value_length : j ≡ i + 7 + length the_value
      value_length = omega (arith, forth s i j (value_line the_value) a.cursor.inside h.2.inside value_spelled, length-append the_value (bytes "\n"))

      says_value : ValueIs s v the_value × (behind_lines (4 * suc v + 1) s ≡ drop j s)
      says_value = value_here s v the_value (drop j s) h.1.1 (a.cursor.here ∙ value_spelled)

      next_line : 4 * suc v + 1 ≡ line_of v value
      next_line = omega arith

      pub value_on : ValueRule (kind_of x.kind) the_value → Cursor s n (4 * suc v + 1) j
      value_on r = subst (λ k. Cursor s n k j) (sym next_line)
          (moved value a.cursor (omega arith) a.inside (the_value, says_value.0) (ruled_value s v (kind_of x.kind) a.says.kind the_value says_value.0 r) (unrepeated v value (omega arith)) (subst (λ k. behind_lines k s ≡ drop j s) next_line says_value.1) h.2.inside)

      pub value_tree : ¬ ValueRule (kind_of x.kind) the_value → First (DocumentGround s) (tree_rule (4 * v + 5))
      value_tree r = first_rule a.cursor.good v value (omega arith) (Breaks.value v a.cursor.good.count a.inside a.says.kind says_value.0 r)
