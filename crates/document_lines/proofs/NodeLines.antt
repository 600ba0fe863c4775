-- The lines of a node of an accepted document are read as what they spell.
use Prim.Native.Nat.{ℕ, suc, ◌+◌, ◌-◌, ◌^◌, ◌≤◌, ◌<◌}
use mathlib.Core.Path.{◌≡◌, refl, sym, ap, ◌∙◌}
use mathlib.Core.List.{List, ◌++◌, append_assoc}
use lib.ListN.{length, drop, length-drop, length-append}
use lib.Seq.{drop-cons, drop-drop, drop_at, slice}
use native.Mathlib.Omega.{arith}
use Rattle.lists.specs.Text.{bytes}
use Rattle.document_spec.specs.Library as Library
use Rattle.document_spec.specs.Library.{at, Value, depth_line, kind_line, label_line, value_line, node_lines, spell}
use Rattle.document_spec.specs.Verdict.{first_line, behind_line, Accepts}
use Rattle.document_spec.proofs.Lines.{Line, line_first, line_behind}
use Rattle.document_spec.proofs.Spelling.{nodes_line_lem, depth_line_lem, kind_line_lem, label_line_lem, value_line_lem, depth_injective, kind_injective, label_injective, value_injective}
use Rattle.document_spec.proofs.Binary.{depth_small}
use Rattle.std.specs.Prelude.{Some, None}
use Rattle.lexer.specs.Reading.{Ended, NumberedLine}
use Rattle.lexer.proofs.Laws.{slice_of}
use Rattle.document_lines.specs.declared.rules.Kind.{Kind}
use Rattle.document_lines.specs.Nodes.{kind_of, KindRead, IsLabel, IsValue}
use Rattle.document_lines.specs.Entries.{Start, Stands}

-- two lines in front of one text are one
line_same : {l m : List ℕ} → Line l → Line m → (r q : List ℕ) → l ++ r ≡ m ++ q → (l ≡ m) × (r ≡ q)
line_same x y r q e =
    (sym (line_first x r) ∙ ap first_line e ∙ line_first y q, sym (line_behind x r) ∙ ap behind_line e ∙ line_behind y q)

module _ {s : List ℕ} where
  -- ── The count line ──
  pub count_there : {ns : List Library.Node} → Accepts s ns → ¬ NumberedLine (bytes "nodes=") 5 s 0 None
  unfolding spell
  count_there {ns} a h = h (length ns) (node_lines ns) (let l = a.legal.few in omega arith) a.spelled

  pub count_is : {ns : List Library.Node} {n j : ℕ} → Accepts s ns → NumberedLine (bytes "nodes=") 5 s 0 (Some (record { value = n; next = j })) → Start s ns j
  unfolding spell
  count_is {ns} {n} {j} a h = record { inside = h.1.inside; here = (line_same (nodes_line_lem n) (nodes_line_lem (length ns)) (drop j s) (node_lines ns) (sym h.1.spelled ∙ a.spelled)).1 }

  -- ── The lines of node v ──
  module _ {ns : List Library.Node} {v i : ℕ} (a : Stands s ns v i) where
    abbrev pub x : Library.Node
    x = at ns v

    abbrev pub behind_value : List ℕ
    behind_value = node_lines (drop (suc v) ns)

    abbrev pub behind_label : List ℕ
    behind_label = value_line x.value ++ behind_value

    abbrev pub behind_kind : List ℕ
    behind_kind = label_line x.label ++ behind_label

    abbrev pub behind_depth : List ℕ
    behind_depth = kind_line x.kind ++ behind_kind

    whole : drop i s ≡ depth_line x.depth ++ behind_depth
    unfolding node_lines
    whole = a.start.here ∙ ap node_lines (drop-cons ns v _ a.node)

    shallow : x.depth < 10 ^ 4
    shallow = let h = depth_small a.accepts.legal v a.node in omega arith

    pub depth_there : ¬ NumberedLine (bytes "depth=") 4 s i None
    depth_there h = h x.depth behind_depth shallow whole

    pub depth_is : (d j : ℕ) → NumberedLine (bytes "depth=") 4 s i (Some (record { value = d; next = j })) → (d ≡ x.depth) × (drop j s ≡ behind_depth)
    depth_is d j h =
        let (e, r) = line_same (depth_line_lem d) (depth_line_lem x.depth) (drop j s) behind_depth (sym h.1.spelled ∙ whole) in
        (depth_injective d x.depth e, r)

    module _ (j : ℕ) (here : drop j s ≡ behind_depth) where
      pub kind_there : ¬ KindRead s j None
      kind_there h = h x.kind behind_kind here

      pub kind_is : (k : Kind) (m : ℕ) → KindRead s j (Some (k, m)) → (kind_of k ≡ x.kind) × (drop m s ≡ behind_kind)
      kind_is k m h =
          let (e, r) = line_same (kind_line_lem (kind_of k)) (kind_line_lem x.kind) (drop m s) behind_kind (sym h.spelled ∙ here) in
          (kind_injective (kind_of k) x.kind e, r)

    -- a label or value line, as the slice between its key and its LF
    framed : (key f : List ℕ) (j m : ℕ) → length key ≡ 6 → j ≤ length s → m ≤ length s → drop j s ≡ (key ++ (f ++ bytes "\n")) ++ drop m s → (slice (j + 6) (m - 1) s ≡ f) × (j + 7 ≤ m)
    framed key f j m k r q e =
        let l = length-append key (f ++ bytes "\n") in
        let g = length-append f (bytes "\n") in
        let t : m ≡ j + 7 + length f = omega (arith, l, g, k, length-drop j s, length-drop m s, ap length e, length-append (key ++ (f ++ bytes "\n")) (drop m s)) in
        let w : m - 1 ≡ j + 6 + length f = omega arith in
        (ap (λ n. slice (j + 6) n s) w ∙ slice_of s (j + 6) f (bytes "\n" ++ drop m s) (omega arith) field, omega arith)
      where
        field : drop (j + 6) s ≡ f ++ (bytes "\n" ++ drop m s)
        field =
            sym (drop-drop 6 j s) ∙ ap (drop 6) (e ∙ append_assoc key (f ++ bytes "\n") (drop m s)) ∙ drop_at key ((f ++ bytes "\n") ++ drop m s) 6 k ∙ append_assoc f (bytes "\n") (drop m s)

    module _ (j : ℕ) (inside : j ≤ length s) (here : drop j s ≡ behind_kind) where
      pub label_there : ¬ Ended IsLabel s j None
      label_there h = h (label_line x.label) behind_label (x.label, a.accepts.legal.names v a.node, refl) here

      pub label_is : (m : ℕ) → Ended IsLabel s j (Some m) → (slice (j + 6) (m - 1) s ≡ x.label) × (j + 7 ≤ m) × (drop m s ≡ behind_label)
      label_is m (l, (b, n, q), p) =
          let name = a.accepts.legal.names v a.node in
          let spelled = p.spelled ∙ ap (λ (y : List ℕ). y ++ drop m s) q in
          let (e, r) = line_same (label_line_lem b n) (label_line_lem x.label name) (drop m s) behind_label (sym spelled ∙ here) in
          let (f, t) = framed (bytes "label=") b j m refl inside p.inside spelled in
          (f ∙ label_injective b x.label e, t, r)

    module _ (j : ℕ) (inside : j ≤ length s) (here : drop j s ≡ behind_label) where
      pub value_there : ¬ Ended IsValue s j None
      value_there h = h (value_line x.value) behind_value (x.value, a.accepts.legal.values v a.node, refl) here

      pub value_is : (m : ℕ) → Ended IsValue s j (Some m) → (slice (j + 6) (m - 1) s ≡ x.value) × (j + 7 ≤ m) × Start s (drop (suc v) ns) m
      value_is m (l, (b, n, q), p) =
          let good = a.accepts.legal.values v a.node in
          let spelled = p.spelled ∙ ap (λ (y : List ℕ). y ++ drop m s) q in
          let (e, r) = line_same (value_line_lem b n) (value_line_lem x.value good) (drop m s) behind_value (sym spelled ∙ here) in
          let (f, t) = framed (bytes "value=") b j m refl inside p.inside spelled in
          (f ∙ value_injective b x.value e, t, record { inside = p.inside; here = r })
