-- What the lines of a document say: the count and the nodes are read off the lines, and only one library can be.
use Prim.Native.Nat.{ℕ, zero, suc, ◌+◌, ◌*◌, ◌<◌}
use mathlib.Core.Path.{◌≡◌, sym, ap, ◌∙◌, subst}
use mathlib.Core.List.{List, [], ◌∷◌, ◌++◌, append_assoc}
use native.Mathlib.Omega.{arith}
use lib.ListN.{length}
use lib.Seq.{ext_get_or}
use Rattle.limits.specs.Names.{Name}
use Rattle.document_spec.specs.Library.{Node, Kind, at, Value, nodes_line, depth_line, kind_line, label_line, value_line, node_lines}
use Rattle.document_spec.specs.Verdict.{behind_lines, CountIs, DepthIs, KindIs, LabelIs, ValueIs}
use Rattle.document_spec.proofs.Cursor.{count_here, depth_here, kind_here, label_here, value_here, count_split, depth_split, kind_split, label_split, value_split}
use Rattle.document_spec.proofs.Spelling.{nodes_injective, depth_injective, kind_injective, label_injective, value_injective}

-- the four lines of node v say x
pub record NodeIs (s : List ℕ) (v : ℕ) (x : Node) : Type 0 where
  pub depth : DepthIs s v x.depth
  pub kind : KindIs s v x.kind
  pub label : LabelIs s v x.label
  pub value : ValueIs s v x.value

-- the first line says n, and the lines behind it begin by saying ns
pub record Reads (s : List ℕ) (n : ℕ) (ns : List Node) : Type 0 where
  pub count : CountIs s n
  pub nodes : (v : ℕ) → v < length ns → NodeIs s v (at ns v)

-- ── A line says one thing only ──
module _ (s : List ℕ) where
  pub count_one : (m n : ℕ) → CountIs s m → CountIs s n → m ≡ n
  count_one m n h g = nodes_injective m n (sym h.1 ∙ g.1)

  pub depth_one : (v d e : ℕ) → DepthIs s v d → DepthIs s v e → d ≡ e
  depth_one v d e h g = depth_injective d e (sym h.1 ∙ g.1)

  pub kind_one : (v : ℕ) (k j : Kind) → KindIs s v k → KindIs s v j → k ≡ j
  kind_one v k j h g = kind_injective k j (sym h ∙ g)

  pub label_one : (v : ℕ) (a b : List ℕ) → LabelIs s v a → LabelIs s v b → a ≡ b
  label_one v a b h g = label_injective a b (sym h.1 ∙ g.1)

  pub value_one : (v : ℕ) (a b : List ℕ) → ValueIs s v a → ValueIs s v b → a ≡ b
  value_one v a b h g = value_injective a b (sym h.1 ∙ g.1)

  pub node_one : (v : ℕ) (x y : Node) → NodeIs s v x → NodeIs s v y → x ≡ y
  node_one v x y h g i = record {
    depth = depth_one v x.depth y.depth h.depth g.depth i;
    kind = kind_one v x.kind y.kind h.kind g.kind i;
    label = label_one v x.label y.label h.label g.label i;
    value = value_one v x.value y.value h.value g.value i;
  }

  pub reads_one : (ns ms : List Node) → Reads s (length ns) ns → Reads s (length ms) ms → ns ≡ ms
  reads_one ns ms h g =
      let long = count_one (length ns) (length ms) h.count g.count in
      ext_get_or _ ns ms long (λ v l. node_one v (at ns v) (at ms v) (h.nodes v l) (g.nodes v (subst (λ n. v < n) long l)))

-- ── The text of nodes ──
-- a node's four lines in front of r
abbrev node_text : Node → List ℕ → List ℕ
node_text x r = depth_line x.depth ++ (kind_line x.kind ++ (label_line x.label ++ (value_line x.value ++ r)))

text_cons : (x : Node) (ns : List Node) (r : List ℕ) → node_lines (x ∷ ns) ++ r ≡ node_text x (node_lines ns ++ r)
unfolding node_lines
text_cons x ns r = simp append_assoc

-- a node whose fields can be spelled
pub record Writable (x : Node) : Type 0 where
  pub shallow : x.depth < 10_000
  pub name : Name x.label
  pub bound : Value x.value

module _ (s : List ℕ) where
  -- lines that say x are x's text
  pub node_split : (v : ℕ) (x : Node) → NodeIs s v x → behind_lines (4 * v + 1) s ≡ node_text x (behind_lines (4 * suc v + 1) s)
  node_split v x h =
      depth_split s v x.depth h.depth
      ∙ ap (λ t. depth_line x.depth ++ t) (kind_split s v x.kind h.kind
      ∙ ap (λ t. kind_line x.kind ++ t) (label_split s v x.label h.label
      ∙ ap (λ t. label_line x.label ++ t) (value_split s v x.value h.value)))

  -- where x's text stands, the lines say x
  pub node_here : (v : ℕ) (x : Node) (r : List ℕ) → Writable x → behind_lines (4 * v + 1) s ≡ node_text x r
      → NodeIs s v x × (behind_lines (4 * suc v + 1) s ≡ r)
  node_here v x r w here =
      let (d, on) = depth_here s v x.depth _ w.shallow here in
      let (k, on) = kind_here s v x.kind _ on in
      let (a, on) = label_here s v x.label _ w.name on in
      let (b, on) = value_here s v x.value _ w.bound on in
      (record { depth = d; kind = k; label = a; value = b }, on)

  -- the lines from node v on say ns
  abbrev Says : ℕ → List Node → Type 0
  Says v ns = (w i : ℕ) → w ≡ v + i → i < length ns → NodeIs s w (at ns i)

  nodes_split : (ns : List Node) (v m : ℕ) → m ≡ v + length ns → Says v ns → behind_lines (4 * v + 1) s ≡ node_lines ns ++ behind_lines (4 * m + 1) s
  unfolding node_lines
  nodes_split [] v m e h = let z : v ≡ m = omega arith in ap (λ n. behind_lines (4 * n + 1) s) z
  nodes_split (x ∷ ns) v m e h =
      node_split v x (h v 0 (omega arith) (omega arith))
      ∙ ap (node_text x) (nodes_split ns (suc v) m (omega arith) (λ w i f l. h w (suc i) (omega arith) (omega arith)))
      ∙ sym (text_cons x ns _)

  nodes_here : (ns : List Node) (v m : ℕ) (r : List ℕ) → m ≡ v + length ns → ((i : ℕ) → i < length ns → Writable (at ns i))
      → behind_lines (4 * v + 1) s ≡ node_lines ns ++ r → Says v ns × (behind_lines (4 * m + 1) s ≡ r)
  unfolding node_lines
  nodes_here [] v m r e w here = let z : m ≡ v = omega arith in (λ w i f l. absurd (omega arith), ap (λ n. behind_lines (4 * n + 1) s) z ∙ here)
  nodes_here (x ∷ ns) v m r e w here =
      let (first, on) = node_here v x (node_lines ns ++ r) (w 0 (omega arith)) (here ∙ text_cons x ns r) in
      let (rest, end) = nodes_here ns (suc v) m r (omega arith) (λ i l. w (suc i) (omega arith)) on in
      (both first rest, end)
    where
      both : NodeIs s v x → Says (suc v) ns → Says v (x ∷ ns)
      both first rest w zero f l = subst (λ u. NodeIs s u x) (omega arith) first
      both first rest w (suc i) f l = rest w i (omega arith) (omega arith)

-- ── A document that begins with N and the text of ns ──
module _ (s : List ℕ) (n : ℕ) (ns : List Node) where
  pub reads_text : Reads s n ns → s ≡ nodes_line n ++ (node_lines ns ++ behind_lines (4 * length ns + 1) s)
  reads_text h =
      count_split s n h.count
      ∙ ap (λ t. nodes_line n ++ t) (nodes_split s ns 0 (length ns) (omega arith) (λ w i f l. subst (λ u. NodeIs s u (at ns i)) (omega arith) (h.nodes i l)))

  -- the lines say so, and behind these lines is what is behind the text
  pub text_reads : (r : List ℕ) → n < 100_000 → ((v : ℕ) → v < length ns → Writable (at ns v)) → s ≡ nodes_line n ++ (node_lines ns ++ r)
      → Reads s n ns × (behind_lines (4 * length ns + 1) s ≡ r)
  text_reads r l w e =
      let (c, on) = count_here s n (node_lines ns ++ r) l e in
      let (h, end) = nodes_here s ns 0 (length ns) r (omega arith) w on in
      (record { count = c; nodes = λ v i. h v v (omega arith) i }, end)
