-- A document whose lines are all good is the spelling of a legal library, and the other way round.
use Prim.Native.Nat.{ℕ, zero, suc, ◌+◌, ◌*◌, ◌≤◌, ◌<◌}
use mathlib.Core.Path.{◌≡◌, refl, sym, ap, ◌∙◌, subst}
use mathlib.Core.List.{List, [], ◌∷◌, ◌++◌, append-nil, append_assoc}
use native.Mathlib.Omega.{arith}
use lib.ListN.{length}
use Rattle.limits.specs.Limits.{document_bytes, document_nodes}
use Rattle.document_spec.specs.Library.{Node, at, attribute, Legal, nodes_line, node_lines, spell}
use Rattle.document_spec.specs.Verdict.{behind_lines, line, KindIs, LabelIs, Duplicate, Accepts}
use Rattle.document_spec.specs.Fields.{Field, depth, kind, label, value, line_of, Formed, Ruled}
use Rattle.document_spec.specs.Good.{Good}
use Rattle.document_spec.proofs.Lines.{line_none}
use Rattle.document_spec.proofs.Reading.{NodeIs, Reads, Writable, kind_one, label_one, reads_one, reads_text, text_reads}
use Rattle.document_spec.proofs.Fields.{offset_bounds}
use Rattle.document_spec.proofs.Duplicates.{together_map, repeated}
use Rattle.document_spec.proofs.Rules.{ruled_top, ruled_root, ruled_depth, ruled_kind, ruled_label, ruled_value}

-- ── From the lines to a library ──
-- a list of things, one for each number below m
choose : (m : ℕ) (P : ℕ → Node → Type 0) → ((v : ℕ) → v < m → (x : Node) × P v x)
    → (ns : List Node) × (length ns ≡ m) × ((v : ℕ) → v < m → P v (at ns v))
choose zero P f = ([], refl, λ v l. absurd (omega arith))
choose (suc m) P f =
    let (x, h) = f 0 (omega arith) in
    let (ns, e, hs) = choose m (λ v. P (suc v)) (λ v l. f (suc v) (omega arith)) in
    (x ∷ ns, ap suc e, each x ns h hs)
  where
    each : (x : Node) (ns : List Node) → P 0 x → ((v : ℕ) → v < m → P (suc v) (at ns v)) → (v : ℕ) → v < suc m → P v (at (x ∷ ns) v)
    each x ns h hs zero l = h
    each x ns h hs (suc v) l = hs v (omega arith)

module _ {s : List ℕ} {n k : ℕ} (g : Good s n k) where
  good_node : (v : ℕ) → line_of v value ≤ k → (x : Node) × NodeIs s v x
  good_node v l =
      let (d, p) = (g.lines v depth (omega arith)).0 in
      let (j, q) = (g.lines v kind (omega arith)).0 in
      let (a, r) = (g.lines v label (omega arith)).0 in
      let (b, t) = (g.lines v value l).0 in
      (record { depth = d; kind = j; label = a; value = b }, record { depth = p; kind = q; label = r; value = t })

  -- the nodes whose lines are good
  pub good_reads : (m : ℕ) → 4 * m + 1 ≤ k → (ns : List Node) × (length ns ≡ m) × Reads s n ns
  good_reads m l =
      let (ns, e, h) = choose m (NodeIs s) (λ v i. good_node v (omega arith)) in
      (ns, e, record { count = g.count; nodes = λ v i. h v (omega arith) })

  pub good_legal : 4 * n + 1 ≤ k → (ns : List Node) → length ns ≡ n → Reads s n ns → Legal ns
  good_legal l ns e r =
      let p = g.some in
      let q = g.few in
      let o : 0 < length ns = omega arith in
      record {
        some = o;
        few = omega arith;
        names = λ v i. (r.nodes v i).label.0;
        values = λ v i. (r.nodes v i).value.0;
        top = ruled 0 depth o (at ns 0).depth (r.nodes 0 o).depth;
        rooted = ruled 0 kind o (at ns 0).kind (r.nodes 0 o).kind;
        depths = λ v i. let x = r.nodes v (omega arith) in let y = r.nodes (suc v) i in ruled (suc v) depth i _ _ _ x.depth x.kind y.depth;
        kinds = λ v i. let x = r.nodes v (omega arith) in let y = r.nodes (suc v) i in ruled (suc v) kind i _ _ _ _ x.depth x.kind y.depth y.kind;
        labelled = λ v i. let x = r.nodes v i in ruled v label i _ _ x.kind x.label;
        empties = λ v i. let x = r.nodes v i in ruled v value i _ _ x.kind x.value;
        distinct = λ u w i t same.
            let b = t.before in
            g.fresh (line_of w label) (omega arith)
            (Duplicate.label (at ns w).label g.count (omega arith)
            (together_map (λ v j e. subst (KindIs s v) e (r.nodes v (omega arith)).kind) t)
            (subst (LabelIs s u) same (r.nodes u (omega arith)).label) (r.nodes w i).label);
      }
    where
      ruled : (v : ℕ) (f : Field) → v < length ns → Ruled s v f
      ruled v f i = let o = offset_bounds f in (g.lines v f (omega arith)).1

-- all lines are good, and no byte is behind them
pub good_accepts : {s : List ℕ} {n : ℕ} → Good s n (4 * n + 1) → line s (4 * n + 2) ≡ [] → (ns : List Node) × (length ns ≡ n) × Accepts s ns
unfolding spell
good_accepts {s} {n} g e =
    let (ns, long, r) = good_reads g n (omega arith) in
    let nothing : behind_lines (4 * n + 1) s ≡ [] = (line_none s (4 * n + 1) (4 * n + 2) (omega arith)).0 e in
    let text : s ≡ nodes_line (length ns) ++ node_lines ns = reads_text s n ns r ∙ rw (long, nothing, append-nil) in
    (ns, long, record { short = g.short; legal = good_legal g (omega arith) ns long r; spelled = text })

-- ── From a library to the lines ──
module _ {ns : List Node} (legal : Legal ns) where
  -- a node's depth is at most its number
  legal_depth : (v : ℕ) → v < length ns → (at ns v).depth ≤ v
  legal_depth zero l = let e = legal.top in omega arith
  legal_depth (suc v) l = let h = legal_depth v (omega arith) in let d = legal.depths v l in omega arith

  pub legal_writable : (v : ℕ) → v < length ns → Writable (at ns v)
  legal_writable v l =
      let d = legal_depth v l in
      let f = legal.few in
      record { shallow = omega arith; name = legal.names v l; bound = legal.values v l }

  -- the lines of its spelling say it, whatever is behind
  pub legal_reads : (s r : List ℕ) → s ≡ spell ns ++ r → Reads s (length ns) ns × (behind_lines (4 * length ns + 1) s ≡ r)
  unfolding spell
  legal_reads s r e =
      let f = legal.few in
      text_reads s (length ns) ns r (omega arith) legal_writable (e ∙ append_assoc (nodes_line (length ns)) (node_lines ns) r)

  pub spelled_reads : (s : List ℕ) → s ≡ spell ns → Reads s (length ns) ns × (behind_lines (4 * length ns + 1) s ≡ [])
  spelled_reads s e = legal_reads s [] (e ∙ sym (append-nil (spell ns)))

pub spell_injective : (ns ms : List Node) → Legal ns → Legal ms → spell ns ≡ spell ms → ns ≡ ms
spell_injective ns ms l k e = reads_one (spell ns) ns ms (spelled_reads l (spell ns) refl).0 (spelled_reads k (spell ns) e).0

pub accepts_one : (s : List ℕ) (ns ms : List Node) → Accepts s ns → Accepts s ms → ns ≡ ms
accepts_one s ns ms a b = spell_injective ns ms a.legal b.legal (sym a.spelled ∙ b.spelled)

-- lines that say a legal library are good, also where further nodes are to come
pub reads_good_so_far : (s : List ℕ) (n : ℕ) (ns : List Node) → length s ≤ document_bytes → length ns ≤ n → n ≤ document_nodes → Legal ns → Reads s n ns
    → Good s n (4 * length ns + 1)
reads_good_so_far s n ns short part few legal r = record {
  short = short;
  count = r.count;
  some = let p = legal.some in omega arith;
  few = few;
  within = omega arith;
  lines = λ v f l. let o = offset_bounds f in lines v f (omega arith);
  fresh = λ i l d.
      let (w, e, x) = repeated d in
      let b = x.together.before in
      legal.distinct x.node w (omega arith) (together_map (λ v j k. kind_one s v _ attribute (r.nodes v (omega arith)).kind k) x.together)
      (label_one s x.node _ x.name (r.nodes x.node (omega arith)).label x.there
      ∙ label_one s w x.name _ x.here (r.nodes w (omega arith)).label);
}
  where
    lines : (v : ℕ) (f : Field) → v < length ns → Formed s v f × Ruled s v f
    lines zero depth l = let x = r.nodes 0 l in ((_, x.depth), ruled_top s _ x.depth legal.top)
    lines zero kind l = let x = r.nodes 0 l in (((at ns 0).kind, x.kind), ruled_root s _ x.kind legal.rooted)
    lines (suc v) depth l =
        let x = r.nodes v (omega arith) in
        let y = r.nodes (suc v) l in
        ((_, y.depth), ruled_depth s v _ _ _ x.depth x.kind y.depth (legal.depths v l))
    lines (suc v) kind l =
        let x = r.nodes v (omega arith) in
        let y = r.nodes (suc v) l in
        (((at ns (suc v)).kind, y.kind), ruled_kind s v _ _ _ x.depth x.kind y.depth _ y.kind (legal.kinds v l))
    lines v label l = let x = r.nodes v l in ((_, x.label), ruled_label s v _ x.kind _ x.label (legal.labelled v l))
    lines v value l = let x = r.nodes v l in ((_, x.value), ruled_value s v _ x.kind _ x.value (legal.empties v l))

pub reads_good : (s : List ℕ) (ns : List Node) → length s ≤ document_bytes → Legal ns → Reads s (length ns) ns → Good s (length ns) (4 * length ns + 1)
reads_good s ns short legal r = reads_good_so_far s (length ns) ns short (omega arith) legal.few legal r

pub accepts_good : (s : List ℕ) (ns : List Node) → Accepts s ns → Good s (length ns) (4 * length ns + 1) × (line s (4 * length ns + 2) ≡ [])
accepts_good s ns a =
    let (r, nothing) = spelled_reads a.legal s a.spelled in
    (reads_good s ns a.short a.legal r, (line_none s (4 * length ns + 1) (4 * length ns + 2) (omega arith)).1 nothing)
