-- The label of an entry lies in the document: a document ends in LF, and no name has one, so no name runs to its end.
use Prim.Native.Nat.{ℕ, suc, ◌≤◌, ◌<◌}
use mathlib.Core.Path.{◌≡◌, refl, sym, ap, ◌∙◌, subst}
use mathlib.Core.Logic.{inl, inr}
use mathlib.Core.List.{List, [], ◌∷◌, ◌++◌, append_assoc, append-nil}
use native.Mathlib.Omega.{arith}
use native.Mathlib.Decide.{dec_lt}
use lib.ListN.{length, take, drop, length-append, length-take, length-drop, take-append-drop}
use lib.Seq.{slice, take_all, drop-append-le, drop-cons}
use Rattle.lists.specs.Text.{bytes, NameByte}
use Rattle.lists.proofs.Lists.{all_append}
use Rattle.limits.specs.Names.{Name}
use Rattle.limits.proofs.Names.{name_some}
use Rattle.document_spec.specs.Library.{Node, at, depth_line, kind_line, label_line, value_line, node_lines}
use Rattle.document_lines.specs.declared.entries.Entry.{Entry}
use Rattle.document_lines.specs.Entries.{Stands, IsEntry}

-- ── The end of a document ──
-- a text that ends in LF
abbrev Ends : List ℕ → Type 0
Ends s = (r : List ℕ) × (s ≡ r ++ bytes "\n")

ends_behind : (p s : List ℕ) → Ends s → Ends (p ++ s)
ends_behind p s (r, e) = (p ++ r, ap (λ (l : List ℕ). p ++ l) e ∙ sym (append_assoc p r (bytes "\n")))

node_ends : (x : Node) (s : List ℕ) → Ends (value_line x.value ++ s)
    → Ends (depth_line x.depth ++ (kind_line x.kind ++ (label_line x.label ++ (value_line x.value ++ s))))
node_ends x s h =
    let l = value_line x.value ++ s in let k = label_line x.label ++ l in
    ends_behind (depth_line x.depth) (kind_line x.kind ++ k) (ends_behind (kind_line x.kind) k (ends_behind (label_line x.label) l h))

nodes_end : (x : Node) (ns : List Node) → Ends (node_lines (x ∷ ns))
unfolding node_lines
nodes_end x [] = node_ends x [] (bytes "value=" ++ x.value, append-nil (value_line x.value) ∙ sym (append_assoc (bytes "value=") x.value (bytes "\n")))
nodes_end x (y ∷ ns) = node_ends x (node_lines (y ∷ ns)) (ends_behind (value_line x.value) (node_lines (y ∷ ns)) (nodes_end y ns))

document_ends : {s : List ℕ} {ns : List Node} {v i : ℕ} → Stands s ns v i → Ends s
document_ends {s} {ns} {v} {i} a =
    let e = a.start.here ∙ ap node_lines (drop-cons ns v _ a.node) in
    subst Ends (ap (λ (l : List ℕ). take i s ++ l) (sym e) ∙ take-append-drop i s) (ends_behind (take i s) _ (nodes_end (at ns v) (drop (suc v) ns)))

-- ── A name ──
not_lf : (b : ℕ) → NameByte b → ¬ (b ≡ 10)
not_lf b (inl h) = omega arith
not_lf b (inr (inl h)) = omega arith
not_lf b (inr (inr h)) = omega arith

name_unended : (r : List ℕ) → ¬ Name (r ++ bytes "\n")
unfolding Name
name_unended [] h = omega arith
name_unended (b ∷ r) h = not_lf 10 ((all_append NameByte r (bytes "\n")).0 h.1).1.0 refl

name_inside : (s : List ℕ) → Ends s → (f t : ℕ) → Name (slice f t s) → (f ≤ t) × (t ≤ length s)
name_inside s (r, e) f t h = let b = begins in (omega arith, go (dec_lt (length s) t))
  where
    begins : (f < t) × (f < length s)
    begins = let some = name_some (slice f t s) h in let k = length-drop f (take t s) in let m = length-take t s in omega arith

    -- a span that runs behind the document is what the document ends with
    go : Dec (length s < t) → t ≤ length s
    go (no d) = omega arith
    go (yes d) =
        let b = begins in let n = ap length e ∙ length-append r (bytes "\n") in
        let whole : slice f t s ≡ drop f r ++ bytes "\n" =
        ap (λ (l : List ℕ). drop f l) (take_all t s (omega arith) ∙ e) ∙ drop-append-le f r (bytes "\n") (omega arith) in
        absurd (name_unended (drop f r) (subst Name whole h))

pub label_inside : {s : List ℕ} {ns : List Node} {v i : ℕ} {e : Entry} → Stands s ns v i → IsEntry s ns v e
    → (e.label.from ≤ e.label.to) × (e.label.to ≤ length s)
label_inside {s} {ns} {v} {e} a h =
    name_inside s (document_ends a) e.label.from e.label.to (subst Name (sym h.label) (a.accepts.legal.names v a.node))
