-- What a node has of text.
use Prim.Native.Nat.{ℕ, ◌≤◌, ◌<◌}
use mathlib.Core.Path.{◌≡◌, refl, sym, ap, ◌∙◌, subst}
use mathlib.Core.List.{List, [], ◌∷◌}
use lib.ListN.{length}
use lib.Seq.{slice, slice_empty, length-slice}
use native.Mathlib.Omega.{arith}
use Rattle.lists.specs.Blanks.{trim}
use Rattle.lists.proofs.Blanks.{trim_blanks, trim_nil}
use Rattle.document_spec.specs.Library as Library
use Rattle.document_spec.specs.Library.{element, attribute, text, at}
use Rattle.document_spec.specs.Binary.{text_of}
use Rattle.document_lines.specs.declared.entries.Entry.{Entry}
use Rattle.document_lines.specs.declared.entries.Span.{Span}
use Rattle.document_lines.specs.declared.rules.Kind.{Kind}
use Rattle.document_lines.specs.Nodes.{kind_of}
use Rattle.document_lines.specs.Entries.{IsEntry}
use Rattle.blanks.specs.Trimmed.{between, Trimmed}
use Rattle.blanks.proofs.Trimming.{trimmed_none, trimmed_whole}

-- what is not blank is not empty
pub not_blank : (bs : List ℕ) → 0 < length (trim bs) → 0 < length bs
not_blank [] h = let e = ap length trim_nil in absurd (omega arith)
not_blank (b ∷ bs) h = omega arith

module _ (n : Library.Node) where
  pub element_text : n.kind ≡ element → text_of n ≡ []
  element_text k = rw (k, text_of)

  pub attribute_text : n.kind ≡ attribute → text_of n ≡ []
  attribute_text k = rw (k, text_of)

  pub text_text : n.kind ≡ text → text_of n ≡ n.value
  text_text k = rw (k, text_of)

  pub element_blank : n.kind ≡ element → trim (text_of n) ≡ []
  element_blank k = ap trim (element_text k) ∙ trim_nil

  pub attribute_blank : n.kind ≡ attribute → trim (text_of n) ≡ []
  attribute_blank k = ap trim (attribute_text k) ∙ trim_nil

  -- only text has text
  pub is_text : 0 < length (text_of n) → n.kind ≡ text
  is_text h = go n.kind refl
    where
      go : (k : Library.Kind) → n.kind ≡ k → n.kind ≡ text
      go element e = let f = ap length (element_text e) in absurd (omega arith)
      go attribute e = let f = ap length (attribute_text e) in absurd (omega arith)
      go text e = e

module _ {s : List ℕ} {ns : List Library.Node} {v : ℕ} {e : Entry} (h : IsEntry s ns v e) where
  pub kind_is : {k : Kind} → e.kind ≡ k → (at ns v).kind ≡ kind_of k
  kind_is f = sym h.kind ∙ ap kind_of f

  -- the value of an entry lies in the document
  pub value_inside : e.value.to ≤ length s
  value_inside = omega (arith, h.ends, h.behind.inside)

  entry_text : (at ns v).kind ≡ text → text_of (at ns v) ≡ between s e.value
  entry_text k = text_text (at ns v) k ∙ sym h.value

  pub entry_some : (at ns v).kind ≡ text → e.value.from < e.value.to → 0 < length (text_of (at ns v))
  entry_some k r =
      let f = ap length (entry_text k) in let g = length-slice e.value.from e.value.to s value_inside in
      omega arith

  pub entry_none : (at ns v).kind ≡ text → e.value.to ≤ e.value.from → text_of (at ns v) ≡ []
  entry_none k r =
      let o = h.order in let z : e.value.from ≡ e.value.to = omega arith in
      entry_text k ∙ subst (λ (x : ℕ). slice e.value.from x s ≡ []) z (slice_empty e.value.from s)

  -- ── Text without the blanks at its ends ──
  module _ {q : Span} (k : (at ns v).kind ≡ text) (z : Trimmed s e.value q) where
    pub entry_speaks : q.from < q.to → 0 < length (trim (text_of (at ns v)))
    entry_speaks r =
        let i = value_inside in let j = z.ends in
        let f = ap length (ap trim (entry_text k) ∙ trimmed_whole s e.value q z value_inside) in
        let g = length-slice q.from q.to s (omega arith) in
        omega arith

    pub entry_blank : q.to ≤ q.from → trim (text_of (at ns v)) ≡ []
    entry_blank r = ap trim (entry_text k) ∙ trim_blanks (between s e.value) (trimmed_none s e.value q z value_inside r)
