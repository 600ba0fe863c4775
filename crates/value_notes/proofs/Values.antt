-- What the first and the last text inside an element that are not blank tell of its compared value.
use Prim.Native.Nat.{ℕ, suc, ◌-◌, ◌≤◌, ◌<◌}
use mathlib.Core.Path.{◌≡◌, ap, ◌∙◌, sym}
use mathlib.Core.Logic.{inl, inr}
use mathlib.Core.List.{List, []}
use lib.ListN.{length}
use lib.Seq.{slice}
use native.Mathlib.Omega.{arith}
use Rattle.lists.specs.Blanks.{trim}
use Rattle.document_spec.specs.Library.{Node, attribute, text, at}
use Rattle.document_spec.specs.Binary.{text_of, string_of, compared_of}
use Rattle.document_spec.specs.Intervals.{deep, texts}
use Rattle.document_spec.proofs.Intervals.{joined_slice, element_value}
use Rattle.layout.specs.Words.{NONE}
use Rattle.texts.specs.Texts.{Spoken, Bounds}
use Rattle.texts.proofs.Nodes.{not_blank, text_text, is_text}
use Rattle.texts.proofs.Joined.{trim_silent, trim_one, trim_more}
use Rattle.value_notes.specs.Values.{Inside, Several}

-- ── The value of text and of an attribute ──
module _ (ns : List Node) (v : ℕ) where
  pub attribute_value : (at ns v).kind ≡ attribute → string_of ns v ≡ (at ns v).value
  attribute_value k = rw (k, string_of)

  pub text_value : (at ns v).kind ≡ text → string_of ns v ≡ (at ns v).value
  text_value k = rw (k, string_of)

  pub own_compared : {bs : List ℕ} → string_of ns v ≡ bs → compared_of ns v ≡ trim bs
  unfolding compared_of
  own_compared e = ap trim e

  pub text_compared : (at ns v).kind ≡ text → compared_of ns v ≡ trim (text_of (at ns v))
  text_compared k = own_compared (text_value k) ∙ ap trim (sym (text_text (at ns v) k))

-- ── The value of an element ──
module _ {ns : List Node} {v f l : ℕ} (h : Inside ns v f l) where
  abbrev end : ℕ
  end = h.inner.end

  inside_value : compared_of ns v ≡ trim (texts (slice (suc v) end ns))
  inside_value =
      let c = h.inner.content in let b = c.behind in
      own_compared ns v
      (element_value ns v h.kind
      ∙ joined_slice ns (deep ns v) c.within c.stops (end - suc v) (suc v) (omega arith) (λ w p q. c.deeper w p q))

  spoken : ¬ (f ≡ NONE) → Spoken ns (suc v) end f l
  spoken z = go h.inner.bounds
    where
      go : Bounds ns (suc v) end f l → Spoken ns (suc v) end f l
      go (inl x) = x
      go (inr (b, c, x)) = absurd (z b)

  -- no text, or blanks alone
  pub inside_none : length ns ≤ NONE → f ≡ NONE → compared_of ns v ≡ []
  inside_none few e = go h.inner.bounds
    where
      go : Bounds ns (suc v) end f l → compared_of ns v ≡ []
      go (inl x) = let o = x.order in let r = x.within in let w = h.inner.content.within in absurd (omega arith)
      go (inr (b, c, x)) = inside_value ∙ trim_silent ns h.inner.content.behind h.inner.content.within x

  -- the first text is that of a node inside, and so is the last
  pub inside_first : ¬ (f ≡ NONE) → (v < f) × (f ≤ l) × (l < length ns) × ((at ns f).kind ≡ text)
  inside_first z =
      let x = spoken z in let r = x.within in let w = h.inner.content.within in
      (x.after, x.order, omega arith, is_text (at ns f) (not_blank (text_of (at ns f)) x.begins))

  -- one text: the value of that node
  pub inside_one : ¬ (f ≡ NONE) → f ≡ l → compared_of ns f ≡ compared_of ns v
  inside_one z e = text_compared ns f (inside_first z).3 ∙ sym (inside_value ∙ trim_one ns h.inner.content.within (spoken z) e)

  -- more: they are cut at the outer ends only
  pub inside_more : ¬ (f ≡ NONE) → ¬ (f ≡ l) → Several ns v f l
  inside_more z e =
      let x = spoken z in let o = x.order in
      record {
        order = omega arith;
        within = (inside_first z).2;
        begins = x.begins;
        ends = x.ends;
        whole = inside_value ∙ trim_more ns h.inner.content.within x (omega arith);
      }
