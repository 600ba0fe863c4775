-- What makes the note of a node right.
use Prim.Native.Nat.{ℕ, ◌+◌, ◌*◌, ◌-◌, ◌/◌, ◌%◌, ◌≤◌, ◌<◌}
use mathlib.Core.Path.{◌≡◌, refl, sym, ap, ap₂, ◌∙◌, subst, subst₂}
use mathlib.Core.Logic.{inl, inr}
use mathlib.Core.List.{List}
use lib.ListN.{length}
use lib.Seq.{length-slice}
use native.Mathlib.Omega.{arith}
use Rattle.lists.specs.Blanks.{trim}
use Rattle.document_spec.specs.Library.{Node, Kind, element, text, at, Value}
use Rattle.document_spec.specs.Binary.{string_of, compared_of}
use Rattle.document_spec.specs.Verdict.{Accepts}
use Rattle.document_lines.specs.declared.entries.Entry.{Entry}
use Rattle.document_lines.specs.declared.entries.Span.{Span}
use Rattle.document_lines.specs.Entries.{IsEntry}
use Rattle.layout.specs.Words.{NONE}
use Rattle.blanks.specs.Trimmed.{between, Lies, Trimmed}
use Rattle.blanks.proofs.Trimming.{trimmed_whole}
use Rattle.table.proofs.Trees.{tree_small}
use Rattle.texts.proofs.Nodes.{value_inside}
use Rattle.value_notes.specs.Values.{Inside}
use Rattle.value_notes.specs.Notes.{span, padded, Own, Held, Valued}
use Rattle.value_notes.specs.declared.notes.Note.{Note}
use Rattle.value_notes.proofs.Values.{own_compared, inside_none, inside_first, inside_one, inside_more}

-- ── Text and attributes ──
span_is : {p : Span} {a b : ℕ} → p.from ≡ a → p.to ≡ b → p ≡ record { from = a; to = b }
span_is d e = ap₂ (λ (x y : ℕ). record { from = x; to = y }) d e

module _ {s : List ℕ} {ns : List Node} {v : ℕ} {p q : Span} (h : Own s ns v p q) where
  abbrev own_note : Note
  own_note = record { low = q.from % 65_536; high = q.from / 65_536; length = q.to - q.from; blanks = q.from - p.from + 256 * (p.to - q.to) }

  -- a value is short
  own_short : p.to - p.from ≤ 255
  unfolding Value
  own_short = omega (arith, length-slice p.from p.to s h.lies.within, ap length h.lies.bytes, (h.accepts.legal.values v h.node).1)

  own_span : q ≡ span own_note
  own_span = let o = h.trimmed.order in span_is {p = q} (omega arith) (omega arith)

  own_padded : p ≡ padded own_note
  own_padded =
      let a = h.trimmed.starts in let o = h.trimmed.order in let b = h.trimmed.ends in let k = own_short in
      span_is {p = p} (omega arith) (omega arith)

  pub own_valued : Valued s ns v own_note
  own_valued =
      let a = h.trimmed.starts in let o = h.trimmed.order in let b = h.trimmed.ends in let k = own_short in let w = h.lies.within in let z = h.accepts.short in
      record {
        words = (omega arith, omega arith, omega arith, omega arith);
        held = inl (omega arith, subst (λ x. Lies s x (compared_of ns v)) own_span (record { within = omega arith; bytes = bytes }));
        text = λ e. record {
          short = omega arith;
          room = omega arith;
          lies = subst (λ x. Lies s x (at ns v).value) own_padded h.lies;
          trimmed = subst₂ (λ x y. Trimmed s x y) own_padded own_span h.trimmed;
        };
      }
    where
      bytes : between s q ≡ compared_of ns v
      bytes = sym (own_compared ns v h.own ∙ ap trim (sym h.lies.bytes) ∙ trimmed_whole s p q h.trimmed h.lies.within)

pub own_of : {s : List ℕ} {ns : List Node} {v : ℕ} {e : Entry} {q : Span}
    → Accepts s ns → v < length ns → string_of ns v ≡ (at ns v).value → IsEntry s ns v e → Trimmed s e.value q → Own s ns v e.value q
own_of a l o h z =
    record { accepts = a; node = l; own = o; lies = record { within = value_inside h; bytes = h.value }; trimmed = z }

-- ── Elements ──
not_text : {k : Kind} {A : Type 0} → k ≡ element → k ≡ text → A
not_text d e = let z : element ≡ text = sym d ∙ e in let c : ◌≡◌ {A = ℕ} 0 1 = cc in absurd (omega arith)

module _ {s : List ℕ} {ns : List Node} (a : Accepts s ns) {v f l : ℕ} (h : Inside ns v f l) where
  pub element_none : f ≡ NONE → Valued s ns v (record { low = 0; high = 0; length = 0; blanks = 0 })
  element_none z =
      let e = inside_none h (tree_small a) z in
      record {
        words = (omega arith, omega arith, omega arith, omega arith);
        held = inl (omega arith, record { within = omega arith; bytes = sym e });
        text = not_text h.kind;
      }

  pub element_one : {x : Note} → ¬ (f ≡ NONE) → f ≡ l → Valued s ns f x → Valued s ns v x
  element_one {x} z e k = record { words = k.words; held = go k.held; text = not_text h.kind }
    where
      go : Held s ns f x → Held s ns v x
      go (inl (p, y)) = inl (p, subst (λ bs. Lies s (span x) bs) (inside_one h z e) y)
      go (inr (p, y)) = let q = (k.text (inside_first h z).3).short in absurd (omega arith)

  pub element_more : ¬ (f ≡ NONE) → ¬ (f ≡ l) → Valued s ns v (record { low = f; high = l; length = NONE; blanks = 0 })
  element_more z e =
      let (i, o, r, k) = inside_first h z in let m = tree_small a in
      record {
        words = (omega arith, omega arith, omega arith, omega arith);
        held = inr (refl, inside_more h z e);
        text = not_text h.kind;
      }
