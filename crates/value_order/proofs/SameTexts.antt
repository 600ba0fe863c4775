-- Texts with the same twin and the same blanks around them are the same, and may be passed at two cursors.
use Prim.Native.Nat.{ℕ, ◌+◌, ◌/◌, ◌%◌, ◌≤◌, ◌<◌}
use mathlib.Core.Path.{◌≡◌, sym, ap, ◌∙◌, subst}
use mathlib.Core.Logic.{inl, inr}
use mathlib.Core.List.{List}
use native.Mathlib.Omega.{arith}
use Rattle.limits.specs.Limits.{value_bytes}
use Rattle.document_spec.specs.Library.{Node, at}
use Rattle.document_spec.specs.Binary.{text_of, compared_of}
use Rattle.document_spec.specs.Verdict.{Accepts}
use Rattle.layout.specs.Ranking.{TWIN}
use Rattle.layout.specs.Values.{BLANKS, NEXT}
use Rattle.layout.specs.Words.{NONE, word}
use Rattle.blanks.specs.Trimmed.{between}
use Rattle.blanks.proofs.Trimming.{trimmed_same}
use Rattle.value_notes.specs.declared.notes.Note.{Note}
use Rattle.value_notes.specs.Notes.{span, padded, in_front, at_end, Held, Valued}
use Rattle.value_notes.specs.Values.{up_to}
use Rattle.values.specs.declared.Reading.{Reading}
use Rattle.values.specs.Comes.{Comes, weight}
use Rattle.values.proofs.Texts.{padding, text_here}
use Rattle.values.proofs.Cursor.{next, next_passed, next_lighter}
use Rattle.value_order.specs.Along.{Along}
use Rattle.value_order.specs.Twins.{Prepared, SameText}
use Rattle.value_order.proofs.Moving.{decides_behind, along_then}

-- a short value lies in one span
value_span : {s : List ℕ} {ns : List Node} {v : ℕ} {x : Note} → Valued s ns v x → x.length < NONE → between s (span x) ≡ compared_of ns v
value_span {s} {ns} {v} {x} h i = go h.held
  where
    go : Held s ns v x → between s (span x) ≡ compared_of ns v
    go (inl (p, l)) = l.bytes
    go (inr (e, l)) = absurd (omega arith)

-- the value and the blanks around it make the text
notes_same : {s : List ℕ} {ns : List Node} {a b : ℕ} {x y : Note} → Valued s ns a x → Valued s ns b y → compared_of ns a ≡ compared_of ns b → x.blanks ≡ y.blanks → SameText ns a b
notes_same {s} {ns} {a} {b} {x} {y} h g e f p q =
    let u = padding h p in let v = padding g q in
    let i = u.room in let j = v.room in
    let front : in_front x ≡ in_front y = ap (λ (z : ℕ). z % (value_bytes + 1)) f in
    let behind : at_end x ≡ at_end y = ap (λ (z : ℕ). z / (value_bytes + 1)) f in
    sym (text_here h p)
    ∙ trimmed_same s (padded x) (span x) (padded y) (span y) u.trimmed v.trimmed u.lies.within v.lies.within
    (value_span h u.short ∙ e ∙ sym (value_span g v.short)) (omega arith) (omega arith)
    ∙ text_here g q

pub same_text : {s : List ℕ} {ns : List Node} {n a b : ℕ} {t : List ℕ} → Prepared s n t → Accepts s ns → a < n → b < n
    → word t n TWIN a ≡ word t n TWIN b → word t n BLANKS a ≡ word t n BLANKS b → SameText ns a b
same_text {ns} {a} {b} h k i j e f =
    let v = h.annotated.valued ns k in let w = h.twins ns k in
    notes_same (v a i) (v b j) (sym (w a i).1 ∙ ap (compared_of ns) e ∙ (w b j).1) f

-- ── Texts that come next at two cursors ──
module _ {s : List ℕ} {ns : List Node} {n : ℕ} {t bs cs : List ℕ} {x y x' y' : Reading} {a b : ℕ} (p : Prepared s n t) (k : Accepts s ns) (h : Along s s ns bs cs x y) where
  -- where they are the same, and neither is the last one, both are passed
  pub texts_passed : (x.to ≤ x.from) × (x.node < x.last) → (y.to ≤ y.from) × (y.node < y.last)
      → a ≡ word t n NEXT x.node → b ≡ word t n NEXT y.node → ¬ (a ≡ x.last) → ¬ (b ≡ y.last) → SameText ns a b
      → x' ≡ record { from = 0; to = 0; node = a; last = x.last } → y' ≡ record { from = 0; to = 0; node = b; last = y.last }
      → Along s s ns bs cs x' y' × (weight s x' < weight s x)
  texts_passed (i, j) (i', j') e f d g z u w =
      let c = p.annotated in
      let q = next_passed h.left_comes c k j e i d in let r = next_passed h.right_comes c k j' f i' g in
      let l = z (next h.left_comes c k j e).0.text (next h.right_comes c k j' f).0.text in (
        along_then h (
            record {
              left = up_to ns a x.last;
              right = up_to ns b y.last;
              left_comes = subst (λ o. Comes s ns o (up_to ns a x.last)) (sym u) q.1;
              right_comes = subst (λ o. Comes s ns o (up_to ns b y.last)) (sym w) r.1;
              decides = decides_behind (text_of (at ns a)) (text_of (at ns b)) (up_to ns a x.last) (up_to ns b y.last) l q.0 r.0;
            }
            ),
        subst (λ o. weight s o < weight s x) (sym u) (next_lighter h.left_comes c k j e 0 0 (omega arith)),
      )
