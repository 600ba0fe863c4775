-- How a cursor moves over the bytes of a compared value.
use Prim.Native.Nat.{ℕ, suc, ◌+◌, ◌-◌, ◌≤◌, ◌<◌}
use mathlib.Core.Path.{◌≡◌, refl, sym, ap, ◌∙◌, subst, subst₂}
use mathlib.Core.Logic.{◌⊎◌, inl, inr}
use mathlib.Core.List.{List, [], ◌++◌, append_assoc}
use lib.ListN.{length}
use lib.Seq.{slice}
use native.Mathlib.Omega.{arith}
use native.Mathlib.Nat.{mul-suc, mul-le-mul_left}
use Rattle.lists.specs.Blanks.{trim_end}
use Rattle.document_spec.specs.Library.{Node, at}
use Rattle.document_spec.specs.Binary.{text_of}
use Rattle.document_spec.specs.Intervals.{texts}
use Rattle.document_spec.specs.Verdict.{Accepts}
use Rattle.layout.specs.Words.{NONE, word}
use Rattle.layout.specs.Values.{NEXT}
use Rattle.texts.proofs.Nodes.{not_blank}
use Rattle.texts.proofs.Joined.{texts_none, texts_first}
use Rattle.table.proofs.Trees.{tree_size}
use Rattle.value_notes.specs.declared.notes.Note.{Note}
use Rattle.value_notes.specs.Notes.{note_at, start, span, padded, in_front, Held, Valued, Annotated}
use Rattle.value_notes.specs.Values.{up_to, Speaks, Several, FirstText, Next}
use Rattle.values.specs.declared.Reading.{Reading}
use Rattle.values.specs.Comes.{at_hand, Goes, Comes, Opens, weight, Further, Filled}
use Rattle.values.proofs.Texts.{used_up, next_until, upto_next, padding, text_here, text_long, bytes_some, text_start, text_end}

-- ── The beginning of a value ──
module _ {s : List ℕ} {ns : List Node} {n : ℕ} {t : List ℕ} (a : Annotated s n t) (k : Accepts s ns) where
  -- what is read of the note of a node
  pub note_here : {v : ℕ} {x : Note} → v < n → x ≡ note_at t n v → Valued s ns v x
  note_here {v} l e = subst (λ y. Valued s ns v y) (sym e) (a.valued ns k v l)

  -- the first of several texts is one of the table
  pub note_first : {v f l : ℕ} → Several ns v f l → f < n
  note_first m = let o = m.order in let i = m.within in let z = tree_size a.tabled ns k in omega arith

module _ {s : List ℕ} {ns : List Node} {v : ℕ} {x : Note} (h : Valued s ns v x) where
  -- one span
  pub opens_alone : ¬ (x.length ≡ NONE) → Opens s ns v (record { from = (span x).from; to = (span x).to; node = NONE; last = NONE })
  opens_alone z = go h.held
    where
      go : Held s ns v x → Opens s ns v (record { from = (span x).from; to = (span x).to; node = NONE; last = NONE })
      go (inl (p, q)) = record {
        comes = record { within = q.within; rest = inl (refl, q.bytes) };
        order = omega arith;
        alone = λ r. refl;
        several = λ r. absurd (omega arith);
      }
      go (inr (p, q)) = absurd (z p)

  -- several texts
  pub note_several : x.length ≡ NONE → Several ns v x.low x.high
  note_several z = go h.held
    where
      go : Held s ns v x → Several ns v x.low x.high
      go (inl (p, q)) = absurd (omega arith)
      go (inr (p, q)) = q

-- the first of them is at hand, without the blanks in front
pub opens_several : {s : List ℕ} {ns : List Node} {v f l : ℕ} {x : Note} → Several ns v f l → Valued s ns f x
    → Opens s ns v (record { from = start x; to = (padded x).to; node = f; last = l })
opens_several {ns} {f} {l} {x} m h =
    let o = m.order in let t = not_blank (text_of (at ns f)) m.begins in
    record {
      comes = record {
        within = (padding h t).lies.within;
        rest = inr (record { order = o; inside = m.within; ends = m.ends; whole = ap (λ bs. bs ++ up_to ns f l) (text_start h t m.begins) ∙ sym m.whole });
      };
      order = omega arith;
      alone = λ r. absurd (omega arith);
      several = λ r. m;
    }

-- ── The next text ──
module _ {s : List ℕ} {ns : List Node} {c : Reading} {bs : List ℕ} (h : Comes s ns c bs) where
  goes : c.node < c.last → Goes s ns c bs
  goes more = go h.rest
    where
      go : ((c.node ≡ c.last) × (at_hand s c ≡ bs)) ⊎ Goes s ns c bs → Goes s ns c bs
      go (inl (e, b)) = absurd (omega arith)
      go (inr g) = g

  -- nothing is left
  pub nothing_left : c.to ≤ c.from → c.last ≤ c.node → bs ≡ []
  nothing_left used none = go h.rest
    where
      go : ((c.node ≡ c.last) × (at_hand s c ≡ bs)) ⊎ Goes s ns c bs → bs ≡ []
      go (inl (e, b)) = sym b ∙ used_up s c.from c.to used
      go (inr g) = let o = g.order in absurd (omega arith)

  module _ {n : ℕ} {t : List ℕ} {u : ℕ} (a : Annotated s n t) (k : Accepts s ns) (more : c.node < c.last) (e : u ≡ word t n NEXT c.node) where
    -- the node is one of the table, and so is the next one with text
    pub node_inside : c.node < n
    node_inside = let i = (goes more).inside in let z = tree_size a.tabled ns k in omega arith

    pub next : FirstText ns (suc c.node) u × (u ≤ c.last)
    next =
        let g = goes more in
        next_until ns (omega arith) g.inside g.ends (subst (λ y. Next ns (suc c.node) y) (sym e) (a.next ns k c.node node_inside))

    pub next_inside : u < n
    next_inside = let i = next.0.within in let z = tree_size a.tabled ns k in omega arith

    -- the measure falls, whatever of the next text is at hand
    pub next_lighter : (i j : ℕ) → j ≤ length s → weight s (record { from = i; to = j; node = u; last = c.last }) < weight s c
    next_lighter i j w =
        let o = next.0.after in let r = next.1 in
        let m = mul-le-mul_left {m = suc (c.last - u)} {n = c.last - c.node} (length s + 1) (omega arith) in
        let l = mul-suc (length s + 1) (c.last - u) in
        omega arith

    -- ── What is still to come, where the bytes at hand are used up ──
    module _ (used : c.to ≤ c.from) where
      from_next : texts (slice u c.last ns) ++ trim_end (text_of (at ns c.last)) ≡ bs
      from_next =
          let g = goes more in
          ap (λ y. y ++ trim_end (text_of (at ns c.last))) (sym (upto_next ns next.0 next.1 g.inside))
          ∙ ap (λ (y : List ℕ). y ++ up_to ns c.node c.last) (sym (used_up s c.from c.to used))
          ∙ g.whole

      -- it begins with the next text, if another one is behind that
      next_whole : u < c.last → text_of (at ns u) ++ up_to ns u c.last ≡ bs
      next_whole o =
          let i = (goes more).inside in let end = trim_end (text_of (at ns c.last)) in
          sym (append_assoc (text_of (at ns u)) (texts (slice (suc u) c.last ns)) end)
          ∙ ap (λ y. y ++ end) (sym (texts_first ns o (omega arith)))
          ∙ from_next

      pub goes_on_lem : u < c.last → {i j : ℕ} {bs' : List ℕ} → slice i j s ++ up_to ns u c.last ≡ bs' → Goes s ns (record { from = i; to = j; node = u; last = c.last }) bs'
      goes_on_lem o w = let g = goes more in record { order = o; inside = g.inside; ends = g.ends; whole = w }

      last_whole : u ≡ c.last → trim_end (text_of (at ns u)) ≡ bs
      last_whole d =
          let end = trim_end (text_of (at ns c.last)) in
          ap (λ (y : ℕ). trim_end (text_of (at ns y))) d
          ∙ ap (λ y. y ++ end) (sym (texts_none ns c.last))
          ∙ ap (λ (y : ℕ). texts (slice y c.last ns) ++ end) (sym d)
          ∙ from_next

      -- the next text is passed
      pub next_passed : ¬ (u ≡ c.last) → (bs ≡ text_of (at ns u) ++ up_to ns u c.last) × Comes s ns (record { from = 0; to = 0; node = u; last = c.last }) (up_to ns u c.last)
      next_passed d =
          let r = next.1 in let o : u < c.last = omega arith in
          (sym (next_whole o), record { within = omega arith; rest = inr (goes_on_lem o refl) })

      -- ── Onward ──
      module _ {x : Note} (f : x ≡ note_at t n u) where
        right : Valued s ns u x
        right = note_here a k next_inside f

        -- the blanks in front of the text do not reach before the document
        pub next_room : in_front x ≤ start x
        next_room = (padding right next.0.text).room

        abbrev Reached : ℕ → ℕ → Type 0
        Reached i j = Further s ns c bs (record { from = i; to = j; node = u; last = c.last })

        -- another text is behind it: with all its blanks
        inner : ¬ (u ≡ c.last) → Reached (padded x).from (padded x).to
        inner d =
            let r = next.1 in let t = next.0.text in let w = (padding right t).lies.within in let o : u < c.last = omega arith in
            record {
              comes = record { within = w; rest = inr (goes_on_lem o (ap (λ y. y ++ up_to ns u c.last) (text_here right t) ∙ next_whole o)) };
              some = text_long right t;
              lighter = next_lighter (padded x).from (padded x).to w;
            }

        -- it is the last one: without the blanks at its end
        last : u ≡ c.last → Reached (padded x).from (span x).to
        last d =
            let t = next.0.text in let l = subst (λ y. Speaks ns y) (sym d) (goes more).ends in
            let p = padding right t in let w = p.lies.within in let r = p.trimmed.ends in let o = p.trimmed.starts in let b = bytes_some right t l in
            record {
              comes = record { within = omega arith; rest = inl (d, text_end right t l ∙ last_whole d) };
              some = omega arith;
              lighter = next_lighter (padded x).from (span x).to (omega arith);
            }

        pub onward_inner : {i j : ℕ} → i ≡ (padded x).from → j ≡ (padded x).to → ¬ (u ≡ c.last) → Further s ns c bs (record { from = i; to = j; node = u; last = c.last })
        onward_inner p q d = subst₂ Reached (sym p) (sym q) (inner d)

        pub onward_last : {i j : ℕ} → i ≡ (padded x).from → j ≡ (span x).to → u ≡ c.last → Further s ns c bs (record { from = i; to = j; node = u; last = c.last })
        onward_last p q d = subst₂ Reached (sym p) (sym q) (last d)

-- ── A byte at hand ──
pub filled_now : {s : List ℕ} {ns : List Node} {c : Reading} {bs : List ℕ} → Comes s ns c bs → (c.to ≤ c.from → c.last ≤ c.node) → Filled s ns c bs c
filled_now h z = record { comes = h; lighter = omega arith; empty = λ u. nothing_left h u (z u) }

pub filled_further : {s : List ℕ} {ns : List Node} {c r : Reading} {bs : List ℕ} → Further s ns c bs r → Filled s ns c bs r
filled_further h = let i = h.some in let l = h.lighter in record { comes = h.comes; lighter = omega arith; empty = λ u. absurd (omega arith) }
