-- The texts that a cursor reads: nodes without text left out, and the text of a node where its note says.
use Prim.Native.Nat.{ℕ, zero, suc, ◌+◌, ◌-◌, ◌≤◌, ◌<◌}
use mathlib.Core.Path.{◌≡◌, sym, ap, ◌∙◌}
use mathlib.Core.Logic.{inl, inr}
use mathlib.Core.List.{List, [], ◌∷◌, ◌++◌, append_assoc}
use lib.ListN.{length, get_or, take, length-take, length-append, drop_of_length-le}
use lib.Seq.{slice, slice-cons, length-slice}
use native.Mathlib.Omega.{arith}
use native.Mathlib.Numerals.{add-one}
use native.Mathlib.Decide.{dec_lt}
use Rattle.lists.specs.Blanks.{trim, trim_start, trim_end}
use Rattle.lists.proofs.Blanks.{trim_end_prefix, trim_end_nonempty}
use Rattle.document_spec.specs.Library.{Node, at}
use Rattle.document_spec.specs.Binary.{text_of}
use Rattle.document_spec.specs.Intervals.{texts}
use Rattle.blanks.specs.Trimmed.{between}
use Rattle.blanks.proofs.Trimming.{trimmed_whole, trimmed_start, trimmed_end}
use Rattle.texts.proofs.Nodes.{not_blank, is_text, text_text}
use Rattle.texts.proofs.Joined.{texts_first, texts_cut}
use Rattle.value_notes.specs.declared.notes.Note.{Note}
use Rattle.value_notes.specs.Notes.{start, span, padded, Padded, Valued}
use Rattle.value_notes.specs.Values.{up_to, Speaks, Mute, FirstText, Next}

-- ── Spans ──
pub used_up : (s : List ℕ) (f t : ℕ) → t ≤ f → slice f t s ≡ []
used_up s f t h = drop_of_length-le (take t s) {i = f} (omega (arith, length-take t s))

pub first_of : (s : List ℕ) (f t : ℕ) → f < t → t ≤ length s → slice f t s ≡ get_or s f 0 ∷ slice (f + 1) t s
first_of s f t h k = slice-cons f t s 0 h k ∙ ap (λ (n : ℕ). get_or s f 0 ∷ slice n t s) (sym (add-one f))

-- ── The texts of consecutive nodes ──
module _ (ns : List Node) where
  -- nodes without text may be left out
  texts_skip : {a u l : ℕ} → a ≤ u → u ≤ l → l ≤ length ns → Mute ns a u → texts (slice a l ns) ≡ texts (slice u l ns)
  texts_skip {a} {u} {l} i j k h = go (u - a) a (omega arith) h
    where
      go : (d a : ℕ) → a + d ≡ u → Mute ns a u → texts (slice a l ns) ≡ texts (slice u l ns)
      go zero a e h = let z : a ≡ u = omega arith in ap (λ (y : ℕ). texts (slice y l ns)) z
      go (suc d) a e h =
          texts_first ns (omega arith) k
          ∙ ap (λ y. y ++ texts (slice (suc a) l ns)) (h a (omega arith) (omega arith))
          ∙ go d (suc a) (omega arith) (λ w x y. h w (omega arith) y)

  -- the next text is no later than one that is not blank
  pub next_until : {a x l : ℕ} → a ≤ l → l < length ns → Speaks ns l → Next ns a x → FirstText ns a x × (x ≤ l)
  next_until {a} {x} {l} i j h = go
    where
      heard : ¬ (text_of (at ns l) ≡ [])
      heard e = let z = ap length e in let y = not_blank (text_of (at ns l)) h in omega arith

      until : FirstText ns a x → Dec (l < x) → x ≤ l
      until f (yes r) = absurd (heard (f.between l i r))
      until f (no r) = omega arith

      go : Next ns a x → FirstText ns a x × (x ≤ l)
      go (inl f) = (f, until f (dec_lt l x))
      go (inr (e, m)) = absurd (heard (m l i j))

  -- from the next text on
  pub upto_next : {a x l : ℕ} → FirstText ns a x → x ≤ l → l < length ns → texts (slice a l ns) ≡ texts (slice x l ns)
  upto_next f i j = texts_skip f.after i (omega arith) f.between

  -- where the texts go on to a later node, more comes
  pub upto_more : {f l m : ℕ} → f < l → l < m → m < length ns → Speaks ns m → (zs : List ℕ) × (0 < length zs) × (up_to ns f m ≡ up_to ns f l ++ zs)
  upto_more {f} {l} {m} i j k h =
      let (ds, z, e) = trim_end_prefix (text_of (at ns l)) in let r = trim_end_nonempty (text_of (at ns m)) h in
      let p = length-append ds (rest ++ end) in let q = length-append rest end in (
        ds ++ (rest ++ end),
        omega arith,
        ap (λ x. x ++ end) (texts_cut ns (suc f) l m i (omega arith) (omega arith) ∙ ap (λ x. front ++ x) (texts_first ns j (omega arith) ∙ ap (λ x. x ++ rest) e))
            ∙ simp append_assoc,
      )
    where
      front : List ℕ
      front = texts (slice (suc f) l ns)

      rest : List ℕ
      rest = texts (slice (suc l) m ns)

      end : List ℕ
      end = trim_end (text_of (at ns m))

-- ── The text of a node, by its note ──
module _ {s : List ℕ} {ns : List Node} {u : ℕ} {x : Note} (h : Valued s ns u x) (t : 0 < length (text_of (at ns u))) where
  pub padding : Padded s ns u x
  padding = h.text (is_text (at ns u) t)

  pub text_here : between s (padded x) ≡ text_of (at ns u)
  text_here = padding.lies.bytes ∙ sym (text_text (at ns u) (is_text (at ns u) t))

  pub text_long : (padded x).from < (padded x).to
  text_long = let e = ap length text_here in let f = length-slice (padded x).from (padded x).to s padding.lies.within in omega arith

  module _ (k : Speaks ns u) where
    pub bytes_some : (span x).from < (span x).to
    bytes_some =
        let p = padding in
        let e = ap trim (sym text_here) ∙ trimmed_whole s (padded x) (span x) p.trimmed p.lies.within in
        let f = ap length e in
        let r = p.trimmed.ends in let w = p.lies.within in
        let g = length-slice (span x).from (span x).to s (omega arith) in
        omega arith

    pub text_start : slice (start x) (padded x).to s ≡ trim_start (text_of (at ns u))
    text_start = sym (trimmed_start s (padded x) (span x) padding.trimmed padding.lies.within bytes_some) ∙ ap trim_start text_here

    pub text_end : slice (padded x).from (span x).to s ≡ trim_end (text_of (at ns u))
    text_end = sym (trimmed_end s (padded x) (span x) padding.trimmed padding.lies.within bytes_some) ∙ ap trim_end text_here
