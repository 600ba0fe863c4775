-- The texts of consecutive nodes, joined, and the same without the blanks at the ends.
use Prim.Native.Nat.{ℕ, zero, suc, ◌+◌, ◌-◌, ◌≤◌, ◌<◌}
use mathlib.Core.Path.{◌≡◌, sym, ap, ◌∙◌, subst}
use mathlib.Core.List.{List, [], ◌++◌, append_assoc}
use lib.ListN.{length}
use lib.Seq.{slice, slice_empty, slice-cons}
use native.Mathlib.Omega.{arith}
use Rattle.lists.specs.Blanks.{Blanks, trim_start, trim_end, trim}
use Rattle.lists.proofs.Blanks.{blanks_append, blanks_trim, trim_is, trim_blanks, trim_start_blanks, trim_start_speaks, trim_end_blanks, trim_end_speaks}
use Rattle.document_spec.specs.Library.{Node, at}
use Rattle.document_spec.specs.Binary.{text_of}
use Rattle.document_spec.specs.Intervals.{texts}
use Rattle.texts.specs.Texts.{Silent, Spoken}

module _ (ns : List Node) where
  pub texts_none : (a : ℕ) → texts (slice a a ns) ≡ []
  texts_none a = ap texts (slice_empty a ns)

  pub texts_first : {v b : ℕ} → v < b → b ≤ length ns → texts (slice v b ns) ≡ text_of (at ns v) ++ texts (slice (suc v) b ns)
  texts_first {v} {b} i s = ap texts (slice-cons v b ns (at [] 0) i s)

  pub texts_cut : (a b c : ℕ) → a ≤ b → b ≤ c → c ≤ length ns → texts (slice a c ns) ≡ texts (slice a b ns) ++ texts (slice b c ns)
  texts_cut a b c i j s = go (b - a) a (omega arith)
    where
      go : (k a : ℕ) → a + k ≡ b → texts (slice a c ns) ≡ texts (slice a b ns) ++ texts (slice b c ns)
      go zero a e =
          let z : a ≡ b = omega arith in
          subst (λ (x : ℕ). texts (slice x c ns) ≡ texts (slice x b ns) ++ texts (slice b c ns)) (sym z) (ap (λ l. l ++ texts (slice b c ns)) (sym (texts_none b)))
      go (suc k) a e =
          texts_first (omega arith) s
          ∙ ap (λ l. text_of (at ns a) ++ l) (go k (suc a) (omega arith))
          ∙ sym (append_assoc (text_of (at ns a)) (texts (slice (suc a) b ns)) (texts (slice b c ns)))
          ∙ ap (λ l. l ++ texts (slice b c ns)) (sym (texts_first {b = b} (omega arith) (omega arith)))

  pub texts_blank : {a b : ℕ} → a ≤ b → b ≤ length ns → Silent ns a b → Blanks (texts (slice a b ns))
  texts_blank {a} {b} i s h = go (b - a) a (omega arith) h
    where
      go : (k a : ℕ) → a + k ≡ b → Silent ns a b → Blanks (texts (slice a b ns))
      go zero a e h = let z : a ≡ b = omega arith in subst (λ (x : ℕ). Blanks (texts (slice x b ns))) (sym z) (subst Blanks (sym (texts_none b)) tt)
      go (suc k) a e h =
          subst Blanks (sym (texts_first (omega arith) s))
          (blanks_append (text_of (at ns a)) (texts (slice (suc a) b ns)) (blanks_trim (text_of (at ns a)) (h a (omega arith) (omega arith))) (go k (suc a) (omega arith) (λ u p q. h u (omega arith) q)))

  -- ── Without the blanks at the ends ──
  pub trim_silent : {a b : ℕ} → a ≤ b → b ≤ length ns → Silent ns a b → trim (texts (slice a b ns)) ≡ []
  trim_silent {a} {b} i s h = trim_blanks (texts (slice a b ns)) (texts_blank i s h)

  -- from the first text that is not blank up to the last
  module _ {a b f l : ℕ} (s : b ≤ length ns) (h : Spoken ns a b f l) where
    abbrev whole : List ℕ
    whole = texts (slice a b ns)

    -- what stands behind the first one
    abbrev rest : List ℕ
    rest = texts (slice (suc f) b ns)

    start_spoken : trim_start whole ≡ trim_start (text_of (at ns f)) ++ rest
    start_spoken =
        let i = h.after in let j = h.order in let k = h.within in
        ap trim_start (texts_cut a f b i (omega arith) s ∙ ap (λ r. texts (slice a f ns) ++ r) (texts_first (omega arith) s))
        ∙ trim_start_blanks (texts (slice a f ns)) (text_of (at ns f) ++ rest) (texts_blank i (omega arith) h.front)
        ∙ trim_start_speaks (text_of (at ns f)) rest h.begins

    -- the only one
    pub trim_one : f ≡ l → trim whole ≡ trim (text_of (at ns f))
    trim_one e =
        let k = h.within in
        trim_is whole
        ∙ ap trim_end start_spoken
        ∙ trim_end_blanks (trim_start (text_of (at ns f))) rest (subst (λ (x : ℕ). Blanks (texts (slice (suc x) b ns))) (sym e) (texts_blank k s h.behind))
        ∙ sym (trim_is (text_of (at ns f)))

    -- more than one
    pub trim_more : f < l → trim whole ≡ trim_start (text_of (at ns f)) ++ (texts (slice (suc f) l ns) ++ trim_end (text_of (at ns l)))
    trim_more r =
        let k = h.within in let front = trim_start (text_of (at ns f)) in let mid = texts (slice (suc f) l ns) in let last = text_of (at ns l) in let tail = texts (slice (suc l) b ns) in
        trim_is whole
        ∙ ap trim_end
        (start_spoken
        ∙ ap (λ x. front ++ x) (texts_cut (suc f) l b r (omega arith) s ∙ ap (λ x. mid ++ x) (texts_first k s) ∙ sym (append_assoc mid last tail))
        ∙ sym (append_assoc front (mid ++ last) tail))
        ∙ trim_end_blanks (front ++ (mid ++ last)) tail (texts_blank k s h.behind)
        ∙ ap trim_end (sym (append_assoc front mid last))
        ∙ trim_end_speaks (front ++ mid) last h.ends
        ∙ append_assoc front mid (trim_end last)
