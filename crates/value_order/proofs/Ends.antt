-- Values that begin at the same place: where they end decides.
use Prim.Native.Nat.{ℕ, ◌≤◌, ◌<◌}
use mathlib.Core.Path.{◌≡◌, sym, ap, ap₂, ◌∙◌, subst, subst₂}
use mathlib.Core.Bool.{true, false, true≢false}
use mathlib.Core.Logic.{◌⊎◌, inl, inr}
use mathlib.Core.List.{List, [], ◌∷◌, ◌++◌, append-nil, append_assoc}
use lib.ListN.{length}
use lib.Seq.{slice, length-slice}
use native.Mathlib.Omega.{arith}
use native.Mathlib.Decide.{dec_lt}
use Rattle.lists.specs.Blanks.{trim_start}
use Rattle.string_order.specs.Bytes as Bytes
use Rattle.document_spec.specs.Library.{Node, at}
use Rattle.document_spec.specs.Binary.{text_of, compared_of}
use Rattle.layout.specs.Words.{NONE}
use Rattle.blanks.proofs.Slices.{slice_join}
use Rattle.value_notes.specs.Values.{up_to, Several}
use Rattle.values.specs.declared.Reading.{Reading}
use Rattle.values.specs.Comes.{at_hand, Goes, Opens}
use Rattle.values.proofs.Texts.{upto_more}
use Rattle.std.specs.declared.cmp.Ordering.{Ordering}
use Rattle.std.specs.declared.cmp.Ordering.TheVariants.{Less, Equal, Greater}
use Rattle.std.specs.Ordering.{nat_cmp, is_ne}
use Rattle.std.proofs.lemmas.Cmp.{ranked}
use Rattle.string_order.specs.Ordered.{Ordered}
use Rattle.string_order.proofs.Comparison.{behind_common}

-- a proper prefix is smaller
less_more : (ps qs : List ℕ) → 0 < length qs → Bytes.Less ps (ps ++ qs)
less_more ps [] h = absurd (omega arith)
less_more ps (q ∷ qs) h = subst (λ xs. Bytes.Less xs (ps ++ q ∷ qs)) (append-nil ps) (behind_common ps [] (q ∷ qs) Less tt)

-- ── Several texts ──
module _ {ns : List Node} {v w f l m : ℕ} (h : Several ns v f l) (g : Several ns w f m) where
  several_less : l < m → Bytes.Less (compared_of ns v) (compared_of ns w)
  several_less i =
      let (zs, z, e) = upto_more ns h.order i g.within g.ends in let front = trim_start (text_of (at ns f)) in
      subst₂ Bytes.Less (sym h.whole) (append_assoc front (up_to ns f l) zs ∙ ap (λ x. front ++ x) (sym e) ∙ sym g.whole) (less_more (front ++ up_to ns f l) zs z)

  several_same : l ≡ m → compared_of ns v ≡ compared_of ns w
  several_same e = h.whole ∙ ap (λ (x : ℕ). trim_start (text_of (at ns f)) ++ up_to ns f x) e ∙ sym g.whole

-- ── One span ──
pub alone_value : {s : List ℕ} {ns : List Node} {v : ℕ} {x : Reading} → Opens s ns v x → x.last ≤ x.node → (x.last ≡ NONE) × (at_hand s x ≡ compared_of ns v)
alone_value {s} {ns} {v} {x} h i = go h.comes.rest
  where
    go : ((x.node ≡ x.last) × (at_hand s x ≡ compared_of ns v)) ⊎ Goes s ns x (compared_of ns v) → (x.last ≡ NONE) × (at_hand s x ≡ compared_of ns v)
    go (inl (e, b)) = let z = h.alone i in (omega arith, b)
    go (inr g) = let o = g.order in absurd (omega arith)

-- ── Both begin at the same place ──
module _ {s : List ℕ} {ns : List Node} {v w : ℕ} {x y : Reading} (small : length ns ≤ NONE) (h : Opens s ns v x) (g : Opens s ns w y) (from : x.from ≡ y.from) (node : x.node ≡ y.node) where
  first : x.node < x.last → Several ns v y.node x.last
  first i = subst (λ f. Several ns v f x.last) node (h.several i)

  -- the second goes on to a later text
  pub ends_earlier : x.last < y.last → Bytes.Less (compared_of ns v) (compared_of ns w)
  ends_earlier i = go (dec_lt x.node x.last) (dec_lt y.node y.last)
    where
      go : Dec (x.node < x.last) → Dec (y.node < y.last) → Bytes.Less (compared_of ns v) (compared_of ns w)
      go (yes a) (yes b) = several_less (first a) (g.several b) i
      go (yes a) (no b) = absurd (omega arith)
      go (no a) (yes b) = let z = h.alone (omega arith) in let o = (g.several b).within in absurd (omega arith)
      go (no a) (no b) = let z = (alone_value h (omega arith)).0 in let o = (alone_value g (omega arith)).0 in absurd (omega arith)

  -- both end in the same text
  pub ends_same : x.last ≡ y.last → (x.node < x.last) ⊎ (x.to ≡ y.to) → compared_of ns v ≡ compared_of ns w
  ends_same e d = go d (dec_lt x.node x.last)
    where
      go : (x.node < x.last) ⊎ (x.to ≡ y.to) → Dec (x.node < x.last) → compared_of ns v ≡ compared_of ns w
      go d (yes a) = several_same (first a) (g.several (omega arith)) e
      go (inl a) (no b) = absurd (b a)
      go (inr t) (no b) =
          sym (alone_value h (omega arith)).1
          ∙ ap₂ (λ (i j : ℕ). slice i j s) from t
          ∙ (alone_value g (omega arith)).1

  -- both lie in one span, and the second goes further
  pub ends_before : x.last ≡ y.last → x.last ≤ x.node → x.to < y.to → Bytes.Less (compared_of ns v) (compared_of ns w)
  ends_before e a i =
      let o = h.order in let k = g.comes.within in let z = slice x.to y.to s in
      let l = length-slice x.to y.to s k in
      subst₂ Bytes.Less (alone_value h a).1
      (sym (slice_join s x.from x.to y.to o (omega arith) (omega arith)) ∙ ap (λ (j : ℕ). slice j y.to s) from ∙ (alone_value g (omega arith)).1)
      (less_more (at_hand s x) z (omega arith))

-- ── What is compared ──
module _ {s : List ℕ} {ns : List Node} {v w : ℕ} {x y : Reading} (small : length ns ≤ NONE) (h : Opens s ns v x) (g : Opens s ns w y) (from : x.from ≡ y.from) (node : x.node ≡ y.node) where
  -- the last texts of the two, unless each is a lone text
  pub ends_texts : (o : Ordering) → o ≡ nat_cmp x.last y.last → (is_ne o ≡ true) ⊎ (x.node < x.last) → Ordered (compared_of ns v) (compared_of ns w) o
  ends_texts Less e d = ends_earlier small h g from node (ranked x.last y.last Less e)
  ends_texts Equal e (inl f) = absurd (true≢false (sym f))
  ends_texts Equal e (inr i) = ends_same small h g from node (ranked x.last y.last Equal e) (inl i)
  ends_texts Greater e d = ends_earlier small g h (sym from) (sym node) (ranked x.last y.last Greater e)

  pub ends_alike : (o : Ordering) → o ≡ nat_cmp x.last y.last → is_ne o ≡ false → x.last ≡ y.last
  ends_alike Less e f = absurd (true≢false f)
  ends_alike Equal e f = ranked x.last y.last Equal e
  ends_alike Greater e f = absurd (true≢false f)

  -- where both lie in one span, its ends
  pub ends_spans : (o : Ordering) → o ≡ nat_cmp x.to y.to → x.last ≡ y.last → x.last ≤ x.node → Ordered (compared_of ns v) (compared_of ns w) o
  ends_spans Less e d a = ends_before small h g from node d a (ranked x.to y.to Less e)
  ends_spans Equal e d a = ends_same small h g from node d (inr (ranked x.to y.to Equal e))
  ends_spans Greater e d a = ends_before small g h (sym from) (sym node) (sym d) (omega arith) (ranked x.to y.to Greater e)
