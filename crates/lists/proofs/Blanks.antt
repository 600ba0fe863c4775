-- Laws of blanks at the ends of a byte string. `trim_parts`, `trim_bare` and `trim_only`: what is left by trim is the one middle that neither begins nor ends with a blank.
use Prim.Native.Nat.{ℕ, ◌<◌}
use mathlib.Core.Path.{◌≡◌, refl, sym, ap, ◌∙◌, subst}
use mathlib.Core.Logic.{◌⊎◌, inl, inr, ◌≢◌}
use mathlib.Core.List.{List, [], ◌∷◌, ◌++◌, reverse, reverse-cons, reverse-append, reverse-reverse, append_assoc, append-nil, head-eq_of_cons-eq}
use lib.ListN.{length, length-append}
use native.Mathlib.Omega.{arith}
use native.Mathlib.Decide.{ℕ_discrete}
use borrow.Author.Tests.{eq-eqb, ne_eqb}
use Rattle.lists.specs.Blanks.{blank, Blanks, Bare, trim_start, trim_end, trim}
use Rattle.lists.proofs.Lists.{all_append}

-- ── Blanks alone ──
pub blanks_append : (xs bs : List ℕ) → Blanks xs → Blanks bs → Blanks (xs ++ bs)
blanks_append xs bs h k = (all_append (λ b. b ≡ blank) xs bs).1 (h, k)

-- as many blanks are the same
pub blanks_same : (xs bs : List ℕ) → Blanks xs → Blanks bs → length xs ≡ length bs → xs ≡ bs
blanks_same [] [] h k e = refl
blanks_same [] (b ∷ bs) h k e = absurd (omega arith)
blanks_same (a ∷ xs) [] h k e = absurd (omega arith)
blanks_same (a ∷ xs) (b ∷ bs) h k e = let r = blanks_same xs bs h.1 k.1 (omega arith) in let x = h.0 in let y = k.0 in cc

blanks_reverse : (bs : List ℕ) → Blanks bs → Blanks (reverse bs)
blanks_reverse [] h = tt
blanks_reverse (b ∷ bs) h = subst Blanks (sym (reverse-cons b bs)) (blanks_append (reverse bs) (b ∷ []) (blanks_reverse bs h.1) (h.0, tt))

-- ── The first and the last byte that is no blank ──
-- bs is blanks alone, or blanks and then another byte
pub data Front (bs : List ℕ) : Type 0 where
  none : Blanks bs → Front bs
  other : (xs : List ℕ) (b : ℕ) (cs : List ℕ) → Blanks xs → b ≢ blank → bs ≡ xs ++ b ∷ cs → Front bs

pub front : (bs : List ℕ) → Front bs
front [] = none tt
front (b ∷ bs) = go (ℕ_discrete b blank) (front bs)
  where
    go : Dec (b ≡ blank) → Front bs → Front (b ∷ bs)
    go (no f) h = other [] b bs tt f refl
    go (yes e) (none h) = none (e, h)
    go (yes e) (other xs c cs h f q) = other (b ∷ xs) c cs (e, h) f (ap (λ (x : List ℕ). b ∷ x) q)

-- bs is blanks alone, or another byte and then blanks
pub data Behind (bs : List ℕ) : Type 0 where
  none : Blanks bs → Behind bs
  other : (cs : List ℕ) (b : ℕ) (ds : List ℕ) → Blanks ds → b ≢ blank → bs ≡ cs ++ b ∷ ds → Behind bs

pub behind : (bs : List ℕ) → Behind bs
behind [] = none tt
behind (b ∷ bs) = go (ℕ_discrete b blank) (behind bs)
  where
    go : Dec (b ≡ blank) → Behind bs → Behind (b ∷ bs)
    go d (other cs c ds h f q) = other (b ∷ cs) c ds h f (ap (λ (x : List ℕ). b ∷ x) q)
    go (yes e) (none h) = none (e, h)
    go (no f) (none h) = other [] b bs h f refl

-- ── The front ──
start_step : (b : ℕ) (bs : List ℕ) → b ≡ blank → trim_start (b ∷ bs) ≡ trim_start bs
unfolding trim_start
start_step b bs e = rw (eq-eqb b blank e, trim_start)

pub trim_start_first : (b : ℕ) (bs : List ℕ) → b ≢ blank → trim_start (b ∷ bs) ≡ b ∷ bs
unfolding trim_start
trim_start_first b bs f = rw (ne_eqb b blank f, trim_start)

pub trim_start_blanks : (xs bs : List ℕ) → Blanks xs → trim_start (xs ++ bs) ≡ trim_start bs
trim_start_blanks [] bs h = refl
trim_start_blanks (a ∷ xs) bs h = start_step a (xs ++ bs) h.0 ∙ trim_start_blanks xs bs h.1

start_none : (bs : List ℕ) → Blanks bs → trim_start bs ≡ []
unfolding trim_start
start_none [] h = refl
start_none (b ∷ bs) h = start_step b bs h.0 ∙ start_none bs h.1

start_other : (xs : List ℕ) (b : ℕ) (cs : List ℕ) → Blanks xs → b ≢ blank → trim_start (xs ++ b ∷ cs) ≡ b ∷ cs
start_other xs b cs h f = trim_start_blanks xs (b ∷ cs) h ∙ trim_start_first b cs f

-- ── The end ──
end_none : (bs : List ℕ) → Blanks bs → trim_end bs ≡ []
unfolding trim_end
end_none bs h = ap reverse (start_none (reverse bs) (blanks_reverse bs h))

end_other : (cs : List ℕ) (b : ℕ) (ds : List ℕ) → Blanks ds → b ≢ blank → trim_end (cs ++ b ∷ ds) ≡ cs ++ b ∷ []
unfolding trim_end
end_other cs b ds h f =
    ap (λ (x : List ℕ). reverse (trim_start x)) turned
    ∙ ap reverse (start_other (reverse ds) b (reverse cs) (blanks_reverse ds h) f)
    ∙ reverse-cons b (reverse cs)
    ∙ ap (λ (x : List ℕ). x ++ b ∷ []) (reverse-reverse cs)
  where
    turned : reverse (cs ++ b ∷ ds) ≡ reverse ds ++ b ∷ reverse cs
    turned =
        reverse-append cs (b ∷ ds)
        ∙ ap (λ (x : List ℕ). x ++ reverse cs) (reverse-cons b ds)
        ∙ append_assoc (reverse ds) (b ∷ []) (reverse cs)

pub trim_end_last : (bs : List ℕ) (b : ℕ) → b ≢ blank → trim_end (bs ++ b ∷ []) ≡ bs ++ b ∷ []
trim_end_last bs b f = end_other bs b [] tt f

pub trim_end_blanks : (xs bs : List ℕ) → Blanks bs → trim_end (xs ++ bs) ≡ trim_end xs
trim_end_blanks xs bs h = go (behind xs)
  where
    go : Behind xs → trim_end (xs ++ bs) ≡ trim_end xs
    go (none k) = end_none (xs ++ bs) (blanks_append xs bs k h) ∙ sym (end_none xs k)
    go (other cs b ds k f q) =
        ap (λ (x : List ℕ). trim_end (x ++ bs)) q
        ∙ ap trim_end (append_assoc cs (b ∷ ds) bs)
        ∙ end_other cs b (ds ++ bs) (blanks_append ds bs k h) f
        ∙ sym (ap trim_end q ∙ end_other cs b ds k f)

-- ── Both ──
pub trim_is : (bs : List ℕ) → trim bs ≡ trim_end (trim_start bs)
unfolding trim
trim_is bs = refl

pub trim_blanks : (bs : List ℕ) → Blanks bs → trim bs ≡ []
trim_blanks bs h = trim_is bs ∙ ap trim_end (start_none bs h) ∙ end_none [] tt

pub trim_nil : trim [] ≡ []
trim_nil = trim_blanks [] tt

long_other : (cs : List ℕ) (b : ℕ) (ds : List ℕ) → 0 < length (cs ++ b ∷ ds)
long_other cs b ds = omega (arith, length-append cs (b ∷ ds))

-- where a byte is no blank, something is left
some : (xs : List ℕ) (b : ℕ) (cs : List ℕ) → Blanks xs → b ≢ blank → 0 < length (trim (xs ++ b ∷ cs))
some xs b cs h f = subst (λ (x : List ℕ). 0 < length x) (sym (trim_is (xs ++ b ∷ cs) ∙ ap trim_end (start_other xs b cs h f))) (go (behind (b ∷ cs)))
  where
    go : Behind (b ∷ cs) → 0 < length (trim_end (b ∷ cs))
    go (none k) = absurd (f k.0)
    go (other ys c ds k g q) = subst (λ (x : List ℕ). 0 < length x) (sym (ap trim_end q ∙ end_other ys c ds k g)) (long_other ys c [])

pub blanks_trim : (bs : List ℕ) → trim bs ≡ [] → Blanks bs
blanks_trim bs e = go (front bs)
  where
    go : Front bs → Blanks bs
    go (none h) = h
    go (other xs b cs h f q) = let l = some xs b cs h f in let k = ap length (ap trim (sym q) ∙ e) in absurd (omega arith)

-- blanks alone leave nothing
silent : (bs : List ℕ) → 0 < length (trim bs) → ¬ Blanks bs
silent bs l h = let k = ap length (trim_blanks bs h) in omega arith

pub trim_start_speaks : (xs bs : List ℕ) → 0 < length (trim xs) → trim_start (xs ++ bs) ≡ trim_start xs ++ bs
trim_start_speaks xs bs l = go (front xs)
  where
    go : Front xs → trim_start (xs ++ bs) ≡ trim_start xs ++ bs
    go (none h) = absurd (silent xs l h)
    go (other ys b cs h f q) =
        ap (λ (x : List ℕ). trim_start (x ++ bs)) q
        ∙ ap trim_start (append_assoc ys (b ∷ cs) bs)
        ∙ start_other ys b (cs ++ bs) h f
        ∙ ap (λ (x : List ℕ). x ++ bs) (sym (ap trim_start q ∙ start_other ys b cs h f))

pub trim_end_speaks : (xs bs : List ℕ) → 0 < length (trim bs) → trim_end (xs ++ bs) ≡ xs ++ trim_end bs
trim_end_speaks xs bs l = go (behind bs)
  where
    go : Behind bs → trim_end (xs ++ bs) ≡ xs ++ trim_end bs
    go (none h) = absurd (silent bs l h)
    go (other cs b ds h f q) =
        ap (λ (x : List ℕ). trim_end (xs ++ x)) q
        ∙ ap trim_end (sym (append_assoc xs cs (b ∷ ds)))
        ∙ end_other (xs ++ cs) b ds h f
        ∙ append_assoc xs cs (b ∷ [])
        ∙ ap (λ (x : List ℕ). xs ++ x) (sym (ap trim_end q ∙ end_other cs b ds h f))

pub trim_end_nonempty : (bs : List ℕ) → 0 < length (trim bs) → 0 < length (trim_end bs)
trim_end_nonempty bs l = go (behind bs)
  where
    go : Behind bs → 0 < length (trim_end bs)
    go (none h) = absurd (silent bs l h)
    go (other cs b ds h f q) = subst (λ (x : List ℕ). 0 < length x) (sym (ap trim_end q ∙ end_other cs b ds h f)) (long_other cs b [])

-- ── What is cut, and what is left ──
pub trim_start_suffix : (bs : List ℕ) → (xs : List ℕ) × Blanks xs × (bs ≡ xs ++ trim_start bs)
trim_start_suffix bs = go (front bs)
  where
    go : Front bs → (xs : List ℕ) × Blanks xs × (bs ≡ xs ++ trim_start bs)
    go (none h) = (bs, h, sym (ap (λ (x : List ℕ). bs ++ x) (start_none bs h) ∙ append-nil bs))
    go (other xs b cs h f q) = (xs, h, q ∙ ap (λ (x : List ℕ). xs ++ x) (sym (ap trim_start q ∙ start_other xs b cs h f)))

pub trim_end_prefix : (bs : List ℕ) → (ds : List ℕ) × Blanks ds × (bs ≡ trim_end bs ++ ds)
trim_end_prefix bs = go (behind bs)
  where
    go : Behind bs → (ds : List ℕ) × Blanks ds × (bs ≡ trim_end bs ++ ds)
    go (none h) = (bs, h, sym (ap (λ (x : List ℕ). x ++ bs) (end_none bs h)))
    go (other cs b ds h f q) =
        (ds, h, q ∙ sym (append_assoc cs (b ∷ []) ds) ∙ ap (λ (x : List ℕ). x ++ ds) (sym (ap trim_end q ∙ end_other cs b ds h f)))

pub trim_parts : (bs : List ℕ) → (xs ds : List ℕ) × Blanks xs × Blanks ds × (bs ≡ xs ++ (trim bs ++ ds))
trim_parts bs =
    let (xs, h, p) = trim_start_suffix bs in
    let (ds, k, q) = trim_end_prefix (trim_start bs) in
    (xs, ds, h, k, p ∙ ap (λ (x : List ℕ). xs ++ x) (q ∙ ap (λ (x : List ℕ). x ++ ds) (sym (trim_is bs))))

-- ── There is one such middle ──
-- a string is empty or has a last byte
last_of : (cs : List ℕ) → (cs ≡ []) ⊎ ((ys : List ℕ) × (b : ℕ) × (cs ≡ ys ++ b ∷ []))
last_of [] = inl refl
last_of (c ∷ cs) = go (last_of cs)
  where
    go : (cs ≡ []) ⊎ ((ys : List ℕ) × (b : ℕ) × (cs ≡ ys ++ b ∷ [])) → (c ∷ cs ≡ []) ⊎ ((ys : List ℕ) × (b : ℕ) × (c ∷ cs ≡ ys ++ b ∷ []))
    go (inl e) = inr ([], c, ap (λ (x : List ℕ). c ∷ x) e)
    go (inr (ys, b, e)) = inr (c ∷ ys, b, ap (λ (x : List ℕ). c ∷ x) e)

last_same : (xs ys : List ℕ) (a b : ℕ) → xs ++ a ∷ [] ≡ ys ++ b ∷ [] → a ≡ b
last_same xs ys a b e = let f = sym (reverse-append xs (a ∷ [])) ∙ ap reverse e ∙ reverse-append ys (b ∷ []) in head-eq_of_cons-eq f

bare_nil : Bare []
bare_nil b cs (inl e) = let l = ap length e in absurd (omega arith)
bare_nil b cs (inr e) = let l = long_other cs b [] in let k = ap length e in absurd (omega arith)

-- by the first byte and the last
bare_by : {b c : ℕ} {xs ys : List ℕ} (zs : List ℕ) → b ≢ blank → c ≢ blank → xs ≡ b ∷ ys → xs ≡ zs ++ c ∷ [] → Bare xs
bare_by {b} {c} zs f g p q a cs (inl e) = let i : a ≡ b = head-eq_of_cons-eq (sym e ∙ p) in λ k. f (sym i ∙ k)
bare_by {b} {c} zs f g p q a cs (inr e) = let i = last_same cs zs a c (sym e ∙ q) in λ k. g (sym i ∙ k)

pub trim_bare : (bs : List ℕ) → Bare (trim bs)
trim_bare bs = go (front bs)
  where
    bare : (b : ℕ) (cs : List ℕ) → b ≢ blank → Behind (b ∷ cs) → Bare (trim_end (b ∷ cs))
    bare b cs f (none k) = absurd (f k.0)
    bare b cs f (other ys c ds k g q) = let e = ap trim_end q ∙ end_other ys c ds k g in let h = first ys q in bare_by ys f g (e ∙ h.1) e
      where
        first : (ys : List ℕ) → b ∷ cs ≡ ys ++ c ∷ ds → (zs : List ℕ) × (ys ++ c ∷ [] ≡ b ∷ zs)
        first [] q = ([], ap (λ (x : ℕ). x ∷ []) (sym (head-eq_of_cons-eq q)))
        first (y ∷ ys) q = (ys ++ c ∷ [], ap (λ (x : ℕ). x ∷ ys ++ c ∷ []) (sym (head-eq_of_cons-eq q)))

    go : Front bs → Bare (trim bs)
    go (none h) = subst Bare (sym (trim_blanks bs h)) bare_nil
    go (other xs b cs h f q) = subst Bare (sym (trim_is bs ∙ ap trim_end (ap trim_start q ∙ start_other xs b cs h f))) (bare b cs f (behind (b ∷ cs)))

end_bare : (cs : List ℕ) → Bare cs → trim_end cs ≡ cs
end_bare cs h = go (last_of cs)
  where
    go : (cs ≡ []) ⊎ ((ys : List ℕ) × (b : ℕ) × (cs ≡ ys ++ b ∷ [])) → trim_end cs ≡ cs
    go (inl e) = ap trim_end e ∙ end_none [] tt ∙ sym e
    go (inr (ys, b, e)) = ap trim_end e ∙ trim_end_last ys b (h b ys (inr e)) ∙ sym e

pub trim_only : (xs cs ds : List ℕ) → Blanks xs → Blanks ds → Bare cs → trim (xs ++ (cs ++ ds)) ≡ cs
trim_only xs cs ds h k f = trim_is (xs ++ (cs ++ ds)) ∙ ap trim_end (trim_start_blanks xs (cs ++ ds) h) ∙ go cs f
  where
    go : (cs : List ℕ) → Bare cs → trim_end (trim_start (cs ++ ds)) ≡ cs
    go [] f = ap trim_end (start_none ds k) ∙ end_none [] tt
    go (c ∷ cs) f = ap trim_end (trim_start_first c (cs ++ ds) (f c cs (inl refl))) ∙ trim_end_blanks (c ∷ cs) ds k ∙ end_bare (c ∷ cs) f
