-- What a reader may conclude of a symbol from what its first byte leads to: that it is read, or that reading ends in it.
use Rattle.std.specs.Prelude.{Result, Ok, Err}
use Prim.Native.Nat.{ℕ, suc, ◌+◌, ◌≤◌, ◌<◌}
use native.Mathlib.Omega.{arith}
use mathlib.Core.Path.{◌≡◌, refl, sym, ap, ap₂, ◌∙◌, subst}
use mathlib.Core.Option.{Option, some}
use mathlib.Core.List.{List, [], ◌∷◌, ◌++◌, map-append}
use lib.ListN.{length, drop}
use Rattle.lists.proofs.Lists.{all_append}
use Rattle.xpath.specs.Syntax.{Test}
use Rattle.rule_spec.specs.Parts.{Part}
use Rattle.rule_spec.specs.Machine.{Symbol, Stack, Value, move, Answer, stopped, close, Key}
use Rattle.rule_spec.specs.Readers.{key, keys, Returns}
use Rattle.rule_spec.proofs.Comes.{fresh, comes_as, ends_as, comes_none, comes_one, ends_one, comes_two, ends_first, ends_second}
use Rattle.tokens.specs.declared.read.Tally.{Tally}
use Rattle.tokens.specs.declared.read.Behind.{Behind}
use Rattle.tokens.specs.declared.read.Refusal.{Refusal}
use Rattle.tokens.specs.Tallies.{noted, tallied}
use Rattle.tokens.specs.Readers.{parts_of, size_of, width, Shallow, Stands, Back, Halts, Reading}

-- ── A tally of one list after another ──
pub tallied_append : (ps qs : List Part) (t : Tally) → tallied t (ps ++ qs) ≡ tallied (tallied t ps) qs
unfolding tallied
tallied_append [] qs t = refl
tallied_append (p ∷ ps) qs t = tallied_append ps qs (noted t p.offset p.sort)

-- ── What the byte b of x leads to: nothing more, y, or y and z; mark is the nesting of the part that begins there, if one does ──
pub record Leaf (x : Symbol) (b : ℕ) (mark : Option ℕ) : Type 0 where
  pub value : Value x
  pub moves : (st : Stack) → move (x ∷ st) b ≡ some (record { after = st; build = λ t. (value, t); begins = mark })

pub record Lead (x y : Symbol) (b : ℕ) (mark : Option ℕ) : Type 0 where
  pub join : Value y → Value x
  pub moves : (st : Stack) → move (x ∷ st) b ≡ some (record { after = y ∷ st; build = λ t. (join t.0, t.1); begins = mark })

pub record Fork (x y z : Symbol) (b : ℕ) (mark : Option ℕ) : Type 0 where
  pub join : Value y → Value z → Value x
  pub moves : (st : Stack) → move (x ∷ st) b ≡ some (record { after = y ∷ z ∷ st; build = λ t. (join t.0 t.1.0, t.1.1); begins = mark })

-- the parts new begin at that byte, and it is m steps
pub record LeadParts (new : ℕ → List Part) (x y : Symbol) (join : Value y → Value x) : Type 0 where
  pub parts : (v : Value y) (i : ℕ) → parts_of x (join v) i ≡ new i ++ parts_of y v (suc i)
  pub wide : (v : Value y) → width x (join v) ≡ suc (width y v)
  pub size : (v : Value y) → size_of x (join v) ≡ size_of y v

pub record ForkParts (new : ℕ → List Part) (m : ℕ) (x y z : Symbol) (join : Value y → Value z → Value x) : Type 0 where
  pub parts : (v : Value y) (w : Value z) (i : ℕ) → parts_of x (join v w) i ≡ new i ++ (parts_of y v (suc i) ++ parts_of z w (suc i + width y v))
  pub wide : (v : Value y) (w : Value z) → width x (join v w) ≡ suc (width y v + width z w)
  pub size : (v : Value y) (w : Value z) → size_of x (join v w) ≡ m + (size_of y v + size_of z w)

module _ (s : List ℕ) where
  -- ── The parts may be told in another way ──
  pub back_as : {x : Symbol} {i k : ℕ} {t : Tally} {j l : ℕ} {u : Tally} (v : Value x) (ps : List Part) → parts_of x v i ≡ ps → i < j → j ≤ length s → j ≡ i + width x v
      → Shallow (keys ps) → Returns x v (keys ps) i (drop i s) j (drop j s) → l ≡ k + size_of x v → l ≤ j → u ≡ tallied t ps → Back s x i k t j l u
  back_as {x} {i} {t = t} {j = j} {u = u} v ps e forth inside long low c steps few kept = record {
    value = v;
    forth = forth;
    inside = inside;
    long = long;
    shallow = subst (λ qs. Shallow (keys qs)) (sym e) low;
    returns = subst (λ qs. Returns x v (keys qs) i (drop i s) j (drop j s)) (sym e) c;
    steps = steps;
    few = few;
    kept = subst (λ qs. u ≡ tallied t qs) (sym e) kept;
  }

  module _ {i b : ℕ} (mark : Option ℕ) (here : Stands s i b) (low : Shallow (fresh i mark)) where
    shallow_more : (ks : List Key) → Shallow ks → Shallow (fresh i mark ++ ks)
    shallow_more ks h = (all_append _ (fresh i mark) ks).1 (low, h)

    -- ── Nothing behind the byte ──
    pub leaf_back : {x : Symbol} (f : Leaf x b mark) {k : ℕ} {t : Tally} {j l : ℕ} {u : Tally} (new : List Part) → parts_of x f.value i ≡ new → fresh i mark ≡ keys new
        → width x f.value ≡ 1 → j ≡ suc i → l ≡ k + size_of x f.value → l ≤ j → u ≡ tallied t new → Back s x i k t j l u
    leaf_back {x} f {j = j} new e opens w n steps few kept =
        let h = here.inside in
        back_as f.value new e (omega arith) (omega arith) (omega arith) (subst Shallow opens low)
        (comes_as close stopped opens (sym here.here) refl
        (subst (λ j. Returns x f.value (fresh i mark) i (b ∷ drop (suc i) s) j (drop j s)) (sym n) (comes_none close stopped x b mark f.value f.moves)))
        steps few kept

    -- ── One symbol behind the byte ──
    module _ {x y : Symbol} (f : Lead x y b mark) where
      pub lead_halts : (E : List Key → Answer Test → Type 0) → Halts s E y (suc i) → Halts s E x i
      lead_halts E h = record {
        seen = fresh i mark ++ h.seen;
        shallow = shallow_more h.seen h.shallow;
        ends = ends_as close stopped refl (sym here.here) (ends_one close stopped x b mark y f.join f.moves h.ends);
      }

      module _ (new : ℕ → List Part) (opens : fresh i mark ≡ keys (new i)) (p : LeadParts new x y f.join) where
        lead_back : {k j l : ℕ} (t : Tally) {u : Tally} → Back s y (suc i) k (tallied t (new i)) j l u → Back s x i k t j l u
        lead_back {k} {j} {l} t {u} c =
            let v = c.value in
            let inner = parts_of y v (suc i) in
            let e : fresh i mark ++ keys inner ≡ keys (new i ++ inner) = ap (λ ks. ks ++ keys inner) opens ∙ sym (map-append key (new i) inner) in
            let w = p.wide v in let z = p.size v in let a = c.forth in let a₂ = c.long in let a₃ = c.steps in
            back_as (f.join v) (new i ++ inner) (p.parts v i) (omega arith) c.inside (omega arith) (subst Shallow e (shallow_more (keys inner) c.shallow))
            (comes_as close stopped e (sym here.here) refl (comes_one close stopped x b mark y f.join f.moves c.returns))
            (omega arith) c.few (c.kept ∙ sym (tallied_append (new i) inner t))

        pub lead_reads : (k : ℕ) (t : Tally) (r : Result Behind Refusal) → Reading s y (suc i) k (tallied t (new i)) r → Reading s x i k t r
        lead_reads k t (Ok b) h = lead_back t h
        lead_reads k t (Err e) h = lead_halts _ h

    -- ── Two symbols behind the byte ──
    module _ {x y z : Symbol} (f : Fork x y z b mark) where
      pub first_halts : (E : List Key → Answer Test → Type 0) → Halts s E y (suc i) → Halts s E x i
      first_halts E h = record {
        seen = fresh i mark ++ h.seen;
        shallow = shallow_more h.seen h.shallow;
        ends = ends_as close stopped refl (sym here.here) (ends_first close stopped x b mark y z f.join f.moves h.ends);
      }

      module _ {k j l : ℕ} {t u : Tally} (c : Back s y (suc i) k t j l u) where
        abbrev outer : List Part
        outer = parts_of y c.value (suc i)

        shallow_both : (ks : List Key) → Shallow ks → Shallow (fresh i mark ++ (keys outer ++ ks))
        shallow_both ks h = shallow_more _ ((all_append _ (keys outer) ks).1 (c.shallow, h))

        pub second_halts : (E : List Key → Answer Test → Type 0) → Halts s E z j → Halts s E x i
        second_halts E h = record {
          seen = fresh i mark ++ (keys outer ++ h.seen);
          shallow = shallow_both h.seen h.shallow;
          ends = ends_as close stopped refl (sym here.here) (ends_second close stopped x b mark y z f.join f.moves c.returns h.ends);
        }

        -- in what x reads, both come one behind the other
        pub record Both (w : Value z) (j₂ : ℕ) (new : List Part) : Type 0 where
          pub shallow : Shallow (keys (new ++ (outer ++ parts_of z w j)))
          pub returns : Returns x (f.join c.value w) (keys (new ++ (outer ++ parts_of z w j))) i (drop i s) j₂ (drop j₂ s)

        pub both : {j₂ l₂ : ℕ} {u₂ : Tally} (new : List Part) → fresh i mark ≡ keys new → (d : Back s z j l u j₂ l₂ u₂) → Both d.value j₂ new
        both new opens d =
            let inner = parts_of z d.value j in
            let e : fresh i mark ++ (keys outer ++ keys inner) ≡ keys (new ++ (outer ++ inner)) =
            ap₂ (λ (ks ls : List Key). ks ++ ls) opens (sym (map-append key outer inner)) ∙ sym (map-append key new (outer ++ inner)) in
            record {
              shallow = subst Shallow e (shallow_both (keys inner) d.shallow);
              returns = comes_as close stopped e (sym here.here) refl (comes_two close stopped x b mark y z f.join f.moves c.returns d.returns);
            }

      module _ (new : ℕ → List Part) (opens : fresh i mark ≡ keys (new i)) (m : ℕ) (p : ForkParts new m x y z f.join) where
        fork_back : {k j l : ℕ} (t : Tally) {u : Tally} (c : Back s y (suc i) (k + m) (tallied t (new i)) j l u) {j₂ l₂ : ℕ} {u₂ : Tally}
            → Back s z j l u j₂ l₂ u₂ → Back s x i k t j₂ l₂ u₂
        fork_back {k} {j} t c d =
            let v = c.value in let w = d.value in
            let one = parts_of y v (suc i) in let two = parts_of z w j in
            let q = both c (new i) opens d in
            let g = p.wide v w in let h = p.size v w in
            let a₁ = c.forth in let a₂ = c.long in let a₃ = c.steps in
            let b₁ = d.forth in let b₂ = d.long in let b₃ = d.steps in
            back_as (f.join v w) (new i ++ (one ++ two)) (p.parts v w i ∙ ap (λ o. new i ++ (one ++ parts_of z w o)) (sym c.long))
            (omega arith) d.inside (omega arith) q.shallow q.returns (omega arith) d.few
            (d.kept ∙ ap (λ u. tallied u two) c.kept ∙ sym (tallied_append one two (tallied t (new i))) ∙ sym (tallied_append (new i) (one ++ two) t))

        pub fork_reads : (k : ℕ) {j l : ℕ} (t : Tally) {u : Tally} (c : Back s y (suc i) (k + m) (tallied t (new i)) j l u) (r : Result Behind Refusal) → Reading s z j l u r → Reading s x i k t r
        fork_reads k t c (Ok b) h = fork_back t c h
        fork_reads k t c (Err e) h = second_halts c _ h
