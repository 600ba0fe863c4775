-- The comparisons at one node, from what the walks have seen.
use Prim.Native.Nat.{ℕ, zero, suc, ◌/◌, ◌^◌, ◌≤◌, ◌<◌}
use mathlib.Core.Path.{◌≡◌, sym, ap, ◌∙◌, subst}
use mathlib.Core.Logic.Iff
use mathlib.Core.Logic.{◌↔◌, ◌≢◌}
use mathlib.Core.Bool.{Bool, true, false, false≢true}
use mathlib.Core.List.{List}
use native.Mathlib.Decide.{dec_lt}
use native.Mathlib.Numerals.{add-one}
use native.Mathlib.Omega.{arith}
use lib.Pow.{shr_lt}
use Rattle.bits.specs.Sets.{bit}
use Rattle.bits.proofs.SetLaws.{bit_none, bit_suc}
use Rattle.xpath.specs.Syntax.{Op, eq}
use Rattle.layout.specs.Part.{MARK, HIT, Space}
use Rattle.layout.specs.Table.{RANK, SmallRanks}
use Rattle.layout.specs.Words.{cell, word}
use Rattle.rule_parts.specs.Kinds.{operator}
use Rattle.machine.specs.declared.Machine.{Machine}
use Rattle.machine.specs.Walks.{Stops, Meets, Hits}
use Rattle.reach.specs.Reached.{Reached}
use Rattle.reach.proofs.Adding.{spared_front}
use Rattle.rank_sets.specs.declared.ranges.Range.{Range}
use Rattle.rank_sets.specs.Ends.{Ended, Held, Steady}
use Rattle.rank_sets.specs.Marks.{Marked}
use Rattle.rank_sets.specs.Ranges.{WithRank, Ranged, Across}
use Rattle.rank_sets.proofs.Steady.{held_then, held_word, steady_then}
use Rattle.rank_sets.proofs.Ranged.{ranged_same, ranged_empty, across_some}
use Rattle.plain.proofs.Steady.{steady_reached}
use Rattle.plain.proofs.Walks.{stops_same}

-- the members of a word of n digits are below n
bit_high : (n w j : ℕ) → w < 2 ^ n → n ≤ j → bit w j ≡ false
bit_high zero w j h l = let e : w ≡ 0 = omega arith in ap (λ (x : ℕ). bit x j) e ∙ bit_none j
bit_high (suc n) w zero h l = absurd (omega arith)
bit_high (suc n) w (suc j) h l = bit_suc w j ∙ bit_high n (w / 2) j (shr_lt n 1 (subst (λ (k : ℕ). w < 2 ^ k) (sym (add-one n)) h)) (omega arith)

pub member_below : {w j : ℕ} → w < 65536 → bit w j ≡ true → j < 16
member_below {w} {j} h e = go (dec_lt j 16)
  where
    go : Dec (j < 16) → j < 16
    go (yes l) = l
    go (no l) = absurd (false≢true (sym (bit_high 16 w j h (omega arith)) ∙ e))

-- ── What stays ──
module _ {m : Machine} {n v : ℕ} {p p₁ p₂ : List ℕ} where
  pub ordered_steady : {i : ℕ} → Reached m n 0 v p p₁ → Reached m n i v p₁ p₂ → Steady n p p₂
  ordered_steady f s = steady_then (steady_reached f) (steady_reached s)

  pub equal_steady : {p₃ p₄ : List ℕ} → Steady n p p₁ → Reached m n 0 v p₁ p₂ → Marked n m.last p₂ p₃ → Reached m n m.second v p₃ p₄ → Steady n p p₄
  equal_steady c f k s = steady_then (steady_then (steady_then c (steady_reached f)) k.steady) (steady_reached s)

module _ {m : Machine} {n v : ℕ} (fits : m.last < 65536) where
  -- the nodes where i at v ends, told by the column
  ended_stops : {i : ℕ} {p p' : List ℕ} → Reached m n i v p p' → (w : ℕ) → w < n → Ended n m.last p' w ↔ Stops m n p i v w
  ended_stops h w l = (
    λ e. (e.position, e.among, (h.seen e.position w (member_below fits e.among) l).0 e.seen),
    λ (j, b, s). record { position = j; among = b; seen = (h.seen j w (member_below fits b) l).1 s },
  )

  -- the same by the words that the part had before
  ends : {i : ℕ} {p₀ p p' : List ℕ} → v < n → Held n p₀ p → Reached m n i v p p' → (w : ℕ) → w < n → Ended n m.last p' w ↔ Stops m n p₀ i v w
  ends b g h w l = Iff.trans (ended_stops h w l) (Iff.symm (stops_same g b))

  pub hits_told : {t : Bool} {p p' : List ℕ} → Reached m n 0 v p p'
      → (t ≡ true) ↔ ((w : ℕ) × (w < n) × Ended n m.last p' w × (word p' n HIT w ≡ 1)) → (t ≡ true) ↔ Hits m n p v
  hits_told {p = p} {p' = p'} h = λ a. (
    λ z. let (w, l, e, q) = a.0 z in (w, l, (ended_stops h w l).0 e, sym (same w l) ∙ q),
    λ (w, l, s, q). a.1 (w, l, (ended_stops h w l).1 s, same w l ∙ q),
  )
    where
      same : (w : ℕ) → w < n → word p' n HIT w ≡ word p n HIT w
      same w l = held_word (steady_reached h).held HIT w (omega arith) (omega arith) l

  -- ── Equal ranks ──
  module _ {p p₁ p₂ p₃ p₄ : List ℕ} (b : v < n) (small : SmallRanks n p) (c : Steady n p p₁) (f : Reached m n 0 v p₁ p₂) (k : Marked n m.last p₂ p₃)
      (s : Reached m n m.second v p₃ p₄) where
    first : Held n p p₂
    first = held_then c.held (steady_reached f).held

    second : Held n p p₃
    second = held_then first k.steady.held

    all : Held n p p₄
    all = (equal_steady c f k s).held

    rank : {p' : List ℕ} → Held n p p' → (w : ℕ) → w < n → word p' n RANK w ≡ word p n RANK w
    rank h w l = held_word h RANK w (omega arith) (omega arith) l

    mark : (r : ℕ) → r < n → word p₄ n MARK r ≡ word p₃ n MARK r
    mark r l = spared_front s.spared (cell n MARK r) (omega arith)

    pub equal_told : {t : Bool} → (t ≡ true) ↔ ((u : ℕ) × (u < n) × Ended n m.last p₄ u × (word p₄ n MARK (word p₄ n RANK u) ≡ 1))
        → (t ≡ true) ↔ Meets m n p eq v
    equal_told a = (
      λ z.
          let (u, l, e, d) = a.0 z in
          let r = subst (λ x. x < n) (sym (rank all u l)) (small u l) in
          let (w, l', e', q) = k.sound (word p₄ n RANK u) r (sym (mark (word p₄ n RANK u) r) ∙ d) in
          (w, u, l', l, (ends b c.held f w l').0 e', (ends b second s u l).0 e, (small w l', small u l, sym (rank first w l') ∙ q ∙ rank all u l)),
      λ (w, u, l', l, x, y, (_, _, q)).
          let z : word p₄ n RANK u ≡ word p₂ n RANK w = rank all u l ∙ sym q ∙ sym (rank first w l') in
          let r = subst (λ x. x < n) (sym (rank first w l')) (small w l') in
          a.1 (u, l, (ends b second s u l).1 y, ap (λ (x : ℕ). word p₄ n MARK x) z ∙ mark (word p₂ n RANK w) r ∙ k.complete w l' ((ends b c.held f w l').1 x)),
    )

  -- ── Ranks in an order ──
  module _ {p p₁ : List ℕ} {a : Range} (b : v < n) (f : Reached m n 0 v p p₁) (g : Ranged n (WithRank n (word p₁ n RANK) (Ended n m.last p₁)) (word p₁ n RANK) a) where
    range : Ranged n (WithRank n (word p n RANK) (λ w. Stops m n p 0 v w)) (word p n RANK) a
    range = ranged_same (λ w l. ended_stops f w l) (λ w l. sym (held_word (steady_reached f).held RANK w (omega arith) (omega arith) l)) g

    pub none_told : a.above ≡ 0 → (q : Op) → ¬ Meets m n p q v
    none_told z q (w, u, l, r, x, y, (i, j, c)) = ranged_empty range z w l (x, i)

    module _ {p₂ : List ℕ} {a' : Range} (s : Reached m n m.second v p₁ p₂) (g' : Ranged n (WithRank n (word p₂ n RANK) (Ended n m.last p₂)) (word p₂ n RANK) a') where
      pub ordered_told : Space n p → (q : Op) → q ≢ eq → Across (operator q) a a' ↔ Meets m n p q v
      ordered_told space = across_some space.few range
          (ranged_same (ends b (steady_reached f).held s) (λ w l. sym (held_word (ordered_steady f s).held RANK w (omega arith) (omega arith) l)) g')
