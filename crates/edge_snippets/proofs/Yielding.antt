-- The rows that an edge of the skeleton gains: those of its upper part, and those of its lower part.
use Prim.Native.Nat.{ℕ, ◌-◌, ◌^◌, ◌≤◌, ◌<◌}
use mathlib.Core.Path.{◌≡◌, refl, sym, ap, subst}
use mathlib.Core.Logic.{◌⊎◌, inl, inr, ◌↔◌}
use mathlib.Core.Bool.{true}
use mathlib.Core.List.{List}
use native.Mathlib.Omega.{arith}
use Rattle.bits.specs.Sets.{bit}
use Rattle.xpath.specs.Syntax.{XPath}
use Rattle.xpath.specs.Tree.{Tree, Down}
use Rattle.xpath.proofs.Trees.{down_join, down_split}
use Rattle.positions.specs.Positions.{Comes}
use Rattle.snippets.proofs.Edges.{comes_few}
use Rattle.matrices.specs.Matrices.{Drawing}
use Rattle.exponents.specs.Exponent.{Exponent}
use Rattle.layout.specs.Blocks.{snippet_at}
use Rattle.lifting.specs.Ladder.{Lifts, Ladder, Stretch}
use Rattle.powers.specs.Blocks.{Fits}
use Rattle.powers.proofs.Places.{fits_of}
use Rattle.powers.proofs.Ancestors.{one_above}
use Rattle.edge_snippets.specs.Edges.{Gains, Opposite, Crossed, EdgeAt, Gained, UpperPart, LowerPart, BothParts}
use Rattle.layout.proofs.Rest.{rest_then}
use Rattle.powers.proofs.Rest.{rest_rows}
use Rattle.lifting.proofs.Rest.{ladder_rest}
use Rattle.edge_snippets.proofs.Gains.{gains_then, gains_rows}
use Rattle.edge_snippets.proofs.Crossing.{opposite_iff}
use Rattle.edge_snippets.proofs.Lengths.{exponent_below, exponent_one, one_length, stretch_upper}

module _ {P R : XPath} {t : Tree} {d : List ℕ} {n b x v len first inside outside : ℕ} {p p' : List ℕ} (e : EdgeAt P R t d n b x v len first inside outside p) {k : ℕ} (exponent : Exponent len k) where
  -- the 2 ^ k edges from the upper node x down to u
  pub upper_gains : (u set : ℕ) → u < n → Down t x u (2 ^ k) → Down t u v (len - 2 ^ k) → Lifts P R t u v inside set
      → Drawing (Crossed p (snippet_at n k u) outside set first) (snippet_at n k u) 16 p p' → Gains t n b (UpperPart v len P R t d x) p p'
  upper_gains u set node far near lifts h = gains_rows k u outside set first node (x, far) here only h
    where
      here : (a i j : ℕ) → Down t a u (2 ^ k) → i < 16 → j < 16 → ((bit outside i ≡ true) × (bit set j ≡ true) × Opposite first i j) ↔ UpperPart v len P R t d x k a u i j
      here a i j f l r = (
        λ (o, s, c). let (q, z, g, w) = (lifts j r).0 s in (
          exponent.low,
          exponent.high,
          record {
            top = one_above e.ladder.formed f far;
            far = far;
            rest = (len - 2 ^ k, near);
            outside = (e.outs i l).0 o;
            q₀ = q;
            inside = (e.ins q z).0 g;
            comes = w;
            different = (opposite_iff P R first i j e.split l r).0 c;
          },
        ),
        λ (lo, hi, w). let z = comes_few P R t e.ladder.few w.comes r in
            ((e.outs i l).1 w.outside, (lifts j r).1 (w.q₀, z, (e.ins w.q₀ z).1 w.inside, w.comes), (opposite_iff P R first i j e.split l r).1 w.different),
      )

      only : (l a y i j : ℕ) → UpperPart v len P R t d x l a y i j → (l ≡ k) × (y ≡ u)
      only l a y i j (lo, hi, w) =
          let same = exponent_one lo hi exponent.low exponent.high in
          let (m, g) = w.rest in
          let s = one_length e.ladder.formed (down_join t e.ladder.formed w.far g) e.edge.far in
          let z : 2 ^ l ≡ 2 ^ k = ap (λ (i : ℕ). 2 ^ i) same in
          (same, one_above e.ladder.formed (subst (λ (i : ℕ). Down t y v i) (omega arith) g) near)

  -- the 2 ^ k edges from w down to the lower node v
  pub lower_gains : (w set : ℕ) → Down t x w (len - 2 ^ k) → Down t w v (2 ^ k) → Lifts P R t w x outside set
      → Drawing (Crossed p (snippet_at n k v) set inside first) (snippet_at n k v) 16 p p' → Gains t n b (LowerPart v len P R t d x) p p'
  lower_gains w set near far lifts h = gains_rows k v set inside first e.node (w, far) here (λ l a y i j (lo, hi, z). (exponent_one lo hi exponent.low exponent.high, z.bottom)) h
    where
      here : (a i j : ℕ) → Down t a v (2 ^ k) → i < 16 → j < 16 → ((bit set i ≡ true) × (bit inside j ≡ true) × Opposite first i j) ↔ LowerPart v len P R t d x k a v i j
      here a i j f l r = (
        λ (s, o, c). let (q, z, g, y) = (lifts i l).0 s in (
          exponent.low,
          exponent.high,
          record {
            bottom = refl;
            rest = (len - 2 ^ k, subst (λ (i : ℕ). Down t x i (len - 2 ^ k)) (sym same) near);
            far = f;
            p₀ = q;
            outside = (e.outs q z).0 g;
            comes = subst (λ (y : ℕ). Comes P R t i y q x) (sym same) y;
            inside = (e.ins j r).0 o;
            different = (opposite_iff P R first i j e.split l r).0 c;
          },
        ),
        λ (lo, hi, y). let z = comes_few P R t e.ladder.few y.comes l in
            ((lifts i l).1 (y.p₀, z, (e.outs y.p₀ z).1 y.outside, subst (λ (q : ℕ). Comes P R t i q y.p₀ x) same y.comes), (e.ins j r).1 y.inside, (opposite_iff P R first i j e.split l r).1 y.different),
      )
        where
          same : a ≡ w
          same = one_above e.ladder.formed f far

-- ── The parts ──
module _ {n b v len k two : ℕ} {p : List ℕ} (s : Stretch n b v len p) (exponent : Exponent len k) (power : two ≡ 2 ^ k) where
  pub low_exponent : k < 13
  low_exponent = let h = exponent_below exponent.low s.short in let l = s.low in omega arith

  pub part_le : two ≤ len
  part_le = let l = exponent.low in omega arith

  -- there is room for the rows of a node
  pub part_fits : {y : ℕ} → y < n → Fits n k y p
  part_fits node = fits_of p (exponent_below exponent.low s.short) node s.few s.low s.room

  module _ {u : ℕ} (over : (P R : XPath) (t : Tree) (x : ℕ) → Ladder P R t n b p → Down t x v (len - two) → u ≡ x) where
    pub upper_node : u < n
    upper_node = (stretch_upper s two u part_le (λ x f. over s.first s.second s.tree x s.ladder f)).node

    pub upper_gained : {first inside outside : ℕ} {p' : List ℕ} (set at : ℕ) → ((P R : XPath) (t : Tree) (x : ℕ) → Ladder P R t n b p → Down t x v (len - two) → Lifts P R t x v inside set)
        → at ≡ snippet_at n k u → Drawing (Crossed p at outside set first) at 16 p p' → Gained (UpperPart v len) n b v len first inside outside p p'
    upper_gained {first} {inside} {outside} {p'} set at lifts place drawn =
        let h : Drawing (Crossed p (snippet_at n k u) outside set first) (snippet_at n k u) 16 p p' = subst (λ (z : ℕ). Drawing (Crossed p z outside set first) z 16 p p') place drawn in
        record {
          rest = rest_rows (exponent_below exponent.low s.short) upper_node h.frame;
          found = λ P R t d x e.
              let (z, far, near) = down_split t e.ladder.formed (2 ^ k) (len - two) (let l = exponent.low in omega arith) e.edge.far in
              let q = over P R t z e.ladder near in
              let low : Down t u v (len - two) = subst (λ (z : ℕ). Down t z v (len - two)) (sym q) near in
              upper_gains e exponent u set upper_node (subst (λ (z : ℕ). Down t x z (2 ^ k)) (sym q) far) (subst (λ (z : ℕ). Down t u v (len - z)) power low) (lifts P R t u e.ladder low) h;
        }

  module _ {w : ℕ} (over : (P R : XPath) (t : Tree) (x : ℕ) → Ladder P R t n b p → Down t x v two → w ≡ x) where
    pub lower_stretch : Stretch n b w (len - two) p
    lower_stretch = stretch_upper s (len - two) w (omega arith) (λ x f. over s.first s.second s.tree x s.ladder (subst (λ (z : ℕ). Down s.tree x v z) (let l = part_le in omega arith) f))

    pub lower_gained : {first inside outside : ℕ} {p' : List ℕ} (set at : ℕ) → ((P R : XPath) (t : Tree) (x : ℕ) → Ladder P R t n b p → Down t x w (len - two) → Lifts P R t w x outside set)
        → at ≡ snippet_at n k v → Drawing (Crossed p at set inside first) at 16 p p' → Gained (LowerPart v len) n b v len first inside outside p p'
    lower_gained {first} {inside} {outside} {p'} set at lifts place drawn =
        let h : Drawing (Crossed p (snippet_at n k v) set inside first) (snippet_at n k v) 16 p p' = subst (λ (z : ℕ). Drawing (Crossed p z set inside first) z 16 p p') place drawn in
        record {
          rest = rest_rows (exponent_below exponent.low s.short) s.node h.frame;
          found = λ P R t d x e.
              let (z, far, near) = down_split t e.ladder.formed (len - two) two (let l = part_le in omega arith) e.edge.far in
              let q = over P R t z e.ladder near in
              let top : Down t x w (len - two) = subst (λ (z : ℕ). Down t x z (len - two)) (sym q) far in
              lower_gains e exponent w set (subst (λ (z : ℕ). Down t x w (len - z)) power top) (subst (λ (z : ℕ). Down t w v z) power (subst (λ (z : ℕ). Down t z v two) (sym q) near)) (lifts P R t x e.ladder top) h;
        }

-- one after the other
pub both_gained : {n b v len first inside outside : ℕ} {p p₁ p₂ : List ℕ} → Gained (UpperPart v len) n b v len first inside outside p p₁ → Gained (LowerPart v len) n b v len first inside outside p₁ p₂
    → Gained (BothParts v len) n b v len first inside outside p p₂
both_gained {v = v} {len} g h = record {
  rest = rest_then g.rest h.rest;
  found = λ P R t d x e. gains_then (g.found P R t d x e) (h.found P R t d x (record { ladder = ladder_rest g.rest e.ladder; node = e.node; edge = e.edge; ins = e.ins; outs = e.outs; split = e.split }))
      (λ k a y i j. (to P R t d x k a y i j, from P R t d x k a y i j));
}
  where
    to : (P R : XPath) (t : Tree) (d : List ℕ) (x k a y i j : ℕ) → UpperPart v len P R t d x k a y i j ⊎ LowerPart v len P R t d x k a y i j → BothParts v len P R t d x k a y i j
    to P R t d x k a y i j (inl (lo, hi, z)) = (lo, hi, inl z)
    to P R t d x k a y i j (inr (lo, hi, z)) = (lo, hi, inr z)

    from : (P R : XPath) (t : Tree) (d : List ℕ) (x k a y i j : ℕ) → BothParts v len P R t d x k a y i j → UpperPart v len P R t d x k a y i j ⊎ LowerPart v len P R t d x k a y i j
    from P R t d x k a y i j (lo, hi, inl z) = inl (lo, hi, z)
    from P R t d x k a y i j (lo, hi, inr z) = inr (lo, hi, z)
