-- Along a stretch: by its largest power, and then along the rest.
use Prim.Native.Nat.{ℕ, ◌+◌, ◌^◌, ◌≤◌, ◌<◌}
use mathlib.Core.Path.{◌≡◌, sym, subst}
use mathlib.Core.Logic.{inl, inr, ◌↔◌}
use mathlib.Core.Bool.{true}
use mathlib.Core.List.{List}
use lib.ListN.{length, get_or}
use lib.Pow.{pow_mono, pow_pos}
use native.Mathlib.Decide.{dec_lt}
use native.Mathlib.Omega.{arith}
use Rattle.bits.specs.Sets.{bit}
use Rattle.xpath.specs.Syntax.{XPath}
use Rattle.xpath.specs.Tree.{Tree, Down}
use Rattle.xpath.proofs.Trees.{down_le, down_split, down_zero}
use Rattle.positions.specs.Positions.{Comes}
use Rattle.snippets.proofs.Edges.{pass_down, pass_up, comes_few}
use Rattle.table.specs.Links.{Points}
use Rattle.matrices.specs.Matrices.{Exactly, Related, Before}
use Rattle.layout.specs.Blocks.{down_at, up_at, upper_at}
use Rattle.layout.specs.Part.{loop_at}
use Rattle.lifting.specs.Ladder.{Lifts, Ladder, Stretch, Hops}
use Rattle.powers.specs.Blocks.{Fits}
use Rattle.powers.proofs.Places.{fits_of}
use Rattle.powers.proofs.Ancestors.{one_above}

-- a power of two below another has a lower exponent
exponent_below : {k b len : ℕ} → 2 ^ k ≤ len → len < 2 ^ b → k < b
exponent_below {k} {b} h l = go (dec_lt k b)
  where
    go : Dec (k < b) → k < b
    go (yes r) = r
    go (no f) = let s : 2 ^ b ≤ 2 ^ k = pow_mono (omega arith) in absurd (omega arith)

-- ── A hop ──
module _ {P R : XPath} {t : Tree} {n b x y len k over rest : ℕ} {p : List ℕ} (ladder : Ladder P R t n b p) (low : k < b) (node : y < n) (far : Down t x y len) (hops : Hops n y len k over rest p) where
  halves : (u : ℕ) × Down t x u rest × Down t u y (2 ^ k)
  halves = let s = hops.some in let l = hops.left in down_split t ladder.formed rest (2 ^ k) (omega arith) far

  -- to a node above y
  near : Down t over y (2 ^ k)
  near = subst (λ (u : ℕ). Down t u y (2 ^ k)) (sym hops.there) (go (ladder.powers k y low node).upper)
    where
      go : Points (λ u. Down t u y (2 ^ k)) (get_or p (upper_at n k y) 0) → Down t (get_or p (upper_at n k y) 0) y (2 ^ k)
      go (inl d) = d
      go (inr (none, f)) = let (u, d, e) = halves in absurd (f u e)

  -- on the way to x
  beyond : Down t x over rest
  beyond = let (u, d, e) = halves in subst (λ (z : ℕ). Down t x z rest) (one_above ladder.formed e near) d

module _ {n b y len : ℕ} {p : List ℕ} (s : Stretch n b y len p) where
  -- short enough for `exponent`
  pub stretch_short : len ≤ 4096
  stretch_short = let h = down_le s.tree s.ladder.formed s.down in let r = s.node in let f = s.few in omega arith

  pub stretch_low : (k : ℕ) → 2 ^ k ≤ len → k < b
  stretch_low k h = exponent_below h s.short

  pub stretch_fits : (k : ℕ) → 2 ^ k ≤ len → Fits n k y p
  stretch_fits k h = fits_of p (stretch_low k h) s.node s.few s.low s.room

  -- there is room for the loops
  pub stretch_loops : loop_at n y + 16 ≤ length p
  stretch_loops = let r = s.node in let m = s.room in omega arith

  -- the rest is a shorter stretch
  pub stretch_rest : {k over rest : ℕ} → Hops n y len k over rest p → Stretch n b over rest p
  stretch_rest {k} h =
      let low = stretch_low k h.some in
      let l = down_le s.tree s.ladder.formed (near s.ladder low s.node s.down h) in
      let r = s.node in
      let z = s.short in
      let e = h.left in
      record {
        first = s.first;
        second = s.second;
        tree = s.tree;
        top = s.top;
        ladder = s.ladder;
        down = beyond s.ladder low s.node s.down h;
        node = omega arith;
        few = s.few;
        low = s.low;
        short = omega arith;
        room = s.room;
      }

pub hops_less : {n y len k over rest : ℕ} {p : List ℕ} → Hops n y len k over rest p → rest < len
hops_less {k = k} h = let s = h.some in let e = h.left in let o = pow_pos k in omega arith

-- ── Sets of positions ──
module _ {P R : XPath} {t : Tree} {n b x y len : ℕ} {p : List ℕ} (ladder : Ladder P R t n b p) (stretch : Stretch n b y len p) (far : Down t x y len) where
  -- r are the positions that the matrix at an offset relates to a member of S
  abbrev Precede : ℕ → ℕ → ℕ → Type 0
  Precede at S r = Exactly r (Before p at S)

  lifts_by : {u v : ℕ} (at at' S r : ℕ) → at ≡ at' → ((i j : ℕ) → i < 16 → j < 16 → Related p at' i j ↔ Comes P R t i u j v) → Precede at S r → Lifts P R t u v S r
  lifts_by at at' S r same f before i l =
      let g = subst (λ (a : ℕ). Precede a S r) same before i l in (
        λ e. let (j, h, a, c) = g.0 e in (j, h, a, (f i j l h).0 c),
        λ (j, h, a, c). g.1 (j, h, a, (f i j l h).1 c),
      )

  -- over a node between
  lifts_join : {u v w : ℕ} (S r s : ℕ) → ((i j : ℕ) → Comes P R t i u j w ↔ ((k : ℕ) × Comes P R t i u k v × Comes P R t k v j w))
      → Lifts P R t v w S r → Lifts P R t u v r s → Lifts P R t u w S s
  lifts_join {u} {v} {w} S r s pass f g i l = (to, from)
    where
      to : bit s i ≡ true → (j : ℕ) × (j < 16) × (bit S j ≡ true) × Comes P R t i u j w
      to e = let (k, h, a, c) = (g i l).0 e in let (j, q, z, d) = (f k h).0 a in (j, q, z, (pass i j).1 (k, c, d))

      from : (j : ℕ) × (j < 16) × (bit S j ≡ true) × Comes P R t i u j w → bit s i ≡ true
      from (j, q, z, c) =
          let (k, a, d) = (pass i j).0 c in let h = comes_few P R t ladder.few a l in
          (g i l).1 (k, h, (f k h).1 (j, q, z, d), a)

  -- no hop is left: by the loops
  module _ (none : len ≡ 0) where
    pub at_top : y ≡ x
    at_top = sym (down_zero t ladder.formed none far)

    lifts_here : (at S r : ℕ) → at ≡ loop_at n y → Precede at S r → Lifts P R t y y S r
    lifts_here at S r e before = lifts_by at (loop_at n y) S r e (λ i j l h. ladder.loops y i j stretch.node l h) before

    pub lift_here : (at S r : ℕ) → at ≡ loop_at n y → Precede at S r → Lifts P R t x y S r
    lift_here at S r e before = subst (λ (z : ℕ). Lifts P R t z y S r) at_top (lifts_here at S r e before)

    pub lower_here : (at S r : ℕ) → at ≡ loop_at n y → Precede at S r → Lifts P R t y x S r
    lower_here at S r e before = subst (λ (z : ℕ). Lifts P R t y z S r) at_top (lifts_here at S r e before)

  module _ {k over rest : ℕ} (hops : Hops n y len k over rest p) where
    low : k < b
    low = stretch_low stretch k hops.some

    to : Down t over y (2 ^ k)
    to = near ladder low stretch.node far hops

    pub rest_down : Down t x over rest
    rest_down = beyond ladder low stretch.node far hops

    pub lift_step : (at S r s : ℕ) → at ≡ down_at n k y → Precede at S r → Lifts P R t x over r s → Lifts P R t x y S s
    lift_step at S r s e before f =
        lifts_join S r s (λ i j. pass_down P R t ladder.formed rest_down to i j)
        (lifts_by at (down_at n k y) S r e (λ i j l h. (ladder.powers k y low stretch.node).down over i j to l h) before) f

    pub lower_step : (at S r s : ℕ) → at ≡ up_at n k y → Lifts P R t over x S r → Precede at r s → Lifts P R t y x S s
    lower_step at S r s e f before =
        lifts_join S r s (λ i j. pass_up P R t ladder.formed rest_down to i j) f
        (lifts_by at (up_at n k y) r s e (λ i j l h. (ladder.powers k y low stretch.node).up over i j to l h) before)
