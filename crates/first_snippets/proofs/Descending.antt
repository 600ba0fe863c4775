-- From above: what ends outside of a skeleton node, told by the next skeleton node above it, and the rows of the edge between the two.
use Prim.Native.Nat.{ℕ, zero, suc, ◌+◌, ◌-◌, ◌*◌, ◌/◌, ◌≤◌, ◌<◌}
use mathlib.Core.Path.{◌≡◌, refl, sym, ◌∙◌, subst}
use mathlib.Core.Logic.{◌⊎◌, inl, inr, ◌↔◌}
use mathlib.Core.Bool.{Bool, true, false}
use mathlib.Core.List.{List, [], ◌∷◌}
use lib.ListN.{get_or}
use native.Mathlib.Nat.{eq-or-lt_of_le}
use native.Mathlib.Omega.{arith}
use Rattle.xpath.specs.Syntax.{XPath}
use Rattle.xpath.specs.Tree.{Tree, WellFormed, Down}
use Rattle.xpath.proofs.Trees.{down_le}
use Rattle.snippets.specs.Snippets.{Skeleton, Edge}
use Rattle.snippets.specs.Ways.{In, Out, Above, FromChild}
use Rattle.snippets.proofs.Marks.{skeleton_inside}
use Rattle.snippets.proofs.Nearest.{edge_one}
use Rattle.snippets.proofs.Edges.{comes_few}
use Rattle.snippets.proofs.Ways.{above_iff, above_top}
use Rattle.layout.specs.Groups.{IN, ABOVE}
use Rattle.layout.specs.Words.{cell, word, Wrote, Within}
use Rattle.layout.proofs.Frames.{within_put}
use Rattle.machine.specs.declared.Machine.{Machine}
use Rattle.matrices.specs.Matrices.{Exactly}
use Rattle.lifting.specs.Ladder.{Lifts, Ladder}
use Rattle.powers.proofs.Kept.{founded_ready}
use Rattle.group_marks.specs.Groups.{IsNoted}
use Rattle.skeletons.specs.Skeletons.{Arrives, Ascent, Topmost}
use Rattle.skeletons.proofs.Judging.{empty_block}
use Rattle.group_ends.specs.Ends.{inward, Setting, Risen}
use Rattle.layout.specs.Blocks.{Rest}
use Rattle.edge_snippets.specs.Edges.{OfFirst, Gains, OfEdge, EdgeAt, Gained, BothParts}
use Rattle.first_snippets.specs.Groups.{Yields, Sunk}
use Rattle.group_ends.specs.Steps.{Outside}
use Rattle.first_snippets.specs.Steps.{Sinks, SinksBy, Sank}
use Rattle.layout.proofs.Rest.{rest_none, rest_then, rest_more, rest_within, same_word}
use Rattle.group_ends.proofs.Rest.{setting_rest, ladder_of}
use Rattle.edge_snippets.proofs.Gains.{gains_same, gains_then, gains_iff, gains_before}
use Rattle.group_ends.proofs.Ascending.{exactly_none, top_none}

-- ── One node ──
-- the columns from below stay
risen_rest : {P R : XPath} {t : Tree} {d : List ℕ} {n b : ℕ} {p p' : List ℕ} → WellFormed t → t.size ≡ n → Rest ABOVE n b p p' → Risen P R t d n p 0 → Risen P R t d n p' 0
risen_rest {P} {R} {t} {d} {n} {b} {p} {p'} wf size h s = record {
  inside = λ u l k. subst (λ (z : ℕ). Exactly z (In t P R d u)) (sym (same_word h IN u (omega arith) (node u k))) (s.inside u l k);
  sides = λ side x k. subst (λ (z : ℕ). Exactly z (λ i. (f : FromChild t P R d side x i) × (0 ≤ f.y))) (sym (same_word h (inward side) x (early side) (node x k))) (s.sides side x k);
}
  where
    node : (u : ℕ) → Skeleton t d u → u < n
    node u k = let q = skeleton_inside t d wf u k in omega arith

    early : (side : Bool) → inward side < ABOVE
    early true = omega arith
    early false = omega arith

-- node v is next
sunk_more : {P R : XPath} {t : Tree} {d : List ℕ} {v : ℕ} (n : ℕ) (p p' : List ℕ) → ((u : ℕ) → u < v → word p' n ABOVE u ≡ word p n ABOVE u) → (Skeleton t d v → Exactly (word p' n ABOVE v) (Above t P R d v))
    → Sunk P R t d n p v → Sunk P R t d n p' (suc v)
sunk_more {P} {R} {t} {d} {v} n p p' same here s u l k = go (eq-or-lt_of_le (omega arith))
  where
    go : (u ≡ v) ⊎ (u < v) → Exactly (word p' n ABOVE u) (Above t P R d u)
    go (inl e) = subst (λ (z : ℕ). Exactly (word p' n ABOVE z) (Above t P R d z)) (sym e) (here (subst (λ (z : ℕ). Skeleton t d z) e k))
    go (inr h) = subst (λ (z : ℕ). Exactly z (Above t P R d u)) (sym (same u h)) (s u h k)

-- the word of node v changes
pub put_rest : {n b v w : ℕ} {p p₁ : List ℕ} → v < n → Wrote ((cell n ABOVE v, w) ∷ []) p p₁ → Rest ABOVE n b p p₁
put_rest {n} {p = p} {p₁} node put = let z : Within n ABOVE 16 p p₁ = within_put (omega arith) (omega arith) node put in rest_within (omega arith) z

put_behind : {n v w : ℕ} {p p₁ : List ℕ} → v < n → Wrote ((cell n ABOVE v, w) ∷ []) p p₁ → (k : ℕ) → 16 * n ≤ k → get_or p₁ k 0 ≡ get_or p k 0
put_behind node put k h = put.other k (omega arith, tt)

module _ {m : Machine} {n b first r v : ℕ} where
  -- not in the skeleton
  pub sinks_skip : {p : List ℕ} → ((P R : XPath) (t : Tree) (d : List ℕ) → Setting P R t d m n b r p → ¬ Skeleton t d v) → Sinks m n b first r v p p
  sinks_skip {p} f = record {
    rest = rest_none ABOVE n b p;
    found = λ P R t d s split risen sunk.
        (sunk_more n p p (λ u l. refl) (λ k. absurd (f P R t d s k)) sunk, gains_same (λ l h. refl) (λ k x y i j (z, l, e, g). f P R t d s e.bottom));
  }

  pub sinks_by : {p p' : List ℕ} → ((P R : XPath) (t : Tree) (d : List ℕ) → Setting P R t d m n b r p → Skeleton t d v) → SinksBy m n b first r v p p' → Sinks m n b first r v p p'
  sinks_by k h = record { rest = h.rest; found = λ P R t d s split risen sunk. h.found P R t d s (k P R t d s) split risen sunk }

  module _ {p p₁ : List ℕ} (w : ℕ) (node : v < n) (put : Wrote ((cell n ABOVE v, w) ∷ []) p p₁) where
    -- the topmost skeleton node
    pub sinks_top : Topmost n r v p → w ≡ 0 → SinksBy m n b first r v p p₁
    sinks_top above e = record {
      rest = put_rest node put;
      found = λ P R t d s k split risen sunk.
          let top = above t d s.group k in (
            sunk_more n p p₁ (λ u h. put.other (cell n ABOVE u) (omega arith, tt)) (λ _. exactly_none (word p₁ n ABOVE v) (put.here.0 ∙ e) (λ i. above_top t P R d s.founded.stage.formed v i k top)) sunk,
            gains_same (put_behind node put) (λ k x y i j (z, l, e, g). top_none P R t d s.founded.stage.formed top z l e),
          );
    }

    -- one with an edge above it
    module _ {x l c out inside : ℕ} {p₂ : List ℕ} (a : Ascent n r v x l c p) (outs : Outside m n r x c out p) (ins : inside ≡ word p n IN v)
        (lowers : (P R : XPath) (t : Tree) (u : ℕ) → Ladder P R t n b p → Down t u v l → Lifts P R t v u out w) (gained : Gained (BothParts v l) n b v l first inside out p₁ p₂) where
      above_found : (P R : XPath) (t : Tree) (d : List ℕ) → Setting P R t d m n b r p → Edge t d x v l → Exactly out (Out t P R d x v) → Exactly w (Above t P R d v)
      above_found P R t d s e q i h = (
        λ z. let (j, r, y, g) = (lowers P R t x (ladder_of s) e.far i h).0 z in (above_iff t P R d s.founded.stage.formed x v l i e).1 (j, (q j r).0 y, g),
        λ z. let (j, y, g) = (above_iff t P R d s.founded.stage.formed x v l i e).0 z in let r = comes_few P R t s.founded.stage.machine.few g h in (lowers P R t x (ladder_of s) e.far i h).1 (j, r, (q j r).1 y, g),
      )

      of_edge : (P R : XPath) (t : Tree) (d : List ℕ) → WellFormed t → Edge t d x v l → (k a y i j : ℕ) → OfEdge P R t d x v l k a y i j ↔ Yields P R t d v k a y i j
      of_edge P R t d wf e k a y i j = (λ z. (x, l, e, z), back)
        where
          back : Yields P R t d v k a y i j → OfEdge P R t d x v l k a y i j
          back (u, q, g, z) = let (s, h) = edge_one t d wf u x v q l g e in subst (λ (u : ℕ). OfEdge P R t d u v l k a y i j) s (subst (λ (q : ℕ). OfEdge P R t d u v q k a y i j) h z)

      pub sinks_edge : SinksBy m n b first r v p p₂
      sinks_edge = record {
        rest = rest_then (put_rest node put) (rest_more (omega arith) gained.rest);
        found = λ P R t d s k split risen sunk. go P R t d s k split risen sunk (a.arrives t d s.group k);
      }
        where
          go : (P R : XPath) (t : Tree) (d : List ℕ) → Setting P R t d m n b r p → Skeleton t d v → OfFirst P first → Risen P R t d n p 0 → Sunk P R t d n p v → Arrives t d v x l c
              → Sunk P R t d n p₂ (suc v) × Gains t n b (Yields P R t d v) p p₂
          go P R t d s k split risen sunk (e, (side, child, under)) =
              let wf = s.founded.stage.formed in
              let h = down_le t wf e.far in
              let proper = e.proper in
              let q = outs.found P R t d (founded_ready s.founded) s.group risen.sides (sunk x (omega arith) e.top) side v l child under e in
              let later : Rest 12 n b p p₁ = rest_more (omega arith) (put_rest node put) in
              let at : EdgeAt P R t d n b x v l first inside out p₁ = record {
                ladder = ladder_of (setting_rest later s);
                node = node;
                edge = e;
                ins = subst (λ (z : ℕ). Exactly z (In t P R d v)) (sym ins) (risen.inside v (omega arith) k);
                outs = q;
                split = split;
              } in (
                sunk_more n p p₂ (λ u g. same_word gained.rest ABOVE u (omega arith) (omega arith) ∙ put.other (cell n ABOVE u) (omega arith, tt))
                    (λ _. subst (λ (z : ℕ). Exactly z (Above t P R d v)) (sym (same_word gained.rest ABOVE v (omega arith) node ∙ put.here.0)) (above_found P R t d s e q)) sunk,
                gains_iff (λ k a y i j _ _ _ _ _. of_edge P R t d wf e k a y i j) (gains_before (put_behind node put) (gained.found P R t d x at)),
              )

-- ── All nodes ──
module _ {m : Machine} {n b first r : ℕ} where
  pub sank_none : (p : List ℕ) → Sank m n b first r 0 p p
  sank_none p = record {
    rest = rest_none ABOVE n b p;
    found = λ P R t d s split risen. ((λ u l k. absurd (omega arith)), gains_same (λ l h. refl) (λ k x y i j (z, h, g). absurd (omega arith)));
  }

  pub sank_step : {v : ℕ} {p p₁ p₂ : List ℕ} → Sank m n b first r v p p₁ → Sinks m n b first r v p₁ p₂ → Sank m n b first r (v + 1) p p₂
  sank_step {v} {p} {p₁} {p₂} g h = record {
    rest = rest_then g.rest h.rest;
    found = λ P R t d s split risen.
        let (sunk, gains) = g.found P R t d s split risen in
        let wf = s.founded.stage.formed in
        let (more, added) = h.found P R t d (setting_rest (rest_more (omega arith) g.rest) s) split (risen_rest wf s.founded.stage.drawn.size g.rest risen) sunk in (
          (λ u l k. more u (omega arith) k),
          gains_then gains added (λ k a y i j. (to P R t d k a y i j, from P R t d k a y i j)),
        );
  }
    where
      to : (P R : XPath) (t : Tree) (d : List ℕ) (k a y i j : ℕ) → ((z : ℕ) × (z < v) × Yields P R t d z k a y i j) ⊎ Yields P R t d v k a y i j → (z : ℕ) × (z < v + 1) × Yields P R t d z k a y i j
      to P R t d k a y i j (inl (z, l, g)) = (z, omega arith, g)
      to P R t d k a y i j (inr g) = (v, omega arith, g)

      from : (P R : XPath) (t : Tree) (d : List ℕ) (k a y i j : ℕ) → (z : ℕ) × (z < v + 1) × Yields P R t d z k a y i j → ((z : ℕ) × (z < v) × Yields P R t d z k a y i j) ⊎ Yields P R t d v k a y i j
      from P R t d k a y i j (z, l, g) = go (eq-or-lt_of_le (omega arith))
        where
          go : (z ≡ v) ⊎ (z < v) → ((z : ℕ) × (z < v) × Yields P R t d z k a y i j) ⊎ Yields P R t d v k a y i j
          go (inl e) = inr (subst (λ (z : ℕ). Yields P R t d z k a y i j) e g)
          go (inr h) = inl (z, h, g)

  -- several nodes that are not in the skeleton
  sank_over : (k v : ℕ) {p p₁ : List ℕ} → ((P R : XPath) (t : Tree) (d : List ℕ) → Setting P R t d m n b r p₁ → (w : ℕ) → v ≤ w → w < k + v → ¬ Skeleton t d w)
      → Sank m n b first r v p p₁ → Sank m n b first r (k + v) p p₁
  sank_over zero v {p} {p₁} f g = subst (λ (x : ℕ). Sank m n b first r x p p₁) (omega arith) g
  sank_over (suc k) v {p} {p₁} f g =
      subst (λ (x : ℕ). Sank m n b first r x p p₁) (omega arith)
      (sank_step (sank_over k v (λ P R t d s w a l. f P R t d s w a (omega arith)) g) (sinks_skip (λ P R t d s. f P R t d s (k + v) (omega arith) (omega arith))))

  -- those of an empty block
  pub sank_block : {v u : ℕ} {p p₁ : List ℕ} → v < u → ((w : ℕ) → v ≤ w → w < u → w / 16 ≡ v / 16) → ¬ IsNoted p₁ n v → Sank m n b first r v p p₁ → Sank m n b first r u p p₁
  sank_block {v} {u} {p} {p₁} l same f g =
      subst (λ (x : ℕ). Sank m n b first r x p p₁) (omega arith)
      (sank_over (u - v) v (λ P R t d s w a i. empty_block w v f (same w a (omega arith)) s.group) g)
