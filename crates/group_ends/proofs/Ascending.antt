-- From below: the sets of the skeleton nodes, each told by those of the next skeleton nodes below it.
use Prim.Native.Nat.{ℕ, zero, suc, ◌+◌, ◌-◌, ◌/◌, ◌≤◌, ◌<◌}
use mathlib.Core.Path.{◌≡◌, refl, sym, ap, ◌∙◌, subst}
use mathlib.Core.Logic.{◌≢◌, ◌⊎◌, inl, inr}
use mathlib.Core.Bool.{Bool, true, false, false≢true}
use mathlib.Core.List.{List, [], ◌∷◌}
use native.Mathlib.Nat.{eq-or-lt_of_le}
use native.Mathlib.Decide.{ℕ_discrete, dec_lt}
use native.Mathlib.Omega.{arith}
use Rattle.bits.specs.Sets.{bit, or}
use Rattle.bits.proofs.SetLaws.{bit_none}
use Rattle.xpath.specs.Syntax.{XPath}
use Rattle.xpath.specs.Tree.{Tree, Child, WellFormed, Down, Under}
use Rattle.xpath.proofs.Trees.{one_parent, one_child, down_le}
use Rattle.positions.specs.Positions.{Comes}
use Rattle.snippets.specs.Snippets.{Skeleton, Edge}
use Rattle.snippets.specs.Ways.{In, Own, FromChild}
use Rattle.snippets.proofs.Marks.{same_side, skeleton_inside}
use Rattle.snippets.proofs.Nearest.{edge_one}
use Rattle.snippets.proofs.Edges.{comes_few}
use Rattle.snippets.proofs.Ways.{in_sides, from_child_iff}
use Rattle.layout.specs.Groups.{MARKED, IN, LEFTIN, RIGHTIN, ABOVE}
use Rattle.layout.specs.Table.{LEFT}
use Rattle.layout.specs.Words.{cell, word, Wrote, Within}
use Rattle.layout.proofs.Frames.{within_none, within_then, within_more, within_put, before_within}
use Rattle.table.specs.Links.{Points}
use Rattle.machine.specs.declared.Machine.{Machine}
use Rattle.matrices.proofs.Members.{union_iff}
use Rattle.matrices.specs.Matrices.{Exactly}
use Rattle.loops.specs.Loops.{Stage}
use Rattle.lifting.specs.Ladder.{Lifts, Ladder, Stretch}
use Rattle.group_marks.specs.Groups.{IsNoted, Group}
use Rattle.skeletons.specs.Skeletons.{Ascent, Topmost}
use Rattle.skeletons.proofs.Judging.{empty_block}
use Rattle.group_ends.specs.Ends.{inward, Setting, Given, Sides, Risen}
use Rattle.layout.specs.Blocks.{Rest}
use Rattle.group_ends.specs.Steps.{Placed, Cleared, Handed, Rises, Rose}
use Rattle.layout.proofs.Rest.{rest_more, rest_within}
use Rattle.powers.proofs.Rest.{sizes_rest}
use Rattle.group_ends.proofs.Rest.{setting_rest, ladder_of}

pub exactly_none : {A : ℕ → Type 0} (w : ℕ) → w ≡ 0 → ((i : ℕ) → ¬ A i) → Exactly w A
exactly_none w e f i l = (λ x. absurd (false≢true (sym (bit_none i) ∙ subst (λ (z : ℕ). bit z i ≡ true) e x)), λ a. absurd (f i a))

-- the two columns, and their nodes, have words of their own
own_cell : (n : ℕ) (side side' : Bool) (x x' : ℕ) → x < n → x' < n → ((side' ≡ side) × (x' ≡ x)) ⊎ (cell n (inward side') x' ≢ cell n (inward side) x)
own_cell n true true x x' l r = go (ℕ_discrete x' x)
  where
    go : Dec (x' ≡ x) → ((true ≡ true) × (x' ≡ x)) ⊎ (cell n LEFTIN x' ≢ cell n LEFTIN x)
    go (yes e) = inl (refl, e)
    go (no f) = inr (λ e. f (omega arith))
own_cell n false false x x' l r = go (ℕ_discrete x' x)
  where
    go : Dec (x' ≡ x) → ((false ≡ false) × (x' ≡ x)) ⊎ (cell n (inward false) x' ≢ cell n (inward false) x)
    go (yes e) = inl (refl, e)
    go (no f) = inr (λ e. f (omega arith))
own_cell n true false x x' l r = inr (λ e. absurd (let f : ⊥ = omega arith in f))
own_cell n false true x x' l r = inr (λ e. absurd (let f : ⊥ = omega arith in f))

module _ (P R : XPath) (t : Tree) (d : List ℕ) (wf : WellFormed t) where
  -- an edge goes down
  edge_after : {x y l : ℕ} → Edge t d x y l → x < y
  edge_after e = let h = down_le t wf e.far in let q = e.proper in omega arith

  -- the topmost skeleton node has none
  pub top_none : {v : ℕ} → ((s : ℕ) → Skeleton t d s → Under t s v → s ≡ v) → (x l : ℕ) → ¬ Edge t d x v l
  top_none top x l e = let h = edge_after e in let q = top x e.top (l, e.far) in omega arith

  module _ {n : ℕ} (size : t.size ≡ n) where
    skeleton_node : {x : ℕ} → Skeleton t d x → x < n
    skeleton_node {x} k = let h = skeleton_inside t d wf x k in omega arith

    -- no skeleton node is behind the last node
    pub risen_none : {p p' : List ℕ} → ((x : ℕ) → Skeleton t d x → IsNoted p n x) → Cleared n n p p' → Risen P R t d n p' n
    risen_none {p} {p'} noted c = record {
      inside = λ u l k. let h = skeleton_node k in absurd (omega arith);
      sides = λ side x k. exactly_none (word p' n (inward side) x) (c.empty side x (skeleton_node k) (noted x k)) (λ i (f, l). let h = skeleton_node f.edge.bottom in absurd (omega arith));
    }

    -- ── One node ──
    module _ (v : ℕ) (p : List ℕ) where
      -- all that comes to v is from behind it
      pub side_all : Sides P R t d n p (suc v) → Skeleton t d v → (side : Bool) → Exactly (word p n (inward side) v) (FromChild t P R d side v)
      side_all s k side i l = (λ e. ((s side v k i l).0 e).0, λ f. (s side v k i l).1 (f, edge_after f.edge))

      -- where no edge is above v, it hands nothing up
      pub sides_skip : ((x l : ℕ) → ¬ Edge t d x v l) → Sides P R t d n p (suc v) → Sides P R t d n p v
      sides_skip none s side x k i l = (λ e. let (f, h) = (s side x k i l).0 e in (f, omega arith), λ (f, h). (s side x k i l).1 (f, go f (eq-or-lt_of_le h)))
        where
          go : (f : FromChild t P R d side x i) → (v ≡ f.y) ⊎ (v < f.y) → suc v ≤ f.y
          go f (inl e) = absurd (none x f.n (subst (λ (z : ℕ). Edge t d x z f.n) (sym e) f.edge))
          go f (inr h) = h

      -- and where there is one, it hands up what comes to a member of its own set
      module _ {side : Bool} {x c l : ℕ} (set w : ℕ) {p' : List ℕ} (few : (i j : ℕ) → Comes P R t i x j v → i < 16 → j < 16)
          (e : Edge t d x v l) (child : Child t side x c) (under : Under t c v) (lifts : Lifts P R t x v set w) (ins : Exactly set (In t P R d v)) (put : Wrote ((cell n (inward side) x, w) ∷ []) p p') where
        handed_here : Exactly w (λ i. (f : FromChild t P R d side x i) × (v ≤ f.y))
        handed_here i q = (
          λ h. let (j, r, a, g) = (lifts i q).0 h in (record { child = c; y = v; n = l; q = j; is = child; under = under; edge = e; comes = g; inside = (ins j r).0 a }, omega arith),
          λ (f, h). let (j, g, a) = (from_child_iff t P R d wf side x c v l i child under e).0 f in let r = few i j g q in (lifts i q).1 (j, r, (ins j r).1 a, g),
        )

        -- no other node of another side has v next below it
        handed_other : (side' : Bool) (x' i : ℕ) → cell n (inward side') x' ≢ cell n (inward side) x → (f : FromChild t P R d side' x' i) → v ≤ f.y → suc v ≤ f.y
        handed_other side' x' i apart f h = go (eq-or-lt_of_le h)
          where
            go : (v ≡ f.y) ⊎ (v < f.y) → suc v ≤ f.y
            go (inr g) = g
            go (inl g) =
                let above = (edge_one t d wf x' x v f.n l (subst (λ (z : ℕ). Edge t d x' z f.n) (sym g) f.edge) e).0 in
                let at : Child t side' x f.child = subst (λ (z : ℕ). Child t side' z f.child) above f.is in
                let s = same_side t wf side' side x f.child c v at child (subst (λ (z : ℕ). Under t f.child z) (sym g) f.under) under in
                absurd (apart (ap (λ z. cell n (inward z) x') s ∙ ap (λ (z : ℕ). cell n (inward side) z) above))

        pub sides_put : Sides P R t d n p (suc v) → Sides P R t d n p' v
        sides_put s side' x' k = go (own_cell n side side' x x' (skeleton_node e.top) (skeleton_node k))
          where
            go : ((side' ≡ side) × (x' ≡ x)) ⊎ (cell n (inward side') x' ≢ cell n (inward side) x)
                → Exactly (word p' n (inward side') x') (λ i. (f : FromChild t P R d side' x' i) × (v ≤ f.y))
            go (inl (a, b)) =
                subst (λ z. Exactly (word p' n (inward z) x') (λ i. (f : FromChild t P R d z x' i) × (v ≤ f.y))) (sym a)
                (subst (λ (z : ℕ). Exactly (word p' n (inward side) z) (λ i. (f : FromChild t P R d side z i) × (v ≤ f.y))) (sym b)
                (subst (λ (z : ℕ). Exactly z (λ i. (f : FromChild t P R d side x i) × (v ≤ f.y))) (sym put.here.0) handed_here))
            go (inr f) =
                subst (λ (z : ℕ). Exactly z (λ i. (g : FromChild t P R d side' x' i) × (v ≤ g.y))) (sym (put.other (cell n (inward side') x') (f, tt)))
                (λ i q. (λ h. let (g, r) = (s side' x' k i q).0 h in (g, omega arith), λ (g, r). (s side' x' k i q).1 (g, handed_other side' x' i f g r)))

  -- at v itself, on its left and on its right
  pub gathered : {v : ℕ} (a l q s w : ℕ) → Skeleton t d v → Exactly a (Own t P R d v) → Exactly l (FromChild t P R d true v) → Exactly q (FromChild t P R d false v)
      → ((i : ℕ) → bit s i ≡ or (bit a i) (bit l i)) → ((i : ℕ) → bit w i ≡ or (bit s i) (bit q i)) → Exactly w (In t P R d v)
  gathered {v} a l q s w k own left right one two i h = (λ e. (in_sides t P R d wf v i k).1 (to ((union_iff s q w two i).0 e)), λ e. (union_iff s q w two i).1 (from ((in_sides t P R d wf v i k).0 e)))
    where
      under : (bit a i ≡ true) ⊎ (bit l i ≡ true) → Own t P R d v i ⊎ (FromChild t P R d true v i ⊎ FromChild t P R d false v i)
      under (inl e) = inl ((own i h).0 e)
      under (inr e) = inr (inl ((left i h).0 e))

      to : (bit s i ≡ true) ⊎ (bit q i ≡ true) → Own t P R d v i ⊎ (FromChild t P R d true v i ⊎ FromChild t P R d false v i)
      to (inl e) = under ((union_iff a l s one i).0 e)
      to (inr e) = inr (inr ((right i h).0 e))

      from : Own t P R d v i ⊎ (FromChild t P R d true v i ⊎ FromChild t P R d false v i) → (bit s i ≡ true) ⊎ (bit q i ≡ true)
      from (inl e) = inl ((union_iff a l s one i).1 (inl ((own i h).1 e)))
      from (inr (inl e)) = inl ((union_iff a l s one i).1 (inr ((left i h).1 e)))
      from (inr (inr e)) = inr ((right i h).1 e)

-- ── The columns ──
module _ {m : Machine} {n b r : ℕ} where
  pub rises_none : (v : ℕ) (p : List ℕ) → Rises m n b r v v p p
  rises_none v p = record { within = within_none p; found = λ P R t d s f. f }

  pub rises_then : {u v w : ℕ} {p p₁ p₂ : List ℕ} → Rises m n b r u v p p₁ → Rises m n b r v w p₁ p₂ → Rises m n b r u w p p₂
  rises_then g h = record {
    within = within_then g.within h.within;
    found = λ P R t d s f. h.found P R t d (setting_rest (rest_within (omega arith) g.within) s) (g.found P R t d s f);
  }

  -- from the last node to the first
  pub rises_all : {v : ℕ} {p p₁ p₂ : List ℕ} → v ≤ 0 → Cleared n n p p₁ → Rises m n b r n v p₁ p₂ → Rose m n b r p p₂
  rises_all {v} {p} {p₁} {p₂} e c h =
      let w : Within n IN ABOVE p p₁ = within_more (omega arith) (omega arith) c.within in
      record {
        within = within_then w h.within;
        found = λ P R t d s.
            let z = setting_rest (rest_within (omega arith) w) s in
            subst (λ (x : ℕ). Risen P R t d n p₂ x) (omega arith) (h.found P R t d z (risen_none P R t d s.founded.stage.formed s.founded.stage.drawn.size s.group.noted c));
      }

  -- a node that is not in the skeleton
  pub rises_skip : {v : ℕ} {p : List ℕ} → ((P R : XPath) (t : Tree) (d : List ℕ) → Setting P R t d m n b r p → ¬ Skeleton t d v) → Rises m n b r (suc v) v p p
  rises_skip {v} {p} f = record {
    within = within_none p;
    found = λ P R t d s h. record {
      inside = λ u l k. h.inside u (go P R t d s u k (eq-or-lt_of_le l)) k;
      sides = sides_skip P R t d s.founded.stage.formed s.founded.stage.drawn.size v p (λ x l e. f P R t d s e.bottom) h.sides;
    };
  }
    where
      go : (P R : XPath) (t : Tree) (d : List ℕ) → Setting P R t d m n b r p → (u : ℕ) → Skeleton t d u → (v ≡ u) ⊎ (v < u) → suc v ≤ u
      go P R t d s u k (inl e) = absurd (f P R t d s (subst (λ (z : ℕ). Skeleton t d z) (sym e) k))
      go P R t d s u k (inr l) = l

  -- several nodes that are not
  rises_over : {p : List ℕ} (k u : ℕ) → ((P R : XPath) (t : Tree) (d : List ℕ) → Setting P R t d m n b r p → (w : ℕ) → u ≤ w → w < k + u → ¬ Skeleton t d w) → Rises m n b r (k + u) u p p
  rises_over {p} zero u f = subst (λ (x : ℕ). Rises m n b r x u p p) (omega arith) (rises_none u p)
  rises_over {p} (suc k) u f =
      subst (λ (x : ℕ). Rises m n b r x u p p) (omega arith)
      (rises_then (rises_skip (λ P R t d s. f P R t d s (k + u) (omega arith) (omega arith))) (rises_over k u (λ P R t d s w a l. f P R t d s w a (omega arith))))

  -- those of an empty block
  pub rises_block : {u v : ℕ} {p : List ℕ} → u ≤ v → ((w : ℕ) → u ≤ w → w ≤ v → w / 16 ≡ v / 16) → ¬ IsNoted p n v → Rises m n b r (suc v) u p p
  rises_block {u} {v} {p} l same f =
      subst (λ (x : ℕ). Rises m n b r x u p p) (omega arith)
      (rises_over (suc v - u) u (λ P R t d s w a i. empty_block w v f (same w a (omega arith)) s.group))

  -- one that is: its own set, and then what it hands up
  pub rises_step : {v set : ℕ} {p p₁ p₂ : List ℕ} → v < n
      → ((P R : XPath) (t : Tree) (d : List ℕ) → Setting P R t d m n b r p → Skeleton t d v)
      → ((P R : XPath) (t : Tree) (d : List ℕ) → Setting P R t d m n b r p → Sides P R t d n p (suc v) → Exactly set (In t P R d v))
      → Wrote ((cell n IN v, set) ∷ []) p p₁ → Handed n b r v set p₁ p₂ → Rises m n b r (suc v) v p p₂
  rises_step {v} {set} {p} {p₁} {p₂} node is ins put h = record {
    within = within_then first (within_more (omega arith) (omega arith) h.within);
    found = λ P R t d s f.
        let q = ins P R t d s f.sides in
        record {
          inside = λ u l k. inside P R t d s f u k (eq-or-lt_of_le l);
          sides = h.found P R t d (ladder_of (setting_rest (rest_within (omega arith) first) s)) (setting_rest (rest_within (omega arith) first) s).group (is P R t d s) q (λ side x k.
              subst (λ (z : ℕ). Exactly z (λ i. (g : FromChild t P R d side x i) × (suc v ≤ g.y))) (sym (side_kept side x)) (f.sides side x k));
        };
  }
    where
      first : Within n IN ABOVE p p₁
      first = within_put (omega arith) (omega arith) node put

      side_kept : (side : Bool) (x : ℕ) → word p₁ n (inward side) x ≡ word p n (inward side) x
      side_kept true x = put.other (cell n LEFTIN x) (omega arith, tt)
      side_kept false x = put.other (cell n (inward false) x) (omega arith, tt)

      inside : (P R : XPath) (t : Tree) (d : List ℕ) → Setting P R t d m n b r p → Risen P R t d n p (suc v) → (u : ℕ) → Skeleton t d u → (v ≡ u) ⊎ (v < u) → Exactly (word p₂ n IN u) (In t P R d u)
      inside P R t d s f u k (inl e) =
          subst (λ (z : ℕ). Exactly (word p₂ n IN z) (In t P R d z)) e
          (subst (λ (z : ℕ). Exactly z (In t P R d v)) (sym (before_within h.within IN v (omega arith) node ∙ put.here.0)) (ins P R t d s f.sides))
      inside P R t d s f u k (inr l) =
          let q = skeleton_inside t d s.founded.stage.formed u k in
          let e = s.founded.stage.drawn.size in
          subst (λ (z : ℕ). Exactly z (In t P R d u)) (sym (before_within h.within IN u (omega arith) (omega arith) ∙ put.other (cell n IN u) (omega arith, tt))) (f.inside u l k)

-- ── Clearing ──
pub cleared_none : (n : ℕ) (p : List ℕ) → Cleared n 0 p p
cleared_none n p = record { inside = omega arith; within = within_none p; empty = λ side u l i. absurd (omega arith) }

pub cleared_step : {n v : ℕ} {p p₁ p₂ p₃ : List ℕ} → Cleared n v p p₁ → v < n → Wrote ((cell n LEFTIN v, 0) ∷ []) p₁ p₂ → Wrote ((cell n RIGHTIN v, 0) ∷ []) p₂ p₃ → Cleared n (v + 1) p p₃
cleared_step {n} {v} {p} {p₁} {p₂} {p₃} c node f g = record {
  inside = omega arith;
  within = within_then c.within (within_then (within_put (omega arith) (omega arith) node f) (within_put (omega arith) (omega arith) node g));
  empty = λ side u l i. go side u i (eq-or-lt_of_le (omega arith));
}
  where
    go : (side : Bool) (u : ℕ) → IsNoted p n u → (u ≡ v) ⊎ (u < v) → word p₃ n (inward side) u ≡ 0
    go true u i (inl e) = ap (λ (z : ℕ). word p₃ n LEFTIN z) e ∙ g.other (cell n LEFTIN v) (omega arith, tt) ∙ f.here.0
    go false u i (inl e) = ap (λ (z : ℕ). word p₃ n RIGHTIN z) e ∙ g.here.0
    go true u i (inr l) = g.other (cell n LEFTIN u) (omega arith, tt) ∙ f.other (cell n LEFTIN u) (omega arith, tt) ∙ c.empty true u l i
    go false u i (inr l) = g.other (cell n RIGHTIN u) (omega arith, tt) ∙ f.other (cell n RIGHTIN u) (omega arith, tt) ∙ c.empty false u l i

-- the nodes of an empty block stay as they are
pub cleared_block : {n v u : ℕ} {p p₁ : List ℕ} → v < u → u ≤ n → ((w : ℕ) → v ≤ w → w < u → w / 16 ≡ v / 16) → ¬ IsNoted p₁ n v → Cleared n v p p₁ → Cleared n u p p₁
cleared_block {n} {v} {u} {p} {p₁} low high same f c = record { inside = high; within = c.within; empty = λ side w l i. go side w l i (dec_lt w v) }
  where
    go : (side : Bool) (w : ℕ) → w < u → IsNoted p n w → Dec (w < v) → word p₁ n (inward side) w ≡ 0
    go side w l i (yes a) = c.empty side w a i
    go side w l i (no a) =
        let e = before_within c.within MARKED (v / 16) (omega arith) (omega arith) in
        absurd (f (ap (λ (x : ℕ). x / 2) e ∙ subst (λ (x : ℕ). word p n MARKED x / 2 ≡ 1) (same w (omega arith) l) i))

-- ── Handing up ──
-- the way up that the powers lead
pub placed_stretch : {n b r v x l c : ℕ} {p : List ℕ} → Placed n b r v p → Ascent n r v x l c p → Stretch n b v l p
placed_stretch {v = v} {x} {l} s a =
    let e = (a.arrives s.tree s.value s.group s.skeleton).0 in
    let q = skeleton_inside s.tree s.value s.ladder.formed v s.skeleton in
    let z = s.group.shape.size in
    let o = s.enough x v l e.far in
    record {
      first = s.first;
      second = s.second;
      tree = s.tree;
      top = x;
      ladder = s.ladder;
      down = e.far;
      node = omega arith;
      few = s.sizes.few;
      low = s.sizes.low;
      short = omega arith;
      room = s.sizes.room;
    }

module _ {t : Tree} {d : List ℕ} {n r x c : ℕ} {p : List ℕ} (group : Group t d n r p) (node : x < n) where
  -- the word for the left child tells the side
  pub on_left : {side : Bool} → Child t side x c → word p n LEFT x ≡ c → side ≡ true
  on_left {side} k e = go (group.shape.children true x node)
    where
      go : Points (Child t true x) (word p n LEFT x) → side ≡ true
      go (inl h) = (one_parent k (subst (λ (z : ℕ). Child t true x z) e h)).1
      go (inr (none, f)) = let i = k.inside in let s = group.shape.size in let few = group.shape.few in absurd (omega arith)

  pub on_right : {side : Bool} → Child t side x c → word p n LEFT x ≢ c → side ≡ false
  on_right {side = true} k f = absurd (go (group.shape.children true x node))
    where
      go : Points (Child t true x) (word p n LEFT x) → ⊥
      go (inl h) = f (one_child group.shape.formed true h k)
      go (inr (none, g)) = g c k
  on_right {side = false} k f = refl

-- there is none to hand it to
pub handed_none : {n b r v set : ℕ} {p : List ℕ} → Topmost n r v p → Handed n b r v set p p
handed_none {v = v} {p = p} top = record {
  within = within_none p;
  found = λ P R t d ladder group k ins q. sides_skip P R t d ladder.formed group.shape.size v p (top_none P R t d ladder.formed (top t d group k)) q;
}

module _ {n b r v x l c : ℕ} {p : List ℕ} (a : Ascent n r v x l c p) (set w : ℕ) {p' : List ℕ} (lifts : (P R : XPath) (t : Tree) (u : ℕ) → Ladder P R t n b p → Down t u v l → Lifts P R t u v set w) where
  handed_to : (side : Bool) → ((t : Tree) (d : List ℕ) → Group t d n r p → (other : Bool) → Child t other x c → other ≡ side) → Wrote ((cell n (inward side) x, w) ∷ []) p p' → Within n LEFTIN ABOVE p p' → Handed n b r v set p p'
  handed_to side which put within = record {
    within = within;
    found = λ P R t d ladder group k ins q.
        let (e, (other, child, under)) = a.arrives t d group k in
        sides_put P R t d ladder.formed group.shape.size v p set w (λ i j g h. comes_few P R t ladder.few g h) e
        (subst (λ z. Child t z x c) (which t d group other child) child) under (lifts P R t x ladder e.far) ins put q;
  }

  pub handed_left : word p n LEFT x ≡ c → Wrote ((cell n LEFTIN x, w) ∷ []) p p' → Handed n b r v set p p'
  handed_left e put = handed_to true (λ t d group other child. on_left group a.node child e) put (within_put (omega arith) (omega arith) a.node put)

  pub handed_right : word p n LEFT x ≢ c → Wrote ((cell n RIGHTIN x, w) ∷ []) p p' → Handed n b r v set p p'
  handed_right e put = handed_to false (λ t d group other child. on_right group a.node child e) put (within_put (omega arith) (omega arith) a.node put)

pub given_placed : {m : Machine} {n b r v : ℕ} {p : List ℕ} (g : Given m n b r p) → Skeleton g.tree g.value v → Placed n b r v p
given_placed g k = record { first = g.first; second = g.second; tree = g.tree; value = g.value; ladder = ladder_of g.setting; group = g.setting.group; skeleton = k; enough = g.enough; sizes = g.sizes }

pub placed_rest : {m : Machine} {n b r v : ℕ} {p p' : List ℕ} → Rest 12 n b p p' → (g : Given m n b r p) → Skeleton g.tree g.value v → Placed n b r v p'
placed_rest h g k =
    let s = setting_rest h g.setting in
    record { first = g.first; second = g.second; tree = g.tree; value = g.value; ladder = ladder_of s; group = s.group; skeleton = k; enough = g.enough; sizes = sizes_rest h g.sizes }

-- ── At or below ──
pub gathered_found : (P R : XPath) (t : Tree) (d : List ℕ) {m : Machine} {n v : ℕ} {p : List ℕ} (o a q s w : ℕ) → Stage P R t m n p → Skeleton t d v → Sides P R t d n p (suc v)
    → Exactly o (Own t P R d v) → a ≡ word p n LEFTIN v → q ≡ word p n RIGHTIN v
    → ((i : ℕ) → bit s i ≡ or (bit o i) (bit a i)) → ((i : ℕ) → bit w i ≡ or (bit s i) (bit q i)) → Exactly w (In t P R d v)
gathered_found P R t d {n = n} {v} {p} o a q s w stage k sides own left right one two =
    let all = side_all P R t d stage.formed stage.drawn.size v p sides k in
    gathered P R t d stage.formed o a q s w k own
    (subst (λ (z : ℕ). Exactly z (FromChild t P R d true v)) (sym left) (all true)) (subst (λ (z : ℕ). Exactly z (FromChild t P R d false v)) (sym right) (all false)) one two

pub placed_node : {n b r v : ℕ} {p : List ℕ} → Placed n b r v p → v < n
placed_node {v = v} s = let h = skeleton_inside s.tree s.value s.ladder.formed v s.skeleton in let e = s.group.shape.size in omega arith

-- a node's own word
pub in_rest : {n b v x : ℕ} {p p₁ : List ℕ} → v < n → Wrote ((cell n IN v, x) ∷ []) p p₁ → Rest 12 n b p p₁
in_rest {n} {p = p} {p₁} node put = let w : Within n IN ABOVE p p₁ = within_put (omega arith) (omega arith) node put in rest_within (omega arith) w

pub cleared_rest : {n b v : ℕ} {p p₁ : List ℕ} → Cleared n v p p₁ → Rest 12 n b p p₁
cleared_rest c = rest_more (omega arith) (rest_within (omega arith) c.within)
