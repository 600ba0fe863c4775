-- The loop that marks the nodes of a bucket and all above them.
use Prim.Native.Nat.{ℕ, suc, ◌≤◌, ◌<◌}
use mathlib.Core.Path.{◌≡◌, sym, ◌∙◌, subst}
use mathlib.Core.Logic.{◌⊎◌, inl, inr, ◌↔◌}
use mathlib.Core.Bool.{true, false, true≢false}
use mathlib.Core.List.{List}
use native.Mathlib.Decide.{ℕ_discrete, dec_lt}
use native.Mathlib.Omega.{arith}
use Rattle.xpath.specs.Tree.{Tree, Child, Down, Under}
use Rattle.xpath.proofs.Trees.{one_parent, child_after}
use Rattle.snippets.specs.Snippets.{Has, Skeleton}
use Rattle.snippets.specs.Marks.{Marked}
use Rattle.snippets.proofs.Marks.{BothMarked, skeleton_iff, skeleton_inside}
use Rattle.layout.specs.Groups.{FIRST, NEXT, MARKED}
use Rattle.layout.specs.Table.{RANK}
use Rattle.layout.specs.Words.{word, Within, Filled}
use Rattle.layout.proofs.Frames.{within_none, within_then, before_within}
use Rattle.table.specs.Links.{Points}
use Rattle.machine.specs.Shape.{Shape}
use Rattle.group_marks.specs.Groups.{IsMarked, IsNoted, Ranks, Grouped}
use Rattle.buckets.specs.Buckets.{Least, Buckets}
use Rattle.buckets.proofs.Least.{least_node, least_none, next_ranked}
use Rattle.group_marks.specs.Steps.{Closed, Joined}
use Rattle.machine.proofs.Shape.{shape_within, parent_of_lem}

-- the nodes of a rank stay
ranks_within : (t : Tree) {v : List ℕ} {n r c d : ℕ} {p p' : List ℕ} → RANK < c → Within n c d p p' → Ranks t v n r p → Ranks t v n r p'
ranks_within t l w k u i = let e = before_within w RANK u l i in (λ h. (k u i).0 (sym e ∙ h), λ h. e ∙ (k u i).1 h)

-- ── The loop ──
-- w is the least node of rank r from some node on, and those before are marked, with all above them, and their blocks are noted
pub record Grouping (n r w : ℕ) (p₀ p : List ℕ) : Type 0 where
  pub within : Within n MARKED (suc MARKED) p₀ p
  pub closed : Closed n p
  pub from : ℕ
  pub here : Points (Least n p₀ from r) w
  pub done : (u : ℕ) → u < from → u < n → word p₀ n RANK u ≡ r → IsMarked p n u × IsNoted p n u
  pub sound : (t : Tree) → Shape t n p₀ → (u : ℕ) → u < n → IsMarked p n u → (x : ℕ) × (x < n) × (word p₀ n RANK x ≡ r) × Under t u x

pub grouping_none : {n r w : ℕ} {p p₀ : List ℕ} → r < n → Filled n MARKED 0 n p p₀ → Buckets n p₀ → w ≡ word p₀ n FIRST r → Grouping n r w p₀ p₀
grouping_none {n} {r} {p₀ = p₀} l f b e =
    record {
      within = within_none p₀;
      closed = record { up = λ u i a. absurd (bare u i a); forked = λ x a b l k. absurd (bare a k.one.0 k.one.1) };
      from = 0;
      here = subst (λ x. Points (Least n p₀ 0 r) x) (sym e) (b.first r l);
      done = λ u i. absurd (omega arith);
      sound = λ t s u i a. absurd (bare u i a);
    }
  where
    bare : (u : ℕ) → u < n → ¬ IsMarked p₀ n u
    bare u i a = let e = f.filled u i in omega arith

-- the node that the loop goes on with
pub grouping_next : {n r w x : ℕ} {p₀ p : List ℕ} → n ≤ 4096 → r < n → Buckets n p₀ → Grouping n r w p₀ p → w < n → x ≡ word p₀ n NEXT w → Points (Least n p₀ (suc w) r) x
grouping_next few s b g i = next_ranked b s i (least_node few i g.here).ranked

pub grouping_step : {n r w x : ℕ} {p₀ p p' : List ℕ} → n ≤ 4096 → Grouping n r w p₀ p → w < n → Joined n w p p' → Points (Least n p₀ (suc w) r) x → Grouping n r x p₀ p'
grouping_step {n} {r} {w} {x} {p₀} {p} {p'} few g i j next =
    let h = j.raised in
    record {
      within = within_then g.within h.within;
      closed = h.closed;
      from = suc w;
      here = next;
      done = λ u a c k. done u a c k (ℕ_discrete u w);
      sound = λ t s u c a. sound t s u c (h.sound t (shape_within (omega arith) g.within s) u c a);
    }
  where
    now : Least n p₀ g.from r w
    now = least_node few i g.here

    done : (u : ℕ) → u < suc w → u < n → word p₀ n RANK u ≡ r → Dec (u ≡ w) → IsMarked p' n u × IsNoted p' n u
    done u a c k (yes o) = subst (λ (y : ℕ). IsMarked p' n y × IsNoted p' n y) (sym o) (j.raised.here, j.noted)
    done u a c k (no f) = let (m, o) = g.done u (early (dec_lt u g.from)) c k in (j.raised.grows u c m, j.raised.notes u c o)
      where
        early : Dec (u < g.from) → u < g.from
        early (yes y) = y
        early (no y) = let z = now.least u (omega arith) c k in absurd (omega arith)

    sound : (t : Tree) → Shape t n p₀ → (u : ℕ) → u < n → IsMarked p n u ⊎ Under t u w → (y : ℕ) × (y < n) × (word p₀ n RANK y ≡ r) × Under t u y
    sound t s u c (inl a) = g.sound t s u c a
    sound t s u c (inr k) = (w, i, now.ranked, k)

-- ── The marks ──
-- what is above a marked node is marked
marked_above : {t : Tree} {n : ℕ} {p : List ℕ} → Shape t n p → Closed n p → {v w m : ℕ} → Down t v w m → w < n → IsMarked p n w → IsMarked p n v
marked_above s c Down.here i a = a
marked_above {t} {n} {p} s c (Down.deeper {y = y} {z = z} d k) i a =
    let e = parent_of_lem s k in let l = child_after s.formed k in
    marked_above s c d (omega arith) (subst (λ u. IsMarked p n u) e (c.up z i a (omega arith)))

pub grouping_all : {n r w : ℕ} {p p₀ p' : List ℕ} → Filled n MARKED 0 n p p₀ → Grouping n r w p₀ p' → n ≤ w → Grouped n r p p'
grouping_all {n} {r} {w} {p} {p₀} {p'} f g end =
    record { within = whole; group = λ t d s k. record { shape = shape_within (omega arith) whole s; ranks = ranks_within t (omega arith) whole k; marks = marks t d s k; noted = noted t d s k } }
  where
    whole : Within n MARKED (suc MARKED) p p'
    whole = within_then f.within g.within

    rank : (u : ℕ) → u < n → word p₀ n RANK u ≡ word p n RANK u
    rank u i = before_within f.within RANK u (omega arith) i

    all : (u : ℕ) → u < n → word p₀ n RANK u ≡ r → IsMarked p' n u × IsNoted p' n u
    all u i k = go (dec_lt u g.from)
      where
        go : Dec (u < g.from) → IsMarked p' n u × IsNoted p' n u
        go (yes l) = g.done u l i k
        go (no l) = absurd (least_none end g.here u (omega arith) i k)

    marks : (t : Tree) (d : List ℕ) → Shape t n p → Ranks t d n r p → (v : ℕ) → v < n → Marked t d v ↔ IsMarked p' n v
    marks t d s k v i = (from, λ a. to (g.sound t (shape_within (omega arith) f.within s) v i a))
      where
        to : (x : ℕ) × (x < n) × (word p₀ n RANK x ≡ r) × Under t v x → Marked t d v
        to (x, l, e, u) = let z = s.size in (x, record { inside = omega arith; value = (k x l).0 (sym (rank x l) ∙ e) }, u)

        from : Marked t d v → IsMarked p' n v
        from (x, h, (m, u)) =
            let l : x < n = (let e = s.size in let j = h.inside in omega arith) in
            marked_above (shape_within (omega arith) whole s) g.closed u l (all x l (rank x l ∙ (k x l).1 h.value)).0

    noted : (t : Tree) (d : List ℕ) → Shape t n p → Ranks t d n r p → (v : ℕ) → Skeleton t d v → IsNoted p' n v
    noted t d s k v h = go ((skeleton_iff t d s.formed v).0 h)
      where
        node : {u : ℕ} → u < t.size → u < n
        node l = let e = s.size in omega arith

        here : Shape t n p'
        here = shape_within (omega arith) whole s

        -- the two children are marked and have one parent
        met : (a b : ℕ) → Child t true v a → Child t false v b → Marked t d a → Marked t d b → IsNoted p' n v
        met a b c e x y =
            g.closed.forked v a b (node (skeleton_inside t d s.formed v h)) (record {
              one = (node c.inside, (marks t d s k a (node c.inside)).0 x);
              two = (node e.inside, (marks t d s k b (node e.inside)).0 y);
              apart = λ i. true≢false (one_parent c (subst (λ (z : ℕ). Child t false v z) (sym i) e)).1;
              over = parent_of_lem here c;
              also = parent_of_lem here e;
            })

        go : Has t d v ⊎ BothMarked t d v → IsNoted p' n v
        go (inl x) = (all v (node x.inside) (rank v (node x.inside) ∙ (k v (node x.inside)).1 x.value)).1
        go (inr (a, b, c, e, x, y)) = met a b c e x y
