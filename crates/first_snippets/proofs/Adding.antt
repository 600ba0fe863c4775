-- The snippets of one value after the other.
use Prim.Native.Nat.{ℕ, suc, ◌≤◌, ◌<◌}
use mathlib.Core.Path.{◌≡◌, refl, sym, ◌∙◌, subst}
use mathlib.Core.Logic.{◌⊎◌, inl, inr, ◌↔◌}
use mathlib.Core.List.{List}
use native.Mathlib.Nat.{eq-or-lt_of_le}
use native.Mathlib.Omega.{arith}
use Rattle.xpath.specs.Syntax.{XPath}
use Rattle.xpath.specs.Tree.{Tree, WellFormed, Under}
use Rattle.xpath.proofs.Trees.{down_le, under_refl, under_antisym}
use Rattle.snippets.specs.Snippets.{Has, Skeleton}
use Rattle.snippets.specs.Direct.{Direct}
use Rattle.snippets.proofs.Marks.{skeleton_inside}
use Rattle.snippets.proofs.Direct.{direct_iff}
use Rattle.layout.specs.Groups.{FIRST, NEXT, MARKED}
use Rattle.layout.specs.Table.{RANK}
use Rattle.layout.specs.Words.{word}
use Rattle.table.specs.Links.{Points}
use Rattle.machine.specs.declared.Machine.{Machine}
use Rattle.machine.proofs.Comparing.{ranks_same}
use Rattle.powers.specs.Powers.{Founded}
use Rattle.buckets.specs.Buckets.{Least, Buckets}
use Rattle.group_marks.specs.Groups.{Ranks, Grouped}
use Rattle.buckets.proofs.Least.{least_node, least_none, next_ranked, buckets_kept}
use Rattle.group_ends.specs.Ends.{Setting, Given}
use Rattle.layout.specs.Blocks.{Rest}
use Rattle.first_snippets.specs.Groups.{Yields, Base, Grounds, Added, OfRanks, AddedOf, Somewhere, Alone}
use Rattle.group_ends.specs.Steps.{Rose}
use Rattle.first_snippets.specs.Steps.{Sank}
use Rattle.layout.proofs.Rest.{rest_none, rest_then, rest_more, rest_within, same_word}
use Rattle.powers.proofs.Rest.{sizes_rest, founded_rest, stage_shape}
use Rattle.group_ends.proofs.Rest.{setting_rest}
use Rattle.edge_snippets.proofs.Gains.{gains_same, gains_then, gains_iff, gains_before}

-- ── One value ──
marked_setting : {P R : XPath} {t : Tree} {d : List ℕ} {m : Machine} {n b r : ℕ} {p p₁ : List ℕ} → Grouped n r p p₁ → Founded P R t m n b p → Ranks t d n r p → Setting P R t d m n b r p₁
marked_setting {t = t} {d} {n = n} {b} {p = p} {p₁} g f ranks =
    let h : Rest MARKED n b p p₁ = rest_within (omega arith) g.within in
    record { founded = founded_rest h (omega arith) f; group = g.group t d (stage_shape f.stage) ranks }

pub given_marked : {m : Machine} {n b r : ℕ} {p p₁ : List ℕ} → Grounds m n b r p → Grouped n r p p₁ → Given m n b r p₁
given_marked {n = n} {b} {p = p} {p₁} s g =
    let o = s.base in
    let h : Rest MARKED n b p p₁ = rest_within (omega arith) g.within in
    record { first = o.first; second = o.second; tree = o.tree; value = s.value; setting = marked_setting g o.founded s.ranks; enough = o.enough; sizes = sizes_rest h o.sizes }

-- each edge is that above its lower node
edges_direct : (P R : XPath) (t : Tree) (d : List ℕ) → WellFormed t → {n : ℕ} → t.size ≡ n → (k a y i j : ℕ) → ((z : ℕ) × (z < n) × Yields P R t d z k a y i j) ↔ Direct t P R d k a y i j
edges_direct P R t d wf size k a y i j = (
  λ (z, l, (x, q, e, (lo, hi, s))). (direct_iff t P R d k a y i j).1 (x, z, q, e, lo, hi, s),
  λ f. let (x, z, q, e, lo, hi, s) = (direct_iff t P R d k a y i j).0 f in let h = skeleton_inside t d wf z e.bottom in (z, omega arith, (x, q, e, (lo, hi, s))),
)

pub group_added : {m : Machine} {n b first r : ℕ} {p p₁ p₂ p₃ : List ℕ} → Grouped n r p p₁ → Rose m n b r p₁ p₂ → Sank m n b first r n p₂ p₃ → Added m n b first r p p₃
group_added {m} {n} {b} {first} {r} {p} {p₁} {p₂} {p₃} g u s = record {
  rest = rest_then (rest_within (omega arith) g.within) (rest_then (rest_more (omega arith) up) (rest_more (omega arith) s.rest));
  found = λ P R t d f ranks split.
      let set = marked_setting g f ranks in
      let (sunk, gains) = s.found P R t d (setting_rest up set) split (u.found P R t d set) in
      gains_iff (λ k a y i j _ _ _ _ _. edges_direct P R t d f.stage.formed f.stage.drawn.size k a y i j) (gains_before (λ l h. u.within.behind l (omega arith) ∙ g.within.behind l (omega arith)) gains);
}
  where
    up : Rest 12 n b p₁ p₂
    up = rest_within (omega arith) u.within

-- ── The nodes by rank ──
pub base_rest : {m : Machine} {n b : ℕ} {p p' : List ℕ} → Rest MARKED n b p p' → Base m n b p → Base m n b p'
base_rest h s = record {
  first = s.first;
  second = s.second;
  tree = s.tree;
  founded = founded_rest h (omega arith) s.founded;
  buckets = buckets_kept (λ v l. same_word h RANK v (omega arith) l) (λ r l. same_word h FIRST r (omega arith) l) (λ v l. same_word h NEXT v (omega arith) l) s.buckets;
  enough = s.enough;
  sizes = sizes_rest h s.sizes;
}

module _ {n r w : ℕ} {p : List ℕ} (buckets : Buckets n p) (few : n ≤ 4096) (rank : r < n) (first : w ≡ word p n FIRST r) where
  here : Points (Least n p 0 r) w
  here = subst (λ (x : ℕ). Points (Least n p 0 r) x) (sym first) (buckets.first r rank)

  pub none_alone : ¬ (w < n) → Alone n r p
  none_alone f u v a c e g = absurd (least_none (omega arith) here u (omega arith) a e)

  pub first_somewhere : w < n → Somewhere n r p
  first_somewhere h = let l = least_node few h here in (w, h, l.ranked)

  pub first_alone : {x : ℕ} → w < n → x ≡ word p n NEXT w → ¬ (x < n) → Alone n r p
  first_alone {x} h e f u v a c i j = let z = one u a i in let y = one v c j in omega arith
    where
      l : Least n p 0 r w
      l = least_node few h here

      next : Points (Least n p (suc w) r) x
      next = next_ranked buckets rank h l.ranked e

      one : (u : ℕ) → u < n → word p n RANK u ≡ r → u ≡ w
      one u a i = go (eq-or-lt_of_le (l.least u (omega arith) a i))
        where
          go : (w ≡ u) ⊎ (w < u) → u ≡ w
          go (inl q) = sym q
          go (inr q) = absurd (least_none (omega arith) next u q a i)

-- ── One rank ──
founded_ranks : {P R : XPath} {t : Tree} {m : Machine} {n b r w : ℕ} {p : List ℕ} → Founded P R t m n b p → w < n → word p n RANK w ≡ r → Ranks t (t.value w) n r p
founded_ranks {t = t} {w = w} {p} f node e u h = let same = ranks_same t p f.stage.ranks u w h node in (λ q. same.0 (q ∙ sym e), λ q. same.1 q ∙ e)

pub grounds_of : {m : Machine} {n b r : ℕ} {p : List ℕ} → Base m n b p → r < n → Somewhere n r p → Grounds m n b r p
grounds_of s rank (w, node, e) = record { base = s; rank = rank; value = s.tree.value w; ranks = founded_ranks s.founded node e }

pub rank_added : {m : Machine} {n b first r : ℕ} {p p' : List ℕ} → Somewhere n r p → Added m n b first r p p' → AddedOf (λ z. z ≡ r) m n b first p p'
rank_added {n = n} {r = r} {p} (w, node, e) h = record {
  rest = h.rest;
  found = λ P R t f split.
      gains_iff (λ k x y i j _ _ _ _ _. (
        λ g. (w, node, e, g),
        λ (u, a, q, g). subst (λ (d : List ℕ). Direct t P R d k x y i j) ((founded_ranks f node e u a).0 q) g,
      )) (h.found P R t (t.value w) f (founded_ranks f node e) split);
}

-- where the skeleton has one node it has no edge
alone_skeleton : {t : Tree} {d : List ℕ} (wf : WellFormed t) {v : ℕ} → ((u : ℕ) → Has t d u → u ≡ v) → {x : ℕ} → Skeleton t d x → x ≡ v
alone_skeleton {t} {d} wf {v} one {x} k =
    let e : k.u ≡ k.w = one k.u k.has_u ∙ sym (one k.w k.has_w) in
    let h = k.meet.closest k.u (under_refl t wf k.u) (subst (λ (z : ℕ). Under t k.u z) e (under_refl t wf k.u)) in
    under_antisym t wf x k.u k.meet.left h ∙ one k.u k.has_u

pub rank_alone : {m : Machine} {n b first r : ℕ} {p : List ℕ} → Alone n r p → AddedOf (λ z. z ≡ r) m n b first p p
rank_alone {n = n} {b} {r = r} {p} alone = record {
  rest = rest_none MARKED n b p;
  found = λ P R t f split. gains_same (λ l h. refl) (λ k x y i j (w, node, e, g).
      let (a, z, q, edge, lo, hi, s) = (direct_iff t P R (t.value w) k x y i j).0 g in
      let wf = f.stage.formed in
      let size = f.stage.drawn.size in
      let one : (u : ℕ) → Has t (t.value w) u → u ≡ w = λ u h. let c = h.inside in alone u w (omega arith) node ((founded_ranks f node e u (omega arith)).1 h.value) e in
      let top = alone_skeleton wf one edge.top in
      let bottom = alone_skeleton wf one edge.bottom in
      let h = down_le t wf edge.far in
      let proper = edge.proper in
      absurd (omega arith));
}

-- ── Several ranks ──
module _ {m : Machine} {n b first : ℕ} where
  pub added_none : {S : ℕ → Type 0} (p : List ℕ) → ((z : ℕ) → ¬ S z) → AddedOf S m n b first p p
  added_none p none = record { rest = rest_none MARKED n b p; found = λ P R t f split. gains_same (λ l h. refl) (λ k x y i j (w, node, e, g). absurd (none _ e)) }

  pub added_then : {S U W : ℕ → Type 0} {p p₁ p₂ : List ℕ} → AddedOf S m n b first p p₁ → AddedOf U m n b first p₁ p₂ → ((z : ℕ) → (S z ⊎ U z) ↔ W z) → AddedOf W m n b first p p₂
  added_then {S} {U} {W} {p} {p₁} {p₂} g h both = record {
    rest = rest_then g.rest h.rest;
    found = λ P R t f split.
        gains_then (g.found P R t f split) (h.found P R t (founded_rest g.rest (omega arith) f) split)
        (λ k x y i j. (to P R t k x y i j, from P R t k x y i j));
  }
    where
      to : (P R : XPath) (t : Tree) (k x y i j : ℕ) → OfRanks S P R t n p k x y i j ⊎ OfRanks U P R t n p₁ k x y i j → OfRanks W P R t n p k x y i j
      to P R t k x y i j (inl (w, node, e, f)) = (w, node, (both (word p n RANK w)).0 (inl e), f)
      to P R t k x y i j (inr (w, node, e, f)) = (w, node, (both (word p n RANK w)).0 (inr (subst U (same_word g.rest RANK w (omega arith) node) e)), f)

      from : (P R : XPath) (t : Tree) (k x y i j : ℕ) → OfRanks W P R t n p k x y i j → OfRanks S P R t n p k x y i j ⊎ OfRanks U P R t n p₁ k x y i j
      from P R t k x y i j (w, node, e, f) = go ((both (word p n RANK w)).1 e)
        where
          go : S (word p n RANK w) ⊎ U (word p n RANK w) → OfRanks S P R t n p k x y i j ⊎ OfRanks U P R t n p₁ k x y i j
          go (inl q) = inl (w, node, q, f)
          go (inr q) = inr (w, node, subst U (sym (same_word g.rest RANK w (omega arith) node)) q, f)
