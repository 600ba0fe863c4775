-- The values of the nodes in a list, one after the other.
use Prim.Native.Nat.{ℕ, ◌+◌, ◌≤◌, ◌<◌}
use mathlib.Core.Path.{◌≡◌, refl, sym, ap, ◌∙◌, subst}
use mathlib.Core.Logic.{◌⊎◌, inl, inr, ◌↔◌}
use mathlib.Core.List.{List, [], ◌∷◌, ◌++◌}
use lib.ListN.{length, get_or, take}
use lib.Seq.{take-suc, take_all}
use native.Mathlib.Numerals.{add-one}
use native.Mathlib.Omega.{arith}
use Rattle.lists.specs.Lists.{All, Occurs}
use Rattle.lists.proofs.Lists.{all_occurs, occurs_left, occurs_right, occurs_append}
use Rattle.lists.proofs.Indices.{at_all}
use Rattle.xpath.specs.Syntax.{XPath}
use Rattle.xpath.specs.Tree.{Tree}
use Rattle.snippets.specs.Direct.{Direct}
use Rattle.snippets.specs.Values.{DirectBy}
use Rattle.layout.specs.Table.{RANK}
use Rattle.layout.specs.Words.{word}
use Rattle.layout.proofs.Rest.{same_word}
use Rattle.machine.specs.declared.Machine.{Machine}
use Rattle.machine.proofs.Comparing.{ranks_small, ranks_same}
use Rattle.powers.specs.Powers.{Founded}
use Rattle.edge_snippets.proofs.Gains.{gains_iff}
use Rattle.first_snippets.specs.Groups.{Base, OfRanks, AddedOf, RankIn, AddedBy}
use Rattle.first_snippets.proofs.Adding.{added_none, added_then}

-- ── Nodes of the list ──
pub node_at : {n : ℕ} (vs : List ℕ) → All (λ w. w < n) vs → (i : ℕ) → i < length vs → get_or vs i 0 < n
node_at {n} vs = at_all 0 (λ w. w < n) vs

pub rank_at : {m : Machine} {n b r : ℕ} {p : List ℕ} (vs : List ℕ) → Base m n b p → All (λ w. w < n) vs → (i : ℕ) → i < length vs → r ≡ word p n RANK (get_or vs i 0) → r < n
rank_at {p = p} vs o nodes i l e = let small = ranks_small o.tree p o.founded.stage.ranks (get_or vs i 0) (node_at vs nodes i l) in omega arith

-- the rank z is that of u, or of a node before it
rank_more : (vs : List ℕ) (u n : ℕ) (p : List ℕ) (z : ℕ) → (RankIn vs n p z ⊎ (z ≡ word p n RANK u)) ↔ RankIn (vs ++ (u ∷ [])) n p z
rank_more vs u n p z = (to, λ (w, o, e). from w e (occurs_append w vs (u ∷ []) o))
  where
    to : RankIn vs n p z ⊎ (z ≡ word p n RANK u) → RankIn (vs ++ (u ∷ [])) n p z
    to (inl (w, o, e)) = (w, occurs_left w vs (u ∷ []) o, e)
    to (inr e) = (u, occurs_right u vs (u ∷ []) (inl refl), sym e)

    from : (w : ℕ) → word p n RANK w ≡ z → Occurs w vs ⊎ Occurs w (u ∷ []) → RankIn vs n p z ⊎ (z ≡ word p n RANK u)
    from w e (inl o) = inl (w, o, e)
    from w e (inr (inl o)) = inr (sym e ∙ ap (λ (x : ℕ). word p n RANK x) o)
    from w e (inr (inr o)) = absurd o

-- ── One node after the other ──
-- the first i nodes are taken
pub record Taking (vs : List ℕ) (i : ℕ) (m : Machine) (n b first : ℕ) (p p' : List ℕ) : Type 0 where
  pub inside : i ≤ length vs
  pub added : AddedOf (RankIn (take i vs) n p) m n b first p p'

module _ {vs : List ℕ} {m : Machine} {n b first : ℕ} where
  pub taking_none : (p : List ℕ) → Taking vs 0 m n b first p p
  taking_none p = record { inside = omega arith; added = added_none p (λ z (w, o, e). o) }

  pub taking_step : {i r : ℕ} {p p₁ p₂ : List ℕ} → All (λ w. w < n) vs → i < length vs → r ≡ word p₁ n RANK (get_or vs i 0)
      → Taking vs i m n b first p p₁ → AddedOf (λ z. z ≡ r) m n b first p₁ p₂ → Taking vs (i + 1) m n b first p p₂
  taking_step {i} {r} {p} {p₁} {p₂} nodes l e g h = record { inside = omega arith; added = subst (λ (ws : List ℕ). AddedOf (RankIn ws n p) m n b first p p₂) next (added_then g.added h more) }
    where
      u : ℕ
      u = get_or vs i 0

      same : r ≡ word p n RANK u
      same = e ∙ same_word g.added.rest RANK u (omega arith) (node_at vs nodes i l)

      more : (z : ℕ) → (RankIn (take i vs) n p z ⊎ (z ≡ r)) ↔ RankIn (take i vs ++ (u ∷ [])) n p z
      more z = subst (λ (x : ℕ). (RankIn (take i vs) n p z ⊎ (z ≡ x)) ↔ RankIn (take i vs ++ (u ∷ [])) n p z) (sym same) (rank_more (take i vs) u n p z)

      next : take i vs ++ (u ∷ []) ≡ take (i + 1) vs
      next = rw add-one (sym (take-suc vs i 0 l))

-- ── The whole list ──
-- nodes of equal rank have the same value
ranks_direct : (vs : List ℕ) {P R : XPath} {t : Tree} {m : Machine} {n b : ℕ} {p : List ℕ} → All (λ w. w < n) vs → Founded P R t m n b p
    → (k x y i j : ℕ) → OfRanks (RankIn vs n p) P R t n p k x y i j ↔ DirectBy t vs P R k x y i j
ranks_direct vs {P} {R} {t} {n = n} {p = p} nodes f k x y i j = (
  λ (w, node, (u, o, e), g). (t.value w, (u, o, (ranks_same t p f.stage.ranks u w (inside u o) node).0 e), g),
  λ (d, (u, o, e), g). (u, inside u o, (u, o, refl), subst (λ (d : List ℕ). Direct t P R d k x y i j) (sym e) g),
)
  where
    inside : (u : ℕ) → Occurs u vs → u < n
    inside = (all_occurs (λ w. w < n) vs).0 nodes

pub taking_all : {vs : List ℕ} {i : ℕ} {m : Machine} {n b first : ℕ} {p p' : List ℕ} → All (λ w. w < n) vs → length vs ≤ i → Taking vs i m n b first p p' → AddedBy vs m n b first p p'
taking_all {vs} {i} {m} {n} {b} {first} {p} {p'} nodes l g = record { rest = h.rest; found = λ P R t f split. gains_iff (λ k x y i j _ _ _ _ _. ranks_direct vs nodes f k x y i j) (h.found P R t f split) }
  where
    h : AddedOf (RankIn vs n p) m n b first p p'
    h = subst (λ (ws : List ℕ). AddedOf (RankIn ws n p) m n b first p p') (take_all i vs l) g.added
