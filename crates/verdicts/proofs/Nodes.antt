-- Whether a list has numbers of nodes alone.
use Prim.Native.Nat.{ℕ, ◌+◌, ◌≤◌, ◌<◌}
use native.Mathlib.Numerals.{add-one}
use mathlib.Core.Path.{◌≡◌, refl, sym, ap, ◌∙◌, subst}
use mathlib.Core.Logic.{◌⊎◌, inl, inr, ◌↔◌}
use mathlib.Core.Bool.{Bool, true, false, false≢true}
use mathlib.Core.List.{List, [], ◌∷◌}
use lib.ListN.{length, get_or, drop, drop_of_length-le}
use lib.Seq.{drop-cons}
use lib.Dec.{ltb}
use borrow.Author.Tests.{ltb-true, ltb-false}
use Rattle.lists.specs.Lists.{All, Occurs}
use Rattle.lists.proofs.Indices.{all_at, at_all}
use Rattle.verdicts.specs.Judging.{HasNodes}

-- ── Looked at from the front ──
-- if those from i on are numbers of nodes, all are
abbrev pub Behind : ℕ → List ℕ → ℕ → Type 0
Behind n vs i = All (λ w. w < n) (drop i vs) → All (λ w. w < n) vs

pub behind_more : (n : ℕ) (vs : List ℕ) (i : ℕ) → i < length vs → get_or vs i 0 < n → Behind n vs i → Behind n vs (i + 1)
behind_more n vs i l h f a =
    let e : drop i vs ≡ get_or vs i 0 ∷ drop (i + 1) vs = drop-cons vs i 0 l ∙ ap (λ j. get_or vs i 0 ∷ drop j vs) (sym (add-one i)) in
    f (subst (All (λ w. w < n)) (sym e) (h, a))

pub behind_all : (n : ℕ) (vs : List ℕ) (i : ℕ) → length vs ≤ i → Behind n vs i → All (λ w. w < n) vs
behind_all n vs i l f = f (subst (All (λ w. w < n)) (sym (drop_of_length-le vs l)) tt)

-- ── Looked at all together ──
-- all are, or there is one that is not
abbrev Looked : ℕ → List ℕ → Type 0
Looked n vs = All (λ w. w < n) vs ⊎ ((w : ℕ) × Occurs w vs × (n ≤ w))

look : (n : ℕ) (vs : List ℕ) → Looked n vs
look n [] = inl tt
look n (v ∷ vs) = go (ltb v n) refl (look n vs)
  where
    go : (b : Bool) → ltb v n ≡ b → Looked n vs → Looked n (v ∷ vs)
    go true e (inl h) = inl (ltb-true v n e, h)
    go true e (inr (w, o, l)) = inr (w, inr o, l)
    go false e h = inr (v, inl refl, ltb-false v n e)

pub has_nodes_by : (vs : List ℕ) (n : ℕ) (b : Bool) → (b ≡ true) ↔ ((k : ℕ) → k < length vs → get_or vs k 0 < n) → HasNodes vs n b
has_nodes_by vs n true h = all_at 0 (λ w. w < n) vs (h.0 refl)
has_nodes_by vs n false h = go (look n vs)
  where
    go : Looked n vs → HasNodes vs n false
    go (inl a) = absurd (false≢true (h.1 (at_all 0 (λ w. w < n) vs a)))
    go (inr x) = x
