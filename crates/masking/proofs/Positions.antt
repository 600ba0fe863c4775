-- In two trees that are alike the positions of a comparison come to the same positions at the same nodes.
use Prim.Native.Nat.{ℕ, suc, ◌<◌}
use mathlib.Core.Path.{subst}
use mathlib.Core.Logic.{inl, inr, ◌↔◌}
use mathlib.Core.List.{List, [], ◌∷◌, ◌++◌}
use Rattle.lists.specs.Lists.{All}
use Rattle.lists.proofs.Lists.{all_append}
use Rattle.xpath.specs.Syntax.{XPath, empty, one, seq, union, star, Step, steps}
use Rattle.xpath.specs.Tree.{Tree}
use Rattle.xpath.proofs.Decide.{reaches_inside}
use Rattle.positions.specs.Positions.{Numbered, Comes, here, on, Ends}
use Rattle.masking.specs.Masking.{in_path, in_step}
use Rattle.masking.specs.Alike.{Alike, Within}
use Rattle.masking.proofs.Shape.{left, right, inside, alike_sym}
use Rattle.masking.proofs.Meaning.{moves_imp}

-- ── The constants of a path are those of its steps ──
module _ (C : List ℕ → Type 0) where
  abbrev Kept : Step → Type 0
  Kept s = Within C (in_step s)

  steps_within : (P : XPath) → Within C (in_path P) → All Kept (steps P)
  steps_within empty k = tt
  steps_within (one s) k = (k, tt)
  steps_within (seq P Q) k = (all_append Kept (steps P) (steps Q)).1 (steps_within P (left (in_path P) (in_path Q) k), steps_within Q (right (in_path P) (in_path Q) k))
  steps_within (union P Q) k = (all_append Kept (steps P) (steps Q)).1 (steps_within P (left (in_path P) (in_path Q) k), steps_within Q (right (in_path P) (in_path Q) k))
  steps_within (star P) k = steps_within P k

  numbered_within : (xs : List Step) → All Kept xs → (b j : ℕ) (s : Step) → Numbered b xs j s → Kept s
  numbered_within [] _ b j s e = elim e [ ]
  numbered_within (x ∷ xs) (h, hs) b j s (inl e) = subst Kept e.1 h
  numbered_within (x ∷ xs) (h, hs) b j s (inr n) = numbered_within xs hs (suc b) j s n

-- ── Chains ──
module _ {C : List ℕ → Type 0} (P R : XPath) (k : Within C (in_path P ++ in_path R)) where
  all_kept : All (Kept C) (steps P ++ steps R)
  all_kept = (all_append (Kept C) (steps P) (steps R)).1 (steps_within C P (left (in_path P) (in_path R) k), steps_within C R (right (in_path P) (in_path R) k))

  pub comes_imp : {t t' : Tree} → Alike C t t' → {i v j w : ℕ} → v < t.size → Comes P R t i v j w → Comes P R t' i v j w
  comes_imp a r here = here
  comes_imp {t} a {v = v} r (on {j = j} {u = u} s f n m c) =
      on s f n (moves_imp a s (numbered_within C (steps P ++ steps R) all_kept 1 j s n) v u r m) (comes_imp a (reaches_inside t a.formed (one s) v u r m) c)

  pub ends_imp : {t t' : Tree} → Alike C t t' → {i v w : ℕ} → v < t.size → Ends P R t i v w → Ends P R t' i v w
  ends_imp a r (j, l, c) = (j, l, comes_imp a r c)

  pub comes_alike : {t t' : Tree} → Alike C t t' → (i v j w : ℕ) → v < t.size → Comes P R t i v j w ↔ Comes P R t' i v j w
  comes_alike a i v j w r = (comes_imp a r, comes_imp (alike_sym a) (inside a r))
