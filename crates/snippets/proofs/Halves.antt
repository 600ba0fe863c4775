-- What halving makes of a set of snippets, and that it makes all that is yielded of what the first snippets yield.
use Prim.Native.Nat.{ℕ}
use mathlib.Core.Logic.{◌⊎◌, ⊎_map, ◌↔◌}
use mathlib.Core.List.{List}
use Rattle.xpath.specs.Syntax.{XPath}
use Rattle.xpath.specs.Tree.{Tree}
use Rattle.snippets.specs.Snippets.{Yielded}
use Rattle.snippets.specs.Direct.{Direct}
use Rattle.snippets.specs.Halves.{Family, Halved, direct, upper_half, lower_half}
use Rattle.snippets.proofs.Direct.{first_iff}

-- ── Sets to begin with ──
-- of nothing it makes nothing
pub halved_none : {P R : XPath} {t : Tree} {D : Family} → ((k x y p q : ℕ) → ¬ D k x y p q) → {k x y p q : ℕ} → ¬ Halved P R t D k x y p q
halved_none f (direct d) = f _ _ _ _ _ d
halved_none f (upper_half h a c e) = halved_none f h
halved_none f (lower_half h a c e) = halved_none f h

module _ {P R : XPath} {t : Tree} {D E : Family} where
  -- of more it makes more
  pub halved_map : ((k x y p q : ℕ) → D k x y p q → E k x y p q) → {k x y p q : ℕ} → Halved P R t D k x y p q → Halved P R t E k x y p q
  halved_map f (direct d) = direct (f _ _ _ _ _ d)
  halved_map f (upper_half h a c e) = upper_half (halved_map f h) a c e
  halved_map f (lower_half h a c e) = lower_half (halved_map f h) a c e

  -- and nothing of two that it does not make of one of them: a snippet is the half of one snippet
  pub halved_or : {k x y p q : ℕ} → Halved P R t (λ k x y p q. D k x y p q ⊎ E k x y p q) k x y p q → Halved P R t D k x y p q ⊎ Halved P R t E k x y p q
  halved_or (direct d) = ⊎_map direct direct d
  halved_or (upper_half h a c e) = ⊎_map (λ z. upper_half z a c e) (λ z. upper_half z a c e) (halved_or h)
  halved_or (lower_half h a c e) = ⊎_map (λ z. lower_half z a c e) (λ z. lower_half z a c e) (halved_or h)

-- it depends on the set alone
pub halved_iff : {P R : XPath} {t : Tree} {D E : Family} → ((k x y p q : ℕ) → D k x y p q ↔ E k x y p q) → (k x y p q : ℕ) → Halved P R t D k x y p q ↔ Halved P R t E k x y p q
halved_iff same k x y p q = (halved_map (λ k x y p q. (same k x y p q).0), halved_map (λ k x y p q. (same k x y p q).1))

-- ── All that is yielded ──
-- if D has just what the first snippets yield, D and its halves are all that is yielded
module _ {P R : XPath} {t : Tree} {D : Family} where
  pub halved_yielded : ((k x y p q : ℕ) → D k x y p q → Yielded t P R k x y p q) → {k x y p q : ℕ} → Halved P R t D k x y p q → Yielded t P R k x y p q
  halved_yielded f (direct d) = f _ _ _ _ _ d
  halved_yielded f (upper_half h a c e) = Yielded.upper_half (halved_yielded f h) a c e
  halved_yielded f (lower_half h a c e) = Yielded.lower_half (halved_yielded f h) a c e

  pub yielded_halved : ((d : List ℕ) (k x y p q : ℕ) → Direct t P R d k x y p q → D k x y p q) → {k x y p q : ℕ} → Yielded t P R k x y p q → Halved P R t D k x y p q
  yielded_halved f (Yielded.upper {n = n} {x = x} {y = y} {p = p} {q = q} g lo hi xu uy c) = let (d, z) = (first_iff t P R x y p q n).0 g in direct (f d _ _ _ _ _ (Direct.upper z lo hi xu uy c))
  yielded_halved f (Yielded.lower {n = n} {x = x} {y = y} {p = p} {q = q} g lo hi xw wy c) = let (d, z) = (first_iff t P R x y p q n).0 g in direct (f d _ _ _ _ _ (Direct.lower z lo hi xw wy c))
  yielded_halved f (Yielded.upper_half h a c e) = upper_half (yielded_halved f h) a c e
  yielded_halved f (Yielded.lower_half h a c e) = lower_half (yielded_halved f h) a c e
