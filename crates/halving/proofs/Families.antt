-- Sets of snippets and their words, and what halving makes of a set.
use Prim.Native.Nat.{ℕ, zero, suc, ◌+◌, ◌^◌, ◌<◌}
use mathlib.Core.Path.{◌≡◌, sym, ap, ◌∙◌, subst}
use mathlib.Core.Bool.{false≢true}
use mathlib.Core.Logic.{◌↔◌}
use mathlib.Core.List.{List}
use native.Mathlib.Omega.{arith}
use native.Mathlib.Decide.{dec_lt}
use lib.ListN.{get_or}
use Rattle.bits.specs.Sets.{bit}
use Rattle.bits.proofs.SetLaws.{bit_none}
use Rattle.xpath.specs.Syntax.{XPath}
use Rattle.xpath.specs.Tree.{Tree, WellFormed, Down, here, deeper}
use Rattle.xpath.proofs.Trees.{parent_of_lem}
use Rattle.snippets.specs.Halves.{Family, Halved, direct, upper_half, lower_half}
use Rattle.matrices.specs.Matrices.{Related}
use Rattle.layout.specs.Blocks.{snippet_at}
use Rattle.powers.proofs.Ancestors.{one_above}
use Rattle.halving.specs.Halving.{Inside, Within, Sets, Marked, Topped}

-- ── Whether a node lies so far above another ──
step_up_lem : {t : Tree} {x y m : ℕ} → Down t x y (suc m) → (0 < y) × (y < t.size) × Down t x (t.parent y) m
step_up_lem {t} {x} {m = m} (deeper d c) = (c.inner, c.inside, subst (λ u. Down t x u m) (sym c.above) d)

pub dec_above : (t : Tree) (m y : ℕ) → Dec ((x : ℕ) × Down t x y m)
dec_above t zero y = yes (y, here)
dec_above t (suc m) y = go (dec_lt 0 y) (dec_lt y t.size) (dec_above t m (t.parent y))
  where
    go : Dec (0 < y) → Dec (y < t.size) → Dec ((x : ℕ) × Down t x (t.parent y) m) → Dec ((x : ℕ) × Down t x y (suc m))
    go (yes a) (yes b) (yes (x, d)) = yes (x, deeper d (parent_of_lem a b))
    go (yes a) (yes b) (no f) = no (λ (x, d). f (x, (step_up_lem d).2))
    go (yes a) (no f) h = no (λ (x, d). f (step_up_lem d).1)
    go (no f) g h = no (λ (x, d). f (step_up_lem d).0)

-- ── A set and its words ──
module _ {t : Tree} {n b : ℕ} {p : List ℕ} where
  -- the words are those of the snippets that they have
  pub topped_sets : Topped t n b p → Sets t n b p (Marked t n b p)
  topped_sets h = record {
    same = λ k y i j a c d e. (
      λ r. let (x, o) = h.top k y i j a c d e r in (x, o, record { inside = record { power = a; lower = c; apart = o; first = d; second = e }; marked = r }),
      λ (x, o, m). m.marked,
    );
  }

  module _ {S : Family} (h : Sets t n b p S) where
    pub sets_topped : Topped t n b p
    sets_topped = record { top = λ k y i j a c d e r. let (x, o, m) = (h.same k y i j a c d e).0 r in (x, o) }

    -- for the one node x that lies 2^k above y
    pub sets_at : WellFormed t → (k x y i j : ℕ) → Inside t n b k x y i j → Related p (snippet_at n k y) i j ↔ S k x y i j
    sets_at wf k x y i j o = (
      λ r. let (u, d, m) = same.0 r in subst (λ z. S k z y i j) (one_above wf d o.apart) m,
      λ m. same.1 (x, o.apart, m),
    )
      where
        same : Related p (snippet_at n k y) i j ↔ ((x : ℕ) × Down t x y (2 ^ k) × S k x y i j)
        same = h.same k y i j o.power o.lower o.first o.second

    -- what the words have is the set, if that keeps to their bounds
    pub sets_marked : WellFormed t → Within t n b S → (k x y i j : ℕ) → Marked t n b p k x y i j ↔ S k x y i j
    sets_marked wf w k x y i j = (
      λ m. (sets_at wf k x y i j m.inside).0 m.marked,
      λ s. let o = w k x y i j s in record { inside = o; marked = (sets_at wf k x y i j o).1 s },
    )

pub topped_of : (t : Tree) (n b : ℕ) (p : List ℕ)
    → ((k y i : ℕ) → k < b → y < n → i < 16 → ((x : ℕ) → ¬ Down t x y (2 ^ k)) → get_or p (snippet_at n k y + i) 0 ≡ 0) → Topped t n b p
topped_of t n b p zero-words = record { top = λ k y i j a c d e r. go k y i j a c d r (dec_above t (2 ^ k) y) }
  where
    go : (k y i j : ℕ) → k < b → y < n → i < 16 → Related p (snippet_at n k y) i j → Dec ((x : ℕ) × Down t x y (2 ^ k)) → (x : ℕ) × Down t x y (2 ^ k)
    go k y i j a c d r (yes h) = h
    go k y i j a c d r (no f) = absurd (false≢true (sym (bit_none j) ∙ ap (λ w. bit w j) (sym (zero-words k y i a c d (λ x o. f (x, o)))) ∙ r))

-- ── Halving ──
module _ {P R : XPath} {t : Tree} where
  -- the exponents go down
  pub halved_below : {D : Family} {b : ℕ} → ((k x y i j : ℕ) → D k x y i j → k < b) → {k x y i j : ℕ} → Halved P R t D k x y i j → k < b
  halved_below f (direct d) = f _ _ _ _ _ d
  halved_below f (upper_half h a c e) = let r = halved_below f h in omega arith
  halved_below f (lower_half h a c e) = let r = halved_below f h in omega arith
