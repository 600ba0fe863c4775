-- The matrix of one node becomes the closure of a relation; those of the other nodes stay.
use Prim.Native.Nat.{ℕ, ◌+◌, ◌*◌, ◌-◌, ◌≤◌, ◌<◌}
use mathlib.Core.Path.{◌≡◌, sym, ap, ◌∙◌, subst}
use mathlib.Core.Logic.{◌≢◌, ◌↔◌}
use mathlib.Core.List.{List}
use native.Mathlib.Decide.{ℕ_discrete, dec_lt}
use native.Mathlib.Omega.{arith}
use lib.ListN.{get_or}
use Rattle.bits.specs.Sets.{bit}
use Rattle.xpath.specs.Syntax.{XPath}
use Rattle.xpath.specs.Tree.{Tree}
use Rattle.layout.specs.Part.{STAYS, loop_at}
use Rattle.layout.specs.Words.{word}
use Rattle.matrices.specs.Matrices.{Related, Redrawn, pairs}
use Rattle.closures.specs.Closures.{Chain}
use Rattle.closures.proofs.Chains.{chain_one, chain_then}
use Rattle.matrices.proofs.Pairs.{pairs_same, pairs_split}
use Rattle.machine.specs.declared.Machine.{Machine}
use Rattle.detours.specs.Detours.{Goes}
use Rattle.loops.specs.Sound.{Sound}
use Rattle.loops.specs.Growing.{SoundBelow, Woven, total}
use Rattle.loops.proofs.Kept.{Front, word_kept}

-- ── What stays ──
module _ (n x : ℕ) {p p' : List ℕ} (only : Redrawn (loop_at n x) p p') where
  pub front_same : Front n p p'
  front_same k h = only.front k (omega arith)

  row_same : (y i : ℕ) → y ≢ x → i < 16 → get_or p' (loop_at n y + i) 0 ≡ get_or p (loop_at n y + i) 0
  row_same y i other l = go (dec_lt y x)
    where
      go : Dec (y < x) → get_or p' (loop_at n y + i) 0 ≡ get_or p (loop_at n y + i) 0
      go (yes h) = only.front (loop_at n y + i) (omega arith)
      go (no h) = only.behind (loop_at n y + i) (omega arith)

  pub stays : (y i j : ℕ) → y ≢ x → i < 16 → Related p (loop_at n y) i j ↔ Related p' (loop_at n y) i j
  stays y i j other l = (λ e. ap (λ (a : ℕ). bit a j) (row_same y i other l) ∙ e, λ e. ap (λ (a : ℕ). bit a j) (sym (row_same y i other l)) ∙ e)

  -- ── Sound and woven with the new matrix ──
  -- the nodes below k' are those below k and perhaps x
  module _ {k k' : ℕ} (all : (y : ℕ) → y < k' → y ≢ x → y < k) where
    pub sound_one : {P R : XPath} {t : Tree} → Sound P R t p' (loop_at n x) x → SoundBelow P R t n k p → SoundBelow P R t n k' p'
    sound_one {P} {R} {t} here old y h = go (ℕ_discrete y x)
      where
        go : Dec (y ≡ x) → Sound P R t p' (loop_at n y) y
        go (yes e) = subst (λ (z : ℕ). Sound P R t p' (loop_at n z) z) (sym e) here
        go (no e) = λ i j l q r. old y (all y h e) i j l q ((stays y i j e l).1 r)

    pub woven_one : {m : Machine} {A : ℕ → ℕ → Type 0} → k' ≤ n → ((i j : ℕ) → i < 16 → j < 16 → Related p' (loop_at n x) i j ↔ Chain A i j)
        → ((i j : ℕ) → x < k' → i < 16 → j < 16 → Goes m (word p n STAYS x) i j → A i j) → Woven m n k p → Woven m n k' p'
    woven_one {m} {A} inside closed bracket old = record {
      reflexive = λ y i h l. reflexive y i h l (ℕ_discrete y x);
      transitive = λ y i j o h l q r. transitive y i j o h l q r (ℕ_discrete y x);
      bracket = λ y i j h l q g. brackets y i j h l q (subst (λ (a : ℕ). Goes m a i j) (word_kept n p p' front_same STAYS y (omega arith) (omega arith)) g) (ℕ_discrete y x);
    }
      where
        reflexive : (y i : ℕ) → y < k' → i < 16 → Dec (y ≡ x) → Related p' (loop_at n y) i i
        reflexive y i h l (yes e) = subst (λ (z : ℕ). Related p' (loop_at n z) i i) (sym e) ((closed i i l l).1 Chain.none)
        reflexive y i h l (no e) = (stays y i i e l).0 (old.reflexive y i (all y h e) l)

        transitive : (y i j o : ℕ) → y < k' → i < 16 → j < 16 → o < 16 → Dec (y ≡ x)
            → Related p' (loop_at n y) i j → Related p' (loop_at n y) j o → Related p' (loop_at n y) i o
        transitive y i j o h l q r (yes e) a b =
            let c = (closed i j l q).0 (subst (λ (z : ℕ). Related p' (loop_at n z) i j) e a) in
            let d = (closed j o q r).0 (subst (λ (z : ℕ). Related p' (loop_at n z) j o) e b) in
            subst (λ (z : ℕ). Related p' (loop_at n z) i o) (sym e) ((closed i o l r).1 (chain_then c d))
        transitive y i j o h l q r (no e) a b = (stays y i o e l).0 (old.transitive y i j o (all y h e) l q r ((stays y i j e l).1 a) ((stays y j o e q).1 b))

        brackets : (y i j : ℕ) → y < k' → i < 16 → j < 16 → Goes m (word p n STAYS y) i j → Dec (y ≡ x) → Related p' (loop_at n y) i j
        brackets y i j h l q g (yes e) =
            subst (λ (z : ℕ). Related p' (loop_at n z) i j) (sym e)
            ((closed i j l q).1 (chain_one q (bracket i j (omega arith) l q (subst (λ (z : ℕ). Goes m (word p n STAYS z) i j) e g))))
        brackets y i j h l q g (no e) = (stays y i j e l).0 (old.bracket y i j (all y h e) l q g)

  -- ── What all matrices gain ──
  -- what this matrix gains all matrices gain
  pub total_more : (r : ℕ) → x < n → r + pairs p (loop_at n x) 16 ≤ pairs p' (loop_at n x) 16 → r + total n p ≤ total n p'
  total_more r h gain =
      let low = pairs_same p p' (16 * n) (16 * x) (λ i l. only.front (16 * n + i) (omega arith)) in
      let high = pairs_same p p' (loop_at n x + 16) (16 * (n - x - 1)) (λ i l. only.behind (loop_at n x + 16 + i) (omega arith)) in
      omega (arith, parts p, parts p')
    where
      parts : (q : List ℕ) → total n q ≡ pairs q (16 * n) (16 * x) + (pairs q (loop_at n x) 16 + pairs q (loop_at n x + 16) (16 * (n - x - 1)))
      parts q =
          let e : 16 * n ≡ 16 * x + (16 + 16 * (n - x - 1)) = omega arith in
          ap (pairs q (16 * n)) e ∙ pairs_split q (16 * n) (16 * x) (16 + 16 * (n - x - 1))
          ∙ ap (λ (a : ℕ). pairs q (16 * n) (16 * x) + a) (pairs_split q (loop_at n x) 16 (16 * (n - x - 1)))
