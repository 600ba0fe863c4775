-- The empty work list, where nothing is seen.
use Prim.Native.Nat.{ℕ, ◌<◌}
use mathlib.Core.Path.{◌≡◌, sym, ap, ◌∙◌}
use mathlib.Core.Logic.{⊎_map}
use mathlib.Core.Bool.{false≢true}
use mathlib.Core.List.{List}
use native.Mathlib.Omega.{arith}
use Rattle.bits.specs.Sets.{bit}
use Rattle.bits.proofs.SetLaws.{bit_none}
use Rattle.layout.specs.Part.{SEEN, Space}
use Rattle.layout.specs.Words.{word, Filled}
use Rattle.layout.proofs.Frames.{within_frame, frame_same}
use Rattle.reach.specs.Work.{Seen, Work, Spared}
use Rattle.reach.proofs.Adding.{spared_space}

-- nothing is seen where the list is empty
pub unseen : {n : ℕ} {p : List ℕ} → Work n 0 p → (v i : ℕ) → v < n → i < 16 → ¬ Seen p n v i
unseen g v i l h s = let (k, q, e, b) = g.listed v i l h s in absurd (omega arith)

-- and where nothing is seen, the list is empty
pub work_unseen : {n : ℕ} {p : List ℕ} → Space n p → ((v i : ℕ) → v < n → i < 16 → ¬ Seen p n v i) → Work n 0 p
work_unseen space none =
    record {
      space = space;
      nodes = λ k h. absurd (omega arith);
      told = λ k j h. absurd (omega arith);
      listed = λ u j h l s. absurd (none u j h l s);
      once = λ k l j h. absurd (omega arith);
      count = omega arith;
    }

pub cleared_spared : {n d : ℕ} {p p' : List ℕ} → Filled n SEEN 0 n p p' → Spared n d p p'
cleared_spared c = record { same = frame_same (λ k. ⊎_map (λ h. h) (λ (l, h). l)) (within_frame c.within) }

module _ (n : ℕ) (p : List ℕ) (empty : (u : ℕ) → u < n → word p n SEEN u ≡ 0) where
  pub cleared_unseen : (u j : ℕ) → u < n → ¬ Seen p n u j
  cleared_unseen u j h s = false≢true (sym (bit_none j) ∙ ap (λ (x : ℕ). bit x j) (sym (empty u h)) ∙ s)

  pub work_none : Space n p → Work n 0 p
  work_none space = work_unseen space (λ u j h l. cleared_unseen u j h)

pub cleared_work : {n : ℕ} {p p' : List ℕ} → Filled n SEEN 0 n p p' → Space n p → Work n 0 p'
cleared_work c space = work_none _ _ c.filled (spared_space (cleared_spared {d = SEEN} c) space)
