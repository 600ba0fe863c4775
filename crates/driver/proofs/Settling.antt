-- One test after the other: what a settled test leaves, and when the next one is due.
use Prim.Native.Nat.{ℕ, ◌<◌}
use native.Mathlib.Decide.{ℕ_discrete}
use native.Mathlib.Omega.{arith}
use mathlib.Core.Path.{◌≡◌, sym, ◌∙◌, subst}
use mathlib.Core.Logic.{◌↔◌, ⊎_elim}
use mathlib.Core.Bool.{true}
use mathlib.Core.List.{List, [], ◌∷◌, ◌++◌}
use lib.ListN.{length, get_or}
use Rattle.lists.specs.Lists.{All, Occurs}
use Rattle.lists.proofs.Lists.{all_occurs, occurs_append}
use Rattle.xpath.specs.Syntax.{Test}
use Rattle.xpath.specs.Meaning.{Holds}
use Rattle.document_spec.specs.Library.{Node}
use Rattle.document_spec.specs.Binary.{tree_of}
use Rattle.rule_spec.specs.Verdict.{Accepts}
use Rattle.layout.specs.Table.{COLUMNS}
use Rattle.layout.specs.Words.{word}
use Rattle.layout.proofs.Frames.{frame_none, frame_then, frame_wider, within_frame}
use Rattle.test_bits.specs.Columns.{Settled}
use Rattle.test_numbers.specs.Tests.{tests_of, test}
use Rattle.test_numbers.specs.Orders.{Inside}
use Rattle.test_places.specs.Places.{Listed}
use Rattle.driver.specs.Tasks.{Scene, Tells, Task, Answers, Decided, Settling}
use Rattle.driver.proofs.Frames.{scratch_room, held_apart, scene_same}

-- bit k is settled, and it says where the test holds
pub decided : {ns : List Node} {n k : ℕ} {A : ℕ → Type 0} {t t' : List ℕ} (T : Test) → 0 < n → Settled n k A t t'
    → ((v : ℕ) → v < n → A v ↔ Holds (tree_of ns) T v) → Decided ns n k T t t'
decided {n = n} T pos s f =
    let r = scratch_room n pos in
    record {
      tells = λ v l. (λ e. (f v l).0 ((s.done v l).0 e), λ h. (s.done v l).1 ((f v l).1 h));
      others = s.others;
      frame = frame_wider (omega arith) (omega arith) (within_frame s.within);
    }

-- the answers of a comparison or a count, taken over
pub taken : {ns : List Node} {n k : ℕ} {t t₁ t₂ : List ℕ} (T : Test) → 0 < n → Answers ns n T t t₁ → Settled n k (λ v. word t₁ n COLUMNS v ≡ 1) t₁ t₂
    → Decided ns n k T t t₂
taken {ns} {n} {k} {t} {t₁} {t₂} T pos a s =
    let d = decided {ns = ns} T pos s a.answers in
    record {
      tells = d.tells;
      others = λ i v h e l. d.others i v h e l ∙ held_apart a.apart i v h l;
      frame = frame_then (frame_wider (omega arith) (omega arith) a.apart) d.frame;
    }

-- ── The tests of a list ──
pub settling_none : (ns : List Node) (n : ℕ) (T : Test) (t : List ℕ) → Settling ns n T [] t t
settling_none ns n T t = record { tells = λ k o. absurd o; frame = frame_none t }

module _ {ns : List Node} {n : ℕ} {T : Test} (ks : List ℕ) {t₀ t : List ℕ} (p : Settling ns n T ks t₀ t) where
  -- one more at the end
  pub settling_step : (k : ℕ) {t' : List ℕ} → All (λ i. i < 64) ks → Decided ns n k (test (tests_of T) k) t t' → Settling ns n T (ks ++ k ∷ []) t₀ t'
  settling_step k {t'} few d = record {
    tells = λ i o. ⊎_elim (λ h. go i h (ℕ_discrete i k)) (λ h. ⊎_elim (now i) (λ z. absurd z) h) (occurs_append i ks (k ∷ []) o);
    frame = frame_then p.frame d.frame;
  }
    where
      now : (i : ℕ) → i ≡ k → Tells ns n i (test (tests_of T) i) t'
      now i e = subst (λ j. Tells ns n j (test (tests_of T) j) t') (sym e) d.tells

      go : (i : ℕ) → Occurs i ks → Dec (i ≡ k) → Tells ns n i (test (tests_of T) i) t'
      go i h (yes e) = now i e
      go i h (no f) = λ v r.
          subst (λ b. (b ≡ true) ↔ Holds (tree_of ns) (test (tests_of T) i) v) (sym (d.others i v ((all_occurs (λ j. j < 64) ks).0 few i h) f r)) (p.tells i h v r)

  -- a test is due where those inside it are in the list
  pub task : {s rule offsets : List ℕ} {count : ℕ} → Scene s ns n t₀ → Accepts rule T → Listed rule T offsets count
      → (k : ℕ) → k < length (tests_of T) → ((i : ℕ) → Inside T k i → Occurs i ks) → Task s rule ns T n (get_or offsets k 0) k t
  task scene accepts listed k l inner =
      let e = listed.all in let (j, stands) = listed.stands k (omega arith) in
      record {
        scene = scene_same scene p.frame.long p.frame.front;
        accepts = accepts;
        number = l;
        end = j;
        stands = stands;
        inner = λ i b. p.tells i (inner i b);
      }
