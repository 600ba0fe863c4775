-- The answers of a count.
use Prim.Native.Nat.{ℕ, ◌+◌, ◌≤◌, ◌<◌}
use mathlib.Core.Path.{◌≡◌, sym, ◌∙◌, subst}
use mathlib.Core.Logic.Iff
use mathlib.Core.Logic.{inl, inr, ◌↔◌}
use mathlib.Core.Bool.{Bool, true}
use mathlib.Core.List.{List, [], ◌∷◌}
use native.Mathlib.Omega.{arith}
use Rattle.lists.proofs.Lists.{at_least_iff, at_least_one, at_least_below}
use Rattle.bits.specs.Sets.{one}
use Rattle.layout.specs.Part.{ANSWER, HIT, SEEN, FOUND, Space}
use Rattle.layout.specs.Words.{cell, Wrote, Filled}
use Rattle.layout.proofs.Frames.{within_frame, wrote_frame, frame_same}
use Rattle.machine.specs.declared.Machine.{Machine}
use Rattle.machine.specs.Walks.{Stops, Hits, Several}
use Rattle.reach.proofs.Clearing.{cleared_work}
use Rattle.reach.proofs.Keeping.{untouched_before, untouched_beside, untouched_work}
use Rattle.reach.proofs.Walks.{walk_same}
use Rattle.rank_sets.specs.Ends.{Held}
use Rattle.rank_sets.proofs.Steady.{held_none, held_then}
use Rattle.plain.specs.Plain.{Answered}
use Rattle.plain.proofs.Steady.{held_answer}
use Rattle.plain.proofs.Walks.{stops_same}
use Rattle.plain.proofs.Answering.{Answers, answers_none, answers_step, answers_all, answered_from}
use Rattle.counting.specs.Counting.{Clean, Forgot}

-- ── Without a walk ──
-- everywhere, and nowhere
module _ {n : ℕ} {A : ℕ → Type 0} {p p' : List ℕ} where
  pub answered_all : ((v : ℕ) → A v) → Filled n ANSWER 1 n p p' → Answered n A p p'
  answered_all a f = record { long = f.within.long; answers = λ v l. inl (a v, f.filled v l) }

  pub answered_none : ((v : ℕ) → ¬ A v) → Filled n ANSWER 0 n p p' → Answered n A p p'
  answered_none a f = record { long = f.within.long; answers = λ v l. inr (a v, f.filled v l) }

pub several_zero : {m : Machine} {n k v : ℕ} {p : List ℕ} → k ≡ 0 → Several m n p k v
several_zero e = ([], sym e, tt, tt)

-- there are no more than n nodes
pub several_few : {m : Machine} {n k v : ℕ} {p : List ℕ} → n < k → ¬ Several m n p k v
several_few l s = let r = at_least_below (λ w (b, _). b) s in omega arith

-- one node: the path ends somewhere, and so at a hit where all nodes are hits
pub one_answered : {m : Machine} {n k : ℕ} {p p₁ p₂ : List ℕ} → k ≡ 1 → Filled n HIT 1 n p p₁ → Answered n (Hits m n p₁) p₁ p₂ → Answered n (Several m n p k) p p₂
one_answered {m} {n} {k} {p} {p₁} e f = answered_from f.within.long (λ v l. subst (λ i. Hits m n p₁ v ↔ Several m n p i v) (sym e) (Iff.trans (hit v l) (Iff.symm at_least_one)))
  where
    hit : (v : ℕ) → v < n → Hits m n p₁ v ↔ ((w : ℕ) × ((w < n) × Stops m n p 0 v w))
    hit v l = (
      λ (w, r, (j, b, s), z). (w, (r, (j, b, walk_same (λ i q h. sym (f.within.front i h)) l s))),
      λ (w, (r, (j, b, s))). (w, r, (j, b, walk_same (λ i q h. f.within.front i h) l s), f.filled w r),
    )

-- ── By walks ──
several_same : {m : Machine} {n k v : ℕ} {p p' : List ℕ} → Held n p p' → v < n → Several m n p k v ↔ Several m n p' k v
several_same h l = at_least_iff (λ w. (λ (r, s). (r, (stops_same h l).0 s), λ (r, s). (r, (stops_same h l).1 s)))

-- the columns of what is seen and found are filled
module _ {n : ℕ} {p p₁ p₂ : List ℕ} (s : Filled n SEEN 0 n p p₁) (f : Filled n FOUND 0 n p₁ p₂) where
  pub filled_clean : Space n p → Clean n p₂
  filled_clean space = record { work = untouched_work (untouched_beside (within_frame f.within) (omega arith) (omega arith)) (cleared_work s space); unfound = f.filled }

  pub filled_held : Held n p p₂
  filled_held = held_then (record { middle = frame_same (λ k (l, r). inl r) (within_frame s.within) }) (record { middle = frame_same (λ k (l, r). inl (omega arith)) (within_frame f.within) })

-- an answer is written beside them
clean_answer : {n v x : ℕ} {p p' : List ℕ} → v < n → Wrote ((cell n ANSWER v, x) ∷ []) p p' → Clean n p → Clean n p'
clean_answer {n} l w c =
    record {
      work = untouched_work (untouched_before (wrote_frame w) (omega arith)) c.work;
      unfound = λ u r. w.other (cell n FOUND u) (omega arith, tt) ∙ c.unfound u r;
    }

-- the nodes below v are answered
pub record Counting (m : Machine) (n k v : ℕ) (p₀ p : List ℕ) : Type 0 where
  pub held : Held n p₀ p
  pub clean : Clean n p
  pub answers : Answers n (Several m n p₀ k) v p

pub counting_none : (m : Machine) (n k : ℕ) (p : List ℕ) → Clean n p → Counting m n k 0 p p
counting_none m n k p c = record { held = held_none n p; clean = c; answers = answers_none n (Several m n p k) p }

pub counting_step : {m : Machine} {n k v : ℕ} {p₀ p p₁ p₂ : List ℕ} (b : Bool) → Counting m n k v p₀ p → v < n → Forgot n p p₁ → (b ≡ true) ↔ Several m n p k v
    → Wrote ((cell n ANSWER v, one b) ∷ []) p₁ p₂ → Counting m n k (v + 1) p₀ p₂
counting_step b g l f t w =
    record {
      held = held_then (held_then g.held f.steady.held) (held_answer l w);
      clean = clean_answer l w f.clean;
      answers = answers_step b l g.answers f.steady (Iff.trans t (Iff.symm (several_same g.held l))) w;
    }

pub counting_all : {m : Machine} {n k v : ℕ} {p p₀ p' : List ℕ} → Held n p p₀ → Counting m n k v p₀ p' → n ≤ v → Answered n (Several m n p k) p p'
counting_all h g end = answered_from h.middle.long (λ v l. Iff.symm (several_same h l)) (answers_all end g.held g.answers)
