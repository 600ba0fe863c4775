-- What stays as it was behind a walk, and where an answer is written.
use Prim.Native.Nat.{ℕ, ◌<◌}
use mathlib.Core.Logic.{inl, inr}
use mathlib.Core.List.{List, [], ◌∷◌}
use native.Mathlib.Omega.{arith}
use Rattle.layout.specs.Part.{ANSWER, MARK}
use Rattle.layout.specs.Words.{cell, Wrote}
use Rattle.layout.proofs.Frames.{within_frame, within_put, frame_same, same_wider}
use Rattle.machine.specs.declared.Machine.{Machine}
use Rattle.reach.specs.Reached.{Reached}
use Rattle.reach.specs.Work.{Spared}
use Rattle.rank_sets.specs.Ends.{Held, Steady}

pub held_answer : {n v x : ℕ} {p p' : List ℕ} → v < n → Wrote ((cell n ANSWER v, x) ∷ []) p p' → Held n p p'
held_answer r w = record { middle = frame_same (λ k h. inr (omega arith)) (within_frame (within_put {c = ANSWER} {d = MARK} (omega arith) (omega arith) r w)) }

pub steady_spared : {n d : ℕ} {p p' : List ℕ} → Spared n d p p' → Steady n p p'
steady_spared s = record { held = record { middle = same_wider (λ k (l, r). inl r) s.same }; answers = same_wider (λ k l. inl (omega arith)) s.same }

pub steady_reached : {m : Machine} {n i v : ℕ} {p p' : List ℕ} → Reached m n i v p p' → Steady n p p'
steady_reached h = steady_spared h.spared
