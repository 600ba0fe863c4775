-- The matrices at the start.
use Prim.Native.Nat.{ℕ, ◌+◌, ◌<◌}
use mathlib.Core.Path.{◌≡◌, subst}
use mathlib.Core.List.{List}
use native.Mathlib.Omega.{arith}
use Rattle.layout.proofs.Frames.{frame_none, frame_then, frame_wider}
use Rattle.machine.specs.declared.Machine.{Machine}
use Rattle.loops.specs.Loops.{Stage}
use Rattle.detours.specs.Visits.{Begun}
use Rattle.loops.specs.Growing.{Started}
use Rattle.loops.proofs.Kept.{stage_kept}
use Rattle.loops.proofs.Sounds.{chain_comes, stay_comes}
use Rattle.loops.proofs.Replaced.{sound_one, woven_one}

pub started_none : (m : Machine) (n : ℕ) (p : List ℕ) → Started m n 0 p p
started_none m n p = record {
  frame = frame_none p;
  woven = record {
    reflexive = λ v i h. absurd (let f : ⊥ = omega arith in f);
    transitive = λ v i j l h. absurd (let f : ⊥ = omega arith in f);
    bracket = λ v i j h. absurd (let f : ⊥ = omega arith in f);
  };
  sound = λ P R t s v h. absurd (let f : ⊥ = omega arith in f);
}

-- one node more
pub started_step : {m : Machine} {n v : ℕ} {p q q' : List ℕ} → v < n → Started m n v p q → Begun m n v q q' → Started m n (v + 1) p q'
started_step {m} {n} {v} {p} {q} {q'} inside s b = record {
  frame = frame_then (frame_wider (omega arith) (omega arith) s.frame) (frame_wider (omega arith) (omega arith) b.only);
  woven = woven_one n v b.only (λ y h e. omega arith) (omega arith) b.closed (λ i j h l r g. g) s.woven;
  sound = λ P R t stage.
      let now : Stage P R t m n q = stage_kept s.frame.front stage in
      sound_one n v b.only (λ y h e. omega arith) (λ i j l r a. chain_comes (λ c d x y g. stay_comes now v c d inside x y g) l ((b.closed i j l r).0 a)) (s.sound P R t stage);
}

pub started_to : {m : Machine} {n k : ℕ} {p q : List ℕ} → k ≡ n → Started m n k p q → Started m n n p q
started_to {m} {n} {k} {p} {q} e s = subst (λ (x : ℕ). Started m n x p q) e s
