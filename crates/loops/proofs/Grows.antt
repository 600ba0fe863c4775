-- The matrices of all nodes while they grow.
use Prim.Native.Nat.{ℕ, ◌+◌, ◌*◌, ◌<◌}
use mathlib.Core.Path.{◌≡◌, refl, sym, ◌∙◌, subst}
use mathlib.Core.Logic.{inl, inr, ◌↔◌}
use mathlib.Core.Bool.{Bool, true, false}
use mathlib.Core.List.{List}
use native.Mathlib.Decide.{ℕ_discrete}
use native.Mathlib.Omega.{arith}
use Rattle.xpath.specs.Syntax.{XPath}
use Rattle.xpath.specs.Tree.{Tree}
use Rattle.positions.specs.Positions.{Comes}
use Rattle.layout.specs.Part.{LOOPS, loop_at}
use Rattle.layout.specs.Table.{PARENT}
use Rattle.layout.specs.Words.{word, Frame}
use Rattle.layout.proofs.Frames.{frame_none, frame_then, frame_wider}
use Rattle.matrices.specs.Matrices.{Related}
use Rattle.closures.specs.Closures.{Chain}
use Rattle.closures.proofs.Chains.{chain_one}
use Rattle.machine.specs.declared.Machine.{Machine}
use Rattle.loops.specs.Loops.{Stage}
use Rattle.detours.specs.Detours.{downs, ups, OnSide, Detour}
use Rattle.detours.specs.Visits.{Ready, Widened, Visited}
use Rattle.loops.specs.Growing.{SoundBelow, Grown, Passed, Rises, Falls}
use Rattle.loops.proofs.Kept.{word_kept, stage_kept}
use Rattle.loops.proofs.Sounds.{chain_comes, detour_up, detour_down}
use Rattle.loops.proofs.Replaced.{stays, sound_one, woven_one, total_more}

pub ready_kept : {n b : ℕ} {p q : List ℕ} → Frame (LOOPS * n) b p q → Ready n p → Ready n q
ready_kept {n} {p = p} {q} f r = record {
  few = r.few;
  room = omega (arith, f.long, r.room);
  parents = λ v h l. subst (λ (u : ℕ). u < v) (sym (word_kept n p q f.front PARENT v (omega arith) l)) (r.parents v h l);
}

pub grown_none : (m : Machine) (n : ℕ) (p : List ℕ) → Grown m n p p 0
grown_none m n p = record {
  frame = frame_none p;
  grow = λ v i j h l r a. a;
  woven = λ w. w;
  sound = λ P R t s b. b;
  count = omega arith;
  still = λ e. refl;
}

pub grown_then : {m : Machine} {n r s : ℕ} {a b c : List ℕ} → Grown m n a b r → Grown m n b c s → Grown m n a c (r + s)
grown_then g h = record {
  frame = frame_then g.frame h.frame;
  grow = λ v i j l q o a. h.grow v i j l q o (g.grow v i j l q o a);
  woven = λ w. h.woven (g.woven w);
  sound = λ P R t s b. h.sound P R t (stage_kept g.frame.front s) (g.sound P R t s b);
  count = omega (arith, g.count, h.count);
  still = λ e. h.still (omega arith) ∙ g.still (omega arith);
}

-- ── One visit ──
module _ {m : Machine} {n x r : ℕ} {A : ℕ → ℕ → Type 0} {p p' : List ℕ} (inside : x < n) (w : Visited A (loop_at n x) p p' r)
    (has : (i j : ℕ) → Related p (loop_at n x) i j → A i j)
    (comes : (P R : XPath) (t : Tree) → Stage P R t m n p → SoundBelow P R t n n p → (i j : ℕ) → i < 16 → j < 16 → A i j → Comes P R t i x j x) where
  -- something is new
  visited_more : 0 < r → Grown m n p p' r
  visited_more more = record {
    frame = frame_wider (omega arith) (omega arith) w.only;
    grow = λ v i j h l q a. grow v i j h l q a (ℕ_discrete v x);
    woven = λ old. woven_one n x w.only (λ y h e. h) (omega arith) closed (λ i j h l q g. has i j (old.bracket x i j inside l q g)) old;
    sound = λ P R t stage old. sound_one n x w.only (λ y h e. h) (λ i j h l a. chain_comes (comes P R t stage old) h ((closed i j h l).0 a)) old;
    count = total_more n x w.only r inside w.count;
    still = w.still;
  }
    where
      closed : (i j : ℕ) → i < 16 → j < 16 → Related p' (loop_at n x) i j ↔ Chain A i j
      closed = w.closed more

      grow : (v i j : ℕ) → v < n → i < 16 → j < 16 → Related p (loop_at n v) i j → Dec (v ≡ x) → Related p' (loop_at n v) i j
      grow v i j h l q a (yes e) =
          subst (λ (z : ℕ). Related p' (loop_at n z) i j) (sym e) ((closed i j l q).1 (chain_one q (has i j (subst (λ (z : ℕ). Related p (loop_at n z) i j) e a))))
      grow v i j h l q a (no e) = (stays n x w.only v i j e l).0 a

  pub visited_grown : Grown m n p p' r
  visited_grown = go (ℕ_discrete r 0)
    where
      go : Dec (r ≡ 0) → Grown m n p p' r
      go (yes e) = subst (λ (s : ℕ). Grown m n p p' s) (sym e) (subst (λ (q : List ℕ). Grown m n p q 0) (sym (w.still e)) (grown_none m n p))
      go (no e) = visited_more (omega arith)

-- ── Up and down an edge ──
one_side : (p : List ℕ) (n v : ℕ) (a b : Bool) → OnSide p n v a → OnSide p n v b → a ≡ b
one_side p n v true true e f = refl
one_side p n v false false e f = refl
one_side p n v true false e f = absurd (f e)
one_side p n v false true e f = absurd (e f)

upper : {n v : ℕ} {p : List ℕ} → Ready n p → 0 < v → v < n → word p n PARENT v < n
upper {v = v} ready inner inside = let b = ready.parents v inner inside in omega arith

module _ {m : Machine} {n v here there r : ℕ} {s : ℕ × ℕ} {p p' : List ℕ} (side : Bool) (ready : Ready n p) (inner : 0 < v) (inside : v < n)
    (at : here ≡ loop_at n v) (above : there ≡ loop_at n (word p n PARENT v)) (on : OnSide p n v side) (steps : s ≡ (downs m side, ups m side)) where
  pub climbed : Visited (Widened m p here there s.0 s.1) there p p' r → Passed (Rises m n p v) m n p p' r
  climbed seen = record { grown = visited_grown (upper ready inner inside) w (λ i j a. inl a) comes; settled = λ e b i j other h l d. w.full e i j h l (inr (again b other d)) }
    where
      A : ℕ → ℕ → Type 0
      A = Widened m p (loop_at n v) (loop_at n (word p n PARENT v)) (downs m side) (ups m side)

      w : Visited A (loop_at n (word p n PARENT v)) p p' r
      w =
          subst (λ (a : ℕ). Visited (Widened m p (loop_at n v) a (downs m side) (ups m side)) a p p' r) above
          (subst (λ (a : ℕ). Visited (Widened m p a there (downs m side) (ups m side)) there p p' r) at
          (subst (λ (z : ℕ × ℕ). Visited (Widened m p here there z.0 z.1) there p p' r) steps seen))

      comes : (P R : XPath) (t : Tree) → Stage P R t m n p → SoundBelow P R t n n p → (i j : ℕ) → i < 16 → j < 16 → A i j → Comes P R t i (word p n PARENT v) j (word p n PARENT v)
      comes P R t stage old i j h l (inl a) = old (word p n PARENT v) (upper ready inner inside) i j h l a
      comes P R t stage old i j h l (inr d) = detour_up stage side v inner inside on (loop_at n v) i j h l (old v inside) d

      again : (b : Bool) {i j : ℕ} → OnSide p n v b → Detour m p (loop_at n v) (downs m b) (ups m b) i j → Detour m p (loop_at n v) (downs m side) (ups m side) i j
      again b {i} {j} other d = subst (λ (a : Bool). Detour m p (loop_at n v) (downs m a) (ups m a) i j) (one_side p n v b side other on) d

  pub descended : Visited (Widened m p there here s.1 s.0) here p p' r → Passed (Falls m n p v) m n p p' r
  descended seen = record { grown = visited_grown inside w (λ i j a. inl a) comes; settled = λ e b i j other h l d. w.full e i j h l (inr (again b other d)) }
    where
      A : ℕ → ℕ → Type 0
      A = Widened m p (loop_at n (word p n PARENT v)) (loop_at n v) (ups m side) (downs m side)

      w : Visited A (loop_at n v) p p' r
      w =
          subst (λ (a : ℕ). Visited (Widened m p (loop_at n (word p n PARENT v)) a (ups m side) (downs m side)) a p p' r) at
          (subst (λ (a : ℕ). Visited (Widened m p a here (ups m side) (downs m side)) here p p' r) above
          (subst (λ (z : ℕ × ℕ). Visited (Widened m p there here z.1 z.0) here p p' r) steps seen))

      comes : (P R : XPath) (t : Tree) → Stage P R t m n p → SoundBelow P R t n n p → (i j : ℕ) → i < 16 → j < 16 → A i j → Comes P R t i v j v
      comes P R t stage old i j h l (inl a) = old v inside i j h l a
      comes P R t stage old i j h l (inr d) = detour_down stage side v inner inside on (loop_at n (word p n PARENT v)) i j h l (old (word p n PARENT v) (upper ready inner inside)) d

      again : (b : Bool) {i j : ℕ} → OnSide p n v b → Detour m p (loop_at n (word p n PARENT v)) (ups m b) (downs m b) i j
          → Detour m p (loop_at n (word p n PARENT v)) (ups m side) (downs m side) i j
      again b {i} {j} other d = subst (λ (a : Bool). Detour m p (loop_at n (word p n PARENT v)) (ups m a) (downs m a) i j) (one_side p n v b side other on) d
