-- How the matrices of the nodes grow: what each function adds to them, and what it keeps.
use Rattle.std.specs.Prelude.{ℕ, ◌+◌, ◌*◌, ◌≤◌, ◌<◌, ◌≡◌, Bool, List}
use Rattle.limits.specs.Limits.{positions}
use Rattle.xpath.specs.Syntax.{XPath}
use Rattle.xpath.specs.Tree.{Tree}
use Rattle.layout.specs.Part.{STAYS, LOOPS, PAIRS, loop_at}
use Rattle.layout.specs.Table.{PARENT}
use Rattle.layout.specs.Words.{word, Frame}
use Rattle.matrices.specs.Matrices.{Related, pairs}
use Rattle.machine.specs.declared.Machine.{Machine}
use Rattle.loops.specs.Loops.{Stage}
use Rattle.detours.specs.Detours.{downs, ups, OnSide, Goes, Detour}
use Rattle.loops.specs.Sound.{Sound}

-- ── The matrices of the nodes below k ──
-- what they relate comes back to its node
abbrev pub SoundBelow : XPath → XPath → Tree → ℕ → ℕ → List ℕ → Type 0
SoundBelow P R t n k p = (v : ℕ) → v < k → Sound P R t p (loop_at n v) v

-- they are reflexive and transitive, and have the steps that stay
pub record Woven (m : Machine) (n k : ℕ) (p : List ℕ) : Type 0 where
  pub reflexive : (v i : ℕ) → v < k → i < positions → Related p (loop_at n v) i i
  pub transitive : (v i j l : ℕ) → v < k → i < positions → j < positions → l < positions
      → Related p (loop_at n v) i j → Related p (loop_at n v) j l → Related p (loop_at n v) i l
  pub bracket : (v i j : ℕ) → v < k → i < positions → j < positions → Goes m (word p n STAYS v) i j → Related p (loop_at n v) i j

-- they are drawn from the steps that stay, and all other words are as before
pub record Started (m : Machine) (n k : ℕ) (p p' : List ℕ) : Type 0 where
  pub frame : Frame (LOOPS * n) (loop_at n k) p p'
  pub woven : Woven m n k p'
  pub sound : (P R : XPath) (t : Tree) → Stage P R t m n p → SoundBelow P R t n k p'

-- ── All matrices ──
-- how many pairs they have
abbrev pub total : ℕ → List ℕ → ℕ
total n p = pairs p (LOOPS * n) (positions * n)

-- at least r pairs are added, each of them sound; r is 0 only if nothing changes
pub record Grown (m : Machine) (n : ℕ) (p p' : List ℕ) (r : ℕ) : Type 0 where
  pub frame : Frame (LOOPS * n) (PAIRS * n) p p'
  pub grow : (v i j : ℕ) → v < n → i < positions → j < positions → Related p (loop_at n v) i j → Related p' (loop_at n v) i j
  pub woven : Woven m n n p → Woven m n n p'
  pub sound : (P R : XPath) (t : Tree) → Stage P R t m n p → SoundBelow P R t n n p → SoundBelow P R t n n p'
  pub count : r + total n p ≤ total n p'
  pub still : r ≡ 0 → p' ≡ p

-- the same, and where nothing changes B holds
pub record Passed (B : Type 0) (m : Machine) (n : ℕ) (p p' : List ℕ) (r : ℕ) : Type 0 where
  pub grown : Grown m n p p' r
  pub settled : r ≡ 0 → B

-- what the detours over v find is in the matrix of its parent
abbrev pub Rises : Machine → ℕ → List ℕ → ℕ → Type 0
Rises m n p v = (side : Bool) (i j : ℕ) → OnSide p n v side → i < positions → j < positions
    → Detour m p (loop_at n v) (downs m side) (ups m side) i j → Related p (loop_at n (word p n PARENT v)) i j

-- what the detours over its parent find is in the matrix of v
abbrev pub Falls : Machine → ℕ → List ℕ → ℕ → Type 0
Falls m n p v = (side : Bool) (i j : ℕ) → OnSide p n v side → i < positions → j < positions
    → Detour m p (loop_at n (word p n PARENT v)) (ups m side) (downs m side) i j → Related p (loop_at n v) i j

-- at every node that has a parent
abbrev pub Everywhere : (ℕ → Type 0) → ℕ → Type 0
Everywhere B n = (v : ℕ) → 0 < v → v < n → B v

-- no matrix can grow by a detour
abbrev pub Settled : Machine → ℕ → List ℕ → Type 0
Settled m n p = Everywhere (Rises m n p) n × Everywhere (Falls m n p) n
