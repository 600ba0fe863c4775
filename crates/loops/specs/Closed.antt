-- The matrices in a part are closed: over words alone, nothing that the machine can do within a node and its neighbours leads out of them.
use Rattle.std.specs.Prelude.{ℕ, ◌<◌, Bool, List}
use Rattle.limits.specs.Limits.{positions}
use Rattle.layout.specs.Part.{STAYS, loop_at}
use Rattle.layout.specs.Table.{PARENT}
use Rattle.layout.specs.Words.{word}
use Rattle.matrices.specs.Matrices.{Related}
use Rattle.machine.specs.declared.Machine.{Machine}
use Rattle.detours.specs.Detours.{downs, ups, OnSide, Goes, Detour}

-- the matrix of each node v, which stands at loop_at n v, holds
pub record Closed (m : Machine) (n : ℕ) (p : List ℕ) : Type 0 where
  -- no step
  pub reflexive : (v i : ℕ) → v < n → i < positions → Related p (loop_at n v) i i
  -- one after the other
  pub transitive : (v i j k : ℕ) → v < n → i < positions → j < positions → k < positions
      → Related p (loop_at n v) i j → Related p (loop_at n v) j k → Related p (loop_at n v) i k
  -- a step that stays
  pub bracket : (v i j : ℕ) → v < n → i < positions → j < positions → Goes m (word p n STAYS v) i j → Related p (loop_at n v) i j
  -- from the parent of v by a detour over v, which is on a side
  pub upwards : (side : Bool) (v i j : ℕ) → 0 < v → v < n → OnSide p n v side → i < positions → j < positions
      → Detour m p (loop_at n v) (downs m side) (ups m side) i j → Related p (loop_at n (word p n PARENT v)) i j
  -- from v by a detour over its parent
  pub downwards : (side : Bool) (v i j : ℕ) → 0 < v → v < n → OnSide p n v side → i < positions → j < positions
      → Detour m p (loop_at n (word p n PARENT v)) (ups m side) (downs m side) i j → Related p (loop_at n v) i j
