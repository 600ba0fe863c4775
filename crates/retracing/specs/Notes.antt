-- Notes of what is new: a word in one of two columns for the start of the first path, in the other for that of the second.
use Rattle.std.specs.Prelude.{ℕ, ◌+◌, ◌*◌, ◌≤◌, ◌<◌, ◌≡◌, ◌⊎◌, Bool, true, false, List, [], ◌∷◌}
use Rattle.layout.specs.Sweeps.{LEAST, ABOVE}
use Rattle.layout.specs.Words.{cell, word, Wrote, Frame}
use Rattle.machine.specs.declared.Machine.{Machine}
use Rattle.reach.specs.Work.{Added}
use Rattle.retracing.specs.declared.bounds.Bound.{Bound}
use Rattle.retracing.specs.declared.bounds.Bound.TheVariants.{Least, Above}
use Rattle.retracing.specs.Backward.{New, Ends}

-- the first of such two columns, for each bound of a range
abbrev pub column_of : Bound → ℕ
column_of Least = LEAST
column_of Above = ABOVE

-- c is one of these, or between them
abbrev pub Paired : ℕ → Type 0
Paired c = (LEAST ≤ c) × (c ≤ ABOVE)

-- ── Notes ──
-- x is written in column c of node v if b holds
pub data PutIf (n c v : ℕ) (b : Bool) (x : ℕ) (p p' : List ℕ) : Type 0 where
  put : b ≡ true → Wrote ((cell n c v, x) ∷ []) p p' → PutIf n c v b x p p'
  skip : b ≡ false → p' ≡ p → PutIf n c v b x p p'

-- x stands in column c of the nodes that A holds of now, and at the others what stood there
pub record Noted (n c x : ℕ) (A : ℕ → Type 0) (p p' : List ℕ) : Type 0 where
  pub node : (v : ℕ) → v < n → (A v × (word p' n c v ≡ x)) ⊎ ((¬ A v) × (word p' n c v ≡ word p n c v))

-- notes for two paths
pub record Notes (n c x : ℕ) (A B : ℕ → Type 0) (p p' : List ℕ) : Type 0 where
  -- for the nodes of A in column c
  pub first : Noted n c x A p p'
  -- and for those of B in the next
  pub second : Noted n (c + 1) x B p p'
  -- all before the two columns and behind them is as it was
  pub frame : Frame (c * n) (c * n + (n + n)) p p'

-- ── Seeds ──
-- backwards from the nodes that E holds of
pub record Seeded (m : Machine) (n : ℕ) (E : ℕ → Type 0) (c x len len' : ℕ) (p p' : List ℕ) : Type 0 where
  -- what ends at such a node is seen too now
  pub added : Added (Ends m n p E) n c len len' p p'
  -- x is noted in column c where that is new for the first path's start, and in the next column for the second's
  pub first : Noted n c x (New n 0 p p') p p'
  pub second : Noted n (c + 1) x (New n m.second p p') p p'
