-- What is put into a node's matrix by steps, detours and closing is a chain from the node back to it.
use Prim.Native.Nat.{ℕ, ◌<◌}
use mathlib.Core.Path.{refl}
use mathlib.Core.Bool.{Bool}
use mathlib.Core.List.{List}
use Rattle.xpath.specs.Syntax.{XPath, stay}
use Rattle.xpath.specs.Tree.{Tree, Child}
use Rattle.positions.specs.Positions.{Comes}
use Rattle.snippets.proofs.Settles.{comes_join}
use Rattle.snippets.proofs.Edges.{step_down, step_up, moves_down, moves_up}
use Rattle.layout.specs.Part.{STAYS, loop_at}
use Rattle.layout.specs.Table.{PARENT}
use Rattle.layout.specs.Words.{word}
use Rattle.closures.specs.Closures.{Chain}
use Rattle.machine.specs.declared.Machine.{Machine}
use Rattle.loops.specs.Loops.{Stage, Loops}
use Rattle.detours.specs.Detours.{downs, ups, OnSide, Goes, Detour}
use Rattle.loops.specs.Closed.{Closed}
use Rattle.loops.specs.Sound.{Sound}
use Rattle.loops.proofs.Sides.{goes_down, goes_up, goes_stay, side_child}
use Rattle.loops.proofs.Closing.{closed_comes}

-- zero or more chains from v back to v are one
pub chain_comes : {P R : XPath} {t : Tree} {A : ℕ → ℕ → Type 0} {v i j : ℕ}
    → ((a b : ℕ) → a < 16 → b < 16 → A a b → Comes P R t a v b v) → i < 16 → Chain A i j → Comes P R t i v j v
chain_comes sound l Chain.none = Comes.here
chain_comes {P} {R} {t} {i = i} sound l (Chain.more {j = j} q a c) = comes_join t P R (sound i j l q a) (chain_comes sound q c)

module _ {P R : XPath} {t : Tree} {m : Machine} {n : ℕ} {p : List ℕ} (stage : Stage P R t m n p) where
  -- a step that stays
  pub stay_comes : (v i j : ℕ) → v < n → i < 16 → j < 16 → Goes m (word p n STAYS v) i j → Comes P R t i v j v
  stay_comes v i j r l q g = let (f, (T, a, h)) = (goes_stay stage v i j r l q).0 g in Comes.on (stay T) f a (refl, h) Comes.here

  module _ (side : Bool) (v : ℕ) (inner : 0 < v) (inside : v < n) (on : OnSide p n v side) where
    child : Child t side (word p n PARENT v) v
    child = side_child stage side v inner inside on

    -- from the parent of v by a detour over v
    pub detour_up : (at i j : ℕ) → i < 16 → j < 16 → Sound P R t p at v → Detour m p at (downs m side) (ups m side) i j
        → Comes P R t i (word p n PARENT v) j (word p n PARENT v)
    detour_up at i j l q sound d =
        let (f, a) = (goes_down stage side i d.first l d.first_few).0 d.leave in
        let (g, b) = (goes_up stage side d.last j d.last_few q).0 d.back in
        Comes.on (step_down side) f a (moves_down side child)
        (comes_join t P R (sound d.first d.last d.first_few d.last_few d.within) (Comes.on (step_up side) g b (moves_up side child) Comes.here))

    -- from v by a detour over its parent
    pub detour_down : (at i j : ℕ) → i < 16 → j < 16 → Sound P R t p at (word p n PARENT v) → Detour m p at (ups m side) (downs m side) i j → Comes P R t i v j v
    detour_down at i j l q sound d =
        let (f, a) = (goes_up stage side i d.first l d.first_few).0 d.leave in
        let (g, b) = (goes_down stage side d.last j d.last_few q).0 d.back in
        Comes.on (step_up side) f a (moves_up side child)
        (comes_join t P R (sound d.first d.last d.first_few d.last_few d.within) (Comes.on (step_down side) g b (moves_down side child) Comes.here))

  -- sound and closed matrices are the loops
  pub loops_of : Closed m n p → ((v : ℕ) → v < n → Sound P R t p (loop_at n v) v) → Loops P R t n p
  loops_of closed sound v i j r l q = (sound v r i j l q, closed_comes stage closed v i j r l q)
