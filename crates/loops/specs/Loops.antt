-- The loops of a comparison: for each node, which positions come to which there.
use Rattle.std.specs.Prelude.{ℕ, ◌*◌, ◌<◌, ◌↔◌, List}
use Rattle.limits.specs.Limits.{positions}
use Rattle.xpath.specs.Syntax.{eq, XPath}
use Rattle.xpath.specs.Tree.{Tree, WellFormed}
use Rattle.positions.specs.Positions.{Comes}
use Rattle.matrices.specs.Matrices.{Related}
use Rattle.machine.specs.declared.Machine.{Machine}
use Rattle.machine.specs.Meaning.{IsMachine, Drawn, RanksTell}
use Rattle.layout.specs.Part.{LOOPS, PAIRS, loop_at}
use Rattle.layout.specs.Words.{Frame}

-- a comparison of two paths by = on a tree, and the words that stand for it
pub record Stage (P R : XPath) (t : Tree) (m : Machine) (n : ℕ) (p : List ℕ) : Type 0 where
  pub formed : WellFormed t
  pub machine : IsMachine P R m
  pub drawn : Drawn P R t n p
  pub ranks : RanksTell eq t n p

-- i at v comes to j at v
abbrev pub Loops : XPath → XPath → Tree → ℕ → List ℕ → Type 0
Loops P R t n p = (v i j : ℕ) → v < n → i < positions → j < positions → Related p (loop_at n v) i j ↔ Comes P R t i v j v

-- all other words are as before
pub record Looped (P R : XPath) (t : Tree) (n : ℕ) (p p' : List ℕ) : Type 0 where
  pub frame : Frame (LOOPS * n) (PAIRS * n) p p'
  pub loops : Loops P R t n p'
