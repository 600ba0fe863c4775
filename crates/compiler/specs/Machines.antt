-- The machine of the paths that stand in a rule.
use Rattle.std.specs.Prelude.{ℕ, ◌+◌, ◌≤◌, Bool, List, ◌++◌, Option}
use Rattle.limits.specs.Limits.{comparison_steps}
use Rattle.xpath.specs.Syntax.{XPath, steps, size}
use Rattle.path_sets.specs.Paths.{PathsAt}
use Rattle.step_places.specs.Places.{Placed}
use Rattle.automaton.specs.declared.automaton.Automaton.{Automaton}
use Rattle.automaton.specs.Compared.{FollowSquare, IsAutomaton}
use Rattle.machine.specs.declared.Machine.{Machine}
use Rattle.machine.specs.Meaning.{IsMachine}

module _ (s : List ℕ) (f : List (List Bool)) (a : Automaton) (places : List ℕ) where
  -- what is known of the paths P and R: their square, their automaton, and where their steps stand
  pub record KnownOf (P R : XPath) : Type 0 where
    pub few : size P + size R ≤ comparison_steps
    pub square : FollowSquare P R f
    pub automaton : IsAutomaton P R a
    pub placed : Placed s (steps P ++ steps R) places

  -- of some two paths
  abbrev pub Known : Type 0
  Known = (P R : XPath) × KnownOf P R

  -- whatever two paths it is known of
  abbrev pub Machines : Machine → Type 0
  Machines m = (P R : XPath) → KnownOf P R → IsMachine P R m

-- whatever two paths stand at the offsets
abbrev pub Machined : List ℕ → ℕ → Option ℕ → Machine → Type 0
Machined s at behind m = (P R : XPath) → PathsAt s at behind P R → IsMachine P R m
