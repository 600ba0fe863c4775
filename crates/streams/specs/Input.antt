-- The two parts of the program's input: 01, the program.
use Rattle.std.specs.Prelude.{ℕ, ◌≤◌, ◌≡◌, ◌⊎◌, List, [], ◌∷◌, ◌++◌, length, take, drop}
use Rattle.lists.specs.Lists.{Occurs}

abbrev pub lf : ℕ
lf = 10

-- "Standard input: the rule, LF, the document. [..] Without an LF all of it is the rule."
pub record Parts (input rule document : List ℕ) : Type 0 where
  -- the LF is the first one
  pub one_line : ¬ Occurs lf rule
  pub joined : (input ≡ rule ++ (lf ∷ document)) ⊎ ((input ≡ rule) × (document ≡ []))

-- the rule has the bytes before e, and the document those from b on
pub record SplitAt (input : List ℕ) (e b : ℕ) : Type 0 where
  pub ends : e ≤ length input
  pub begins : b ≤ length input
  pub parts : Parts input (take e input) (drop b input)
