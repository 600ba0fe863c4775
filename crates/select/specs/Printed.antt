-- What the program writes: 01, the program.
use Rattle.std.specs.Prelude.{ℕ, ◌+◌, ◌==◌, List, [], ◌∷◌, ◌++◌, if◌then◌else◌, Option}
use Rattle.std.specs.Fmt.{decimal}
use Rattle.std.specs.Prelude.{codes}
use Rattle.std.specs.Io.KnownBytes.{Appends}
use Rattle.streams.specs.Input.{lf}
use Rattle.evaluation_spec.specs.Evaluation.{Outcome}
use Rattle.select.specs.Session.{Session}

-- a key and a number in base ten
abbrev pub line : List ℕ → ℕ → List ℕ
line key n = key ++ decimal n ++ lf ∷ []

-- the four lines that are always there
abbrev pub record_lines : Outcome → List ℕ
record_lines o =
    line (codes "number=") o.number ++ line (codes "place=") o.place ++ line (codes "selected=") o.selected ++ line (codes "snippets=") o.snippets

-- a line for each marked node, rising; the marks are those of the nodes from v on
unfoldable pub node_lines : ℕ → List ℕ → List ℕ
node_lines v [] = []
node_lines v (m ∷ marks) = (if m == 1 then line (codes "node=") v else []) ++ node_lines (v + 1) marks

-- a session's answer to an input is written behind what the writer held
abbrev pub Prints : (input : List ℕ) → Option (List ℕ) → Option (List ℕ) → Type 0
Prints input old new = (o : Outcome) × (marks : List ℕ) × Session input o marks × Appends old new (record_lines o ++ node_lines 0 marks)
