-- What an evaluation returns, as the outcome of the contract.
use Rattle.std.specs.Prelude.{ℕ, List, length}
use Rattle.xpath.specs.Syntax.{Test, XPath}
use Rattle.xpath.specs.Tree.{Tree}
use Rattle.document_spec.specs.Library.{Node}
use Rattle.evaluation_spec.specs.Buffers.{Accepted}
use Rattle.evaluation_spec.specs.Evaluation.{Outcome, Selected, NoSnippets}
use Rattle.evaluation_spec.specs.Evaluation as Contract
use Rattle.evaluation_spec.specs.Values.{ValuesAccepted, ValuesSelected}
use Rattle.snippets.specs.Count.{SnippetCount}
use Rattle.evaluators.specs.declared.Evaluator.{Evaluator}
use Rattle.evaluators.specs.declared.Evaluator.TheVariants.{Plain, Snippets}
use Rattle.evaluation.specs.declared.Evaluation.{Evaluation}

abbrev pub outcome_of : Evaluation → Outcome
outcome_of e = record { number = e.number; place = e.place; selected = e.selected; snippets = e.snippets }

-- a refused call, by number and place
abbrev pub refused_by : ℕ → ℕ → Outcome
refused_by n p = record { number = n; place = p; selected = 0; snippets = 0 }

-- an accepted call that selects so many nodes and has so many snippets
abbrev pub selecting : ℕ → ℕ → Outcome
selecting k c = record { number = 0; place = 0; selected = k; snippets = c }

-- what the snippet count of an evaluation is
abbrev pub count_of : Evaluator → Tree → Test → ℕ → Type 0
count_of Plain t T n = NoSnippets t T n
count_of Snippets t T n = SnippetCount t T n

-- if the call is accepted, the nodes that the rule selects are marked and counted, and the scratch is cleared
abbrev pub Selection : Evaluator → (document rule scratch marks : List ℕ) (count snippets : ℕ) (scratch' marks' : List ℕ) → Type 0
Selection e document rule scratch marks count snippets scratch' marks' =
    (ns : List Node) (T : Test) → Accepted document rule (length scratch) (length marks) ns T
    → Selected (count_of e) ns T scratch marks (selecting count snippets) scratch' marks'

-- the whole contract, for either evaluator
abbrev pub Evaluated : Evaluator → (document rule scratch marks : List ℕ) → Outcome → (scratch' marks' : List ℕ) → Type 0
Evaluated e document rule scratch marks o scratch' marks' = Contract.Evaluation (count_of e) document rule scratch marks o scratch' marks'

-- if a call by a list of values is accepted, what these values settle is marked and counted, and the scratch is cleared
abbrev pub ValuesSelection : (document rule values scratch marks : List ℕ) (count snippets : ℕ) (scratch' marks' : List ℕ) → Type 0
ValuesSelection document rule values scratch marks count snippets scratch' marks' =
    (ns : List Node) (P R : XPath) → ValuesAccepted document rule values (length scratch) (length marks) ns P R
    → ValuesSelected values ns P R scratch marks (selecting count snippets) scratch' marks'
