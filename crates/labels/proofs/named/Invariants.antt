-- `labels::named` meets its contract.
use mathlib.Core.Path.{◌≡◌}
use mathlib.Core.List.{List}
use lib.Seq.{slice}
use Rattle.document_spec.specs.Library.{Node, at}
use Rattle.document_spec.specs.Verdict.{Accepts}
use Rattle.table.specs.Links.{Linked}
use Rattle.test_bits.proofs.Settling.{Settling}
use Rattle.labels.proofs.named.Given as goal

abbrev pub invariant-loop-v : goal.invariant-loop-v
invariant-loop-v l =
    (ns : List Node) → Accepts l.s ns → Linked l.s ns l.initial.t → Settling l.n l.k (λ u. (at ns u).label ≡ slice l.from l.to l.rule) l.v l.initial.t l.t
