-- `driver::settle_tests` meets its contract.
use mathlib.Core.Path.{◌≡◌}
use mathlib.Core.List.{List}
use lib.ListN.{length, take}
use Rattle.xpath.specs.Syntax.{Test}
use Rattle.document_spec.specs.Library.{Node}
use Rattle.driver.specs.Tasks.{Queue}
use Rattle.driver.proofs.Totals.{Driven}
use Rattle.driver.proofs.settle_tests.Given as goal

-- ── The loop's invariant ──
abbrev pub invariant-loop-k : goal.invariant-loop-k
invariant-loop-k l =
    (length l.t ≡ length l.initial.t) × ((ns : List Node) (T : Test) → Queue l.s l.rule ns T l.n l.initial.t l.offsets l.order → Driven l.e ns l.n T (take l.k-index l.order) l.initial.t l.t l.snippets)
