-- `ranks::number::rise` meets its contract.
use mathlib.Core.Path.{sym, ap, ◌∙◌}
use native.Mathlib.Omega.{arith}
use Rattle.std.specs.declared.cmp.Ordering.TheVariants.{Equal}
use Rattle.std.specs.Int.{from_bool}
use Rattle.ranks.proofs.Rises.{small, rises_told, twins_same}
use Rattle.ranks.proofs.number.rise.Goals as goal

pub returns-then-get : goal.returns-then-get
returns-then-get c =
    let p = c.requires in
    (omega arith, λ ns a. rises_told ns c.args.v c.args.u Equal (twins_same ns c.args.v c.args.u p.0 a p.1 p.2 (sym c.get.ensures.0 ∙ c.if-get.true ∙ c.get-2.ensures.0)))

pub compare_with-requires : goal.compare_with-requires
compare_with-requires c =
    let g = c.requires.0.annotated in let h = g.tabled in
    (c.requires.0, c.requires.1, (h.nodes, c.args.v, h.accepts, c.value_of-x.ensures c.args.s.now h.nodes g h.accepts))

pub returns : goal.returns
returns c = (
  rw c.from.ensures (small c.is_gt.result),
  λ ns a. c.from.ensures ∙ ap from_bool c.is_gt.ensures
      ∙ rises_told ns c.args.v c.args.u c.compare_with.result (c.compare_with.ensures ns c.args.v a (c.value_of-x.ensures c.args.s.now ns c.requires.0.annotated a)),
)
