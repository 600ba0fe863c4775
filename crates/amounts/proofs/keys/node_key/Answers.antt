-- `amounts::keys::node_key` meets its contract.
use mathlib.Core.Path.{ap}
use mathlib.Core.List.{List}
use native.Mathlib.Omega.{arith}
use Rattle.document_spec.specs.Library.{Node}
use Rattle.document_spec.specs.Verdict.{Accepts}
use Rattle.values.specs.Comes.{Filled, weight}
use Rattle.amounts.proofs.Reading.{read_none, read_filled, read_more, read_all, read_failed}
use Rattle.amounts.proofs.keys.node_key.Goals as goal
use Rattle.amounts.proofs.keys.node_key.Goals.{After-refill-x}

-- with a byte at hand, if one is to come
filled : (c : After-refill-x) (ns : List Node) (k : Accepts c.args.s.now ns) → Filled c.args.s.now ns c.loop-x.x (c.loop-x.invariant ns k).rest c.refill-x.result
filled c ns k = let r = c.loop-x.invariant ns k in c.refill-x.ensures c.args.s.now ns r.rest c.requires.0 k r.comes

pub loop-x-init : goal.loop-x-init
loop-x-init c = λ ns k. read_none (c.value_of-x.ensures c.args.s.now ns c.requires.0 k) c.begin-c.ensures

pub refill-x-requires : goal.refill-x-requires
refill-x-requires c =
    let h = c.requires.0.tabled in let r = c.loop-x.invariant h.nodes h.accepts in
    (c.args.s.now, h.nodes, r.rest, c.requires.0, h.accepts, r.comes)

pub returns-then-x : goal.returns-then-x
returns-then-x c = λ ns k. read_all (c.loop-x.invariant ns k) ((filled (goal.at.returns-then-x c).After-refill-x ns k).empty c.if-x.true) c.key.ensures

pub scan_bytes-requires : goal.scan_bytes-requires
scan_bytes-requires c =
    let h = c.requires.0.tabled in let l = c.if-x.false in
    (omega arith, (read_filled (c.loop-x.invariant h.nodes h.accepts) (filled (goal.at.scan_bytes-requires c).After-refill-x h.nodes h.accepts)).comes.within)

pub returns-in_default : goal.returns-in_default
returns-in_default c = λ ns k. read_failed (read_filled (c.loop-x.invariant ns k) (filled (goal.at.returns-in_default c).After-refill-x ns k)) c.in_default.ensures

pub loop-x-smaller : goal.loop-x-smaller
loop-x-smaller c =
    let h = c.requires.0.tabled in let f = (filled (goal.at.loop-x-smaller c).After-refill-x h.nodes h.accepts).lighter in let l = c.if-x.false in
    let e = ap (λ y. weight c.args.s.now y) c.spent-x.ensures in
    omega arith

pub loop-x-preserved : goal.loop-x-preserved
loop-x-preserved c =
    λ ns k. read_more (read_filled (c.loop-x.invariant ns k) (filled (goal.at.loop-x-preserved c).After-refill-x ns k)) c.in-Some.ensures c.spent-x.ensures
