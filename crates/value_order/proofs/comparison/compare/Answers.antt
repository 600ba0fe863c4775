-- `value_order::comparison::compare` meets its contract.
use Prim.Native.Nat.{ℕ, ◌≤◌}
use mathlib.Core.List.{List}
use native.Mathlib.Omega.{arith}
use Rattle.document_spec.specs.Library as Library
use Rattle.document_spec.specs.Verdict.{Accepts}
use Rattle.values.specs.Comes.{Comes, weight}
use Rattle.value_order.specs.Along.{Along}
use Rattle.value_order.proofs.Moving.{ready_filled, along_none, along_then, Facing, facing_decided, facing_moved}
use Rattle.value_order.proofs.comparison.compare.Goals as goal
use Rattle.value_order.proofs.comparison.compare.Goals.{After-pass-p, After-refill-j}

-- ── A turn ──
-- behind the texts that are known to be the same
passed : (c : After-pass-p) (ns : List Library.Node) (bs cs : List ℕ) → Accepts c.args.s.now ns → Comes c.args.s.now ns c.args.x bs → Comes c.args.s.now ns c.args.y cs
    → Along c.args.s.now c.args.s.now ns bs cs c.pass-p.result.x c.pass-p.result.y × (weight c.args.s.now c.pass-p.result.x ≤ weight c.args.s.now c.loop-o.i)
passed c ns bs cs k h g =
    let l = c.loop-o.invariant ns bs cs k h g in
    let (q, w) = c.pass-p.ensures c.args.s.now ns l.left l.right c.requires.0 k l.left_comes l.right_comes in
    (along_then l q, w)

-- with a byte at hand
level : (c : After-refill-j) (ns : List Library.Node) (bs cs : List ℕ) → Accepts c.args.s.now ns → Comes c.args.s.now ns c.args.x bs → Comes c.args.s.now ns c.args.y cs
    → Facing c.args.s.now c.args.s.now ns bs cs c.refill-i.result c.refill-j.result × (weight c.args.s.now c.refill-i.result ≤ weight c.args.s.now c.loop-o.i)
level c ns bs cs k h g =
    let l = c.loop-o.invariant ns bs cs k h g in
    let (a, w) = c.pass-p.ensures c.args.s.now ns l.left l.right c.requires.0 k l.left_comes l.right_comes in
    let q = along_then l a in let p = c.requires.0.annotated in
    let x = c.refill-i.ensures c.args.s.now ns q.left p k q.left_comes in
    let y = c.refill-j.ensures c.args.s.now ns q.right p k q.right_comes in
    let z = x.lighter in
    (record { left = q.left; right = q.right; left_ready = ready_filled x; right_ready = ready_filled y; decides = q.decides }, omega arith)

pub loop-o-init : goal.loop-o-init
loop-o-init c = λ ns bs cs k h g. along_none h g

pub pass-p-requires : goal.pass-p-requires
pass-p-requires c =
    let (p, (ns, bs, cs, k, h, g)) = c.requires in let l = c.loop-o.invariant ns bs cs k h g in
    (c.args.s.now, ns, l.left, l.right, p, k, l.left_comes, l.right_comes)

pub refill-i-requires : goal.refill-i-requires
refill-i-requires c =
    let (p, (ns, bs, cs, k, h, g)) = c.requires in let (q, w) = passed (goal.at.refill-i-requires c).After-pass-p ns bs cs k h g in
    (c.args.s.now, ns, q.left, p.annotated, k, q.left_comes)

pub refill-j-requires : goal.refill-j-requires
refill-j-requires c =
    let (p, (ns, bs, cs, k, h, g)) = c.requires in let (q, w) = passed (goal.at.refill-j-requires c).After-pass-p ns bs cs k h g in
    (c.args.s.now, ns, q.right, p.annotated, k, q.right_comes)

pub look-requires : goal.look-requires
look-requires c =
    let (p, (ns, bs, cs, k, h, g)) = c.requires in let (f, w) = level (goal.at.look-requires c).After-refill-j ns bs cs k h g in
    (f.left_ready.comes.within, f.right_ready.comes.within)

pub returns-in-Break : goal.returns-in-Break
returns-in-Break c =
    λ ns bs cs k h g. facing_decided (level (goal.at.returns-in-Break c).After-refill-j ns bs cs k h g).0 c.in-Break.o c.in-Break.ensures

pub loop-o-smaller : goal.loop-o-smaller
loop-o-smaller c =
    let (p, (ns, bs, cs, k, h, g)) = c.requires in let (f, w) = level (goal.at.loop-o-smaller c).After-refill-j ns bs cs k h g in
    let m = (c.behind-i.ensures _ ns f.left f.left_ready.comes).lighter in let z = c.in-Continue.ensures.some in
    omega arith

pub loop-o-preserved : goal.loop-o-preserved
loop-o-preserved c =
    λ ns bs cs k h g.
    let (f, w) = level (goal.at.loop-o-preserved c).After-refill-j ns bs cs k h g in
    facing_moved f c.in-Continue.ensures (c.behind-i.ensures _ ns f.left f.left_ready.comes) (c.behind-j.ensures _ ns f.right f.right_ready.comes)
