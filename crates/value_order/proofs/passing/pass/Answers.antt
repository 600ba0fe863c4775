-- `value_order::passing::pass` meets its contract.
use Prim.Native.Nat.{◌≤◌, ◌<◌}
use mathlib.Core.Path.{refl, ap}
use native.Mathlib.Omega.{arith}
use Rattle.value_order.proofs.Moving.{along_none}
use Rattle.value_order.proofs.SameTexts.{texts_passed}
use Rattle.values.proofs.Cursor.{node_inside, next, next_inside}
use Rattle.value_order.proofs.passing.pass.Goals as goal

pub loop-a-init : goal.loop-a-init
loop-a-init c = λ s ns bs cs p k h g. (along_none h g, omega arith)

pub get-a-requires : goal.get-a-requires
get-a-requires c =
    let (s, ns, bs, cs, p, k, h, g) = c.requires in
    let l = (c.loop-a.invariant s ns bs cs p k h g).0 in
    let r = c.is_between.ensures c.loop-a-test.true in
    (omega arith, node_inside l.left_comes p.annotated k r.1 refl, p.annotated.tabled.room)

pub get-b-requires : goal.get-b-requires
get-b-requires c =
    let (s, ns, bs, cs, p, k, h, g) = c.requires in
    let l = (c.loop-a.invariant s ns bs cs p k h g).0 in
    let r = c.is_between-in-loop-a.ensures c.if-is_between.true in
    (omega arith, node_inside l.right_comes p.annotated k r.1 refl, p.annotated.tabled.room)

pub same_text-requires : goal.same_text-requires
same_text-requires c =
    let (s, ns, bs, cs, p, k, h, g) = c.requires in
    let l = (c.loop-a.invariant s ns bs cs p k h g).0 in
    let r = c.is_between.ensures c.loop-a-test.true in
    let w = c.is_between-in-loop-a.ensures c.if-is_between.true in
    ((s, p), next_inside l.left_comes p.annotated k r.1 c.get-a.ensures.0, next_inside l.right_comes p.annotated k w.1 c.get-b.ensures.0)

pub past-j-requires : goal.past-j-requires
past-j-requires c = tt

-- ── A turn ──
left-between : (c : goal.After-past-j) → (c.loop-a.i.to ≤ c.loop-a.i.from) × (c.loop-a.i.node < c.loop-a.i.last)
left-between c = c.is_between.ensures c.loop-a-test.true

pub loop-a-smaller : goal.loop-a-smaller
loop-a-smaller c =
    let (s, ns, bs, cs, p, k, h, g) = c.requires in
    let l = (c.loop-a.invariant s ns bs cs p k h g).0 in
    let (f, o) = next l.left_comes p.annotated k (left-between c).1 c.get-a.ensures.0 in
    let r = f.after in let d = c.if-a-i.false in
    let e = ap (λ z. z.node) c.past-i.ensures in let u = ap (λ z. z.last) c.past-i.ensures in
    omega arith

pub loop-a-preserved : goal.loop-a-preserved
loop-a-preserved c =
    λ s ns bs cs p k h g.
    let (l, w) = c.loop-a.invariant s ns bs cs p k h g in
    let z = c.same_text.ensures c.if-not-same_text.false s ns p k in
    let (r, u) =
    texts_passed p k l (left-between c) (c.is_between-in-loop-a.ensures c.if-is_between.true) c.get-a.ensures.0 c.get-b.ensures.0 c.if-a-i.false
    c.if-b-j.false z c.past-i.ensures c.past-j.ensures in
    (r, omega arith)
