-- `value_order::constant::compare_constant` meets its contract.
use Prim.Native.Nat.{ℕ, ◌≤◌}
use mathlib.Core.Path.{refl}
use mathlib.Core.Logic.{inl}
use mathlib.Core.List.{List}
use lib.Seq.{slice}
use native.Mathlib.Omega.{arith}
use Rattle.document_spec.specs.Library as Library
use Rattle.document_spec.specs.Verdict.{Accepts}
use Rattle.values.specs.Comes.{Comes, weight}
use Rattle.values.proofs.Cursor.{nothing_left}
use Rattle.value_order.proofs.Moving.{ready_filled, along_none, Facing, facing_decided, facing_moved}
use Rattle.value_order.proofs.constant.compare_constant.Goals as goal
use Rattle.value_order.proofs.constant.compare_constant.Goals.{After-refill-i}

-- ── With a byte at hand ──
level : (c : After-refill-i) (ns : List Library.Node) (bs : List ℕ) → Accepts c.args.s.now ns → Comes c.args.s.now ns c.args.x bs
    → Facing c.args.s.now c.args.c.now ns bs (slice c.args.from c.args.to c.args.c.now) c.refill-i.result c.loop-o.j × (weight c.args.s.now c.refill-i.result ≤ weight c.args.s.now c.loop-o.i)
level c ns bs k h =
    let (l, z) = c.loop-o.invariant ns bs k h in
    let f = c.refill-i.ensures c.args.s.now ns l.left c.requires.0.2 k l.left_comes in (
      record {
        left = l.left;
        right = l.right;
        left_ready = ready_filled f;
        right_ready = record { comes = l.right_comes; empty = λ u. nothing_left l.right_comes u z };
        decides = l.decides;
      },
      f.lighter,
    )

pub loop-o-init : goal.loop-o-init
loop-o-init c = let l = c.requires.2 in λ ns bs k h. (along_none h (record { within = l; rest = inl (refl, refl) }), omega arith)

pub refill-i-requires : goal.refill-i-requires
refill-i-requires c =
    let (ns, bs, p, k, h) = c.requires.0 in let (l, z) = c.loop-o.invariant ns bs k h in
    (c.args.s.now, ns, l.left, p, k, l.left_comes)

pub look-requires : goal.look-requires
look-requires c =
    let (ns, bs, p, k, h) = c.requires.0 in let (f, w) = level (goal.at.look-requires c).After-refill-i ns bs k h in
    (f.left_ready.comes.within, f.right_ready.comes.within)

pub returns-in-Break : goal.returns-in-Break
returns-in-Break c = λ ns bs k h. facing_decided (level (goal.at.returns-in-Break c).After-refill-i ns bs k h).0 c.in-Break.o c.in-Break.ensures

pub loop-o-smaller : goal.loop-o-smaller
loop-o-smaller c =
    let (ns, bs, p, k, h) = c.requires.0 in let (f, w) = level (goal.at.loop-o-smaller c).After-refill-i ns bs k h in
    let m = (c.behind-i.ensures _ ns f.left f.left_ready.comes).lighter in let z = c.in-Continue.ensures.some in
    omega arith

pub loop-o-preserved : goal.loop-o-preserved
loop-o-preserved c =
    λ ns bs k h.
    let (f, w) = level (goal.at.loop-o-preserved c).After-refill-i ns bs k h in
    let p = c.behind-i.ensures _ ns f.left f.left_ready.comes in let q = c.behind-j.ensures _ ns f.right f.right_ready.comes in
    let z = (c.loop-o.invariant ns bs k h).1 in let i = q.node in let j = q.last in
    (facing_moved f c.in-Continue.ensures p q, omega arith)
