-- `halving::passes::split` meets its contract.
use mathlib.Core.Path.{sym}
use native.Mathlib.Omega.{arith}
use Rattle.halving.proofs.Blocks.{upper_places, lower_places}
use Rattle.halving.proofs.Growing.{hands_none, hands_placed}
use Rattle.halving.proofs.passes.split.Goals as goal

pub returns-then-n-h : goal.returns-then-n-h
returns-then-n-h c = let x = c.args in hands_none x.n x.k x.p.now x.y (omega (arith, c.upper-h.ensures.0))

pub add_upper-requires : goal.add_upper-requires
add_upper-requires c =
    let h = c.upper-h.result in
    let source = c.block_at-source in
    let low = c.block_at-low in
    let high = c.block_at-high in
    upper_places c.args.n c.args.k c.args.y h source.result low.result high.result _ source.ensures low.ensures high.ensures c.requires.0 (omega arith) c.requires.1.room

pub add_lower-requires : goal.add_lower-requires
add_lower-requires c =
    let h = c.upper-h.result in
    let source = c.block_at-source in
    let low = c.block_at-low in
    let high = c.block_at-high in
    lower_places c.args.n c.args.k c.args.y h source.result low.result high.result _ source.ensures low.ensures high.ensures c.requires.0 (omega arith)
    (omega (arith, c.requires.1.room, c.add_upper.ensures.frame.long))

pub returns : goal.returns
returns c =
    let h = c.upper-h.result in
    let source = c.block_at-source in
    let low = c.block_at-low in
    let high = c.block_at-high in
    hands_placed c.args.n c.args.k c.args.y h source.result low.result high.result source.ensures low.ensures high.ensures c.requires.0 (omega arith)
    (sym c.upper-h.ensures.0) c.add_upper.ensures c.add_lower.ensures
