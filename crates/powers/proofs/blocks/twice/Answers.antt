-- `powers::blocks::twice` meets its contract.
use Prim.Native.Nat.{◌+◌}
use mathlib.Core.Logic.{inl}
use native.Mathlib.Omega.{arith}
use Rattle.powers.proofs.Places.{block_before}
use Rattle.powers.proofs.Making.{twice_made}
use Rattle.powers.proofs.blocks.twice.Goals as goal

-- ── Composing down and up ──
pub compose-requires : goal.compose-requires
compose-requires c =
    let x = c.args in let f = c.requires.1 in let room = f.room in
    let first = block_before x.n x.k (x.k + 1) x.h x.y (omega arith) c.requires.0 in
    let second = block_before x.n x.k (x.k + 1) x.y x.y (omega arith) f.node in
    let at = c.block_at-at.ensures in let above = c.block_at-above.ensures in let below = c.block_at-below.ensures in
    (inl (omega arith), inl (omega arith), omega arith, omega arith, omega arith)

pub compose-requires-2 : goal.compose-requires-2
compose-requires-2 c =
    let x = c.args in let f = c.requires.1 in let room = f.room in
    let first = block_before x.n x.k (x.k + 1) x.h x.y (omega arith) c.requires.0 in
    let second = block_before x.n x.k (x.k + 1) x.y x.y (omega arith) f.node in
    let at = c.block_at-at.ensures in let above = c.block_at-above.ensures in let below = c.block_at-below.ensures in
    let long = c.compose.ensures.0.long in
    (inl (omega arith), inl (omega arith), omega arith, omega arith, omega arith)

-- ── What is returned ──
pub returns : goal.returns
returns c =
    twice_made c.args.k c.requires.0 c.requires.1 c.block_at-at.ensures c.block_at-above.ensures c.block_at-below.ensures c.upper-x.ensures.0 c.compose.ensures c.compose-2.ensures
