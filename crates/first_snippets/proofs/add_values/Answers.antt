-- `first_snippets::add_values` meets its contract.
use native.Mathlib.Omega.{arith}
use Rattle.powers.proofs.Rest.{sizes_front}
use Rattle.first_snippets.proofs.Adding.{base_rest}
use Rattle.first_snippets.proofs.Lists.{node_at, rank_at, taking_none, taking_step, taking_all}
use Rattle.first_snippets.proofs.add_values.Goals as goal

pub loop-w-init : goal.loop-w-init
loop-w-init c = taking_none c.args.p.now

pub get-r-requires : goal.get-r-requires
get-r-requires c =
    let room = sizes_front (base_rest c.loop-w.invariant.added.rest c.requires.0).sizes in
    let l = c.loop-w-test.true in (omega arith, node_at c.args.values.now c.requires.1 _ (omega arith), omega arith)

pub add_rank-requires : goal.add_rank-requires
add_rank-requires c =
    let o = base_rest c.loop-w.invariant.added.rest c.requires.0 in
    let l = c.loop-w-test.true in (o, rank_at c.args.values.now o c.requires.1 _ (omega arith) c.get-r.ensures.0)

pub loop-w-preserved : goal.loop-w-preserved
loop-w-preserved c =
    let l = c.loop-w-test.true in
    taking_step c.requires.1 (omega arith) c.get-r.ensures.0
    c.loop-w.invariant c.add_rank.ensures

pub returns : goal.returns
returns c = let l = c.loop-w-test.false in taking_all c.requires.1 (omega arith) c.loop-w.invariant
