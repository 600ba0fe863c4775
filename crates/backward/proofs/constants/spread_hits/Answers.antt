-- `backward::constants::spread_hits` meets its contract.
use Rattle.backward.proofs.Hitting.{hitting_none, hitting_step, hitting_all}
use Rattle.backward.proofs.constants.spread_hits.Goals as goal

pub loop-w-init : goal.loop-w-init
loop-w-init c = hitting_none c.requires.0 c.requires.1

pub loop-w-preserved : goal.loop-w-preserved
loop-w-preserved c = hitting_step c.loop-w.invariant c.loop-w-test.true c.spread_hit-len.ensures

pub returns : goal.returns
returns c = let b = c.loop-w in (b.len, hitting_all b.invariant c.loop-w-test.false)
