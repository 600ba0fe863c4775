-- `powers::blocks::edge` meets its contract.
use Rattle.powers.proofs.Making.{edge_made}
use Rattle.powers.proofs.blocks.edge.Goals as goal

pub returns : goal.returns
returns c =
    edge_made c.args.m c.args.down c.args.up c.requires.0 c.requires.1 c.block_at-at.ensures c.loop_at-above.ensures c.loop_at-below.ensures c.cross.ensures c.cross-2.ensures
