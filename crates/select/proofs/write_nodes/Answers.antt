-- `select::write_nodes` meets its contract.
use Rattle.select.proofs.Printed.{written_none, written_more, written_all}
use Rattle.select.proofs.write_nodes.Goals as goal

pub loop-node-init : goal.loop-node-init
loop-node-init g c = written_none (g.W.Write.contents c.args.out.now) c.next_marked-node.ensures

pub loop-node-preserved : goal.loop-node-preserved
loop-node-preserved g c =
    written_more (g.W.Write.contents c.args.out.now) (g.W.Write.contents c.loop-node.out) (g.W.Write.contents c.writeln.new.self)
    c.loop-node.invariant c.loop-node-test.true c.in_ok-writeln.ensures.bytes c.next_marked-node-in-loop-node.ensures

pub returns : goal.returns
returns g c = written_all c.loop-node.invariant c.loop-node-test.false
