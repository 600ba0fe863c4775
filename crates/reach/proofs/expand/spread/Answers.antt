-- `reach::expand::spread` meets its contract.
use Rattle.reach.proofs.Spreading.{Ways, added_onward}
use Rattle.reach.proofs.expand.spread.Goals as goal

pub returns : goal.returns
returns c =
    let x = c.args in
    let w : Ways x.m x.n x.p.now x.v x.f c.get-left.result c.get-right.result c.get-parent.result c.meet.result c.meet-2.result c.meet-3.result c.meet-4.result = record {
      left = c.get-left.ensures.0;
      right = c.get-right.ensures.0;
      parent = c.get-parent.ensures.0;
      brackets = c.get-stays.result;
      up = c.upward-up.result;
      held = c.get-stays.ensures.0;
      climbing = c.upward-up.ensures;
      stay = c.meet.ensures;
      go_left = c.meet-2.ensures;
      go_right = c.meet-3.ensures;
      go_up = c.meet-4.ensures;
    } in
    added_onward w c.add-a.ensures c.add-b.ensures c.add-c.ensures c.add.ensures
