-- `retracing::retrace::lead_in` meets its contract.
use Rattle.retracing.proofs.Retracing.{Ways, added_leads}
use Rattle.retracing.proofs.retrace.lead_in.Goals as goal

pub returns : goal.returns
returns c =
    let y = c.args in
    let w : Ways y.m y.n y.p.now y.u y.s c.get-left.result c.get-right.result c.get-parent.result c.sources.result c.sources-2.result c.sources-3.result c.sources-4.result = record {
      left = c.get-left.ensures.0;
      right = c.get-right.ensures.0;
      parent = c.get-parent.ensures.0;
      brackets = c.get-stays.result;
      down = c.downward-down.result;
      held = c.get-stays.ensures.0;
      downs = c.downward-down.ensures;
      stay = c.sources.ensures;
      by_left = c.sources-2.ensures;
      by_right = c.sources-3.ensures;
      by_parent = c.sources-4.ensures;
    } in
    added_leads c.requires.1 c.requires.2 w c.add-a.ensures c.add-b.ensures c.add-c.ensures c.add.ensures
