-- `retracing::retrace::retrace` meets its contract.
use Rattle.retracing.proofs.Retracing.{added_entry}
use Rattle.retracing.proofs.retrace.retrace.Goals as goal

pub returns : goal.returns
returns c = added_entry c.args.h c.entry_at-e.ensures c.lead_in.ensures
