-- `detours::visit::detour` meets its contract.
use Rattle.detours.proofs.Detours.{detours}
use Rattle.detours.proofs.visit.detour.Goals as goal

pub returns : goal.returns
returns c = detours _ _ _ _ _ _ _ _ _ _ c.meet-left.ensures c.image-there.ensures c.followers.ensures c.meet.ensures
