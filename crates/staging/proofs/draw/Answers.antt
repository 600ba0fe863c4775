-- `staging::draw` meets its contract.
use Rattle.staging.proofs.Links.{links_copied}
use Rattle.staging.proofs.draw.Goals as goal

pub returns : goal.returns
returns c = links_copied c.copy.ensures
