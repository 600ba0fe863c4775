-- `backward::sweeps::blank` meets its contract.
use Rattle.backward.proofs.Filling.{blanked}
use Rattle.backward.proofs.sweeps.blank.Goals as goal

pub returns : goal.returns
returns c =
    blanked c.args.bound c.column-c.ensures c.requires.0 c.fill.ensures c.fill-2.ensures c.fill-3.ensures
