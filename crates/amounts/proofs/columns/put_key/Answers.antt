-- `amounts::columns::put_key` meets its contract.
use Rattle.amounts.proofs.Words.{keyed_wrote}
use Rattle.amounts.proofs.columns.put_key.Goals as goal

pub returns : goal.returns
returns c =
    keyed_wrote c.args.n c.args.v c.args.k c.requires.0 c.put.ensures c.put-2.ensures c.put-3.ensures
