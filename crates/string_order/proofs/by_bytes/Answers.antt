-- `string_order::by_bytes` meets its contract.
use Rattle.string_order.proofs.Comparison.{first_bytes}
use Rattle.string_order.proofs.by_bytes.Goals as goal

pub returns : goal.returns
returns c bs cs n = first_bytes c.args.a c.args.b bs cs c.cmp.result c.cmp.ensures n
