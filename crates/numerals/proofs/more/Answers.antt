-- `numerals::more` meets its contract.
use Rattle.numerals.proofs.Scans.{digit_is}
use Rattle.numerals.proofs.more.Goals as goal

pub overflow_sub-result : goal.overflow_sub-result
overflow_sub-result c = (digit_is c.args.b c.requires.0).0
