-- `numerals::is_digit` meets its contract.
use Rattle.numerals.proofs.Scans.{digit_low, digit_high}
use Rattle.numerals.proofs.is_digit.Goals as goal

pub returns-then-b-ge48 : goal.returns-then-b-ge48
returns-then-b-ge48 c = digit_high c.args.b c.if-b-ge48.true

pub returns-else-b-ge48 : goal.returns-else-b-ge48
returns-else-b-ge48 c = digit_low c.args.b c.if-b-ge48.false
