-- `tokens::number` meets its contract.
use Rattle.tokens.proofs.Numbers.{number_stuck, number_back}
use Rattle.tokens.proofs.number.Goals as goal

pub returns-then-f-at : goal.returns-then-f-at
returns-then-f-at c = number_stuck c.args.s.now c.requires.0 c.figures-f.ensures c.if-f-at.true

pub returns : goal.returns
returns c = number_back c.args.s.now c.requires.0 c.figures-f.ensures c.args.k c.args.t c.if-f-at.false c.requires.1
