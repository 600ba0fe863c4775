-- `tokens::stands` meets its contract.
use native.Mathlib.Omega.{arith}
use mathlib.Core.Path.{sym, subst}
use borrow.Author.Tests.{le-ltb}
use Rattle.tokens.specs.Readers.{Stood}
use Rattle.tokens.proofs.Places.{lacks_end, stood_at}
use Rattle.tokens.proofs.stands.Goals as goal

pub returns-then-at-s : goal.returns-then-at-s
returns-then-at-s c = stood_at c.args.s.now c.args.at c.args.x (omega arith)

pub returns-else-at-s : goal.returns-else-at-s
returns-else-at-s c =
    let a = c.args in
    subst (Stood a.s.now a.at a.x) (sym (le-ltb a.at _ (omega arith))) (lacks_end a.s.now a.x {i = a.at} (omega arith))
