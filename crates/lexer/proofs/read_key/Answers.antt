-- `lexer::read_key` meets its contract.
use Rattle.lexer.proofs.Keys.{key_read, key_missed}
use Rattle.lexer.proofs.read_key.Goals as goal

pub returns-then-starts_with : goal.returns-then-starts_with
returns-then-starts_with c = let a = c.args in key_read a.s.now a.key.now a.at c.requires _ c.starts_with.ensures.value c.if-starts_with.true c.starts_with.ensures.bound

pub returns-else-starts_with : goal.returns-else-starts_with
returns-else-starts_with c = let a = c.args in key_missed a.s.now a.key.now a.at c.requires _ c.starts_with.ensures.value c.if-starts_with.false
