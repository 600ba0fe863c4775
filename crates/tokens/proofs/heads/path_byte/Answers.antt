-- `tokens::heads::path_byte` meets its contract.
use Rattle.tokens.proofs.FirstBytes.{no_path}
use Rattle.tokens.proofs.heads.path_byte.Goals as goal

pub returns-in_default : goal.returns-in_default
returns-in_default c =
    let n = c.in_default.in_default-own.rest in
    no_path _ n.0.0.0.0.1 n.0.0.0.1 n.0.0.1 n.0.1 n.1
