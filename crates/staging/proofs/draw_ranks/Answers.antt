-- `staging::draw_ranks` meets its contract.
use native.Mathlib.Omega.{arith}
use Rattle.staging.proofs.Links.{column_ends, ranks_copied}
use Rattle.staging.proofs.draw_ranks.Goals as goal

pub overflow_mul-c : goal.overflow_mul-c
overflow_mul-c c = let h = column_ends c.args.n c.requires.1 in omega arith

pub copy-requires : goal.copy-requires
copy-requires c = let h = column_ends c.args.n c.requires.1 in (omega arith, omega arith)

pub returns : goal.returns
returns c = ranks_copied c.copy.ensures
