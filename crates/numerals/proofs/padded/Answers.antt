-- `numerals::padded` meets its contract.
use Rattle.numerals.proofs.Scans.{padded_small}
use mathlib.Core.Path.{refl}
use native.Mathlib.Omega.{arith}
use Rattle.numerals.proofs.padded.Goals as goal

pub returns : goal.returns
returns c = let h = padded_small c.args.number c.args.decimals c.requires.0 c.requires.1 in rw c.pow.ensures (refl, h)

pub overflow_mul-result : goal.overflow_mul-result
overflow_mul-result c = let h = padded_small c.args.number c.args.decimals c.requires.0 c.requires.1 in rw c.pow.ensures (omega arith)
