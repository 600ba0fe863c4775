-- `label_trees::digit_at` meets its contract.
use native.Mathlib.Nat.{mod-lt}
use native.Mathlib.Omega.{arith}
use Rattle.label_trees.proofs.Keys.{stands_length, digit_is}
use Rattle.label_trees.proofs.digit_at.Goals as goal

-- the byte is found from the end of the line
pub returns : goal.returns
returns c =
    let a = c.args in
    let l = stands_length a.s.now a.from a.to c.requires.0 in
    (digit_is a.s.now a.from a.to c.requires.0 a.b _ (omega arith), mod-lt _ (omega arith))
