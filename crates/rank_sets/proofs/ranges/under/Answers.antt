-- `rank_sets::ranges::under` meets its contract.
use Prim.Native.Nat.{◌+◌}
use Rattle.rule_spec.proofs.Bytes.{lt_iff}
use Rattle.rank_sets.proofs.ranges.under.Goals as goal

pub returns : goal.returns
returns c = let x = c.args in lt_iff (x.a.least + 1) x.b.above
