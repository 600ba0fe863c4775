-- `rank_sets::ranges::widened` meets its contract.
use Rattle.std.proofs.lemmas.Bool.{iff_false}
use Rattle.rank_sets.proofs.Ranged.{ranged_skip, ranged_with}
use native.Mathlib.Omega.{arith}
use Rattle.rank_sets.proofs.ranges.widened.Goals as goal

pub returns-then-r-n : goal.returns-then-r-n
returns-then-r-n c =
    let r = c.get-r in let q = r.ensures.0 in let l = c.if-r-n.true in
    let ended = c.ends_at.ensures.0 c.if-ends_at.true in
    ranged_with c.requires.2 (record { least = c.min.result; above = c.max.result }) r.result (ended, omega arith) q c.min.ensures c.max.ensures

pub returns-else-r-n : goal.returns-else-r-n
returns-else-r-n c = let q = c.get-r.ensures.0 in let l = c.if-r-n.false in ranged_skip c.requires.2 (λ (e, k). omega arith)

pub returns-else-ends_at : goal.returns-else-ends_at
returns-else-ends_at c = ranged_skip c.requires.2 (λ (e, k). iff_false c.ends_at.ensures c.if-ends_at.false e)
