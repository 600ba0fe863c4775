-- `plain::ordered::ordered_at` meets its contract.
use Prim.Native.Nat.{◌<◌}
use mathlib.Core.Path.{◌≡◌, subst}
use mathlib.Core.Logic.Iff
use mathlib.Core.Logic.{◌↔◌}
use mathlib.Core.Bool.{true}
use native.Mathlib.Omega.{arith}
use Rattle.rank_sets.specs.Ranges.{Across}
use Rattle.rank_sets.proofs.Telling.{tells_no}
use Rattle.rank_sets.proofs.Ranged.{ranged_fits}
use Rattle.plain.proofs.Steady.{steady_reached}
use Rattle.plain.proofs.Compared.{none_told, ordered_steady, ordered_told}
use Rattle.plain.proofs.ordered.ordered_at.Goals as goal

pub returns-then-a-eq0 : goal.returns-then-a-eq0
returns-then-a-eq0 c =
    let f = c.reach.ensures in
    (steady_reached f, λ q d e. tells_no (none_told (omega arith) c.requires.2 f c.rank_range-a.ensures c.if-a-eq0.true q))

pub ordered-requires : goal.ordered-requires
ordered-requires c =
    let x = c.requires in
    (ranged_fits x.0.few c.rank_range-a.ensures, ranged_fits x.0.few c.rank_range-b.ensures)

pub returns : goal.returns
returns c =
    let fits : c.args.m.last < 65536 = omega (arith, c.well_formed.1.1.0) in
    let f = c.reach.ensures in let s = c.reach-2.ensures in
    let a = c.rank_range-a in let b = c.rank_range-b in (
      ordered_steady f s,
      λ q d e. Iff.trans (subst (λ o. (c.ordered.result ≡ true) ↔ Across o a.result b.result) e c.ordered.ensures) (ordered_told fits c.requires.2 f a.ensures s b.ensures c.requires.0 q d),
    )
