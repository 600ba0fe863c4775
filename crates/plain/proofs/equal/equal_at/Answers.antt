-- `plain::equal::equal_at` meets its contract.
use Prim.Native.Nat.{◌<◌}
use mathlib.Core.Path.{◌∙◌}
use native.Mathlib.Omega.{arith}
use Rattle.layout.specs.Part.{MARK}
use Rattle.layout.specs.Words.{cell}
use Rattle.reach.proofs.Adding.{spared_front}
use Rattle.rank_sets.proofs.Steady.{held_then, held_space, held_small, steady_marks}
use Rattle.plain.proofs.Steady.{steady_reached}
use Rattle.plain.proofs.Compared.{equal_steady, equal_told}
use Rattle.plain.proofs.equal.equal_at.Goals as goal

pub mark_ranks-requires : goal.mark_ranks-requires
mark_ranks-requires c =
    let k = c.fill.ensures in let f = c.reach.ensures in
    let h = held_then (steady_marks k.within).held (steady_reached f).held in
    (held_space h c.requires.0, held_small h c.requires.1, λ r l. spared_front f.spared (cell c.args.n MARK r) (omega arith) ∙ k.filled r l)

pub any_marked-requires : goal.any_marked-requires
any_marked-requires c =
    let x = c.requires in
    let h = (equal_steady (steady_marks c.fill.ensures.within) c.reach.ensures c.mark_ranks.ensures c.reach-2.ensures).held in
    let r = (held_space h x.0).room in
    (omega arith, held_small h x.1)

pub returns : goal.returns
returns c =
    let fits : c.args.m.last < 65536 = omega (arith, c.well_formed.1.1.0) in
    let k = steady_marks c.fill.ensures.within in let f = c.reach.ensures in let g = c.mark_ranks.ensures in let s = c.reach-2.ensures in
    (equal_steady k f g s, equal_told fits c.requires.3 c.requires.1 k f g s c.any_marked.ensures)
