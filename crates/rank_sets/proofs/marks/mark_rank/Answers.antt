-- `rank_sets::marks::mark_rank` meets its contract.
use mathlib.Core.Path.{subst}
use mathlib.Core.Logic.{inl}
use mathlib.Core.List.{[], ◌∷◌}
use Rattle.layout.specs.Part.{MARK}
use Rattle.layout.specs.Words.{cell, Wrote}
use Rattle.rank_sets.proofs.marks.mark_rank.Goals as goal

pub returns-then-ends_at : goal.returns-then-ends_at
returns-then-ends_at c =
    let x = c.args in
    inl (
      c.ends_at.ensures.0 c.if-ends_at.true,
      subst (λ r. Wrote ((cell x.n MARK r, 1) ∷ []) x.p.now c.put.new.t) c.get-r.ensures.0 c.put.ensures,
    )
