-- `rank_sets::marks::marked_at` meets its contract.
use mathlib.Core.Path.{◌∙◌, sym, ap}
use Prim.Native.Nat.{ℕ}
use borrow.Author.Tests.{eqb-true, eq-eqb}
use Rattle.layout.specs.Part.{MARK}
use Rattle.layout.specs.Words.{word}
use Rattle.rank_sets.proofs.marks.marked_at.Goals as goal

pub returns-then-ends_at : goal.returns-then-ends_at
returns-then-ends_at c =
    let x = c.args in
    let e = c.ends_at.ensures.0 c.if-ends_at.true in
    let g = c.get-then-ends_at.ensures.0 ∙ ap (λ (r : ℕ). word x.p.now x.n MARK r) c.get.ensures.0 in
    (λ t. (e, sym g ∙ eqb-true _ 1 t), λ h. eq-eqb _ 1 (g ∙ h.1))
