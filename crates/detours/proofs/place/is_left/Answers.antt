-- `detours::place::is_left` meets its contract.
use Prim.Native.Nat.{ℕ}
use mathlib.Core.Path.{◌≡◌, sym, ap, ◌∙◌}
use borrow.Author.Tests.{eqb-true, eqb-false}
use Rattle.layout.specs.Table.{LEFT, PARENT}
use Rattle.layout.specs.Words.{word}
use Rattle.detours.proofs.place.is_left.Goals as goal

pub returns : goal.returns
returns c =
    let a = c.args in
    let left : ℕ → ℕ = λ u. word a.p.now a.n LEFT u in
    let e : c.get.result ≡ left (word a.p.now a.n PARENT a.v) = c.get.ensures.0 ∙ ap left c.get-u.ensures.0 in
    (λ t. sym e ∙ eqb-true _ _ t, λ f k. eqb-false _ _ f (e ∙ k))
