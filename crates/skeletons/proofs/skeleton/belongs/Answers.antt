-- `skeletons::skeleton::belongs` meets its contract.
use mathlib.Core.Path.{sym, ◌∙◌}
use mathlib.Core.Logic.{inl}
use borrow.Author.Tests.{eq-eqb}
use Rattle.skeletons.proofs.Judging.{skeleton_words, skeleton_other}
use Rattle.skeletons.proofs.skeleton.belongs.Goals as goal

pub returns-then-get-r : goal.returns-then-get-r
returns-then-get-r c = λ t d g. (λ e. (skeleton_words g c.args.v c.requires.1).1 (inl (sym c.get.ensures.0 ∙ c.if-get-r.true)), λ k. eq-eqb _ _ c.if-get-r.true)

pub returns-else-get-r : goal.returns-else-get-r
returns-else-get-r c = λ t d g.
    let s = skeleton_other g c.args.v c.requires.1 (λ e. c.if-get-r.false (c.get.ensures.0 ∙ e)) in let m = c.both_marked.ensures in
    (λ e. s.1 (m.0 e), λ k. m.1 (s.0 k))
