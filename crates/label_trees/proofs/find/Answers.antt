-- `label_trees::find` meets its contract. Each line that is met is later than the one before, so the digits run out behind the last.
use Prim.Native.Nat.{ℕ, ◌+◌, ◌*◌, ◌-◌}
use mathlib.Core.Path.{sym, ap, ◌∙◌}
use native.Mathlib.Omega.{arith}
use Rattle.label_trees.specs.Trees.{key_at}
use Rattle.label_trees.proofs.Keys.{told_yes, told_no}
use Rattle.label_trees.proofs.Searching.{offset_of_lem, searching_start, searching_step, searching_end}
use Rattle.label_trees.proofs.find.Goals as goal

pub loop-q-init : goal.loop-q-init
loop-q-init c = searching_start c.requires.2 _ c.first_link-p.ensures

pub same_line-requires : goal.same_line-requires
same_line-requires c =
    let q = c.loop-q.q in
    (c.requires.0, rw (offset_of_lem c.args.t.now q (omega arith)) (c.requires.3 (q - 1) (omega arith)), c.requires.1)

pub returns-then-same_line : goal.returns-then-same_line
returns-then-same_line c =
    let a = c.args in
    let q = c.loop-q.q in
    let same = c.same_line in
    (q - 1, omega arith, ap (key_at a.s.now) (sym (offset_of_lem a.t.now q (omega arith))) ∙ told_yes same.result c.if-same_line.true same.ensures)

pub loop-q-preserved : goal.loop-q-preserved
loop-q-preserved c =
    let l = c.loop-q in
    let same = c.same_line in
    searching_step c.requires.2 l.invariant (omega arith) (told_no same.result c.if-same_line.false same.ensures) _
    (ap (λ (x : ℕ). 15 + 3 * l.q + x) c.digit_at.ensures.0)

pub returns : goal.returns
returns c =
    let l = c.loop-q in
    let g = l.invariant.passed in
    (searching_end c.requires.2 l.invariant (omega arith), (l.invariant.steps, g.link, omega arith, g.way))
