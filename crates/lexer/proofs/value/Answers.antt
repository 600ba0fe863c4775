-- `lexer::value` meets its contract.
use mathlib.Core.Path.{sym, ap, ◌∙◌}
use Rattle.std.proofs.lemmas.Slice.{between_is}
use Rattle.lists.specs.Numerals.{reading}
use Rattle.lexer.proofs.Laws.{reading_over}
use Rattle.lexer.proofs.value.Goals as goal

-- ── What is returned ──
pub returns : goal.returns
returns c =
    let a = c.args in
    let l = c.loop-b in
    sym (reading_over _ l.b-index l.n c.loop-b-test.false) ∙ l.invariant.1 ∙ ap reading (between_is a.s.now a.at a.end)
