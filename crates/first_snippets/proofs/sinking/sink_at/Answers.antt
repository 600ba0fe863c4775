-- `first_snippets::sinking::sink_at` meets its contract.
use mathlib.Core.Path.{refl, sym, ◌∙◌}
use mathlib.Core.Bool.{false≢true}
use Rattle.group_ends.proofs.Ascending.{given_placed}
use Rattle.first_snippets.proofs.Descending.{sinks_skip, sinks_by, sinks_top}
use Rattle.first_snippets.proofs.sinking.sink_at.Goals as goal

pub sink_by-requires : goal.sink_by-requires
sink_by-requires c = let g = c.requires.0 in (given_placed g ((c.is_skeleton.ensures g.tree g.value g.setting.group).0 c.if-is_skeleton.true), c.in-Some.ensures)

pub returns-in-Some : goal.returns-in-Some
returns-in-Some c = sinks_by (λ P R t d z. (c.is_skeleton.ensures t d z.group).0 c.if-is_skeleton.true) c.sink_by.ensures

pub returns-in-None : goal.returns-in-None
returns-in-None c = let s = c.requires in sinks_by (λ P R t d z. (c.is_skeleton.ensures t d z.group).0 c.if-is_skeleton.true) (sinks_top 0 s.1 c.put.ensures c.in-None.ensures refl)

pub returns-else-is_skeleton : goal.returns-else-is_skeleton
returns-else-is_skeleton c = sinks_skip (λ P R t d z k. false≢true (sym c.if-is_skeleton.false ∙ (c.is_skeleton.ensures t d z.group).1 k))
