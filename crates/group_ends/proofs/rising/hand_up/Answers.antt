-- `group_ends::rising::hand_up` meets its contract.
use mathlib.Core.Path.{sym, ◌∙◌}
use native.Mathlib.Omega.{arith}
use Rattle.powers.proofs.Rest.{sizes_front}
use Rattle.group_ends.proofs.Ascending.{placed_node, placed_stretch, handed_none, handed_left, handed_right}
use Rattle.group_ends.proofs.rising.hand_up.Goals as goal

pub climb-requires : goal.climb-requires
climb-requires c = let s = c.requires in let h = sizes_front s.sizes in ((s.tree, s.group.shape), omega arith, placed_node s)

pub lift-w-requires : goal.lift-w-requires
lift-w-requires c = placed_stretch c.requires c.in-Some.ensures

pub returns-then-left-c : goal.returns-then-left-c
returns-then-left-c c = handed_left c.in-Some.ensures c.args.set c.lift-w.result c.lift-w.ensures (sym c.left.ensures.0 ∙ c.if-left-c.true) c.put.ensures

pub returns-else-left-c : goal.returns-else-left-c
returns-else-left-c c = handed_right c.in-Some.ensures c.args.set c.lift-w.result c.lift-w.ensures (λ e. c.if-left-c.false (c.left.ensures.0 ∙ e)) c.put-else-left-c.ensures

pub returns-in_default : goal.returns-in_default
returns-in_default c = handed_none c.in_default.ensures
