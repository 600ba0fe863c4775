-- `group_ends::rising::rise_at` meets its contract.
use mathlib.Core.Path.{sym, ◌∙◌}
use mathlib.Core.Bool.{false≢true}
use Rattle.group_ends.proofs.Ascending.{placed_rest, in_rest, rises_skip, rises_step}
use Rattle.powers.proofs.Kept.{founded_ready}
use Rattle.group_ends.proofs.rising.rise_at.Goals as goal

pub hand_up-requires : goal.hand_up-requires
hand_up-requires c = let s = c.requires in placed_rest (in_rest s.1 c.put.ensures) s.0 ((c.is_skeleton.ensures s.0.tree s.0.value s.0.setting.group).0 c.if-is_skeleton.true)

pub returns-then-is_skeleton : goal.returns-then-is_skeleton
returns-then-is_skeleton c = let s = c.requires in rises_step s.1 (λ P R t d z. (c.is_skeleton.ensures t d z.group).0 c.if-is_skeleton.true) (λ P R t d z q. c.gathered-set.ensures P R t d (founded_ready z.founded) z.group.ranks ((c.is_skeleton.ensures t d z.group).0 c.if-is_skeleton.true) q) c.put.ensures c.hand_up.ensures

pub returns-else-is_skeleton : goal.returns-else-is_skeleton
returns-else-is_skeleton c = rises_skip (λ P R t d z k. false≢true (sym c.if-is_skeleton.false ∙ (c.is_skeleton.ensures t d z.group).1 k))
