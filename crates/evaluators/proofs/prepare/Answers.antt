-- `evaluators::prepare` meets its contract.
use Rattle.layout.proofs.Frames.{room_within}
use Rattle.evaluators.proofs.Snippeting.{part_room, powered}
use Rattle.evaluators.proofs.prepare.Goals as goal

pub levels-l-requires : goal.levels-l-requires
levels-l-requires c = let (s, room) = c.requires in (s, part_room c.args.n c.args.p.now room)

pub buckets-requires : goal.buckets-requires
buckets-requires c =
    let x = c.args in let (s, room) = c.requires in
    (s.1.few, room_within c.levels-l.ensures.within (part_room x.n x.p.now room))

pub returns : goal.returns
returns c =
    let (s, room) = c.requires in
    powered s.1 room c.levels-l.ensures c.digits-b.ensures c.buckets.ensures
