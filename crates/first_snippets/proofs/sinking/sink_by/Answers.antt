-- `first_snippets::sinking::sink_by` meets its contract.
use native.Mathlib.Omega.{arith}
use Rattle.powers.proofs.Rest.{sizes_front}
use Rattle.lifting.proofs.Rest.{stretch_kept}
use Rattle.group_ends.proofs.Ascending.{placed_node, placed_stretch}
use Rattle.first_snippets.proofs.Descending.{put_rest, sinks_edge}
use Rattle.first_snippets.proofs.sinking.sink_by.Goals as goal

pub lower-above-requires : goal.lower-above-requires
lower-above-requires c = let s = c.requires in placed_stretch s.0 s.1

pub get-inside-requires : goal.get-inside-requires
get-inside-requires c = let s = c.requires.0 in let h = sizes_front s.sizes in (omega arith, placed_node s, omega arith)

pub put-requires : goal.put-requires
put-requires c = let s = c.requires.0 in let h = sizes_front s.sizes in (omega arith, placed_node s, omega arith, omega arith)

pub add_edge-requires : goal.add_edge-requires
add_edge-requires c = let s = c.requires in (stretch_kept (put_rest (placed_node s.0) c.put.ensures) (placed_stretch s.0 s.1), s.1.proper)

pub returns : goal.returns
returns c = let s = c.requires in sinks_edge _ (placed_node s.0) c.put.ensures s.1 c.outside-out.ensures c.get-inside.ensures.0 c.lower-above.ensures c.add_edge.ensures
