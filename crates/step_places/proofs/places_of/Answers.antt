-- `step_places::places_of` meets its contract.
use native.Mathlib.Omega.{arith}
use Rattle.path_sets.proofs.Shapes.{path_room, behind_room}
use Rattle.step_places.proofs.Locating.{spot_ends, places_told, alone_told}
use Rattle.step_places.proofs.places_of.Goals as goal

pub locate-p-requires : goal.locate-p-requires
locate-p-requires c = (path_room _ _ c.requires, omega arith)

pub locate-requires : goal.locate-requires
locate-requires c = let n = c.locate-p.auto.places in (behind_room _ _ c.in-Some.is (spot_ends c.locate-p.ensures) c.requires, omega arith)

pub returns-in-Some : goal.returns-in-Some
returns-in-Some c = places_told _ _ c.locate-p.ensures c.in-Some.is c.locate.ensures

pub returns-in_default : goal.returns-in_default
returns-in_default c = alone_told _ _ c.locate-p.ensures c.in_default.is
