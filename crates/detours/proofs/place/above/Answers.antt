-- `detours::place::above` meets its contract.
use mathlib.Core.Path.{ap, ◌∙◌}
use native.Mathlib.Omega.{arith}
use Rattle.layout.specs.Part.{loop_at}
use Rattle.detours.proofs.place.above.Goals as goal

pub returns : goal.returns
returns c =
    let h = c.requires in
    let u = h.0.parents c.args.v h.1 h.2 in
    (c.loop_at.ensures ∙ ap (loop_at _) c.get-u.ensures.0, omega (arith, c.loop_at.ensures, c.get-u.ensures.0))
