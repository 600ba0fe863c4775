-- `verdicts::has_nodes` meets its contract.
use Prim.Native.Nat.{ℕ, ◌<◌}
use mathlib.Core.Path.{◌≡◌}
use mathlib.Core.Logic.{◌↔◌}
use mathlib.Core.Bool.{true}
use lib.ListN.{length, get_or}
use Rattle.std.proofs.Common.{rules}
use Rattle.verdicts.proofs.Nodes.{has_nodes_by}
use Rattle.verdicts.proofs.has_nodes.Goals as goal

pub returns : goal.returns
returns c =
    let vs = c.args.values.now in
    let h : (c.all.result ≡ true) ↔ ((k : ℕ) → k < length vs → get_or vs k 0 < c.args.nodes) = search rules in
    has_nodes_by vs c.args.nodes c.all.result h
