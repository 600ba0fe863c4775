-- `powers::blocks::none` meets its contract.
use Prim.Native.Nat.{ℕ, ◌+◌}
use mathlib.Core.Path.{◌≡◌, sym, subst}
use lib.ListN.{get_or, set}
use Rattle.layout.specs.Blocks.{upper_at}
use Rattle.layout.specs.Words.{NONE}
use Rattle.powers.specs.Blocks.{Only}
use Rattle.powers.proofs.Making.{only_upper, upper_set}
use Rattle.powers.proofs.blocks.none.Goals as goal

pub returns : goal.returns
returns c =
    let x = c.args in
    subst (λ (a : ℕ). Only x.n x.k x.y x.p.now (set x.p.now (a + 48) NONE) × (get_or (set x.p.now (a + 48) NONE) (upper_at x.n x.k x.y) 0 ≡ NONE)) (sym c.block_at-at.ensures)
    (only_upper x.n x.k x.y x.p.now NONE, upper_set x.n x.k x.y x.p.now NONE c.requires)
