-- The test for a smaller string.
use Prim.Native.Nat.{ℕ}
use mathlib.Core.Logic.{◌↔◌}
use mathlib.Core.List.{List}
use lib.Dec.{T}
use Rattle.string_order.specs.Bytes.{Less}
use Rattle.string_order.proofs.Bytes as Bytes
use Rattle.value_order.specs.Less.{is_less}

pub less_iff : (bs cs : List ℕ) → T (is_less bs cs) ↔ Less bs cs
unfolding is_less
less_iff bs cs = Bytes.less_iff bs cs
