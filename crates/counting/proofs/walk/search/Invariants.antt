-- `counting::walk::search` meets its contract.
use Prim.Native.Nat.{◌*◌, ◌-◌}
use Rattle.counting.proofs.Searching.{Searching}
use Rattle.counting.proofs.walk.search.Given as goal

abbrev pub invariant-loop-h : goal.invariant-loop-h
invariant-loop-h l = Searching l.m l.n l.v l.k l.h l.len l.count l.initial.p l.p

abbrev pub decreases-loop-h : goal.decreases-loop-h
decreases-loop-h l = 16 * l.n - l.h
