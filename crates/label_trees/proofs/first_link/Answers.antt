-- `label_trees::first_link` meets its contract.
use native.Mathlib.Omega.{arith}
use mathlib.Core.Path.{ap, refl}
use Prim.Native.Nat.{ℕ, ◌+◌}
use Rattle.label_trees.proofs.Keys.{stands_two, root_is}
use Rattle.label_trees.proofs.first_link.Goals as goal

pub overflow_sub-middle : goal.overflow_sub-middle
overflow_sub-middle c = let b = c in let a = b.args in let two = stands_two a.s.now a.from a.to b.requires.0 in omega arith

pub bounds-s-from : goal.bounds-s-from
bounds-s-from c = let a = c.args in let two = stands_two a.s.now a.from a.to c.requires.0 in let i = c.requires.0.inside in omega arith

pub bounds-s-middle : goal.bounds-s-middle
bounds-s-middle c = let a = c.args in let two = stands_two a.s.now a.from a.to c.requires.0 in let i = c.requires.0.inside in omega arith

pub overflow_sub-sum : goal.overflow_sub-sum
overflow_sub-sum c = let a = c.args in let two = stands_two a.s.now a.from a.to c.requires.0 in omega arith

pub bounds-s-to : goal.bounds-s-to
bounds-s-to c = let a = c.args in let two = stands_two a.s.now a.from a.to c.requires.0 in let i = c.requires.0.inside in omega arith

pub returns : goal.returns
returns c = let a = c.args in ap (λ (x : ℕ). 1 + x) (root_is a.s.now a.from a.to c.requires.0 _ _ refl refl)
