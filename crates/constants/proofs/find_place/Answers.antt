-- `constants::find_place` meets its contract.
use Prim.Native.Nat.{◌<◌}
use mathlib.Core.Path.{sym, subst}
use native.Mathlib.Omega.{arith}
use Rattle.layout.specs.Table.{COLUMNS}
use Rattle.layout.specs.Words.{word}
use Rattle.table.proofs.Trees.{tree_size, tree_small}
use Rattle.constants.specs.Places.{ComparesAt, against}
use Rattle.constants.proofs.Placing.{around_all, around_smaller, around_greater, around_none, placed_same, placed_between}
use Rattle.constants.proofs.Targets.{column_inside, valued, placed_there}
use Rattle.constants.proofs.find_place.Goals as goal

-- the node in the middle is there
inside : (c : goal.Else-v-n) → c.nearest-v.result < c.args.n
inside c = let w = c.nearest-v.ensures.within in let l = c.if-v-n.false in omega arith

pub loop-lo-init : goal.loop-lo-init
loop-lo-init c = let x = c.args in (omega arith, λ ns a g. around_all (against ns x.rule.now x.c) x.n (word x.t.now x.n c.column-k.result))

-- ── The node nearest to the middle ──
pub nearest-v-requires : goal.nearest-v-requires
nearest-v-requires c = (c.requires.0.tabled.room, subst (λ k. k < COLUMNS) (sym c.column-k.ensures) (column_inside c.args.c))

pub loop-lo-preserved-then-v-n : goal.loop-lo-preserved-then-v-n
loop-lo-preserved-then-v-n c = let i = c.loop-lo in let l = c.loop-lo-test.true in let h = i.invariant.0 in (omega arith, λ ns a g. around_none (i.invariant.1 ns a g) c.nearest-v.ensures c.if-v-n.true)

pub get-r-requires : goal.get-r-requires
get-r-requires c = (subst (λ k. k < COLUMNS) (sym c.column-k.ensures) (column_inside c.args.c), inside c, c.requires.0.tabled.room)

pub loop-lo-preserved-in-Less : goal.loop-lo-preserved-in-Less
loop-lo-preserved-in-Less c =
    let i = c.loop-lo in let x = c.args in let m = c.nearest-v in
    (i.invariant.0, λ ns a g. around_smaller g m.ensures (let inside-here : c.nearest-v.result < c.args.n = let w = c.nearest-v.ensures.within in let l = c.if-v-n.false in omega arith in inside-here) c.get-r.ensures.0 (i.invariant.1 ns a g) (subst (λ o. ComparesAt (against ns x.rule.now x.c) m.result o) c.in-Less.is (c.compare_value.ensures ns a)))

pub returns-in-Equal : goal.returns-in-Equal
returns-in-Equal c =
    let x = c.args in let m = c.nearest-v in let k = c.column-k in
    λ ns a r w. placed_there x.t.now k.ensures
    (placed_same (valued x.rule.now x.c c.column-k.ensures (tree_size c.requires.0.tabled ns a) (tree_small a) r w) m.ensures (let inside-here : c.nearest-v.result < c.args.n = let w = c.nearest-v.ensures.within in let l = c.if-v-n.false in omega arith in inside-here) c.get-r.ensures.0 (subst (λ o. ComparesAt (against ns x.rule.now x.c) m.result o) c.in-Equal.is (c.compare_value.ensures ns a)))

pub loop-lo-preserved : goal.loop-lo-preserved
loop-lo-preserved c =
    let i = c.loop-lo in let x = c.args in let m = c.nearest-v in let l = c.loop-lo-test.true in let h = i.invariant.0 in
    (omega arith, λ ns a g. around_greater g m.ensures (let inside-here : c.nearest-v.result < c.args.n = let w = c.nearest-v.ensures.within in let l = c.if-v-n.false in omega arith in inside-here) c.get-r.ensures.0 (i.invariant.1 ns a g) (subst (λ o. ComparesAt (against ns x.rule.now x.c) m.result o) c.in-Greater.is (c.compare_value.ensures ns a)))

-- ── What is returned behind the loop ──
pub returns : goal.returns
returns c =
    let x = c.args in
    λ ns a r w. placed_there x.t.now c.column-k.ensures (placed_between (c.loop-lo.invariant.1 ns a (valued x.rule.now x.c c.column-k.ensures (tree_size c.requires.0.tabled ns a) (tree_small a) r w)) c.loop-lo-test.false)
