-- `reach::list::add` meets its contract.
use native.Mathlib.Omega.{arith}
use Rattle.layout.specs.Part.{SEEN}
use Rattle.layout.specs.Words.{word}
use Rattle.reach.proofs.Entering.{Fresh, added_known, enter_room, added_new}
use Rattle.reach.proofs.list.add.Goals as goal

pub returns-then-new-eq0 : goal.returns-then-new-eq0
returns-then-new-eq0 c =
    added_known c.requires c.args.u c.args.w c.without-new.result c.without-new.ensures c.if-new-eq0.true

pub enter-requires : goal.enter-requires
enter-requires c =
    let fresh : Fresh (word c.args.p.now c.args.n SEEN c.args.u) c.args.w c.union.result c.without-new.result =
    (let w = c.without-new in let k = c.if-new-eq0.false in
    record { union = c.union.ensures; without = w.ensures; some = omega arith; fits = omega arith }) in
    (c.requires.space, c.if-n-u.false, enter_room c.requires c.if-n-u.false fresh)

pub returns : goal.returns
returns c =
    let fresh : Fresh (word c.args.p.now c.args.n SEEN c.args.u) c.args.w c.union.result c.without-new.result =
    (let w = c.without-new in let k = c.if-new-eq0.false in
    record { union = c.union.ensures; without = w.ensures; some = omega arith; fits = omega arith }) in
    added_new c.requires c.if-n-u.false fresh c.enter.ensures
