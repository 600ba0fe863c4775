-- `values::onward` meets its contract.
use mathlib.Core.Path.{refl}
use native.Mathlib.Omega.{arith}
use Rattle.values.proofs.Cursor.{node_inside, next_inside, next_room, onward_last, onward_inner}
use Rattle.values.proofs.onward.Goals.{then-u-c, else-u-c}
use Rattle.values.proofs.onward.Goals as goal

pub get-u-requires : goal.get-u-requires
get-u-requires c =
    let ((s, ns, bs, a, k, h), used, more) = c.requires in
    (omega arith, node_inside h a k more refl, a.tabled.room)

pub get_note-x-requires : goal.get_note-x-requires
get_note-x-requires c =
    let ((s, ns, bs, a, k, h), used, more) = c.requires in
    (next_inside h a k more c.get-u.ensures.0, a.tabled.room)

pub overflow_sub-result : goal.overflow_sub-result
overflow_sub-result c =
    let ((s, ns, bs, a, k, h), used, more) = c.requires in
    let r = next_room h a k more c.get-u.ensures.0 used c.get_note-x.ensures.0 in
    omega arith

pub returns : goal.returns
returns c =
    let (z, used, more) = c.requires in
    λ s ns bs a k h.
    elim c.if-u-c.branch [
      | then-u-c z ↦ onward_inner h a k more c.get-u.ensures.0 used c.get_note-x.ensures.0 (omega arith) (omega arith) z.if-u-c.true
      | else-u-c z ↦ onward_last h a k more c.get-u.ensures.0 used c.get_note-x.ensures.0 (omega arith) (omega arith) z.if-u-c.false
    ]
