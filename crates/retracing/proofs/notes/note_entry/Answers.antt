-- `retracing::notes::note_entry` meets its contract.
use Prim.Native.Nat.{◌<◌}
use mathlib.Core.Path.{sym, subst}
use native.Mathlib.Omega.{arith}
use Rattle.retracing.proofs.Noting.{column_paired, notes_in, notes_put, notes_tested, put_long}
use Rattle.retracing.proofs.notes.note_entry.Goals as goal

pub put_if-requires-2 : goal.put_if-requires-2
put_if-requires-2 c =
    let w = c.requires.0 in let r = w.space.room in let q = (column_paired c.args.bound).1 in let d = c.column-c.ensures in let e = put_long c.put_if.ensures in
    (omega arith, subst (λ v. v < c.args.n) (sym c.entry_at-e.ensures.0) (w.nodes c.args.h c.requires.1), omega arith, c.requires.3)

pub returns : goal.returns
returns c =
    let y = c.args in let e = c.entry_at-e.ensures in
    notes_in c.column-c.ensures (notes_tested y.h y.second e c.has.ensures c.has-2.ensures (notes_put (subst (λ v. v < y.n) (sym e.0) (c.requires.0.nodes y.h c.requires.1)) c.put_if.ensures c.put_if-2.ensures))
