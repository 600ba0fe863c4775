-- `value_notes::marks::mark` meets its contract.
use mathlib.Core.List.{List}
use native.Mathlib.Omega.{arith}
use Rattle.document_spec.specs.Library.{Node}
use Rattle.document_spec.specs.Verdict.{Accepts}
use Rattle.document_lines.specs.Entries.{IsEntry}
use Rattle.table.proofs.Trees.{stands_at, tree_small}
use Rattle.texts.proofs.Nodes.{value_inside}
use Rattle.value_notes.specs.Values.{Next}
use Rattle.value_notes.specs.Notes.{Seen}
use Rattle.value_notes.proofs.Extents.{node_in}
use Rattle.value_notes.proofs.Nexts.{next_small}
use Rattle.value_notes.proofs.Marking.{told_small, ahead_wrote, marked_step}
use Rattle.value_notes.proofs.marks.mark.Goals as goal

pub read_entry-e-requires : goal.read_entry-e-requires
read_entry-e-requires c =
    let h = c.requires.0.tabled in
    (h.nodes, c.args.v, stands_at h h.nodes h.accepts c.requires.1 c.offset-at.ensures)

pub trim-q-requires : goal.trim-q-requires
trim-q-requires c = let h = c.requires.0.tabled in let e = (let entry-here : (ns : List Node) → Accepts c.args.s.now ns → IsEntry c.args.s.now ns c.args.v c.read_entry-e.result = λ ns a. c.read_entry-e.ensures ns c.args.v (stands_at c.requires.0.tabled ns a c.requires.1 c.offset-at.ensures) in entry-here) h.nodes h.accepts in (e.order, value_inside e)

pub look-m-requires : goal.look-m-requires
look-m-requires c =
    let g = c.requires.0 in let h = g.tabled in
    (c.args.s.now, h.nodes, g, h.accepts, c.requires.1, (let entry-here : (ns : List Node) → Accepts c.args.s.now ns → IsEntry c.args.s.now ns c.args.v c.read_entry-e.result = λ ns a. c.read_entry-e.ensures ns c.args.v (stands_at c.requires.0.tabled ns a c.requires.1 c.offset-at.ensures) in entry-here) h.nodes h.accepts, c.trim-q.ensures)

-- ── What is written ──
pub put-requires : goal.put-requires
put-requires c =
    let x = c.requires in let h = x.0.tabled in let z = (told_small h x.1 (let seen-here : (ns : List Node) → Accepts c.args.s.now ns → Seen c.args.s.now ns c.args.v c.look-m.result.texts.first c.look-m.result.texts.last c.look-m.result.note = λ ns a. c.look-m.ensures c.args.s.now ns c.requires.0 a c.requires.1 ((let entry-here : (ns : List Node) → Accepts c.args.s.now ns → IsEntry c.args.s.now ns c.args.v c.read_entry-e.result = λ ns a. c.read_entry-e.ensures ns c.args.v (stands_at c.requires.0.tabled ns a c.requires.1 c.offset-at.ensures) in entry-here) ns a) c.trim-q.ensures in seen-here)).0 in
    (omega arith, x.1, h.room, omega arith)

pub put-requires-2 : goal.put-requires-2
put-requires-2 c =
    let x = c.requires in let h = x.0.tabled in let z = (told_small h x.1 (let seen-here : (ns : List Node) → Accepts c.args.s.now ns → Seen c.args.s.now ns c.args.v c.look-m.result.texts.first c.look-m.result.texts.last c.look-m.result.note = λ ns a. c.look-m.ensures c.args.s.now ns c.requires.0 a c.requires.1 ((let entry-here : (ns : List Node) → Accepts c.args.s.now ns → IsEntry c.args.s.now ns c.args.v c.read_entry-e.result = λ ns a. c.read_entry-e.ensures ns c.args.v (stands_at c.requires.0.tabled ns a c.requires.1 c.offset-at.ensures) in entry-here) ns a) c.trim-q.ensures in seen-here)).1 in let l = c.put.ensures.long in let r = h.room in
    (omega arith, x.1, omega arith, omega arith)

pub put_note-requires : goal.put_note-requires
put_note-requires c =
    let x = c.requires in let h = x.0.tabled in let r = h.room in let l = c.put-3.ensures.long in let m = c.put-2.ensures.long in let o = c.put.ensures.long in
    (x.1, omega arith, ((let seen-here : (ns : List Node) → Accepts c.args.s.now ns → Seen c.args.s.now ns c.args.v c.look-m.result.texts.first c.look-m.result.texts.last c.look-m.result.note = λ ns a. c.look-m.ensures c.args.s.now ns c.requires.0 a c.requires.1 ((let entry-here : (ns : List Node) → Accepts c.args.s.now ns → IsEntry c.args.s.now ns c.args.v c.read_entry-e.result = λ ns a. c.read_entry-e.ensures ns c.args.v (stands_at c.requires.0.tabled ns a c.requires.1 c.offset-at.ensures) in entry-here) ns a) c.trim-q.ensures in seen-here) h.nodes h.accepts).value.words)

pub returns : goal.returns
returns c =
    let s = c.args.s.now in let n = c.args.n in let v = c.args.v in let g = c.requires.0 in let r = c.look-m.result in
    let m = marked_step n v r.texts.first r.texts.last c.args.next r.note g c.requires.1 (let seen-here : (ns : List Node) → Accepts c.args.s.now ns → Seen c.args.s.now ns c.args.v c.look-m.result.texts.first c.look-m.result.texts.last c.look-m.result.note = λ ns a. c.look-m.ensures c.args.s.now ns c.requires.0 a c.requires.1 ((let entry-here : (ns : List Node) → Accepts c.args.s.now ns → IsEntry c.args.s.now ns c.args.v c.read_entry-e.result = λ ns a. c.read_entry-e.ensures ns c.args.v (stands_at c.requires.0.tabled ns a c.requires.1 c.offset-at.ensures) in entry-here) ns a) c.trim-q.ensures in seen-here) c.requires.2
    (ahead_wrote n v r.texts.first r.texts.last c.args.next c.requires.1 c.put.ensures c.put-2.ensures c.put-3.ensures) c.put_note.ensures in
    let next : (ns : List Node) → Accepts s ns → Next ns v c.first_text.result = λ ns a. c.first_text.ensures s ns (node_in g.tabled ns a c.requires.1) ((let entry-here : (ns : List Node) → Accepts c.args.s.now ns → IsEntry c.args.s.now ns c.args.v c.read_entry-e.result = λ ns a. c.read_entry-e.ensures ns c.args.v (stands_at c.requires.0.tabled ns a c.requires.1 c.offset-at.ensures) in entry-here) ns a) (c.requires.2 ns a) in
    let h = g.tabled in let small = next_small h.nodes (tree_small h.accepts) (next h.nodes h.accepts) in
    (m.0, m.1, next, omega (arith, small))
