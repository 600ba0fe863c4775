-- `document_lines::entries::read_entry` meets its contract.
use Prim.Native.Nat.{ℕ, ◌+◌, ◌-◌, ◌≤◌}
use mathlib.Core.List.{List}
use Rattle.lists.specs.Text.{bytes}
use Rattle.lexer.specs.Reading.{Ended, NumberedLine}
use Rattle.document_lines.specs.Nodes.{KindRead, IsLabel, IsValue}
use Rattle.document_spec.specs.Library as Library
use Rattle.document_lines.specs.Entries.{Stands, IsEntry}
use Rattle.document_lines.proofs.NodeLines.{depth_there, kind_there, label_there, value_there}
use Rattle.document_lines.proofs.EntryLines.{must_be, depth_on, kind_on, label_on, entry_on}
use Rattle.document_lines.proofs.entries.read_entry.Goals as goal
use Rattle.document_lines.proofs.entries.read_entry.Goals.{After-unwrap-next}

-- each line stands there, so it is read
pub unwrap-depth-requires : goal.unwrap-depth-requires
unwrap-depth-requires c =
    let x = c.args in
    let (ns, v, a) = c.requires in
    must_be (NumberedLine (bytes "depth=") 4 x.s.now x.at) c.number_line.result (depth_there a) c.number_line.ensures

pub unwrap-kind-requires : goal.unwrap-kind-requires
unwrap-kind-requires c =
    let x = c.args in
    let (ns, v, a) = c.requires in
    let d = rw c.unwrap-depth.ensures at c.number_line.ensures in
    must_be (KindRead x.s.now _) c.read_kind.result (kind_there a _ (depth_on x.s.now ns v x.at a _ _ d).1) c.read_kind.ensures

pub unwrap-m-requires : goal.unwrap-m-requires
unwrap-m-requires c =
    let x = c.args in
    let (ns, v, a) = c.requires in
    let d = rw c.unwrap-depth.ensures at c.number_line.ensures in
    let k = rw c.unwrap-kind.ensures at c.read_kind.ensures in
    must_be (Ended IsLabel x.s.now _) c.read_label.result (label_there a _ k.inside (kind_on x.s.now ns v x.at a _ _ d _ _ k).1) c.read_label.ensures

pub unwrap-next-requires : goal.unwrap-next-requires
unwrap-next-requires c =
    let x = c.args in
    let (ns, v, a) = c.requires in
    let d = rw c.unwrap-depth.ensures at c.number_line.ensures in
    let k = rw c.unwrap-kind.ensures at c.read_kind.ensures in
    let l = rw c.unwrap-m.ensures at c.read_label.ensures in
    must_be (Ended IsValue x.s.now _) c.read_value.result (value_there a _ l.2.inside (label_on x.s.now ns v x.at a _ _ d _ _ k _ l).2) c.read_value.ensures

-- what was read is the node's entry
entry : (c : After-unwrap-next) (ns : List Library.Node) (v : ℕ) → Stands c.args.s.now ns v c.args.at
    → (1 ≤ c.unwrap-m.result) × (1 ≤ c.unwrap-next.result) × IsEntry c.args.s.now ns v (record {
      depth = c.unwrap-depth.result.value;
      kind = c.unwrap-kind.result.0;
      label = record { from = c.unwrap-kind.result.1 + 6; to = c.unwrap-m.result - 1 };
      value = record { from = c.unwrap-m.result + 6; to = c.unwrap-next.result - 1 };
      next = c.unwrap-next.result;
    })
entry c ns v a =
    let x = c.args in
    let d = rw c.unwrap-depth.ensures at c.number_line.ensures in
    let k = rw c.unwrap-kind.ensures at c.read_kind.ensures in
    let l = rw c.unwrap-m.ensures at c.read_label.ensures in
    let w = rw c.unwrap-next.ensures at c.read_value.ensures in
    entry_on x.s.now ns v x.at a _ _ d _ _ k _ l _ w

pub overflow_sub-result : goal.overflow_sub-result
overflow_sub-result c = let (ns, v, a) = c.requires in (entry c ns v a).0

pub overflow_sub-result-2 : goal.overflow_sub-result-2
overflow_sub-result-2 c = let (ns, v, a) = c.requires in (entry c ns v a).1

pub returns : goal.returns
returns c ns v a = (entry c ns v a).2
