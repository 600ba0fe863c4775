-- The four lines of a node, read one after the other, say what stands there.
use Prim.Native.Nat.{ℕ, suc, ◌+◌, ◌-◌, ◌≤◌}
use mathlib.Core.Path.{◌≡◌, refl}
use mathlib.Core.List.{List}
use native.Mathlib.Omega.{arith}
use lib.ListN.{drop}
use lib.Seq.{slice}
use Rattle.lists.specs.Text.{bytes}
use Rattle.document_spec.specs.Library as Library
use Rattle.document_spec.specs.Library.{at}
use Rattle.std.specs.Prelude.{Option, Some, None, IsSome}
use Rattle.lexer.specs.Reading.{Ended, NumberedLine}
use Rattle.document_lines.specs.declared.rules.Kind.{Kind}
use Rattle.document_lines.specs.Nodes.{kind_of, KindRead, IsLabel, IsValue}
use Rattle.document_lines.specs.Entries.{Start, Stands, IsEntry}
use Rattle.document_lines.proofs.NodeLines.{behind_depth, behind_kind, behind_label, depth_is, kind_is, label_is, value_is}

-- a line that must stand there is read
pub must_be : {A : Type 0} (P : Option A → Type 0) (r : Option A) → ¬ P None → P r → IsSome r
must_be P (Some x) n h = refl
must_be P None n h = absurd (n h)

-- node v stands at o: its depth was read up to i
module _ (s : List ℕ) (ns : List Library.Node) (v o : ℕ) (a : Stands s ns v o) (depth i : ℕ) (d : NumberedLine (bytes "depth=") 4 s o (Some (record { value = depth; next = i }))) where
  pub depth_on : (depth ≡ (at ns v).depth) × (drop i s ≡ behind_depth a)
  depth_on = depth_is a depth i d

  -- its kind up to j
  module _ (kind : Kind) (j : ℕ) (k : KindRead s i (Some (kind, j))) where
    pub kind_on : (kind_of kind ≡ (at ns v).kind) × (drop j s ≡ behind_kind a)
    kind_on = kind_is a i depth_on.1 kind j k

    -- its label up to m
    module _ (m : ℕ) (l : Ended IsLabel s j (Some m)) where
      pub label_on : (slice (j + 6) (m - 1) s ≡ (at ns v).label) × (j + 7 ≤ m) × (drop m s ≡ behind_label a)
      label_on = label_is a j k.inside kind_on.1 m l

      -- and its value up to next
      pub value_on : (next : ℕ) → Ended IsValue s m (Some next) → (slice (m + 6) (next - 1) s ≡ (at ns v).value) × (m + 7 ≤ next) × Start s (drop (suc v) ns) next
      value_on next w = value_is a m l.2.inside label_on.2 next w

      -- the offsets behind the label and the value line are not 0, and what was read is the entry of node v
      pub entry_on : (next : ℕ) → Ended IsValue s m (Some next)
          → (1 ≤ m) × (1 ≤ next) × IsEntry s ns v (record { depth = depth; kind = kind; label = record { from = j + 6; to = m - 1 }; value = record { from = m + 6; to = next - 1 }; next = next })
      entry_on next w =
          let named = label_on in
          let valued = value_on next w in
          let n = named.1 in
          let h = valued.1 in (
            omega arith,
            omega arith,
            record { depth = depth_on.0; kind = kind_on.0; label = named.0; value = valued.0; order = omega arith; ends = omega arith; behind = valued.2 },
          )
