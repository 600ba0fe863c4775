-- A cursor behind the lines read so far: what is in front of it is what the next line says.
use Prim.Native.Nat.{ℕ, suc, ◌+◌, ◌*◌, ◌<◌}
use mathlib.Core.Path.{◌≡◌, ap, ◌∙◌}
use mathlib.Core.List.{List, ◌++◌}
use native.Mathlib.Omega.{arith}
use Rattle.limits.specs.Names.{Name}
use Rattle.document_spec.specs.Library.{Kind, Value, nodes_line, depth_line, kind_line, label_line, value_line}
use Rattle.document_spec.specs.Verdict.{behind_lines, CountIs, DepthIs, KindIs, LabelIs, ValueIs}
use Rattle.document_spec.proofs.Lines.{line_here, line_split}
use Rattle.document_spec.proofs.Spelling.{nodes_line_lem, depth_line_lem, kind_line_lem, label_line_lem, value_line_lem}

-- ── Where a spelled line stands, the line says it, and the cursor goes on behind it ──
module _ (s : List ℕ) where
  pub count_here : (n : ℕ) (r : List ℕ) → n < 100_000 → s ≡ nodes_line n ++ r → CountIs s n × (behind_lines 1 s ≡ r)
  unfolding behind_lines
  count_here n r l e = let (p, q) = line_here s 0 1 (omega arith) (nodes_line_lem n) r e in ((l, p), q)

  module _ (v : ℕ) where
    pub depth_here : (d : ℕ) (r : List ℕ) → d < 10_000 → behind_lines (4 * v + 1) s ≡ depth_line d ++ r → DepthIs s v d × (behind_lines (4 * v + 2) s ≡ r)
    depth_here d r l e = let (p, q) = line_here s (4 * v + 1) (4 * v + 2) (omega arith) (depth_line_lem d) r e in ((l, p), q)

    pub kind_here : (k : Kind) (r : List ℕ) → behind_lines (4 * v + 2) s ≡ kind_line k ++ r → KindIs s v k × (behind_lines (4 * v + 3) s ≡ r)
    kind_here k r e = line_here s (4 * v + 2) (4 * v + 3) (omega arith) (kind_line_lem k) r e

    pub label_here : (a r : List ℕ) → Name a → behind_lines (4 * v + 3) s ≡ label_line a ++ r → LabelIs s v a × (behind_lines (4 * v + 4) s ≡ r)
    label_here a r h e = let (p, q) = line_here s (4 * v + 3) (4 * v + 4) (omega arith) (label_line_lem a h) r e in ((h, p), q)

    pub value_here : (b r : List ℕ) → Value b → behind_lines (4 * v + 4) s ≡ value_line b ++ r → ValueIs s v b × (behind_lines (4 * suc v + 1) s ≡ r)
    value_here b r h e =
        let (p, q) = line_here s (4 * v + 4) (4 * v + 5) (omega arith) (value_line_lem b h) r e in
        let next : 4 * suc v + 1 ≡ 4 * v + 5 = omega arith in
        ((h, p), ap (λ i. behind_lines i s) next ∙ q)

-- ── Where a line says something, its spelling stands ──
module _ (s : List ℕ) where
  pub count_split : (n : ℕ) → CountIs s n → s ≡ nodes_line n ++ behind_lines 1 s
  unfolding behind_lines
  count_split n h = line_split s 0 1 (omega arith) (nodes_line n) h.1

  module _ (v : ℕ) where
    pub depth_split : (d : ℕ) → DepthIs s v d → behind_lines (4 * v + 1) s ≡ depth_line d ++ behind_lines (4 * v + 2) s
    depth_split d h = line_split s (4 * v + 1) (4 * v + 2) (omega arith) (depth_line d) h.1

    pub kind_split : (k : Kind) → KindIs s v k → behind_lines (4 * v + 2) s ≡ kind_line k ++ behind_lines (4 * v + 3) s
    kind_split k h = line_split s (4 * v + 2) (4 * v + 3) (omega arith) (kind_line k) h

    pub label_split : (a : List ℕ) → LabelIs s v a → behind_lines (4 * v + 3) s ≡ label_line a ++ behind_lines (4 * v + 4) s
    label_split a h = line_split s (4 * v + 3) (4 * v + 4) (omega arith) (label_line a) h.1

    pub value_split : (b : List ℕ) → ValueIs s v b → behind_lines (4 * v + 4) s ≡ value_line b ++ behind_lines (4 * suc v + 1) s
    value_split b h =
        let next : 4 * v + 5 ≡ 4 * suc v + 1 = omega arith in
        line_split s (4 * v + 4) (4 * v + 5) (omega arith) (value_line b) h.1 ∙ ap (λ i. value_line b ++ behind_lines i s) next
