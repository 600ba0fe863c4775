-- The scan of a path from the scans of its parts.
use Prim.Native.Nat.{ℕ, ◌+◌, ◌≤◌}
use native.Mathlib.Omega.{arith}
use mathlib.Core.Path.{◌≡◌, sym, subst, ◌∙◌}
use mathlib.Core.List.{List, ◌++◌}
use lib.ListN.{length, length-append}
use Rattle.xpath.specs.Syntax.{XPath, empty, one, seq, union, star, Step, steps, size}
use Rattle.rule_spec.specs.Spelling.{spell_path}
use Rattle.rule_parts.specs.Standing.{PathAt}
use Rattle.rule_parts.specs.Kinds.{path_kind}
use Rattle.rule_parts.specs.declared.kinds.PathKind.{PathKind}
use Rattle.rule_parts.specs.declared.kinds.PathKind.TheVariants.{Empty, Seq, Union, Star}
use Rattle.rule_parts.proofs.Inner.{seq_inner, union_inner, star_inner}
use Rattle.path_sets.specs.declared.sets.Scan.{Scan}
use Rattle.path_sets.specs.Scanned.{Sets, Scanned, Scans}
use Rattle.path_sets.proofs.Shapes.{Steps, shaped, stepped}

-- where the path ends, and the number behind it
pub scan_ends : {s : List ℕ} {at b : ℕ} {p : Scan} → Scans s at b p
    → (P : XPath) (j : ℕ) → PathAt s P at j → b + size P ≤ 16 → (p.next ≡ j) × (p.count ≡ b + size P)
scan_ends h P j a l = let r = h P j a l in (r.next, r.sets.count)

-- two parts, one behind the other, told as they are numbered
module _ (s : List ℕ) {at b : ℕ} {p q : Scan} (one-part : Scans s at b p) (two-part : Scans s p.next p.count q) where
  pub two_scanned : (A B : XPath) (m j : ℕ) → PathAt s A at m → PathAt s B m j → b + length (steps A ++ steps B) ≤ 16 → Scanned A b m p × Scanned B (b + size A) j q
  two_scanned A B m j x y l =
      let n = length-append (steps A) (steps B) in
      let u = one-part A m x (omega arith) in
      let e = u.sets.count in
      let v = two-part B j (subst (λ i. PathAt s B i j) (sym u.next) y) (omega arith) in
      (u, subst (λ d. Scanned B d j q) e v)

module _ (s : List ℕ) {at : ℕ} {k : PathKind} (kind : (P : XPath) (j : ℕ) → PathAt s P at j → k ≡ path_kind P) {b : ℕ} where
  -- what is told of a path is told of the path that it is
  retold : {P X : XPath} {j : ℕ} {r : Scan} → P ≡ X → (PathAt s X at j → b + size X ≤ 16 → Scanned X b j r) → PathAt s P at j → b + size P ≤ 16 → Scanned P b j r
  retold {j = j} {r = r} w t = subst (λ X. PathAt s X at j → b + size X ≤ 16 → Scanned X b j r) (sym w) t

  module _ {p q r : Scan} (one-part : Scans s (at + 1) b p) (two-part : Scans s p.next p.count q) where
    pub union_scans : k ≡ Union → ((P Q : XPath) (b : ℕ) → Sets P b p → Sets Q (b + size P) q → Sets (union P Q) b r) × (r.next ≡ q.next) → Scans s at b r
    union_scans e (sum, z) P j a l =
        let (A, B, w) = shaped e P (kind P j a) in
        retold w (λ a l. let (m, x, y) = union_inner s a in let (u, v) = two_scanned s one-part two-part A B m j x y l in record { sets = sum A B b u.sets v.sets; next = z ∙ v.next }) a l

    pub seq_scans : k ≡ Seq → ((P Q : XPath) (b : ℕ) → Sets P b p → Sets Q (b + size P) q → Sets (seq P Q) b r) × (r.next ≡ q.next) → Scans s at b r
    seq_scans e (sum, z) P j a l =
        let (A, B, w) = shaped e P (kind P j a) in
        retold w (λ a l. let (m, x, y) = seq_inner s a in let (u, v) = two_scanned s one-part two-part A B m j x y l in record { sets = sum A B b u.sets v.sets; next = z ∙ v.next }) a l

  module _ {r : Scan} where
    pub star_scans : {p : Scan} → k ≡ Star → Scans s (at + 1) b p → ((P : XPath) (b : ℕ) → Sets P b p → Sets (star P) b r) × (r.next ≡ p.next) → Scans s at b r
    star_scans e part (sum, z) P j a l =
        let (A, w) = shaped e P (kind P j a) in
        retold w (λ a l. let u = part A j (star_inner s a) l in record { sets = sum A b u.sets; next = z ∙ u.next }) a l

    pub empty_scans : k ≡ Empty → Sets empty b r × (r.next ≡ at + 1) → Scans s at b r
    unfolding spell_path
    empty_scans e (sum, z) P j a l = retold (shaped e P (kind P j a)) (λ a l. record { sets = sum; next = z ∙ sym a.spans.ends }) a l

    pub step_scans : {m : ℕ} → Steps k → ((P : XPath) (j : ℕ) → PathAt s P at j → m ≡ j) → ((t : Step) → Sets (one t) b r) × (r.next ≡ m) → Scans s at b r
    step_scans e skipped (sum, z) P j a l = let (t, w) = stepped e P (kind P j a) in retold w (λ x l. record { sets = sum t; next = z ∙ skipped P j a }) a l
