-- What follows in a path from what follows in its parts.
use Prim.Native.Nat.{ℕ, ◌+◌, ◌≤◌}
use native.Mathlib.Omega.{arith}
use mathlib.Core.Path.{◌≡◌, sym, subst}
use mathlib.Core.Bool.{Bool}
use mathlib.Core.List.{List, ◌++◌}
use lib.ListN.{length, length-append}
use Rattle.xpath.specs.Syntax.{XPath, steps, size}
use Rattle.rule_parts.specs.Standing.{PathAt}
use Rattle.rule_parts.specs.Kinds.{path_kind}
use Rattle.rule_parts.specs.declared.kinds.PathKind.{PathKind}
use Rattle.rule_parts.specs.declared.kinds.PathKind.TheVariants.{Seq, Union, Star}
use Rattle.rule_parts.proofs.Inner.{seq_inner, union_inner, star_inner}
use Rattle.path_sets.specs.declared.sets.Scan.{Scan}
use Rattle.path_sets.specs.Scanned.{Scans}
use Rattle.path_sets.proofs.Truth.{tells_more}
use Rattle.path_sets.proofs.Shapes.{Leaves, shaped, no_next}
use Rattle.path_sets.proofs.Scans.{two_scanned}
use Rattle.automaton.specs.Following.{Related, Relates}
use Rattle.automaton.proofs.Relations.{Joined, joined_tells, same_tells}

module _ (s : List ℕ) {at : ℕ} {k : PathKind} (kind : (P : XPath) (j : ℕ) → PathAt s P at j → k ≡ path_kind P) {b : ℕ} where
  -- what is told of a path is told of the path that it is
  retold : {P X : XPath} {f g : List (List Bool)} {j : ℕ} → P ≡ X → (PathAt s X at j → b + size X ≤ 16 → Related X b f g) → PathAt s P at j → b + size P ≤ 16 → Related P b f g
  retold {f = f} {g = g} {j = j} w t = subst (λ X. PathAt s X at j → b + size X ≤ 16 → Related X b f g) (sym w) t

  pub leaf_relates : (f : List (List Bool)) → Leaves k → Relates s at b f f
  leaf_relates f e P j a l = same_tells P b f (no_next e P (kind P j a) b)

  module _ {f g h : List (List Bool)} {p : Scan} (one-scan : Scans s (at + 1) b p) (one-part : Relates s (at + 1) b f g) where
    pub star_relates : k ≡ Star → Joined p.last p.first g h → Relates s at b f h
    star_relates e join P j a l =
        let (A, w) = shaped e P (kind P j a) in
        retold w (λ a l. let x = star_inner s a in let u = (one-scan A j x l).sets in
        record { told = λ i k c d. tells_more ((one-part A j x l).told i k c d) (joined_tells _ _ g h u.last u.first join i k c d) }) a l

    module _ (two-part : Relates s p.next p.count g h) where
      -- the two parts, told as they are numbered
      two_related : (A B : XPath) (m j : ℕ) → PathAt s A (at + 1) m → PathAt s B m j → b + length (steps A ++ steps B) ≤ 16 → Related A b f g × Related B (b + size A) g h
      two_related A B m j x y l =
          let n = length-append (steps A) (steps B) in
          let u = one-scan A m x (omega arith) in
          let e = u.sets.count in
          (one-part A m x (omega arith), subst (λ d. Related B d g h) e (two-part B j (subst (λ i. PathAt s B i j) (sym u.next) y) (omega arith)))

      pub union_relates : k ≡ Union → Relates s at b f h
      union_relates e P j a l =
          let (A, B, w) = shaped e P (kind P j a) in
          retold w (λ a l. let (m, x, y) = union_inner s a in let (u, v) = two_related A B m j x y l in record { told = λ i k c d. tells_more (u.told i k c d) (v.told i k c d) }) a l

      pub seq_relates : {q : Scan} {t : List (List Bool)} → Scans s p.next p.count q → k ≡ Seq → Joined p.last q.first h t → Relates s at b f t
      seq_relates {q} {t} two-scan e join P j a l =
          let (A, B, w) = shaped e P (kind P j a) in
          retold w (λ a l. let (m, x, y) = seq_inner s a in let (u, v) = two_related A B m j x y l in let (p', q') = two_scanned s one-scan two-scan A B m j x y l in
          record { told = λ i k c d. tells_more (u.told i k c d) (tells_more (v.told i k c d) (joined_tells _ _ h t p'.sets.last q'.sets.first join i k c d)) }) a l
