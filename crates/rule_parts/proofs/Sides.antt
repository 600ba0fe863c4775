-- The middle of a comparison is where its first path ends and its sign is read.
use Prim.Native.Nat.{ℕ, ◌+◌, ◌≤◌, ◌<◌}
use native.Mathlib.Omega.{arith}
use mathlib.Core.Path.{◌≡◌, sym, ap, subst}
use mathlib.Core.List.{List, ◌++◌}
use lib.ListN.{length}
use Rattle.lists.specs.Text.{bytes}
use Rattle.xpath.specs.Syntax.{Op, eq, ne, lt, le, gt, ge, Test, named, not, and, or, compare, compare_to, at_least, XPath}
use Rattle.rule_spec.specs.Spelling.{sign}
use Rattle.rule_parts.specs.declared.Middle.{Middle}
use Rattle.rule_parts.specs.declared.kinds.Sign.{Sign}
use Rattle.rule_parts.specs.Standing.{Spans, TestAt, PathAt, SignAt}
use Rattle.rule_parts.specs.Kinds.{signed}
use Rattle.rule_parts.specs.Middles.{FirstSide, Parted}
use Rattle.rule_parts.proofs.Inner.{compare_inner, compareTo_inner}

abbrev pub between : ℕ → Sign → Middle
between m x = record { operator = x.operator; sign = m; second = x.next }

-- a sign has a byte
sign_some : (o : Op) {i j : ℕ} → j ≡ i + length (sign o) → i < j
sign_some eq e = omega arith
sign_some ne e = omega arith
sign_some lt e = omega arith
sign_some le e = omega arith
sign_some gt e = omega arith
sign_some ge e = omega arith

module _ (s : List ℕ) (i : ℕ) {m : ℕ} (ends : (P : XPath) (j : ℕ) → PathAt s P (i + 1) j → m ≡ j) where
  -- ── The sign stands inside ──
  inside : {o : Op} {P : XPath} {a b : ℕ} → PathAt s P (i + 1) a → SignAt s o a b → m < length s
  inside {o} {P} {a} p g = let e = ends P a p in let h = sign_some o g.spans.ends in let k = g.spans.inside in omega arith

  pub no_room : length s ≤ m → (T : Test) (j : ℕ) → TestAt s T i j → (x : Middle) → Parted s T i j x
  no_room l (named a) j h x = tt
  no_room l (not T) j h x = tt
  no_room l (and T U) j h x = tt
  no_room l (or T U) j h x = tt
  no_room l (compare o P Q) j h x = let (a, b, k, p, g, q, r) = compare_inner s h in let z = inside p g in absurd (omega arith)
  no_room l (compare_to o P c) j h x = let (a, b, p, g, c, r) = compareTo_inner s h in let z = inside p g in absurd (omega arith)
  no_room l (at_least n P) j h x = tt

  -- ── And is read ──
  module _ (x : Sign) (told : (o : Op) (j : ℕ) → SignAt s o m j → x ≡ signed o j) where
    here : {o : Op} {P : XPath} {a b : ℕ} → PathAt s P (i + 1) a → SignAt s o a b → FirstSide s o P i (between m x) × (x.next ≡ b)
    here {o} {P} {a} {b} p g =
        let e = ends P a p in
        let g' = subst (λ c. SignAt s o c b) (sym e) g in
        let d = told o b g' in
        let n : x.next ≡ b = ap (λ (y : Sign). y.next) d in
        (record { told = ap (λ (y : Sign). y.operator) d; first = subst (PathAt s P (i + 1)) (sym e) p; sign = subst (SignAt s o m) (sym n) g' }, n)

    pub parted : (T : Test) (j : ℕ) → TestAt s T i j → Parted s T i j (between m x)
    parted (named a) j h = tt
    parted (not T) j h = tt
    parted (and T U) j h = tt
    parted (or T U) j h = tt
    parted (compare o P Q) j h =
        let (a, b, k, p, g, q, r) = compare_inner s h in let (f, n) = here p g in
        (f, (k, subst (λ c. PathAt s Q c k) (sym n) q, r))
    parted (compare_to o P c) j h =
        let (a, b, p, g, l, r) = compareTo_inner s h in let (f, n) = here p g in
        (f, subst (λ d. Spans s (bytes "\"" ++ (c ++ bytes "\")")) d j) (sym n) r)
    parted (at_least n P) j h = tt
