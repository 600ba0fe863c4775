-- From exponent to exponent: once exponent k + 1 is handed down, the sets of exponent k are complete.
use Prim.Native.Nat.{ℕ, suc, ◌+◌, ◌^◌, ◌≤◌, ◌<◌}
use mathlib.Core.Path.{◌≡◌, refl, sym, subst}
use mathlib.Core.Bool.{true}
use mathlib.Core.Logic.{◌≢◌, ◌⊎◌, inl, inr, ◌↔◌}
use mathlib.Core.List.{List}
use native.Mathlib.Omega.{arith}
use native.Mathlib.Nat.{eq-or-lt_of_le}
use native.Mathlib.Numerals.{add-one}
use lib.Pow.{pow_pos}
use Rattle.bits.specs.Sets.{bit}
use Rattle.xpath.specs.Syntax.{XPath, size}
use Rattle.xpath.specs.Tree.{Tree, WellFormed, Down}
use Rattle.xpath.proofs.Trees.{down_le}
use Rattle.snippets.specs.Halves.{Family, Halved, direct, upper_half, lower_half}
use Rattle.snippets.proofs.Counting.{down_inside}
use Rattle.snippets.proofs.Edges.{comes_few}
use Rattle.table.specs.Links.{Points}
use Rattle.matrices.specs.Matrices.{Related}
use Rattle.layout.specs.Blocks.{up_at, snippet_at, upper_at}
use Rattle.layout.specs.Words.{Same}
use Rattle.layout.proofs.Frames.{same_none, same_then, same_wider}
use Rattle.powers.specs.Powers.{Power, Powers}
use Rattle.powers.proofs.Kept.{power_kept}
use Rattle.powers.proofs.Ancestors.{one_above, power_join, power_over}
use Rattle.powers.proofs.Doubling.{upper_near}
use Rattle.halving.specs.Halving.{Marked, Prepared, Halving}
use Rattle.halving.specs.Passes.{middle, Hands, upper, lower, Grown, Handed}
use Rattle.halving.proofs.Blocks.{upper_apart, power_apart}
use Rattle.halving.proofs.Families.{topped_sets, halved_below}

-- the words of one exponent are those of S
abbrev Says : Tree → ℕ → List ℕ → Family → ℕ → Type 0
Says t n p S k = (y i j : ℕ) → y < n → i < 16 → j < 16 → Related p (snippet_at n k y) i j ↔ ((x : ℕ) × Down t x y (2 ^ k) × S k x y i j)

-- l is no word of a snippet, of the powers from e on
abbrev Outside : ℕ → ℕ → ℕ → ℕ → Type 0
Outside n b e l = (k y i : ℕ) → e ≤ k → k < b → y < n → i < 16 → l ≢ snippet_at n k y + i

-- ── The powers stand elsewhere ──
powers_kept : {P R : XPath} {t : Tree} {n b e : ℕ} {p q : List ℕ} → Same (Outside n b e) p q → Powers P R t n p b → Powers P R t n q b
powers_kept {n = n} s h k y a c =
    power_kept (λ l r q. s.same l (λ m z i u v o f e. omega arith)) (s.same (upper_at n k y) (λ m z i u v o f. upper_apart n k y m z i f)) (h k y a c)

-- ── One pass ──
module _ {t : Tree} (wf : WellFormed t) where
  -- the middle of a stretch
  through : (k x z y : ℕ) → Down t x y (2 ^ suc k) → Down t z y (2 ^ k) → Down t x z (2 ^ k)
  through k x z y d e = power_over wf k e (subst (λ m. Down t x y (2 ^ m)) (sym (add-one k)) d)

  whole_way : (k x z y : ℕ) → Down t x z (2 ^ k) → Down t z y (2 ^ k) → Down t x y (2 ^ suc k)
  whole_way k x z y d e = subst (λ m. Down t x y (2 ^ m)) (add-one k) (power_join wf k d e)

  module _ {P R : XPath} {n : ℕ} (whole : t.size ≡ n) (small : n ≤ 4096) (few : size P + size R ≤ 14) {D : Family} (k : ℕ) {p q : List ℕ}
      (power : (y : ℕ) → y < n → Power P R t n p k y)
      (above : Says t n p (Halved P R t D) (suc k)) (here : Says t n p D k) (grown : Grown n k (Handed n k p n) p q) where
    abbrev Has : ℕ → ℕ → ℕ → Type 0
    Has y i j = (x : ℕ) × Down t x y (2 ^ k) × Halved P R t D k x y i j

    -- the word of the upper node is the node
    upper_is : {y z : ℕ} → Points (λ x. Down t x y (2 ^ k)) (middle n k p y) → Down t z y (2 ^ k) → middle n k p y ≡ z
    upper_is (inl d) e = one_above wf d e
    upper_is {z = z} (inr (o, none)) e = absurd (none z e)

    handed : (y z i j : ℕ) → y < n → z < n → i < 16 → j < 16 → Hands n k p y z i j → Has z i j
    handed y z i j l m a b (upper e (c, f, s, r)) =
        let (x, d, g) = (above y i c l a f).0 s in
        let zy = subst (λ w. Down t w y (2 ^ k)) e (upper_near wf few (power y l) small (omega arith)) in
        let xz = through k x z y d zy in
        (x, xz, upper_half g xz zy (((power y l).down z j c zy b f).0 r))
    handed y z i j l m a b (lower v e (c, f, s, r)) =
        let h = middle n k p y in
        let (x, d, g) = (above y c j l f b).0 r in
        let hy = upper_near wf few (power y l) small v in
        let xh = through k x h y d hy in
        subst (λ u. Has u i j) e (h, hy, lower_half g xh hy (((power h v).up x i c xh a f).0 s))

    found : (z i j : ℕ) → z < n → i < 16 → j < 16 → Related p (snippet_at n k z) i j ⊎ Handed n k p n z i j → Has z i j
    found z i j l a b (inl r) = let (x, d, m) = (here z i j l a b).0 r in (x, d, direct m)
    found z i j l a b (inr (y, m, c)) = handed y z i j m l a b c

    kept : (x z i j : ℕ) → z < n → i < 16 → j < 16 → Down t x z (2 ^ k) → Halved P R t D k x z i j → Related p (snippet_at n k z) i j ⊎ Handed n k p n z i j
    kept x z i j l a b d (direct m) = inl ((here z i j l a b).1 (x, d, m))
    kept x z i j l a b d (upper_half {y = y} {q = c} g xz zy e) =
        let r = down_inside t z y (2 ^ k) (pow_pos k) zy in
        let f = comes_few P R t few e b in
        let m : y < n = omega arith in
        inr (
          y,
          m,
          upper (upper_is (power y m).upper zy)
              (c, f, (above y i c m a f).1 (x, whole_way k x z y xz zy, g), ((power y m).down z j c zy b f).1 e),
        )
    kept h y i j l a b d (lower_half {x = x} {p = c} g xh hy e) =
        let f = comes_few P R t few e a in
        let r = down_le t wf hy in
        let v : h < n = omega arith in
        let o : h ≡ middle n k p y = sym (upper_is (power y l).upper hy) in
        inr (
          y,
          l,
          lower (subst (λ w. w < n) o v) refl
              (c, f, subst (λ w. Related p (up_at n k w) i c) o (((power h v).up x i c xh a f).1 e), (above y c j l f b).1 (x, whole_way k x h y xh hy, g)),
        )

    pub pass_says : Says t n q (Halved P R t D) k
    pass_says z i j l a b = (λ r. found z i j l a b ((grown.rows z i j l a b).0 r), λ (x, d, h). (grown.rows z i j l a b).1 (kept x z i j l a b d h))

-- ── The passes, one after the other ──
-- the sets of the exponents from e on are complete, and the others are as before
pub record Lowered (n b e : ℕ) (p q : List ℕ) : Type 0 where
  pub same : Same (Outside n b e) p q
  pub sets : (P R : XPath) (t : Tree) → Prepared P R t n b p → (k : ℕ) → e ≤ k → k < b → Says t n q (Halved P R t (Marked t n b p)) k

module _ {n b : ℕ} where
  -- nothing is handed down to the largest exponent
  pub lowered_none : (e : ℕ) (p : List ℕ) → b ≤ e + 1 → Lowered n b e p p
  lowered_none e p r = record { same = same_none p; sets = λ P R t h k a c y i j l u v. says P R t h k y i j a c l u v }
    where
      says : (P R : XPath) (t : Tree) → Prepared P R t n b p → (k y i j : ℕ) → e ≤ k → k < b → y < n → i < 16 → j < 16
          → Related p (snippet_at n k y) i j ↔ ((x : ℕ) × Down t x y (2 ^ k) × Halved P R t (Marked t n b p) k x y i j)
      says P R t h k y i j a c l u v = (
        λ m. let (x, d, s) = same.0 m in (x, d, direct s),
        λ (x, d, s). back s,
      )
        where
          same : Related p (snippet_at n k y) i j ↔ ((x : ℕ) × Down t x y (2 ^ k) × Marked t n b p k x y i j)
          same = (topped_sets h.topped).same k y i j c l u v

          top : {x' y' i' j' : ℕ} → ¬ Halved P R t (Marked t n b p) (suc k) x' y' i' j'
          top g = let f = halved_below {b = b} (λ k x y i j m. m.inside.power) g in omega arith

          back : {x : ℕ} → Halved P R t (Marked t n b p) k x y i j → Related p (snippet_at n k y) i j
          back (direct m) = m.marked
          back (upper_half g a c f) = absurd (top g)
          back (lower_half g a c f) = absurd (top g)

  pub lowered_step : (e : ℕ) {p q r : List ℕ} → n ≤ 4096 → suc e < b → Lowered n b (suc e) p q → Grown n e (Handed n e q n) q r → Lowered n b e p r
  lowered_step e {p} {q} {r} small s h g = record {
    same = same_then (same_wider (λ l o k y i u. o k y i (omega arith)) h.same) (same_wider (λ l o z i. o e z i (omega arith) (omega arith)) g.same);
    sets = λ P R t f k a c. says P R t f k c (eq-or-lt_of_le a);
  }
    where
      -- the words of exponent e were not touched before
      before : (P R : XPath) (t : Tree) → Prepared P R t n b p → Says t n q (Marked t n b p) e
      before P R t f y i j l a c =
          subst (λ w. (bit w j ≡ true) ↔ ((x : ℕ) × Down t x y (2 ^ e) × Marked t n b p e x y i j)) (sym (h.same.same (snippet_at n e y + i) apart))
          ((topped_sets f.topped).same e y i j (omega arith) l a c)
        where
          apart : Outside n b (suc e) (snippet_at n e y + i)
          apart k z c u v m x o = power_apart n k z e y i a c x l u (sym o)

      says : (P R : XPath) (t : Tree) → Prepared P R t n b p → (k : ℕ) → k < b → (e ≡ k) ⊎ (e < k) → Says t n r (Halved P R t (Marked t n b p)) k
      says P R t f k c (inl o) =
          subst (λ m. Says t n r (Halved P R t (Marked t n b p)) m) o
          (pass_says f.formed f.whole small f.few e
          (λ y l. powers_kept h.same f.powers e y (omega arith) l)
          (h.sets P R t f (suc e) (omega arith) s) (before P R t f) g)
      says P R t f k c (inr m) = λ y i j l a d.
          subst (λ w. (bit w j ≡ true) ↔ ((x : ℕ) × Down t x y (2 ^ k) × Halved P R t (Marked t n b p) k x y i j))
          (sym (g.same.same (snippet_at n k y + i) (λ z x u v. power_apart n k y e z x v i a u m))) (h.sets P R t f k m c y i j l a d)

  pub lowered_all : {p q : List ℕ} → Lowered n b 0 p q → Halving n b p q
  lowered_all h = record {
    same = same_wider (λ l o k y i u. o k y i) h.same;
    sets = λ P R t f. record { same = λ k y i j a c d e. h.sets P R t f k (omega arith) a y i j c d e };
  }
