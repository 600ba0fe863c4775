-- Any well-formed tree: parents and children, and what lies under what.
use Prim.Native.Nat.{ℕ, zero, suc, ◌+◌, ◌≤◌, ◌<◌}
use mathlib.Core.Path.{◌≡◌, refl, sym, ◌∙◌, subst}
use mathlib.Core.Logic.Dec
use mathlib.Core.Logic.{◌⊎◌, inl, inr}
use mathlib.Core.Bool.{Bool, true, false, Bool-discrete}
use native.Mathlib.Omega.{arith}
use native.Mathlib.Decide.{ℕ_discrete, dec_lt}
use Rattle.lists.proofs.Search.{search_below}
use Rattle.xpath.specs.Tree.{Tree, Child, WellFormed, Down, here, deeper, Under}

-- ── Parents and children ──
module _ {t : Tree} where
  -- every node but the root is the child of its parent
  pub parent_of_lem : {w : ℕ} → 0 < w → w < t.size → Child t (t.is_left w) (t.parent w) w
  parent_of_lem i l = record { inner = i; inside = l; above = refl; which = refl }

  -- a node is the child of one node at most, on one side
  pub one_parent : {side side' : Bool} {v v' w : ℕ} → Child t side v w → Child t side' v' w → (v ≡ v') × (side ≡ side')
  one_parent c k = (sym c.above ∙ k.above, sym c.which ∙ k.which)

  -- a child is numbered behind its parent
  pub child_after : WellFormed t → {side : Bool} {v w : ℕ} → Child t side v w → v < w
  child_after wf {w} c = let h = wf.upwards w c.inner c.inside in let e = c.above in omega arith

  -- a node has one child at most on each side
  pub one_child : WellFormed t → (side : Bool) {v w w' : ℕ} → Child t side v w → Child t side v w' → w ≡ w'
  one_child wf true c k = wf.left_next _ _ c ∙ sym (wf.left_next _ _ k)
  one_child wf false c k = wf.one_right _ _ _ c k

  pub child? : (side : Bool) (v w : ℕ) → Dec (Child t side v w)
  child? side v w =
      Dec.of_iff
      (λ h. record { inner = h.0.0; inside = h.0.1; above = h.1.0; which = h.1.1 }, λ c. ((c.inner, c.inside), (c.above, c.which)))
      (Dec.and (Dec.and (dec_lt 0 w) (dec_lt w t.size)) (Dec.and (ℕ_discrete (t.parent w) v) (Bool-discrete (t.is_left w) side)))

  pub has_child : (side : Bool) (v : ℕ) → Dec ((w : ℕ) × Child t side v w)
  has_child side v = Dec.of_iff (λ h. (h.0, h.2), λ h. (h.0, h.1.inside, h.1)) (search_below t.size (Child t side v) (child? side v))

module _ (t : Tree) (wf : WellFormed t) where
  -- ── Down ──
  pub down_le : {x y n : ℕ} → Down t x y n → x + n ≤ y
  down_le here = omega arith
  down_le (deeper d c) = let h = down_le d in let k = child_after wf c in omega arith

  pub down_join : {x y z n m : ℕ} → Down t x y n → Down t y z m → Down t x z (n + m)
  down_join {x} {y} {z} {n} {m} d here = let e : n ≡ n + 0 = omega arith in subst (λ i. Down t x y i) e d
  down_join {x} {n = n} d (deeper {z = z} {n = k} e c) =
      let q : suc (n + k) ≡ n + suc k = omega arith in
      subst (λ i. Down t x z i) q (deeper (down_join d e) c)

  pub down_split : {x y n : ℕ} (a b : ℕ) → a + b ≡ n → Down t x y n → (u : ℕ) × Down t x u a × Down t u y b
  down_split {x} {y} {n} a zero e d = let q : n ≡ a = omega arith in (y, subst (λ i. Down t x y i) q d, here)
  down_split {x} a (suc b) e here = absurd (omega arith)
  down_split {x} a (suc b) e (deeper {y = y} {n = n} d c) =
      let (u, f, g) = down_split a b (omega arith) d in (u, f, deeper g c)

  pub down_zero : {x y n : ℕ} → n ≡ 0 → Down t x y n → x ≡ y
  down_zero e here = refl
  down_zero e (deeper d c) = absurd (omega arith)

  -- two ancestors of one node: one is the other's
  pub ancestors : {x y z n m : ℕ} → Down t x z n → Down t y z m → ((k : ℕ) × (n + k ≡ m) × Down t y x k) ⊎ ((k : ℕ) × (m + k ≡ n) × Down t x y k)
  ancestors {m = m} here e = inl (m, (omega arith), e)
  ancestors {n = n} (deeper d c) here = inr (n, (omega arith), deeper d c)
  ancestors {x} {y} (deeper {y = a} {z = z} {n = n} {side = s} d c) (deeper {y = b} {n = m} {side = s'} e k) =
      go (ancestors d (subst (λ i. Down t y i m) (one_parent k c).0 e))
    where
      go : ((k : ℕ) × (n + k ≡ m) × Down t y x k) ⊎ ((k : ℕ) × (m + k ≡ n) × Down t x y k)
          → ((k : ℕ) × (suc n + k ≡ suc m) × Down t y x k) ⊎ ((k : ℕ) × (suc m + k ≡ suc n) × Down t x y k)
      go (inl (i, q, r)) = inl (i, (omega arith), r)
      go (inr (i, q, r)) = inr (i, (omega arith), r)

  -- ── Under ──
  pub under_refl : (x : ℕ) → Under t x x
  under_refl x = (0, here)

  pub under_trans : (x y z : ℕ) → Under t x y → Under t y z → Under t x z
  under_trans x y z (n, d) (m, e) = (n + m, down_join d e)

  pub under_le : (x y : ℕ) → Under t x y → x ≤ y
  under_le x y (n, d) = let h = down_le d in omega arith

  pub under_antisym : (x y : ℕ) → Under t x y → Under t y x → x ≡ y
  under_antisym x y h g = let a = under_le x y h in let b = under_le y x g in omega arith

  -- an ancestor of a node is the node or an ancestor of its parent
  pub under_up : (side : Bool) (x y z : ℕ) → Child t side y z → Under t x z → (x ≡ z) ⊎ Under t x y
  under_up side x y z c (n, here) = inl refl
  under_up side x y z c (n, deeper {y = y'} {n = m} {side = s} d k) = inr (m, subst (λ i. Down t x i m) (one_parent k c).0 d)

  pub under_child : (side : Bool) (x y z : ℕ) → Child t side y z → Under t x y → Under t x z
  under_child side x y z c (n, d) = (suc n, deeper d c)

  -- a proper ancestor of w has a child on the way to w
  one_edge : {x c n : ℕ} → n ≡ 1 → Down t x c n → (side : Bool) × Child t side x c
  one_edge e here = absurd (omega arith)
  one_edge e (deeper {side = s} here k) = (s, k)
  one_edge e (deeper (deeper d c) k) = absurd (omega arith)

  pub towards : (x w n : ℕ) → Down t x w (suc n) → (side : Bool) × (c : ℕ) × Child t side x c × Down t c w n
  towards x w n d =
      let (c, e, g) = down_split 1 n (omega arith) d in
      let (s, k) = one_edge refl e in
      (s, c, k, g)

  -- induction from parents to children
  from_parents : (P : ℕ → Type 0) → P 0 → ((side : Bool) (v w : ℕ) → Child t side v w → P v → P w) → (f w : ℕ) → w < f → w < t.size → P w
  from_parents P base step zero w h l = absurd (omega arith)
  from_parents P base step (suc f) zero h l = base
  from_parents P base step (suc f) (suc w) h l =
      let c : Child t (t.is_left (suc w)) (t.parent (suc w)) (suc w) = parent_of_lem (omega arith) l in
      let r = child_after wf c in
      step (t.is_left (suc w)) (t.parent (suc w)) (suc w) c (from_parents P base step f (t.parent (suc w)) (omega arith) (omega arith))

  pub by_parents : (P : ℕ → Type 0) → P 0 → ((side : Bool) (v w : ℕ) → Child t side v w → P v → P w) → (w : ℕ) → w < t.size → P w
  by_parents P base step w l = from_parents P base step (suc w) w (omega arith) l

  pub root : (v : ℕ) → v < t.size → Under t 0 v
  root = by_parents (Under t 0) (0, here) (λ side v w c h. (suc h.0, deeper h.1 c))

  dec_under_by : (x y n : ℕ) → Down t 0 y n → Dec (Under t x y)
  dec_under_by x y n here = go (ℕ_discrete x 0)
    where
      go : Dec (x ≡ 0) → Dec (Under t x 0)
      go (yes e) = yes (0, subst (λ i. Down t x i 0) e here)
      go (no f) = no (λ h. f (let k = under_le x 0 h in omega arith))
  dec_under_by x y n (deeper {y = z} {n = m} {side = s} d c) = go (ℕ_discrete x y) (dec_under_by x z m d)
    where
      go : Dec (x ≡ y) → Dec (Under t x z) → Dec (Under t x y)
      go (yes e) k = yes (0, subst (λ i. Down t x i 0) e here)
      go (no f) (yes h) = yes (under_child s x z y c h)
      go (no f) (no g) = no (λ h. neither (under_up s x z y c h))
        where
          neither : (x ≡ y) ⊎ Under t x z → ⊥
          neither (inl e) = f e
          neither (inr h) = g h

  pub dec_under : (x y : ℕ) → y < t.size → Dec (Under t x y)
  dec_under x y r = let (n, d) = root y r in dec_under_by x y n d
