-- The snippets of one power, with some added.
use Prim.Native.Nat.{ℕ, suc, ◌+◌, ◌≤◌, ◌<◌}
use mathlib.Core.Path.{◌≡◌, refl, sym, ◌∙◌, subst}
use mathlib.Core.Logic.{◌⊎◌, inl, inr, ⊎_map, ◌↔◌}
use mathlib.Core.List.{List}
use native.Mathlib.Omega.{arith}
use native.Mathlib.Nat.{eq-or-lt_of_le}
use native.Mathlib.Decide.{ℕ_discrete}
use lib.ListN.{get_or}
use Rattle.matrices.specs.Matrices.{Related, Drawing}
use Rattle.layout.proofs.Frames.{same_none, same_then, same_back}
use Rattle.matrices.proofs.Drawing.{redrawn_other, redrawn_same}
use Rattle.layout.specs.Blocks.{block_at, down_at, up_at, snippet_at}
use Rattle.layout.specs.Words.{Same}
use Rattle.halving.specs.Passes.{Upper, Lower, With, middle, Hands, upper, lower, Elsewhere, Grown, Handed}
use Rattle.halving.proofs.Adding.{bit_same, upper_same, lower_same}
use Rattle.halving.proofs.Blocks.{down_apart, up_apart, upper_apart, power_apart}

module _ (n k : ℕ) where
  pub grown_none : (N : ℕ → ℕ → ℕ → Type 0) (p : List ℕ) → ((z i j : ℕ) → z < n → i < 16 → ¬ N z i j) → Grown n k N p p
  grown_none N p none = record { same = same_none p; rows = λ z i j h a b. (λ r. inl r, λ c. back z i j h a c) }
    where
      back : (z i j : ℕ) → z < n → i < 16 → Related p (snippet_at n k z) i j ⊎ N z i j → Related p (snippet_at n k z) i j
      back z i j h a (inl r) = r
      back z i j h a (inr m) = absurd (none z i j h a m)

  module _ {N M : ℕ → ℕ → ℕ → Type 0} where
    pub grown_iff : {p q : List ℕ} → ((z i j : ℕ) → z < n → i < 16 → j < 16 → N z i j ↔ M z i j) → Grown n k N p q → Grown n k M p q
    grown_iff e g = record {
      same = g.same;
      rows = λ z i j h a b. (λ r. ⊎_map (λ x. x) (e z i j h a b).0 ((g.rows z i j h a b).0 r), λ c. (g.rows z i j h a b).1 (⊎_map (λ x. x) (e z i j h a b).1 c));
    }

    pub grown_then : {p q r : List ℕ} → Grown n k N p q → Grown n k M q r → Grown n k (λ z i j. N z i j ⊎ M z i j) p r
    grown_then {p} {q} {r} g h = record {
      same = same_then g.same h.same;
      rows = λ z i j l a b. (λ c. to z i j l a b ((h.rows z i j l a b).0 c), from z i j l a b);
    }
      where
        to : (z i j : ℕ) → z < n → i < 16 → j < 16 → Related q (snippet_at n k z) i j ⊎ M z i j → Related p (snippet_at n k z) i j ⊎ (N z i j ⊎ M z i j)
        to z i j l a b (inl c) = ⊎_map (λ x. x) (λ x. inl x) ((g.rows z i j l a b).0 c)
        to z i j l a b (inr m) = inr (inr m)

        from : (z i j : ℕ) → z < n → i < 16 → j < 16 → Related p (snippet_at n k z) i j ⊎ (N z i j ⊎ M z i j) → Related r (snippet_at n k z) i j
        from z i j l a b (inl c) = (h.rows z i j l a b).1 (inl ((g.rows z i j l a b).1 (inl c)))
        from z i j l a b (inr (inl m)) = (h.rows z i j l a b).1 (inl ((g.rows z i j l a b).1 (inr m)))
        from z i j l a b (inr (inr m)) = (h.rows z i j l a b).1 (inr m)

  -- the snippets with one lower node
  pub grown_drawn : (u : ℕ) (M : ℕ → ℕ → Type 0) {p q : List ℕ} → Drawing (With p (snippet_at n k u) M) (snippet_at n k u) 16 p q → u < n
      → Grown n k (λ z i j. (u ≡ z) × M i j) p q
  grown_drawn u M {p} {q} d h = record {
    same = redrawn_same (λ l e i a. e u i h a) d.frame;
    rows = λ z i j l a b. go z i j l a b (ℕ_discrete u z);
  }
    where
      go : (z i j : ℕ) → z < n → i < 16 → j < 16 → Dec (u ≡ z) → Related q (snippet_at n k z) i j ↔ (Related p (snippet_at n k z) i j ⊎ ((u ≡ z) × M i j))
      go z i j l a b (yes e) =
          subst (λ v. Related q (snippet_at n k v) i j ↔ (Related p (snippet_at n k v) i j ⊎ ((u ≡ v) × M i j))) e
          (λ r. ⊎_map (λ x. x) (λ m. (refl, m)) ((d.done i j a b).0 r), λ c. (d.done i j a b).1 (⊎_map (λ x. x) (λ m. m.1) c))
      go z i j l a b (no f) = (λ r. inl (bit_same q p (snippet_at n k z + i) j (sym same) r), back)
        where
          same : get_or q (snippet_at n k z + i) 0 ≡ get_or p (snippet_at n k z + i) 0
          same = redrawn_other d.frame (snippet_at n k z + i) (λ c m e. f (omega arith))

          back : Related p (snippet_at n k z) i j ⊎ ((u ≡ z) × M i j) → Related q (snippet_at n k z) i j
          back (inl r) = bit_same p q (snippet_at n k z + i) j same r
          back (inr (e, m)) = absurd (f e)

  -- ── What is handed down is not read off the snippets of power k ──
  module _ {p q : List ℕ} (s : Same (Elsewhere n k) p q) where
    above_same : (y i : ℕ) → i < 16 → get_or q (snippet_at n (suc k) y + i) 0 ≡ get_or p (snippet_at n (suc k) y + i) 0
    above_same y i a = s.same _ (λ z c l m. power_apart n (suc k) y k z c m i a l (omega arith))

    handed_lower : (y u i j : ℕ) → i < 16 → Lower p (snippet_at n (suc k) y) (up_at n k u) i j → Lower q (snippet_at n (suc k) y) (up_at n k u) i j
    handed_lower y u i j a = lower_same p q (snippet_at n (suc k) y) (up_at n k u) i j (s.same _ (λ z x l f. up_apart n k u k z x f i a)) (above_same y)

    middle_same : (y : ℕ) → middle n k q y ≡ middle n k p y
    middle_same y = s.same _ (λ z x l f. upper_apart n k y k z x f)

    hands_same : (y z i j : ℕ) → i < 16 → j < 16 → Hands n k p y z i j → Hands n k q y z i j
    hands_same y z i j a b (upper e r) =
        upper (middle_same y ∙ e) (upper_same p q (snippet_at n (suc k) y) (down_at n k y) i j (above_same y i a) (s.same _ (λ z x l f. down_apart n k y k z x f j b)) r)
    hands_same y z i j a b (lower m e r) =
        let o = sym (middle_same y) in
        lower (subst (λ u. u < n) o m) e (handed_lower y (middle n k q y) i j a (subst (λ u. Lower p (snippet_at n (suc k) y) (up_at n k u) i j) o r))

  -- ── One node after the other ──
  -- a node without a node 2^k above it
  pub hands_none : (p : List ℕ) (y : ℕ) → n ≤ middle n k p y → Grown n k (Hands n k p y) p p
  hands_none p y h = grown_none (Hands n k p y) p none
    where
      none : (z i j : ℕ) → z < n → i < 16 → ¬ Hands n k p y z i j
      none z i j l a (upper e r) = omega arith
      none z i j l a (lower m e r) = omega arith

  -- a node without snippets
  pub hands_nothing : (p : List ℕ) (y : ℕ) → ((i j : ℕ) → i < 16 → ¬ Related p (snippet_at n (suc k) y) i j) → Grown n k (Hands n k p y) p p
  hands_nothing p y empty = grown_none (Hands n k p y) p none
    where
      none : (z i j : ℕ) → z < n → i < 16 → ¬ Hands n k p y z i j
      none z i j l a (upper e (c, x, r, b)) = empty i c a r
      none z i j l a (lower m e (c, x, r, b)) = empty c j x b

  abbrev Either : (p q : List ℕ) (y h z i j : ℕ) → Type 0
  Either p q y h z i j = ((h ≡ z) × Upper p (snippet_at n (suc k) y) (down_at n k y) i j) ⊎ ((y ≡ z) × Lower q (snippet_at n (suc k) y) (up_at n k h) i j)

  pub hands_both : (y h : ℕ) {p q r : List ℕ} → y < n → h < n → middle n k p y ≡ h
      → Drawing (With p (snippet_at n k h) (Upper p (snippet_at n (suc k) y) (down_at n k y))) (snippet_at n k h) 16 p q
      → Drawing (With q (snippet_at n k y) (Lower q (snippet_at n (suc k) y) (up_at n k h))) (snippet_at n k y) 16 q r
      → Grown n k (Hands n k p y) p r
  hands_both y h {p} {q} {r} l m e d f =
      let g = grown_drawn h (Upper p (snippet_at n (suc k) y) (down_at n k y)) d m in
      grown_iff (λ z i j x a b. (to z i j a b g.same, from z i j a b g.same)) (grown_then g (grown_drawn y (Lower q (snippet_at n (suc k) y) (up_at n k h)) f l))
    where
      to : (z i j : ℕ) → i < 16 → j < 16 → Same (Elsewhere n k) p q → Either p q y h z i j → Hands n k p y z i j
      to z i j a b same (inl (o, c)) = upper (e ∙ o) c
      to z i j a b same (inr (o, c)) =
          lower (omega arith) o (subst (λ u. Lower p (snippet_at n (suc k) y) (up_at n k u) i j) (sym e) (handed_lower (same_back same) y h i j a c))

      from : (z i j : ℕ) → i < 16 → j < 16 → Same (Elsewhere n k) p q → Hands n k p y z i j → Either p q y h z i j
      from z i j a b same (upper o c) = inl (sym e ∙ o, c)
      from z i j a b same (lower x o c) = inr (o, handed_lower same y h i j a (subst (λ u. Lower p (snippet_at n (suc k) y) (up_at n k u) i j) e c))

  -- the same, where the offsets were computed
  pub hands_placed : (y h source low high : ℕ) {p q r : List ℕ} → source ≡ block_at n (k + 1) y → low ≡ block_at n k y → high ≡ block_at n k h → y < n → h < n → middle n k p y ≡ h
      → Drawing (With p (high + 32) (Upper p (source + 32) low)) (high + 32) 16 p q
      → Drawing (With q (low + 32) (Lower q (source + 32) (high + 16))) (low + 32) 16 q r
      → Grown n k (Hands n k p y) p r
  hands_placed y h source low high {p} {q} {r} es el eh l m e d f =
      hands_both y h l m e
      (subst (λ s. Drawing (With p (snippet_at n k h) (Upper p s (down_at n k y))) (snippet_at n k h) 16 p q) o
      (subst (λ a. Drawing (With p (snippet_at n k h) (Upper p (source + 32) a)) (snippet_at n k h) 16 p q) el
      (subst (λ a. Drawing (With p (a + 32) (Upper p (source + 32) low)) (a + 32) 16 p q) eh d)))
      (subst (λ s. Drawing (With q (snippet_at n k y) (Lower q s (up_at n k h))) (snippet_at n k y) 16 q r) o
      (subst (λ a. Drawing (With q (a + 32) (Lower q (source + 32) (up_at n k h))) (a + 32) 16 q r) el
      (subst (λ a. Drawing (With q (low + 32) (Lower q (source + 32) (a + 16))) (low + 32) 16 q r) eh f)))
    where
      o : source + 32 ≡ snippet_at n (suc k) y
      o = omega arith

  pub handed_none : (p : List ℕ) → Grown n k (Handed n k p 0) p p
  handed_none p = grown_none (Handed n k p 0) p (λ z i j l a (y, h, c). let e : ⊥ = omega arith in e)

  pub handed_step : {p q r : List ℕ} (m : ℕ) → Grown n k (Handed n k p m) p q → Grown n k (Hands n k q m) q r → Grown n k (Handed n k p (m + 1)) p r
  handed_step {p} {q} m g h = grown_iff (λ z i j l a b. (to z i j a b, from z i j a b)) (grown_then g h)
    where
      to : (z i j : ℕ) → i < 16 → j < 16 → Handed n k p m z i j ⊎ Hands n k q m z i j → Handed n k p (m + 1) z i j
      to z i j a b (inl (y, l, c)) = (y, omega arith, c)
      to z i j a b (inr c) = (m, omega arith, hands_same (same_back g.same) m z i j a b c)

      from : (z i j : ℕ) → i < 16 → j < 16 → Handed n k p (m + 1) z i j → Handed n k p m z i j ⊎ Hands n k q m z i j
      from z i j a b (y, l, c) = go (eq-or-lt_of_le (omega arith))
        where
          go : (y ≡ m) ⊎ (y < m) → Handed n k p m z i j ⊎ Hands n k q m z i j
          go (inl e) = inr (hands_same g.same m z i j a b (subst (λ u. Hands n k p u z i j) e c))
          go (inr r) = inl (y, r, c)
