-- A path reaches w from v if and only if its start at v ends at w.
use Prim.Native.Nat.{ℕ, suc, ◌+◌, ◌≤◌, ◌<◌}
use mathlib.Core.Path.{◌≡◌, refl, sym, ap, subst}
use mathlib.Core.Logic.{◌⊎◌, inl, inr, ◌↔◌}
use mathlib.Core.List.{List, [], ◌∷◌, ◌++◌, append_assoc}
use native.Mathlib.Omega.{arith}
use Rattle.xpath.specs.Syntax.{XPath, Step, steps, size}
use Rattle.xpath.specs.Tree.{Tree}
use Rattle.xpath.specs.Meaning.{Reaches}
use Rattle.positions.specs.Positions.{Word, Numbered, Full, Follows, IsLast, Comes, here, on, Ends, second}
use Rattle.positions.specs.Glushkov.{Nullable, Begins, Stops, Next}
use Rattle.positions.proofs.Glushkov.{In, Local, local_word, next_iff, stops_iff, begins_iff, null_iff, begins_in, stops_in, next_in}
use Rattle.positions.proofs.Runs.{Run, reaches_run, run_reaches, num_left, num_right, num_low, num_high}

module _ (P R : XPath) where
  abbrev pub RightAfter : ℕ → ℕ → Type 0
  RightAfter i j =
      (((i ≡ 0) × Begins P 1 j) ⊎ Next P 1 i j) ⊎ (((i ≡ second P R) × Begins R (suc (size P)) j) ⊎ Next R (suc (size P)) i j)

  abbrev pub AtEnd : ℕ → Type 0
  AtEnd i = (((i ≡ 0) × Nullable P) ⊎ Stops P 1 i) ⊎ (((i ≡ second P R) × Nullable R) ⊎ Stops R (suc (size P)) i)

  -- In a word behind its start, what is followed is the start or a step of the word.
  after : (Q : XPath) (b s : ℕ) (u w x : List ℕ) (i j : ℕ) → u ++ i ∷ j ∷ w ≡ s ∷ x → Word Q b x → ((i ≡ s) × Begins Q b j) ⊎ Next Q b i j
  after Q b s [] w x i j e h =
      let e₁ : x ≡ j ∷ w = cc in
      inl ((cc), (begins_iff Q b j).1 (w, subst (λ l. Word Q b l) e₁ h))
  after Q b s (k ∷ u) w x i j e h =
      let e₁ : x ≡ u ++ i ∷ j ∷ w = cc in
      inr ((next_iff Q b i j).1 (u, w, subst (λ l. Word Q b l) e₁ h))

  at_end_lem : (Q : XPath) (b s : ℕ) (u x : List ℕ) (i : ℕ) → u ++ i ∷ [] ≡ s ∷ x → Word Q b x → ((i ≡ s) × Nullable Q) ⊎ Stops Q b i
  at_end_lem Q b s [] x i e h =
      let e₁ : x ≡ [] = cc in
      inl ((cc), (null_iff Q b).1 (subst (λ l. Word Q b l) e₁ h))
  at_end_lem Q b s (k ∷ u) x i e h =
      let e₁ : x ≡ u ++ i ∷ [] = cc in
      inr ((stops_iff Q b i).1 (u, subst (λ l. Word Q b l) e₁ h))

  pub follows_iff : (i j : ℕ) → Follows P R i j ↔ RightAfter i j
  unfolding Follows Full
  follows_iff i j = (λ h. to h.0 h.1 h.2, from)
    where
      to : (u w : List ℕ) → Full P R (u ++ i ∷ j ∷ w) → RightAfter i j
      to u w (inl (x, e, h)) = inl (after P 1 0 u w x i j e h)
      to u w (inr (x, e, h)) = inr (after R (suc (size P)) (second P R) u w x i j e h)

      from : RightAfter i j → Follows P R i j
      from (inl (inl (e, h))) = let (w, g) = (begins_iff P 1 j).0 h in ([], w, inl (j ∷ w, ap (λ (x : ℕ). x ∷ j ∷ w) e, g))
      from (inl (inr h)) = let (u, w, g) = (next_iff P 1 i j).0 h in (0 ∷ u, w, inl (u ++ i ∷ j ∷ w, refl, g))
      from (inr (inl (e, h))) = let (w, g) = (begins_iff R (suc (size P)) j).0 h in ([], w, inr (j ∷ w, ap (λ (x : ℕ). x ∷ j ∷ w) e, g))
      from (inr (inr h)) = let (u, w, g) = (next_iff R (suc (size P)) i j).0 h in (second P R ∷ u, w, inr (u ++ i ∷ j ∷ w, refl, g))

  pub last_iff : (i : ℕ) → IsLast P R i ↔ AtEnd i
  unfolding IsLast Full
  last_iff i = (λ h. to h.0 h.1, from)
    where
      to : (u : List ℕ) → Full P R (u ++ i ∷ []) → AtEnd i
      to u (inl (x, e, h)) = inl (at_end_lem P 1 0 u x i e h)
      to u (inr (x, e, h)) = inr (at_end_lem R (suc (size P)) (second P R) u x i e h)

      from : AtEnd i → IsLast P R i
      from (inl (inl (e, h))) = ([], inl ([], ap (λ (x : ℕ). x ∷ []) e, (null_iff P 1).0 h))
      from (inl (inr h)) = let (u, g) = (stops_iff P 1 i).0 h in (0 ∷ u, inl (u ++ i ∷ [], refl, g))
      from (inr (inl (e, h))) = ([], inr ([], ap (λ (x : ℕ). x ∷ []) e, (null_iff R (suc (size P))).0 h))
      from (inr (inr h)) = let (u, g) = (stops_iff R (suc (size P)) i).0 h in (second P R ∷ u, inr (u ++ i ∷ [], refl, g))

  -- ── The two paths' positions stay apart ──
  pub follows_first : (i j : ℕ) → i ≤ size P → Follows P R i j → ((i ≡ 0) × Begins P 1 j) ⊎ Next P 1 i j
  follows_first i j r f = go ((follows_iff i j).0 f)
    where
      go : RightAfter i j → ((i ≡ 0) × Begins P 1 j) ⊎ Next P 1 i j
      go (inl h) = h
      go (inr (inl (e, h))) = absurd (omega arith)
      go (inr (inr h)) = let k = next_in R (suc (size P)) i j h in absurd (omega arith)

  pub follows_second : (i j : ℕ) → size P < i → Follows P R i j → ((i ≡ second P R) × Begins R (suc (size P)) j) ⊎ Next R (suc (size P)) i j
  follows_second i j r f = go ((follows_iff i j).0 f)
    where
      go : RightAfter i j → ((i ≡ second P R) × Begins R (suc (size P)) j) ⊎ Next R (suc (size P)) i j
      go (inr h) = h
      go (inl (inl (e, h))) = absurd (omega arith)
      go (inl (inr h)) = let k = next_in P 1 i j h in absurd (omega arith)

  last_first : (i : ℕ) → i ≤ size P → IsLast P R i → ((i ≡ 0) × Nullable P) ⊎ Stops P 1 i
  last_first i r f = go ((last_iff i).0 f)
    where
      go : AtEnd i → ((i ≡ 0) × Nullable P) ⊎ Stops P 1 i
      go (inl h) = h
      go (inr (inl (e, h))) = absurd (omega arith)
      go (inr (inr h)) = let k = stops_in R (suc (size P)) i h in absurd (omega arith)

  last_second : (i : ℕ) → size P < i → IsLast P R i → ((i ≡ second P R) × Nullable R) ⊎ Stops R (suc (size P)) i
  last_second i r f = go ((last_iff i).0 f)
    where
      go : AtEnd i → ((i ≡ second P R) × Nullable R) ⊎ Stops R (suc (size P)) i
      go (inr h) = h
      go (inl (inl (e, h))) = absurd (omega arith)
      go (inl (inr h)) = let k = stops_in P 1 i h in absurd (omega arith)

  pub first_stays : (i j : ℕ) → i ≤ size P → Follows P R i j → j ≤ size P
  first_stays i j r f = go (follows_first i j r f)
    where
      go : ((i ≡ 0) × Begins P 1 j) ⊎ Next P 1 i j → j ≤ size P
      go (inl h) = let k = begins_in P 1 j h.1 in omega arith
      go (inr h) = let k = next_in P 1 i j h in omega arith

  pub second_stays : (i j : ℕ) → size P < i → Follows P R i j → size P < j
  second_stays i j r f = go (follows_second i j r f)
    where
      go : ((i ≡ second P R) × Begins R (suc (size P)) j) ⊎ Next R (suc (size P)) i j → size P < j
      go (inl h) = let k = begins_in R (suc (size P)) j h.1 in omega arith
      go (inr h) = let k = next_in R (suc (size P)) i j h in omega arith

  -- ── A chain of following positions that stops in a last one is a word ──
  next_first : (i j : ℕ) → In P 1 i → Follows P R i j → Next P 1 i j
  next_first i j r f = go (follows_first i j (omega arith) f)
    where
      go : ((i ≡ 0) × Begins P 1 j) ⊎ Next P 1 i j → Next P 1 i j
      go (inl (e, g)) = absurd (omega arith)
      go (inr g) = g

  stops_first : (i : ℕ) → In P 1 i → IsLast P R i → Stops P 1 i
  stops_first i r f = go (last_first i (omega arith) f)
    where
      go : ((i ≡ 0) × Nullable P) ⊎ Stops P 1 i → Stops P 1 i
      go (inl (e, g)) = absurd (omega arith)
      go (inr g) = g

  local_first : (ws : List ℕ) (i : ℕ) → In P 1 i → Local (Follows P R) (IsLast P R) i ws → Local (Next P 1) (Stops P 1) i ws
  local_first [] i r h = stops_first i r h
  local_first (j ∷ ws) i r (f, h) = let n = next_first i j r f in (n, local_first ws j (next_in P 1 i j n).1 h)

  word_first : (ws : List ℕ) → Local (Follows P R) (IsLast P R) 0 ws → Word P 1 ws
  word_first [] h = go (last_first 0 (omega arith) h)
    where
      go : ((◌≡◌ {A = ℕ} 0 0) × Nullable P) ⊎ Stops P 1 0 → Word P 1 []
      go (inl (e, g)) = (null_iff P 1).0 g
      go (inr g) = let k = stops_in P 1 0 g in absurd (omega arith)
  word_first (j ∷ ws) (f, h) = go (follows_first 0 j (omega arith) f)
    where
      go : ((◌≡◌ {A = ℕ} 0 0) × Begins P 1 j) ⊎ Next P 1 0 j → Word P 1 (j ∷ ws)
      go (inl (e, g)) = local_word P 1 (j ∷ ws) (g, local_first ws j (begins_in P 1 j g) h)
      go (inr g) = let k = next_in P 1 0 j g in absurd (omega arith)

  next_second : (i j : ℕ) → In R (suc (size P)) i → Follows P R i j → Next R (suc (size P)) i j
  next_second i j r f = go (follows_second i j (omega arith) f)
    where
      go : ((i ≡ second P R) × Begins R (suc (size P)) j) ⊎ Next R (suc (size P)) i j → Next R (suc (size P)) i j
      go (inl (e, g)) = absurd (omega arith)
      go (inr g) = g

  stops_second : (i : ℕ) → In R (suc (size P)) i → IsLast P R i → Stops R (suc (size P)) i
  stops_second i r f = go (last_second i (omega arith) f)
    where
      go : ((i ≡ second P R) × Nullable R) ⊎ Stops R (suc (size P)) i → Stops R (suc (size P)) i
      go (inl (e, g)) = absurd (omega arith)
      go (inr g) = g

  local_second : (ws : List ℕ) (i : ℕ) → In R (suc (size P)) i → Local (Follows P R) (IsLast P R) i ws → Local (Next R (suc (size P))) (Stops R (suc (size P))) i ws
  local_second [] i r h = stops_second i r h
  local_second (j ∷ ws) i r (f, h) = let n = next_second i j r f in (n, local_second ws j (next_in R (suc (size P)) i j n).1 h)

  word_second : (ws : List ℕ) → Local (Follows P R) (IsLast P R) (second P R) ws → Word R (suc (size P)) ws
  word_second [] h = go (last_second (second P R) (omega arith) h)
    where
      go : ((second P R ≡ second P R) × Nullable R) ⊎ Stops R (suc (size P)) (second P R) → Word R (suc (size P)) []
      go (inl (e, g)) = (null_iff R (suc (size P))).0 g
      go (inr g) = let k = stops_in R (suc (size P)) (second P R) g in absurd (omega arith)
  word_second (j ∷ ws) (f, h) = go (follows_second (second P R) j (omega arith) f)
    where
      go : ((second P R ≡ second P R) × Begins R (suc (size P)) j) ⊎ Next R (suc (size P)) (second P R) j → Word R (suc (size P)) (j ∷ ws)
      go (inl (e, g)) = local_word R (suc (size P)) (j ∷ ws) (g, local_second ws j (begins_in R (suc (size P)) j g) h)
      go (inr g) = let k = next_in R (suc (size P)) (second P R) j g in absurd (omega arith)

  module _ (t : Tree) where
    abbrev Num : ℕ → Step → Type 0
    Num j s = Numbered 1 (steps P ++ steps R) j s

    word_ends : (ws u : List ℕ) (i v w : ℕ) → Full P R (u ++ i ∷ ws) → Run t Num ws v w → Ends P R t i v w
    unfolding Follows IsLast
    word_ends [] u i v w full r = (i, (u, full), subst (λ x. Comes P R t i v i x) r here)
    word_ends (j ∷ ws) u i v w full (a, s, n, m, r) =
        let full' : Full P R (u ++ i ∷ [] ++ j ∷ ws) = rw append_assoc full in
        let (k, l, c) = word_ends ws (u ++ i ∷ []) j a w full' r in
        (k, l, on s (u, ws, full) n m c)

    chain_run : (i v k w : ℕ) → IsLast P R k → Comes P R t i v k w → (ws : List ℕ) × Local (Follows P R) (IsLast P R) i ws × Run t Num ws v w
    chain_run i v k w l here = ([], l, refl)
    chain_run i v k w l (on {j = j} {u = u} s f n m c) =
        let (ws, h, r) = chain_run j u k w l c in
        (j ∷ ws, (f, h), (u, s, n, m, r))

    -- The path P reaches w from v if and only if its start at v ends at w.
    pub first_ends : (v w : ℕ) → Reaches t P v w ↔ Ends P R t 0 v w
    unfolding Full
    first_ends v w = (to, from)
      where
        to : Reaches t P v w → Ends P R t 0 v w
        to h =
            let (ws, x, r) = reaches_run t Num P 1 (λ j s n. num_left (steps P) (steps R) 1 j s n) v w h in
            word_ends ws [] 0 v w (inl (ws, refl, x)) r

        from : Ends P R t 0 v w → Reaches t P v w
        from (k, l, c) =
            let (ws, h, r) = chain_run 0 v k w l c in
            run_reaches t Num P 1 (λ j s i n. num_low (steps P) (steps R) 1 j s i.1 n) ws v w (word_first ws h) r

    pub second_ends : (v w : ℕ) → Reaches t R v w ↔ Ends P R t (second P R) v w
    unfolding Full
    second_ends v w = (to, from)
      where
        shift : suc (size P) ≡ 1 + size P
        shift = omega arith

        to : Reaches t R v w → Ends P R t (second P R) v w
        to h =
            let (ws, x, r) = reaches_run t Num R (suc (size P)) (λ j s n. num_right (steps P) (steps R) 1 j s (subst (λ x. Numbered x (steps R) j s) shift n)) v w h in
            word_ends ws [] (second P R) v w (inr (ws, refl, x)) r

        from : Ends P R t (second P R) v w → Reaches t R v w
        from (k, l, c) =
            let (ws, h, r) = chain_run (second P R) v k w l c in
            run_reaches t Num R (suc (size P)) (λ j s i n. subst (λ x. Numbered x (steps R) j s) (sym shift) (num_high (steps P) (steps R) 1 j s (omega arith) n)) ws v w (word_second ws h) r
