-- The snippets settle a comparison as its definition does.
use Prim.Native.Nat.{ℕ, zero, suc, ◌+◌, ◌-◌, ◌^◌, ◌≤◌, ◌<◌}
use mathlib.Core.Path.{◌≡◌, refl, sym, ap, ◌∙◌, subst}
use mathlib.Core.Logic.{◌⊎◌, inl, inr, ◌↔◌, ◌≢◌}
use mathlib.Core.Bool.{Bool, true, false}
use mathlib.Core.List.{List}
use native.Mathlib.Omega.{arith}
use native.Mathlib.Decide.{ℕ_discrete, dec_lt, dec_le}
use lib.Pow.{pow_pos}
use Rattle.xpath.specs.Syntax.{XPath, Step, to_left, to_right, from_left, from_right, stay, compare, eq, size}
use Rattle.xpath.specs.Tree.{Tree, Child, WellFormed, Down, Under}
use Rattle.xpath.specs.Meaning.{Holds, Moves}
use Rattle.positions.specs.Positions.{IsLast, Comes, Ends, second, StartOf}
use Rattle.snippets.specs.Snippets.{Different, Closest, Has, Skeleton, Edge, First, Yielded, upper, lower, upper_half, lower_half, Settled}
use Rattle.positions.proofs.Chains.{first_ends, second_ends, first_stays, second_stays}
use Rattle.xpath.proofs.Trees.{child_after, down_le, down_split, down_zero, ancestors, under_trans, under_le, under_antisym, under_up, under_child, towards, dec_under}
use Rattle.snippets.proofs.Skeletons.{closest, lowest}

module _ (t : Tree) (P R : XPath) where
  abbrev C : ℕ → ℕ → ℕ → ℕ → Type 0
  C i v j w = Comes P R t i v j w

  abbrev E : ℕ → ℕ → ℕ → Type 0
  E i v w = Ends P R t i v w

  -- ── Chains ──
  pub comes_join : {i v j u k w : ℕ} → C i v j u → C j u k w → C i v k w
  comes_join Comes.here c = c
  comes_join (Comes.on s f n m c) e = Comes.on s f n m (comes_join c e)

  pub comes_ends : {i v j u w : ℕ} → C i v j u → E j u w → E i v w
  comes_ends c (k, l, e) = (k, l, comes_join c e)

  pub comes_first : {i v j w : ℕ} → C i v j w → i ≤ size P → j ≤ size P
  comes_first Comes.here h = h
  comes_first {i} (Comes.on {j = j} s f n m c) h = comes_first c (first_stays P R i j h f)

  pub comes_second : {i v j w : ℕ} → C i v j w → size P < i → size P < j
  comes_second Comes.here h = h
  comes_second {i} (Comes.on {j = j} s f n m c) h = comes_second c (second_stays P R i j h f)

  pub back_first : {i v j w : ℕ} → C i v j w → j ≤ size P → i ≤ size P
  back_first {i} {j = j} c h = go (dec_le i (size P))
    where
      go : Dec (i ≤ size P) → i ≤ size P
      go (yes r) = r
      go (no f) = let k = comes_second c (omega arith) in absurd (omega arith)

  pub back_second : {i v j w : ℕ} → C i v j w → size P < j → size P < i
  back_second {i} {j = j} c h = go (dec_le i (size P))
    where
      go : Dec (i ≤ size P) → size P < i
      go (yes r) = let k = comes_first c r in absurd (omega arith)
      go (no f) = omega arith

  -- ── Soundness ──
  abbrev Pair : ℕ → ℕ → ℕ → ℕ → Type 0
  Pair x y p q = Different P R p q × ((w u : ℕ) × (t.value w ≡ t.value u) × E p x w × E q y u)

  pair_of : {x y p q n : ℕ} → First t P R x y p q n → Pair x y p q
  pair_of f = (f.different, (f.outside.0, f.inside.0, f.outside.1.value ∙ sym f.inside.1.value, f.outside.3, f.inside.3))

  pub diff_left : (p' p q : ℕ) → (p ≤ size P → p' ≤ size P) → (size P < p → size P < p') → Different P R p q → Different P R p' q
  diff_left p' p q f g (inl h) = inl (f h.0, h.1)
  diff_left p' p q f g (inr h) = inr (g h.0, h.1)

  pub diff_right : (p q' q : ℕ) → (q ≤ size P → q' ≤ size P) → (size P < q → size P < q') → Different P R p q → Different P R p q'
  diff_right p q' q f g (inl h) = inl (h.0, g h.1)
  diff_right p q' q f g (inr h) = inr (h.0, f h.1)

  pair_right : {x u y p q' q : ℕ} → C q' u q y → Pair x y p q → Pair x u p q'
  pair_right {p = p} {q' = q'} {q = q} c (d, (w, z, e, a, b)) = (diff_right p q' q (back_first c) (back_second c) d, (w, z, e, a, comes_ends c b))

  pair_left : {x w y p p' q : ℕ} → C p' w p x → Pair x y p q → Pair w y p' q
  pair_left {p = p} {p' = p'} {q = q} c (d, (w, z, e, a, b)) = (diff_left p' p q (back_first c) (back_second c) d, (w, z, e, comes_ends c a, b))

  pub sound : {k x y p q : ℕ} → Yielded t P R k x y p q → Pair x y p q
  sound (upper f a b d e c) = pair_right c (pair_of f)
  sound (lower f a b d e c) = pair_left c (pair_of f)
  sound (upper_half f d e c) = pair_right c (sound f)
  sound (lower_half f d e c) = pair_left c (sound f)

  pub settled_holds : (v : ℕ) → Settled t P R v → Holds t (compare eq P R) v
  settled_holds v (inl (w, a, b)) = (w, w, (first_ends P R t v w).1 a, (second_ends P R t v w).1 b, refl)
  settled_holds v (inr (x, y, p, q, a, b, z, sp, sq, cp, cq)) = let (d, (w, u, e, f, g)) = sound z in go d w u e f g sp sq
    where
      go : Different P R p q → (w u : ℕ) → t.value w ≡ t.value u → E p x w → E q y u → StartOf P R p a → StartOf P R q b → Holds t (compare eq P R) v
      go (inl d) w u e f g (inl h) (inl k) = absurd (omega arith)
      go (inl d) w u e f g (inl h) (inr k) =
          (w, u, (first_ends P R t v w).1 (subst (λ i. E i v w) h.1 (comes_ends cp f)), (second_ends P R t v u).1 (subst (λ i. E i v u) k.1 (comes_ends cq g)), e)
      go (inl d) w u e f g (inr h) k = absurd (omega arith)
      go (inr d) w u e f g (inl h) k = absurd (omega arith)
      go (inr d) w u e f g (inr h) (inl k) =
          (u, w, (first_ends P R t v u).1 (subst (λ i. E i v u) k.1 (comes_ends cq g)), (second_ends P R t v w).1 (subst (λ i. E i v w) h.1 (comes_ends cp f)), sym e)
      go (inr d) w u e f g (inr h) (inr k) = absurd (omega arith)

  -- ── The separator: a chain between two nodes passes what lies between them ──
  abbrev Near : ℕ → ℕ → Type 0
  Near v u = (v ≡ u) ⊎ ((side : Bool) × Child t side v u) ⊎ ((side : Bool) × Child t side u v)

  near : (s : Step) (v u : ℕ) → Moves t s v u → Near v u
  near to_left v u m = inr (inl (true, m))
  near to_right v u m = inr (inl (false, m))
  near from_left v u m = inr (inr (true, m))
  near from_right v u m = inr (inr (false, m))
  near (stay T) v u m = inl m.0

  -- neighbours other than z are both in S or both not
  abbrev Cut : ℕ → (ℕ → Type 0) → Type 0
  Cut z S = (side : Bool) (u w : ℕ) → Child t side u w → u ≢ z → w ≢ z → S u ↔ S w

  abbrev Through : ℕ → ℕ → ℕ → ℕ → ℕ → Type 0
  Through i v j w z = (p : ℕ) × C i v p z × C p z j w

  cross : (z : ℕ) (S : ℕ → Type 0) → Cut z S → {i v j w : ℕ} → C i v j w → S v → ¬ S w → Through i v j w z
  cross z S cut Comes.here h f = absurd (f h)
  cross z S cut {i} {v} {j = k} {w} (Comes.on {j = j} {u = u} s f n m c) h g =
      go (ℕ_discrete v z) (ℕ_discrete u z) (near s v u m) (λ h'. cross z S cut c h' g)
    where
      onward : Through j u k w z → Through i v k w z
      onward (p, a, b) = (p, Comes.on s f n m a, b)

      go : Dec (v ≡ z) → Dec (u ≡ z) → Near v u → (S u → Through j u k w z) → Through i v k w z
      go (yes e) d r ih = (i, subst (λ x. C i v i x) e Comes.here, subst (λ x. C i x k w) e (Comes.on s f n m c))
      go (no a) (yes e) r ih = (j, Comes.on s f n m (subst (λ x. C j u j x) e Comes.here), subst (λ x. C j x k w) e c)
      go (no a) (no b) (inl e) ih = onward (ih (subst S e h))
      go (no a) (no b) (inr (inl (side, q))) ih = onward (ih ((cut side v u q a b).0 h))
      go (no a) (no b) (inr (inr (side, q))) ih = onward (ih ((cut side u v q b a).1 h))

  cut_not : (z : ℕ) (S : ℕ → Type 0) → Cut z S → Cut z (λ u. ¬ S u)
  cut_not z S cut side u w c a b = let r = cut side u w c a b in (λ f h. f (r.1 h), λ f h. f (r.0 h))

  module _ (wf : WellFormed t) where
    cut_top : (y : ℕ) → Cut y (λ u. Under t y u)
    cut_top y side u w c a b = (under_child t wf side y u w c, λ h. go (under_up t wf side y u w c h))
      where
        go : (y ≡ w) ⊎ Under t y u → Under t y u
        go (inl e) = absurd (b (sym e))
        go (inr h) = h

    cut_parent : (s : Bool) (x c : ℕ) → Child t s x c → Cut x (λ u. Under t c u)
    cut_parent s x c k side u w q a b = (under_child t wf side c u w q, λ h. go (under_up t wf side c u w q h))
      where
        go : (c ≡ w) ⊎ Under t c u → Under t c u
        go (inl e) = absurd (a (sym q.above ∙ ap t.parent (sym e) ∙ k.above))
        go (inr h) = h

    pub leave_top : (y : ℕ) {i v j w : ℕ} → C i v j w → Under t y v → ¬ Under t y w → Through i v j w y
    leave_top y c h f = cross y (λ u. Under t y u) (cut_top y) c h f

    pub enter_top : (y : ℕ) {i v j w : ℕ} → C i v j w → ¬ Under t y v → Under t y w → Through i v j w y
    enter_top y c f h = cross y (λ u. ¬ Under t y u) (cut_not y (λ u. Under t y u) (cut_top y)) c f (λ g. g h)

    pub leave_parent : (s : Bool) (x y : ℕ) → Child t s x y → {i v j w : ℕ} → C i v j w → Under t y v → ¬ Under t y w → Through i v j w x
    leave_parent s x y k c h f = cross x (λ u. Under t y u) (cut_parent s x y k) c h f

    enter_parent : (s : Bool) (x y : ℕ) → Child t s x y → {i v j w : ℕ} → C i v j w → ¬ Under t y v → Under t y w → Through i v j w x
    enter_parent s x y k c f h = cross x (λ u. ¬ Under t y u) (cut_not x (λ u. Under t y u) (cut_parent s x y k)) c f (λ g. g h)

    near_inside : (v u : ℕ) → v < t.size → Near v u → u < t.size
    near_inside v u r (inl e) = omega arith
    near_inside v u r (inr (inl (side, c))) = c.inside
    near_inside v u r (inr (inr (side, c))) = let h = child_after wf c in omega arith

    pub comes_inside : {i v j w : ℕ} → C i v j w → v < t.size → w < t.size
    comes_inside Comes.here r = r
    comes_inside {v = v} (Comes.on {u = u} s f n m c) r = comes_inside c (near_inside v u r (near s v u m))

    pub proper_not : (x y n : ℕ) → 0 < n → Down t x y n → ¬ Under t y x
    proper_not x y n r d h = let a = down_le t wf d in let b = under_le t wf y x h in omega arith

    -- ── Completeness: halving down to power 0 ──
    pub yielded_down : {k x y p q : ℕ} → Yielded t P R k x y p q → Down t x y (2 ^ k)
    yielded_down (upper f a b d e c) = d
    yielded_down (lower f a b d e c) = e
    yielded_down (upper_half f d e c) = d
    yielded_down (lower_half f d e c) = e

    module _ (v : ℕ) (rv : v < t.size) (a b : ℕ) where
      -- a snippet of power k that is seen from v: a comes to p at x and b comes to q at y
      abbrev Seen : ℕ → Type 0
      Seen k = (x y p q : ℕ) × Yielded t P R k x y p q × C a v p x × C b v q y

      halve : (k : ℕ) → Seen (suc k) → Seen k
      halve k (x, y, p, q, z, cp, cq) =
          let (h, d, e) = down_split t wf (2 ^ k) (2 ^ k) (omega arith) (yielded_down z) in
          go h d e (dec_under t wf h v rv)
        where
          go : (h : ℕ) → Down t x h (2 ^ k) → Down t h y (2 ^ k) → Dec (Under t h v) → Seen k
          go h d e (yes u) =
              let (p', c, c') = leave_top h cp u (proper_not x h (2 ^ k) (pow_pos k) d) in
              (h, y, p', q, lower_half z d e c', c, cq)
          go h d e (no f) =
              let (q', c, c') = enter_top h cq f (2 ^ k, e) in
              (x, h, p, q', upper_half z d e c', cp, c)

      halve_all : (k : ℕ) → Seen k → Seen 0
      halve_all zero s = s
      halve_all (suc k) s = halve_all k (halve k s)

    -- the exponent of the largest power of two not above n
    exponent : (n : ℕ) → 0 < n → (k : ℕ) × (2 ^ k ≤ n) × (n < 2 ^ suc k)
    exponent zero r = absurd (omega arith)
    exponent (suc zero) r = (0, (omega arith), (omega arith))
    exponent (suc (suc n)) r = let (k, h, g) = exponent (suc n) (omega arith) in go k h g (dec_lt (suc (suc n)) (2 ^ suc k))
      where
        go : (k : ℕ) → 2 ^ k ≤ suc n → suc n < 2 ^ suc k → Dec (suc (suc n) < 2 ^ suc k) → (k : ℕ) × (2 ^ k ≤ suc (suc n)) × (suc (suc n) < 2 ^ suc k)
        go k h g (yes r) = (k, (omega arith), r)
        go k h g (no f) = (suc k, (omega arith), (omega arith))

    module _ (v : ℕ) (rv : v < t.size) (a b : ℕ) where
      -- a first snippet that is seen from v yields one of some power that is
      first_seen : (x y p q n : ℕ) → First t P R x y p q n → C a v p x → C b v q y → Seen v rv a b 0
      first_seen x y p q n f cp cq =
          let (k, lo, hi) = exponent n f.edge.proper in
          let (l, e) = sub_of (2 ^ k) n lo in
          let (u, xu, uy) = down_split t wf (2 ^ k) l e f.edge.far in
          let (w, xw, wy) = down_split t wf l (2 ^ k) (omega arith) f.edge.far in
          halve_all v rv a b k (go k l lo hi e u xu uy w xw wy (dec_under t wf u v rv) (dec_lt 0 l))
        where
          sub_of : (i j : ℕ) → i ≤ j → (l : ℕ) × (i + l ≡ j)
          sub_of i j r = (j - i, (omega arith))

          go : (k l : ℕ) → 2 ^ k ≤ n → n < 2 ^ suc k → 2 ^ k + l ≡ n → (u : ℕ) → Down t x u (2 ^ k) → Down t u y l
              → (w : ℕ) → Down t x w l → Down t w y (2 ^ k) → Dec (Under t u v) → Dec (0 < l) → Seen v rv a b k
          go k l lo hi e u xu uy w xw wy (no g) r =
              let (q', c, c') = enter_top u cq g (l, uy) in
              (x, u, p, q', upper f lo hi xu uy c', cp, c)
          go k l lo hi e u xu uy w xw wy (yes h) (yes r) =
              let (p', c, c') = leave_top w cp (over (ancestors t wf uy wy)) (proper_not x w l r xw) in
              (w, y, p', q, lower f lo hi xw wy c', c, cq)
            where
              over : ((i : ℕ) × (l + i ≡ 2 ^ k) × Down t w u i) ⊎ ((i : ℕ) × (2 ^ k + i ≡ l) × Down t u w i) → Under t w v
              over (inl (i, o, d)) = under_trans t wf w u v (i, d) h
              over (inr (i, o, d)) = absurd (omega arith)
          go k l lo hi e u xu uy w xw wy (yes h) (no r) =
              let o : u ≡ y = down_zero t wf (omega arith) uy in
              (x, u, p, q, upper f lo hi xu uy (subst (λ i. C q i q y) (sym o) Comes.here), cp, subst (λ i. C b v q i) (sym o) cq)

    -- ── Completeness: a first snippet that is seen ──
    -- From v the start si comes to li at wi and the start sj to lj at wj, both last, wi and wj with one value; m is their closest common ancestor.
    module _ (v : ℕ) (rv : v < t.size) (si sj li lj wi wj m : ℕ) (d : List ℕ)
        (hi : Has t d wi) (hj : Has t d wj) (closest-m : Closest t m wi wj) (lasti : IsLast P R li) (lastj : IsLast P R lj)
        (ci : C si v li wi) (cj : C sj v lj wj)
        (apart : (x y p q : ℕ) → C sj v p x → C si v q y → Different P R p q) where
      not_both : (s : ℕ) → Under t m s → m ≢ s → Under t s wi → ¬ Under t s wj
      not_both s ms f h g = f (under_antisym t wf m s ms (closest-m.closest s h g))

      edge_of : (side : Bool) (x z y : ℕ) → Skeleton t d x → Skeleton t d y → Under t x z → Child t side z y
          → ((s : ℕ) → Skeleton t d s → Under t s z → Under t s x) → (n : ℕ) × Edge t d x y n
      edge_of side x z y kx ky (n, e) c low =
          (suc n, record { top = kx; bottom = ky; far = Down.deeper e c; proper = omega arith; nearest = λ s ks h f. go s ks f (under_up t wf side s z y c h) })
        where
          go : (s : ℕ) → Skeleton t d s → s ≢ y → (s ≡ y) ⊎ Under t s z → Under t s x
          go s ks f (inl e) = absurd (f e)
          go s ks f (inr h) = low s ks h

      abbrev Found : Type 0
      Found = (x y p q n : ℕ) × First t P R x y p q n × C sj v p x × C si v q y

      found : (x y n : ℕ) → Edge t d x y n → Under t m y → m ≢ y → Under t y wi → Through sj v lj wj x → Through si v li wi y → Found
      found x y n e my f yi (p, c, c') (q, k, k') = (
        x,
        y,
        p,
        q,
        n,
        record { d = d; edge = e; different = apart x y p q c k; outside = (wj, hj, not_both y my f yi, (lj, lastj, c')); inside = (wi, hi, yi, (li, lasti, k')) },
        c,
        k,
      )

      find : (f y n : ℕ) → y < f → Down t m y n → m ≢ y → Skeleton t d m → Skeleton t d y → Under t y wi → Through si v li wi y → Through sj v lj wj m → Found
      find zero y n r e ne km ky yi ti tj = absurd (omega arith)
      find (suc f) y n r Down.here ne km ky yi ti tj = absurd (ne refl)
      find (suc f) y n r (Down.deeper {y = z} {n = l} {side = side} e c) ne km ky yi ti tj =
          let (x, kx, mx, xz, low) = lowest t wf d m z l km e in
          let (o, ed) = edge_of side x z y kx ky xz c low in
          let xy = under_child t wf side x z y c xz in
          let a = under_le t wf x z xz in let b = child_after wf c in
          go x o mx ed kx (under_trans t wf x y wi xy yi) (ℕ_discrete m x) (dec_under t wf x v rv) (λ g ne' ti'. find f x mx.0 (omega arith) mx.1 ne' km kx g ti' tj)
        where
          my : Under t m y
          my = (suc l, Down.deeper e c)

          go : (x o : ℕ) → Under t m x → Edge t d x y o → Skeleton t d x → Under t x wi → Dec (m ≡ x) → Dec (Under t x v)
              → (Under t x wi → m ≢ x → Through si v li wi x → Found) → Found
          go x o mx ed kx xi (yes i) k ih = found x y o ed my ne yi (subst (λ j. Through sj v lj wj j) i tj) ti
          go x o mx ed kx xi (no i) (yes h) ih = found x y o ed my ne yi (leave_top x cj h (not_both x mx i xi)) ti
          go x o mx ed kx xi (no i) (no h) ih = ih xi i (enter_top x ci h xi)

      -- the side of wi, if wi is not m itself and the chain to wj passes m
      from_side : Skeleton t d m → m ≢ wi → Through sj v lj wj m → Seen v rv sj si 0
      from_side km ne tj =
          let ki : Skeleton t d wi = record { u = wi; w = wi; has_u = hi; has_w = hi; meet = record { left = (0, Down.here); right = (0, Down.here); closest = λ s a b. a } } in
          let (x, y, p, q, n, f, cp, cq) = find (suc wi) wi closest-m.left.0 (omega arith) closest-m.left.1 ne km ki (0, Down.here) (li, ci, Comes.here) tj in
          first_seen v rv sj si x y p q n f cp cq

    -- ── The settling rule and the definition agree ──
    module _ (v : ℕ) (rv : v < t.size) where
      seen_settled : Seen v rv 0 (second P R) 0 → Settled t P R v
      seen_settled (x, y, p, q, z, cp, cq) =
          inr (x, y, p, q, 0, second P R, z, inl (comes_first cp (omega arith), refl), inr (comes_second cq (omega arith), refl), cp, cq)

      seen_settled' : Seen v rv (second P R) 0 0 → Settled t P R v
      seen_settled' (x, y, p, q, z, cp, cq) =
          inr (x, y, p, q, second P R, 0, z, inr (comes_second cp (omega arith), refl), inl (comes_first cq (omega arith), refl), cp, cq)

      two_nodes : (w u : ℕ) → w ≢ u → t.value w ≡ t.value u → E 0 v w → E (second P R) v u → Settled t P R v
      two_nodes w u ne e (j, lj, cw) (k, lk, cu) =
          let (m, cm) = closest t wf w u inw inu in
          go m cm (record { u = w; w = u; has_u = hw; has_w = hu; meet = cm }) (ℕ_discrete m w) (ℕ_discrete m u)
        where
          inw : w < t.size
          inw = comes_inside cw rv

          inu : u < t.size
          inu = comes_inside cu rv

          hw : Has t (t.value w) w
          hw = record { inside = inw; value = refl }

          hu : Has t (t.value w) u
          hu = record { inside = inu; value = sym e }

          flip : (m : ℕ) → Closest t m w u → Closest t m u w
          flip m c = record { left = c.right; right = c.left; closest = λ s a b. c.closest s b a }

          -- along the way to w, if the chain to u passes m
          side_w : (m : ℕ) → Closest t m w u → Skeleton t (t.value w) m → m ≢ w → Through (second P R) v k u m → Settled t P R v
          side_w m cm km f th =
              seen_settled' (from_side v rv 0 (second P R) j k w u m (t.value w) hw hu cm lj lk cw cu
              (λ x y p q c c'. inr (comes_second c (omega arith), comes_first c' (omega arith))) km f th)

          side_u : (m : ℕ) → Closest t m w u → Skeleton t (t.value w) m → m ≢ u → Through 0 v j w m → Settled t P R v
          side_u m cm km f th =
              seen_settled (from_side v rv (second P R) 0 k j u w m (t.value w) hu hw (flip m cm) lk lj cu cw
              (λ x y p q c c'. inl (comes_first c (omega arith), comes_second c' (omega arith))) km f th)

          below_m : (m : ℕ) → Closest t m w u → Skeleton t (t.value w) m → m ≢ w → m ≢ u → (n : ℕ) → Down t m w n → Settled t P R v
          below_m m cm km f g zero d = absurd (f (down_zero t wf refl d))
          below_m m cm km f g (suc n) d =
              let (s, c, mc, cw') = towards t wf m w n d in
              pick s c mc (n, cw') (dec_under t wf c v rv)
            where
              outside : (s : Bool) (c : ℕ) → Child t s m c → Under t c w → ¬ Under t c u
              outside s c mc h h' = let a = under_le t wf c m (cm.closest c h h') in let b = child_after wf mc in omega arith

              pick : (s : Bool) (c : ℕ) → Child t s m c → Under t c w → Dec (Under t c v) → Settled t P R v
              pick s c mc h (yes r) = side_w m cm km f (leave_parent s m c mc cu r (outside s c mc h))
              pick s c mc h (no r) = side_u m cm km g (enter_parent s m c mc cw r h)

          go : (m : ℕ) → Closest t m w u → Skeleton t (t.value w) m → Dec (m ≡ w) → Dec (m ≡ u) → Settled t P R v
          go m cm km (yes o) k' = side_u m cm km (λ r. ne (sym o ∙ r)) (subst (λ i. Through 0 v j w i) (sym o) (j, cw, Comes.here))
          go m cm km (no f) (yes o) = side_w m cm km f (subst (λ i. Through (second P R) v k u i) (sym o) (k, cu, Comes.here))
          go m cm km (no f) (no g) = below_m m cm km f g cm.left.0 cm.left.1

      pub holds_settled : Holds t (compare eq P R) v → Settled t P R v
      holds_settled (w, u, a, b, e) = go (ℕ_discrete w u) ((first_ends P R t v w).0 a) ((second_ends P R t v u).0 b)
        where
          go : Dec (w ≡ u) → E 0 v w → E (second P R) v u → Settled t P R v
          go (yes o) x y = inl (w, x, subst (λ i. E (second P R) v i) (sym o) y)
          go (no f) x y = two_nodes w u f e x y

-- At every node of a well-formed tree the settling rule holds if and only if the comparison does.
pub settles : (t : Tree) → WellFormed t → (P R : XPath) (v : ℕ) → v < t.size → Settled t P R v ↔ Holds t (compare eq P R) v
settles t wf P R v rv = (settled_holds t P R v, holds_settled t P R wf v rv)
