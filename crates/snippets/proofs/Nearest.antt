-- The edges of a value's skeleton: found by going up from a skeleton node, or by going down from one to a marked child.
use Prim.Native.Nat.{ℕ, zero, suc, ◌+◌, ◌<◌}
use mathlib.Core.Path.{◌≡◌, refl, sym, subst}
use mathlib.Core.Logic.{◌⊎◌, inl, inr, ◌↔◌, ◌≢◌}
use mathlib.Core.Bool.{Bool}
use mathlib.Core.List.{List}
use native.Mathlib.Omega.{arith}
use native.Mathlib.Decide.{dec_lt}
use Rattle.xpath.specs.Tree.{Tree, Child, WellFormed, Down, Under}
use Rattle.xpath.proofs.Trees.{down_le, down_join, down_zero, ancestors, under_refl, under_trans, under_le, under_antisym, under_up, under_child, towards, root, dec_under}
use Rattle.snippets.specs.Snippets.{Closest, Has, Skeleton, Edge}
use Rattle.snippets.specs.Marks.{Marked}
use Rattle.snippets.proofs.Skeletons.{closest, dec_skeleton}
use Rattle.snippets.proofs.Marks.{comparable, under_down, OneMarked, marked_parent, has_skeleton, skeleton_marked, skeleton_inside, marked_one}

-- z is below x and above y
pub record Between (t : Tree) (x z y : ℕ) : Type 0 where
  pub upper : ℕ
  pub lower : ℕ
  pub upper_proper : 0 < upper
  pub lower_proper : 0 < lower
  pub above : Down t x z upper
  pub below : Down t z y lower

module _ (t : Tree) (d : List ℕ) where
  -- the way up from y has reached x, n edges above, and met no skeleton node in between
  pub record Climbed (x y n : ℕ) : Type 0 where
    pub far : Down t x y n
    pub clear : (z : ℕ) → Between t x z y → ¬ Skeleton t d z

  -- y is the topmost skeleton node at or below z, so all nodes of D under z are under y
  pub record Topmost (z y : ℕ) : Type 0 where
    pub is : Skeleton t d y
    pub under : Under t z y
    pub all : (w : ℕ) → Has t d w → Under t z w → Under t y w

  module _ (wf : WellFormed t) where
    -- ── Going up ──
    down_over : (side : Bool) (x z y n : ℕ) → Child t side x z → Down t z y n → Down t x y (suc n)
    down_over side x z y n c h = let e : 1 + n ≡ suc n = omega arith in subst (λ i. Down t x y i) e (down_join t wf (Down.deeper Down.here c) h)

    pub climbed_none : (y : ℕ) → Climbed y y 0
    climbed_none y = record {
      far = Down.here;
      clear = λ z b k. let i = down_le t wf b.above in let j = down_le t wf b.below in let l = b.upper_proper in omega arith;
    }

    pub climbed_step : (side : Bool) (x z y n : ℕ) → Child t side x z → Climbed z y n → (0 < n → ¬ Skeleton t d z) → Climbed x y (suc n)
    climbed_step side x z y n c h f = record { far = down_over side x z y n c h.far; clear = λ s b. go s b (ancestors t wf b.below h.far) }
      where
        at : (s : ℕ) → (b : Between t x s y) → s ≡ z → ¬ Skeleton t d s
        at s b e k =
            let i : 0 < n = pos n h.far in
            f i (subst (λ i. Skeleton t d i) e k)
          where
            pos : (m : ℕ) → Down t z y m → 0 < m
            pos zero r = let i = down_zero t wf refl r in let j = down_le t wf b.below in let l = b.lower_proper in absurd (omega arith)
            pos (suc m) r = omega arith

        go : (s : ℕ) (b : Between t x s y)
            → ((k : ℕ) × (b.lower + k ≡ n) × Down t z s k) ⊎ ((k : ℕ) × (n + k ≡ b.lower) × Down t s z k) → ¬ Skeleton t d s
        go s b (inl (zero, e, r)) = at s b (sym (down_zero t wf refl r))
        go s b (inl (suc k, e, r)) = h.clear s (record { upper = suc k; lower = b.lower; upper_proper = omega arith; lower_proper = b.lower_proper; above = r; below = b.below })
        go s b (inr (k, e, r)) = over (under_up t wf side s x z c (k, r))
          where
            over : (s ≡ z) ⊎ Under t s x → ¬ Skeleton t d s
            over (inl o) = at s b o
            over (inr g) = let i = under_le t wf s x g in let j = down_le t wf b.above in let l = b.upper_proper in absurd (omega arith)

    climbed_edge : (x y n : ℕ) → Skeleton t d x → Skeleton t d y → 0 < n → Climbed x y n → Edge t d x y n
    climbed_edge x y n kx ky r h =
        record { top = kx; bottom = ky; far = h.far; proper = r; nearest = λ s ks (m, e) f. go s m ks e f (ancestors t wf e h.far) }
      where
        go : (s m : ℕ) → Skeleton t d s → Down t s y m → s ≢ y → ((k : ℕ) × (m + k ≡ n) × Down t x s k) ⊎ ((k : ℕ) × (n + k ≡ m) × Down t s x k) → Under t s x
        go s m ks e f (inl (zero, o, g)) = (0, subst (λ i. Down t s i 0) (sym (down_zero t wf refl g)) Down.here)
        go s zero ks e f (inl (suc k, o, g)) = absurd (f (down_zero t wf refl e))
        go s (suc m) ks e f (inl (suc k, o, g)) =
            absurd (h.clear s (record { upper = suc k; lower = suc m; upper_proper = omega arith; lower_proper = omega arith; above = g; below = e }) ks)
        go s m ks e f (inr (k, o, g)) = (k, g)

    -- between the ends of an edge no node is in the skeleton
    pub edge_between : (x z y n : ℕ) → Edge t d x y n → Between t x z y → ¬ Skeleton t d z
    edge_between x z y n e b k =
        let i = under_le t wf z x (e.nearest z k (b.lower, b.below) (λ o. let j = down_le t wf b.below in let l = b.lower_proper in omega arith)) in
        let j = down_le t wf b.above in let l = b.upper_proper in
        omega arith

    -- so none has the value
    pub edge_bare : (x z y n : ℕ) → Edge t d x y n → Between t x z y → ¬ Has t d z
    edge_bare x z y n e b h = edge_between x z y n e b (has_skeleton t d wf z h)

    -- an edge is the way up to the first skeleton node met
    pub edge_iff : (x y n : ℕ) → Edge t d x y n ↔ (Skeleton t d x × Skeleton t d y × (0 < n) × Climbed x y n)
    edge_iff x y n = (λ e. (e.top, e.bottom, e.proper, record { far = e.far; clear = λ z b. edge_between x z y n e b }), λ (kx, ky, r, h). climbed_edge x y n kx ky r h)

    climb : (a z y n m : ℕ) → Skeleton t d a → Skeleton t d y → Down t a z m → Climbed z y n → 0 < n + m → (x n : ℕ) × Edge t d x y n
    climb a z y n m ka ky Down.here h r = (a, n, climbed_edge a y n ka ky (omega arith) h)
    climb a z y n m ka ky (Down.deeper {y = v} {n = l} {side = side} e c) h r =
        go (dec_lt 0 n) (dec_skeleton t wf d z) (λ f. climb a v y (suc n) l ka ky e (climbed_step side v z y n c h f) (omega arith))
      where
        go : Dec (0 < n) → Dec (Skeleton t d z) → ((0 < n → ¬ Skeleton t d z) → (x n : ℕ) × Edge t d x y n) → (x n : ℕ) × Edge t d x y n
        go (yes i) (yes k) ih = (z, n, climbed_edge z y n k ky i h)
        go (yes i) (no f) ih = ih (λ j. f)
        go (no i) k ih = ih (λ j. absurd (i j))

    -- a skeleton node with another above it has an edge up
    pub edge_above : (a y : ℕ) → Skeleton t d a → Skeleton t d y → Under t a y → a ≢ y → (x n : ℕ) × Edge t d x y n
    edge_above a y ka ky (m, e) f = go m e
      where
        go : (m : ℕ) → Down t a y m → (x n : ℕ) × Edge t d x y n
        go zero e = absurd (f (down_zero t wf refl e))
        go (suc m) e = climb a y y 0 (suc m) ka ky e (climbed_none y) (omega arith)

    down_one : (x y n m : ℕ) → Down t x y n → Down t x y m → n ≡ m
    down_one x y n m h g = go (ancestors t wf h g)
      where
        go : ((k : ℕ) × (n + k ≡ m) × Down t x x k) ⊎ ((k : ℕ) × (m + k ≡ n) × Down t x x k) → n ≡ m
        go (inl (k, e, r)) = let i = down_le t wf r in omega arith
        go (inr (k, e, r)) = let i = down_le t wf r in omega arith

    -- and only one
    pub edge_one : (x x' y n m : ℕ) → Edge t d x y n → Edge t d x' y m → (x ≡ x') × (n ≡ m)
    edge_one x x' y n m e g = (same, down_one x y n m e.far (subst (λ i. Down t i y m) (sym same) g.far))
      where
        proper : (x n : ℕ) → Edge t d x y n → x ≢ y
        proper x n e o = let i = down_le t wf e.far in let j = e.proper in omega arith

        same : x ≡ x'
        same = under_antisym t wf x x' (g.nearest x e.top (n, e.far) (proper x n e)) (e.nearest x' g.top (m, g.far) (proper x' m g))

    -- the way up that has reached the root and met no skeleton node: y has none above it
    pub climbed_top : (y n : ℕ) → Climbed 0 y n → (0 < n → ¬ Skeleton t d 0) → (s : ℕ) → Skeleton t d s → Under t s y → s ≡ y
    climbed_top y n h f s k (m, e) = go m e (root t wf s (skeleton_inside t d wf s k))
      where
        go : (m : ℕ) → Down t s y m → Under t 0 s → s ≡ y
        go zero e u = down_zero t wf refl e
        go (suc m) e (zero, g) =
            let o : 0 ≡ s = down_zero t wf refl g in
            let i = down_one 0 y n (suc m) h.far (subst (λ z. Down t z y (suc m)) (sym o) e) in
            absurd (f (omega arith) (subst (λ z. Skeleton t d z) (sym o) k))
        go (suc m) e (suc l, g) =
            absurd (h.clear s (record { upper = suc l; lower = suc m; upper_proper = omega arith; lower_proper = omega arith; above = g; below = e }) k)

    -- y is under a child of x
    pub edge_side : (x y n : ℕ) → Edge t d x y n → (side : Bool) × (c : ℕ) × Child t side x c × Under t c y
    edge_side x y n e = go (under_down t wf x y (n, e.far))
      where
        go : (x ≡ y) ⊎ ((side : Bool) × (c : ℕ) × Child t side x c × Under t c y) → (side : Bool) × (c : ℕ) × Child t side x c × Under t c y
        go (inl o) = let i = down_le t wf e.far in let j = e.proper in absurd (omega arith)
        go (inr r) = r

    -- ── What is below an edge ──
    -- the lowest node above both y and w is a skeleton node other than y
    abbrev MeetAbove : ℕ → ℕ → Type 0
    MeetAbove y w = (m : ℕ) × Skeleton t d m × Under t m y × (m ≢ y) × ((z : ℕ) → Under t z y → Under t z w → Under t z m)

    -- a node of D that is not under y meets y's nodes of D in a skeleton node above y
    meet_above : (y w : ℕ) → Skeleton t d y → Has t d w → ¬ Under t y w → MeetAbove y w
    meet_above y w k h f =
        let (m, c) = closest t wf k.u w k.has_u.inside h.inside in
        go m c (comparable t wf m y k.u c.left k.meet.left)
      where
        go : (m : ℕ) → Closest t m k.u w → Under t m y ⊎ Under t y m → MeetAbove y w
        go m c (inl g) = (
          m,
          record { u = k.u; w = w; has_u = k.has_u; has_w = h; meet = c },
          g,
          λ e. f (subst (λ i. Under t i w) e c.right),
          λ z a b. c.closest z (under_trans t wf z y k.u a k.meet.left) b,
        )
        go m c (inr g) = absurd (f (under_trans t wf y m w g c.right))

    -- all nodes of D at or below a node that is below x and at or above y, which may be x's child, are at or below y
    pub edge_below : (x z y n a : ℕ) → Edge t d x y n → Down t x z a → 0 < a → Under t z y → (w : ℕ) → Has t d w → Under t z w → Under t y w
    edge_below x z y n a e g r zy w h zw = go (dec_under t wf y w h.inside)
      where
        go : Dec (Under t y w) → Under t y w
        go (yes u) = u
        go (no f) =
            let (m, k, my, ne, low) = meet_above y w e.bottom h f in
            let i = under_le t wf z m (low z zy zw) in let j = under_le t wf m x (e.nearest m k my ne) in let l = down_le t wf g in
            absurd (omega arith)

    -- all nodes of D are at or below a skeleton node that has no other above it
    pub top_all : (y : ℕ) → Skeleton t d y → ((s : ℕ) → Skeleton t d s → Under t s y → s ≡ y) → (w : ℕ) → Has t d w → Under t y w
    top_all y k top w h = go (dec_under t wf y w h.inside)
      where
        go : Dec (Under t y w) → Under t y w
        go (yes u) = u
        go (no f) = let (m, km, my, ne, low) = meet_above y w k h f in absurd (ne (top m km my))

    -- ── Going down ──
    pub topmost_self : (z : ℕ) → Skeleton t d z → Topmost z z
    topmost_self z k = record { is = k; under = under_refl t wf z; all = λ w h u. u }

    pub topmost_child : (side : Bool) (z c y : ℕ) → ¬ Skeleton t d z → Child t side z c → Topmost c y → Topmost z y
    topmost_child side z c y f k h = record {
      is = h.is;
      under = under_trans t wf z c y (under_child t wf side z z c k (under_refl t wf z)) h.under;
      all = λ w g u. h.all w g (subst (λ i. Under t i w) (sym (one.only side c k marked)) (one.all w g u));
    }
      where
        marked : Marked t d c
        marked = let (w, g, u) = skeleton_marked t d wf y h.is in (w, g, under_trans t wf c y w h.under u)

        one : OneMarked t d z
        one = marked_one t d wf z (marked_parent t d wf side z c k marked) f

    topmost_by : (n z w : ℕ) → Has t d w → Down t z w n → (y : ℕ) × Topmost z y
    topmost_by zero z w h e = (z, topmost_self z (has_skeleton t d wf z (subst (λ i. Has t d i) (sym (down_zero t wf refl e)) h)))
    topmost_by (suc n) z w h e = let (s, c, k, g) = towards t wf z w n e in go s c k (dec_skeleton t wf d z) (topmost_by n c w h g)
      where
        go : (s : Bool) (c : ℕ) → Child t s z c → Dec (Skeleton t d z) → (y : ℕ) × Topmost c y → (y : ℕ) × Topmost z y
        go s c k (yes i) r = (z, topmost_self z i)
        go s c k (no f) (y, r) = (y, topmost_child s z c y f k r)

    pub topmost : (z : ℕ) → Marked t d z → (y : ℕ) × Topmost z y
    topmost z (w, h, (n, e)) = topmost_by n z w h e

    -- all skeleton nodes under z are under the topmost one
    pub topmost_over : (z y s : ℕ) → Topmost z y → Skeleton t d s → Under t z s → Under t y s
    topmost_over z y s h k u =
        k.meet.closest y (h.all k.u k.has_u (under_trans t wf z s k.u u k.meet.left)) (h.all k.w k.has_w (under_trans t wf z s k.w u k.meet.right))

    pub topmost_one : (z y y' : ℕ) → Topmost z y → Topmost z y' → y ≡ y'
    topmost_one z y y' h g = under_antisym t wf y y' (topmost_over z y y' h g.is g.under) (topmost_over z y' y g h.is h.under)

    -- the topmost skeleton node of the tree has no other above it
    pub topmost_root : (y s : ℕ) → Topmost 0 y → Skeleton t d s → Under t s y → s ≡ y
    topmost_root y s h k u = under_antisym t wf s y u (topmost_over 0 y s h k (root t wf s (skeleton_inside t d wf s k)))

    topmost_edge : (side : Bool) (x c y : ℕ) → Skeleton t d x → Child t side x c → Topmost c y → (n : ℕ) × Edge t d x y n
    topmost_edge side x c y kx k h =
        let (n, e) = h.under in
        (suc n, record { top = kx; bottom = h.is; far = down_over side x c y n k e; proper = omega arith; nearest = λ s ks u f. go s ks u f (comparable t wf s c y u h.under) })
      where
        low : (s : ℕ) → Skeleton t d s → Under t s y → s ≢ y → ¬ Under t c s
        low s ks u f g = f (under_antisym t wf s y u (topmost_over c y s h ks g))

        go : (s : ℕ) → Skeleton t d s → Under t s y → s ≢ y → Under t s c ⊎ Under t c s → Under t s x
        go s ks u f (inr g) = absurd (low s ks u f g)
        go s ks u f (inl g) = up (under_up t wf side s x c k g)
          where
            up : (s ≡ c) ⊎ Under t s x → Under t s x
            up (inl o) = absurd (low s ks u f (subst (λ i. Under t i s) o (under_refl t wf s)))
            up (inr i) = i

    edge_topmost : (side : Bool) (x c y n : ℕ) → Child t side x c → Under t c y → Edge t d x y n → Topmost c y
    edge_topmost side x c y n k u e = record { is = e.bottom; under = u; all = λ w h v. edge_below x c y n 1 e (Down.deeper Down.here k) (omega arith) u w h v }

    -- the edge from x to a skeleton node under its child c leads to the topmost one
    pub topmost_iff : (side : Bool) (x c y : ℕ) → Skeleton t d x → Child t side x c → Topmost c y ↔ (Under t c y × ((n : ℕ) × Edge t d x y n))
    topmost_iff side x c y kx k = (λ h. (h.under, topmost_edge side x c y kx k h), λ (u, (n, e)). edge_topmost side x c y n k u e)

    -- a node has one edge at most into what is under a child
    pub edge_next : (side : Bool) (x c y y' n n' : ℕ) → Child t side x c → Under t c y → Under t c y' → Edge t d x y n → Edge t d x y' n' → (y ≡ y') × (n ≡ n')
    edge_next side x c y y' n n' k u u' e g =
        let o = topmost_one c y y' (edge_topmost side x c y n k u e) (edge_topmost side x c y' n' k u' g) in
        (o, (edge_one x x y' n n' (subst (λ i. Edge t d x i n) o e) g).1)

    -- and one into what is under a marked child of a skeleton node
    pub edge_child : (side : Bool) (x c : ℕ) → Skeleton t d x → Child t side x c → Marked t d c
        → (y n : ℕ) × Under t c y × Edge t d x y n × ((y' n' : ℕ) → Under t c y' → Edge t d x y' n' → (y' ≡ y) × (n' ≡ n))
    edge_child side x c kx k m =
        let (y, h) = topmost c m in
        let (n, e) = topmost_edge side x c y kx k h in
        (y, n, h.under, e, λ y' n' u g. edge_next side x c y' y n' n k u h.under g e)
