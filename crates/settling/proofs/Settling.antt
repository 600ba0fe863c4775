-- A closed family of pairs holds all that are settled, and what is settled is such a family.
use Prim.Native.Nat.{ℕ, zero, suc, ◌≤◌, ◌<◌}
use mathlib.Core.Path.{◌≡◌, refl, sym, subst}
use mathlib.Core.Logic.{inl, inr, ◌↔◌}
use mathlib.Core.Bool.{Bool}
use native.Mathlib.Omega.{arith}
use Rattle.xpath.specs.Syntax.{XPath, size}
use Rattle.xpath.specs.Tree.{Tree, Child, WellFormed, Down, Under}
use Rattle.xpath.proofs.Trees.{child_after, down_zero, towards, under_refl, root, dec_under}
use Rattle.positions.specs.Positions.{Comes, Ends, second, StartOf}
use Rattle.snippets.specs.Snippets.{Different, SettledBy}
use Rattle.snippets.proofs.Settles.{comes_join, comes_ends, comes_first, comes_second, comes_inside, leave_top}
use Rattle.snippets.proofs.Edges.{step_up, moves_up, step_down, moves_down, not_under, enters, leaves, pass_down}
use Rattle.settling.specs.Pairs.{Meets, Settles, Closed}

module _ (P R : XPath) (t : Tree) where
  abbrev C : ℕ → ℕ → ℕ → ℕ → Type 0
  C i v j w = Comes P R t i v j w

  abbrev E : ℕ → ℕ → ℕ → Type 0
  E i v w = Ends P R t i v w

  module _ (S : ℕ → ℕ → ℕ → ℕ → Type 0) where
    -- ── The two starts ──
    -- what settles the two starts is the settling rule
    pub settles_start : ((x y p q : ℕ) → S x y p q → Different P R p q) → (v : ℕ) → Settles P R t S v 0 (second P R) ↔ SettledBy t P R S v
    settles_start apart v = (there, back)
      where
        first : {p x : ℕ} → C 0 v p x → p ≤ size P
        first c = comes_first t P R c (omega arith)

        later : {q y : ℕ} → C (second P R) v q y → size P < q
        later c = comes_second t P R c (omega arith)

        there : Settles P R t S v 0 (second P R) → SettledBy t P R S v
        there (inl h) = inl h
        there (inr (x, y, p, q, s, inl (c, e))) = inr (x, y, p, q, 0, second P R, s, inl (first c, refl), inr (later e, refl), c, e)
        there (inr (x, y, p, q, s, inr (c, e))) = inr (x, y, p, q, second P R, 0, s, inr (later e, refl), inl (first c, refl), e, c)

        starts : (x y p q a b : ℕ) → S x y p q → Different P R p q → StartOf P R p a → StartOf P R q b → C a v p x → C b v q y → Settles P R t S v 0 (second P R)
        starts x y p q a b s d (inl h) (inl k) c e = absurd (same d)
          where
            same : Different P R p q → ⊥
            same (inl d) = omega arith
            same (inr d) = omega arith
        starts x y p q a b s d (inl h) (inr k) c e = inr (x, y, p, q, s, inl (subst (λ i. C i v p x) h.1 c, subst (λ i. C i v q y) k.1 e))
        starts x y p q a b s d (inr h) (inl k) c e = inr (x, y, p, q, s, inr (subst (λ i. C i v q y) k.1 e, subst (λ i. C i v p x) h.1 c))
        starts x y p q a b s d (inr h) (inr k) c e = absurd (same d)
          where
            same : Different P R p q → ⊥
            same (inl d) = omega arith
            same (inr d) = omega arith

        back : SettledBy t P R S v → Settles P R t S v 0 (second P R)
        back (inl h) = inl h
        back (inr (x, y, p, q, a, b, s, h, k, c, e)) = starts x y p q a b s (apart x y p q s) h k c e

    -- ── Soundness ──
    -- what comes to a settled pair is settled
    pub settles_before : {v u a b a' b' : ℕ} → C a v a' u → C b v b' u → Settles P R t S u a' b' → Settles P R t S v a b
    settles_before c e (inl (w, h, k)) = inl (w, comes_ends t P R c h, comes_ends t P R e k)
    settles_before c e (inr (x, y, p, q, s, inl (h, k))) = inr (x, y, p, q, s, inl (comes_join t P R c h, comes_join t P R e k))
    settles_before c e (inr (x, y, p, q, s, inr (h, k))) = inr (x, y, p, q, s, inr (comes_join t P R c h, comes_join t P R e k))

    pub settles_closed : Closed P R t S (Settles P R t S)
    settles_closed = record {
      ended = λ v a b r h k. inl (v, h, k);
      top = λ side x y p q a b c s h. inr (x, y, p, q, s, h);
      bottom = λ side x y p q a b c s h. inr (x, y, p, q, s, h);
      rise = λ side x y a b a' b' c h k l. settles_before h k l;
      fall = λ side x y a b a' b' c h k l. settles_before h k l;
    }

    -- ── Completeness ──
    module _ (wf : WellFormed t) (L : ℕ → ℕ → ℕ → Type 0) (closed : Closed P R t S L) where
      -- The pair a', b' of z, with all that comes to it at z, is held at z. Then what comes to it from elsewhere is held there.
      module _ (z a' b' : ℕ) (inside : z < t.size) (base : (a b : ℕ) → C a z a' z → C b z b' z → L z a b) where
        -- from above
        from_above : (n v a b : ℕ) → Down t v z n → C a v a' z → C b v b' z → L v a b
        from_above zero v a b d c e = go (down_zero t wf refl d) c e
          where
            go : v ≡ z → C a v a' z → C b v b' z → L v a b
            go o c e = subst (λ i. L i a b) (sym o) (base a b (subst (λ i. C a i a' z) o c) (subst (λ i. C b i b' z) o e))
        from_above (suc n) v a b d c e =
            let (side, u, child, below) = towards t wf v z n d in
            let one = Down.deeper Down.here child in
            let (i, c₁, c₂) = (pass_down P R t wf one below a a').0 c in
            let (j, e₁, e₂) = (pass_down P R t wf one below b b').0 e in
            closed.rise side v u a b i j child c₁ e₁ (from_above n u i j below c₂ e₂)

        -- up to a node that z is under, and down from there
        from_any : (n v a b : ℕ) → Down t 0 v n → C a v a' z → C b v b' z → L v a b
        from_any n v a b Down.here c e = let (m, d) = root t wf z inside in from_above m v a b d c e
        from_any n v a b (Down.deeper {y = u} {n = m} {side = side} d child) c e = go (dec_under t wf v z inside) (λ i j h k. from_any m u i j d h k)
          where
            up : {i : ℕ} → ¬ Under t v z → {k : ℕ} → C i v k z → (j : ℕ) × C i v j u × C j u k z
            up f c = let (k, o) = leaves P R t wf child c (under_refl t wf v) f in
                (k.to, comes_join t P R k.before (Comes.on (step_up side) k.follows k.numbered (moves_up side child) Comes.here), k.after)

            go : Dec (Under t v z) → ((i j : ℕ) → C i u a' z → C j u b' z → L u i j) → L v a b
            go (yes (l, w)) ih = from_above l v a b w c e
            go (no f) ih =
                let (i, c₁, c₂) = up f c in
                let (j, e₁, e₂) = up f e in
                closed.fall side u v a b i j child c₁ e₁ (ih i j c₂ e₂)

        carried : (v a b : ℕ) → v < t.size → C a v a' z → C b v b' z → L v a b
        carried v a b r c e = let (n, d) = root t wf v r in from_any n v a b d c e

      -- both end at one node
      ends_held : (v a b w : ℕ) → v < t.size → E a v w → E b v w → L v a b
      ends_held v a b w r (i, l, c) (j, k, e) =
          let inside = comes_inside t P R wf c r in
          carried w i j inside (λ a b h g. closed.ended w a b inside (i, l, h) (j, k, g)) v a b r c e

      -- a comes to the upper end of an edge and b to the lower one: the chain to the farther end passes the nearer one
      meets_held : {side : Bool} {x y : ℕ} → Child t side x y → (p q v a b : ℕ) → v < t.size → S x y p q → C a v p x → C b v q y → L v a b
      meets_held {side} {x} {y} child p q v a b r s c e = go (dec_under t wf y v r)
        where
          above : x < t.size
          above = let h = child_after wf child in let k = child.inside in omega arith

          go : Dec (Under t y v) → L v a b
          go (yes h) =
              let (i, c₁, c₂) = leave_top t P R wf y c h (not_under P R t wf child) in
              carried y i q child.inside (λ a b k g. closed.bottom side x y p q a b child s (inl (comes_join t P R k c₂, g))) v a b r c₁ e
          go (no f) =
              let (k, o) = enters P R t wf child e f (under_refl t wf y) in
              let on : C k.from x q y = Comes.on (step_down side) k.follows k.numbered (moves_down side child) k.after in
              carried x p k.from above (λ a b h g. closed.top side x y p q a b child s (inl (h, comes_join t P R g on))) v a b r c k.before

    module _ (wf : WellFormed t) (L : ℕ → ℕ → ℕ → Type 0) (closed : Closed P R t S L) where
      swap_meets : {x y p q v a b : ℕ} → Meets P R t x y p q v b a → Meets P R t x y p q v a b
      swap_meets (inl (c, e)) = inr (e, c)
      swap_meets (inr (c, e)) = inl (e, c)

      -- the family with the two positions exchanged
      swapped : Closed P R t S (λ v a b. L v b a)
      swapped = record {
        ended = λ v a b r h k. closed.ended v b a r k h;
        top = λ side x y p q a b c s h. closed.top side x y p q b a c s (swap_meets h);
        bottom = λ side x y p q a b c s h. closed.bottom side x y p q b a c s (swap_meets h);
        rise = λ side x y a b a' b' c h k l. closed.rise side x y b a b' a' c k h l;
        fall = λ side x y a b a' b' c h k l. closed.fall side x y b a b' a' c k h l;
      }

      -- a closed family holds every pair that is settled from a node
      pub closed_settles : ((x y p q : ℕ) → S x y p q → (side : Bool) × Child t side x y) → (v a b : ℕ) → v < t.size → Settles P R t S v a b → L v a b
      closed_settles edge v a b r (inl (w, h, k)) = ends_held wf L closed v a b w r h k
      closed_settles edge v a b r (inr (x, y, p, q, s, inl (c, e))) = meets_held wf L closed (edge x y p q s).1 p q v a b r s c e
      closed_settles edge v a b r (inr (x, y, p, q, s, inr (c, e))) = meets_held wf (λ v a b. L v b a) swapped (edge x y p q s).1 p q v b a r s e c

-- it depends on the set of what settles alone
settles_map : {P R : XPath} {t : Tree} {S S' : ℕ → ℕ → ℕ → ℕ → Type 0} → ((x y p q : ℕ) → S x y p q → S' x y p q) → {v a b : ℕ} → Settles P R t S v a b → Settles P R t S' v a b
settles_map f (inl h) = inl h
settles_map f (inr (x, y, p, q, s, m)) = inr (x, y, p, q, f x y p q s, m)

-- a set of pairs, one position of each path, settles the two starts by the settling rule
pub settles_by : {P R : XPath} {t : Tree} {S S' : ℕ → ℕ → ℕ → ℕ → Type 0} → ((x y p q : ℕ) → S x y p q ↔ S' x y p q) → ((x y p q : ℕ) → S' x y p q → Different P R p q)
    → (v : ℕ) → Settles P R t S v 0 (second P R) ↔ SettledBy t P R S' v
settles_by {P} {R} {t} {S} {S'} same apart v =
    let start = settles_start P R t S' apart v in (
      λ s. start.0 (settles_map {S = S} {S' = S'} (λ x y p q. (same x y p q).0) s),
      λ h. settles_map {S = S'} {S' = S} (λ x y p q. (same x y p q).1) (start.1 h),
    )
