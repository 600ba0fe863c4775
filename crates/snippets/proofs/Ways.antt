-- The ends in D of a position at a skeleton node: at the node itself, below it, and above it, each told by those of the next skeleton nodes.
use Prim.Native.Nat.{ℕ}
use mathlib.Core.Path.{◌≡◌, refl, sym, ◌∙◌, subst}
use mathlib.Core.Logic.{◌⊎◌, inl, inr, ◌↔◌}
use mathlib.Core.Bool.{Bool, true, false, not, not-eq-not, not-not}
use mathlib.Core.List.{List}
use native.Mathlib.Omega.{arith}
use Rattle.xpath.specs.Syntax.{XPath}
use Rattle.xpath.specs.Tree.{Tree, Child, WellFormed, Down, Under}
use Rattle.xpath.proofs.Trees.{one_child, under_refl, under_trans, dec_under}
use Rattle.positions.specs.Positions.{Comes, Ends}
use Rattle.snippets.specs.Snippets.{Has, Skeleton, Edge}
use Rattle.snippets.specs.Ways.{In, Out, Above, Own, FromChild}
use Rattle.snippets.specs.Marks.{Marked}
use Rattle.snippets.proofs.Settles.{comes_ends, leave_parent, proper_not}
use Rattle.snippets.proofs.Edges.{pass_down}
use Rattle.snippets.proofs.Marks.{under_down, same_side}
use Rattle.snippets.proofs.Nearest.{edge_side, edge_below, top_all, edge_next, edge_child}

module _ (t : Tree) (P R : XPath) (d : List ℕ) where
  module _ (wf : WellFormed t) where
    -- ── At or below ──
    from_child : (side : Bool) (x c p w : ℕ) → Skeleton t d x → Child t side x c → Has t d w → Under t c w → Ends P R t p x w → FromChild t P R d side x p
    from_child side x c p w k e h u (j, l, r) =
        let (y, n, cy, g, one) = edge_child t d wf side x c k e (w, h, u) in
        let yw = edge_below t d wf x c y n 1 g (Down.deeper Down.here e) (omega arith) cy w h u in
        let (q, r', r'') = (pass_down P R t wf g.far yw.1 p j).0 r in
        record { child = c; y = y; n = n; q = q; is = e; under = cy; edge = g; comes = r'; inside = (w, h, yw, (j, l, r'')) }

    -- what x has from the skeleton node below
    in_below : (x y n p q : ℕ) → Edge t d x y n → Comes P R t p x q y → In t P R d y q → In t P R d x p
    in_below x y n p q e c (w, h, u, r) = (w, h, under_trans t wf x y w (n, e.far) u, comes_ends t P R c r)

    own_at : (x p w : ℕ) → x ≡ w → Has t d w → Ends P R t p x w → Own t P R d x p
    own_at x p w e h r = (subst (λ i. Has t d i) (sym e) h, subst (λ i. Ends P R t p x i) (sym e) r)

    -- the next skeleton node on a side is one, so it may be any that is known
    pub from_child_iff : (side : Bool) (x c y n p : ℕ) → Child t side x c → Under t c y → Edge t d x y n → FromChild t P R d side x p ↔ ((q : ℕ) × Comes P R t p x q y × In t P R d y q)
    from_child_iff side x c y n p k cy e = (
      λ f. (f.q, subst (λ z. Comes P R t p x f.q z) (same f) f.comes, subst (λ z. In t P R d z f.q) (same f) f.inside),
      λ (q, r, i). record { child = c; y = y; n = n; q = q; is = k; under = cy; edge = e; comes = r; inside = i },
    )
      where
        same : (f : FromChild t P R d side x p) → f.y ≡ y
        same f = (edge_next t d wf side x c f.y y f.n n k (subst (λ z. Under t z f.y) (one_child wf side f.is k) f.under) cy f.edge e).0

    -- nothing is under a child that is not marked
    pub from_none : (side : Bool) (x p : ℕ) → ((c : ℕ) → Child t side x c → ¬ Marked t d c) → ¬ FromChild t P R d side x p
    from_none side x p f g = let (w, h, u, r) = g.inside in f g.child g.is (w, h, under_trans t wf g.child g.y w g.under u)

    -- what ends at or below x ends at x or under one of its two children
    pub in_sides : (x p : ℕ) → Skeleton t d x → In t P R d x p ↔ (Own t P R d x p ⊎ (FromChild t P R d true x p ⊎ FromChild t P R d false x p))
    in_sides x p k = (λ (w, h, u, r). go w h r (under_down t wf x w u), back)
      where
        side_of : (s : Bool) → FromChild t P R d s x p → FromChild t P R d true x p ⊎ FromChild t P R d false x p
        side_of true f = inl f
        side_of false f = inr f

        go : (w : ℕ) → Has t d w → Ends P R t p x w → (x ≡ w) ⊎ ((side : Bool) × (c : ℕ) × Child t side x c × Under t c w) → Own t P R d x p ⊎ (FromChild t P R d true x p ⊎ FromChild t P R d false x p)
        go w h r (inl e) = inl (own_at x p w e h r)
        go w h r (inr (s, c, e, u)) = inr (side_of s (from_child s x c p w k e h u r))

        back : Own t P R d x p ⊎ (FromChild t P R d true x p ⊎ FromChild t P R d false x p) → In t P R d x p
        back (inl (h, r)) = (x, h, under_refl t wf x, r)
        back (inr (inl f)) = in_below x f.y f.n p f.q f.edge f.comes f.inside
        back (inr (inr f)) = in_below x f.y f.n p f.q f.edge f.comes f.inside

    -- the same, the children not told apart
    pub in_iff : (x p : ℕ) → Skeleton t d x → In t P R d x p ↔ (Own t P R d x p ⊎ ((y n q : ℕ) × Edge t d x y n × In t P R d y q × Comes P R t p x q y))
    in_iff x p k = (λ i. go ((in_sides x p k).0 i), back)
      where
        from : (s : Bool) → FromChild t P R d s x p → (y n q : ℕ) × Edge t d x y n × In t P R d y q × Comes P R t p x q y
        from s f = (f.y, f.n, f.q, f.edge, f.inside, f.comes)

        go : Own t P R d x p ⊎ (FromChild t P R d true x p ⊎ FromChild t P R d false x p) → Own t P R d x p ⊎ ((y n q : ℕ) × Edge t d x y n × In t P R d y q × Comes P R t p x q y)
        go (inl o) = inl o
        go (inr (inl f)) = inr (from true f)
        go (inr (inr f)) = inr (from false f)

        back : Own t P R d x p ⊎ ((y n q : ℕ) × Edge t d x y n × In t P R d y q × Comes P R t p x q y) → In t P R d x p
        back (inl o) = (in_sides x p k).1 (inl o)
        back (inr (y, n, q, e, i, c)) = in_below x y n p q e c i

    -- ── Outside ──
    -- what ends outside y ends above x, at x, or under x's other child
    pub out_iff : (side : Bool) (x c y n p : ℕ) → Child t side x c → Under t c y → Edge t d x y n → Out t P R d x y p ↔ (Above t P R d x p ⊎ (Own t P R d x p ⊎ FromChild t P R d (not side) x p))
    out_iff side x c y n p k cy e = (λ (w, h, f, r). go w h f r (dec_under t wf x w h.inside), back)
      where
        other : (s : Bool) (b w : ℕ) → Child t s x b → Has t d w → Under t b w → ¬ Under t y w → s ≡ not side
        other s b w g h u f =
            not-eq-not.0 (λ i. f (edge_below t d wf x c y n 1 e (Down.deeper Down.here k) (omega arith) cy w h
            (subst (λ z. Under t z w) (one_child wf side (subst (λ z. Child t z x b) (i ∙ not-not side) g) k) u)))

        below_x : (w : ℕ) → Has t d w → ¬ Under t y w → Ends P R t p x w
            → (x ≡ w) ⊎ ((side : Bool) × (c : ℕ) × Child t side x c × Under t c w) → Own t P R d x p ⊎ FromChild t P R d (not side) x p
        below_x w h f r (inl i) = inl (own_at x p w i h r)
        below_x w h f r (inr (s, b, g, u)) = inr (from_child (not side) x b p w e.top (subst (λ z. Child t z x b) (other s b w g h u f) g) h u r)

        go : (w : ℕ) → Has t d w → ¬ Under t y w → Ends P R t p x w → Dec (Under t x w) → Above t P R d x p ⊎ (Own t P R d x p ⊎ FromChild t P R d (not side) x p)
        go w h f r (no g) = inl (w, h, g, r)
        go w h f r (yes u) = inr (below_x w h f r (under_down t wf x w u))

        back : Above t P R d x p ⊎ (Own t P R d x p ⊎ FromChild t P R d (not side) x p) → Out t P R d x y p
        back (inl (w, h, f, r)) = (w, h, λ u. f (under_trans t wf x y w (n, e.far) u), r)
        back (inr (inl (h, r))) = (x, h, proper_not t P R wf x y n e.proper e.far, r)
        back (inr (inr f)) =
            let (w, h, u, r) = f.inside in
            let v = under_trans t wf f.child f.y w f.under u in
            (w, h, λ g. not-eq-not.1 refl (same_side t wf side (not side) x c f.child w k f.is (under_trans t wf c y w cy g) v), comes_ends t P R f.comes r)

    -- what ends outside y has to pass x
    pub above_iff : (x y n q : ℕ) → Edge t d x y n → Above t P R d y q ↔ ((p : ℕ) × Out t P R d x y p × Comes P R t q y p x)
    above_iff x y n q e = (λ (w, h, f, r). go w h f r, λ (p, (w, h, f, r), c). (w, h, f, comes_ends t P R c r))
      where
        go : (w : ℕ) → Has t d w → ¬ Under t y w → Ends P R t q y w → (p : ℕ) × Out t P R d x y p × Comes P R t q y p x
        go w h f (j, l, r) =
            let (s, c, k, cy) = edge_side t d wf x y n e in
            let (p, r', r'') = leave_parent t P R wf s x c k r cy (λ u. f (edge_below t d wf x c y n 1 e (Down.deeper Down.here k) (omega arith) cy w h u)) in
            (p, (w, h, f, (j, l, r'')), r')

    -- nothing ends above the topmost skeleton node
    pub above_top : (y q : ℕ) → Skeleton t d y → ((s : ℕ) → Skeleton t d s → Under t s y → s ≡ y) → ¬ Above t P R d y q
    above_top y q k top (w, h, f, r) = f (top_all t d wf y k top w h)
