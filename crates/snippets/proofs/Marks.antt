-- The nodes of a value's D and all above them are marked; the marks tell the skeleton.
use Prim.Native.Nat.{ℕ, zero, suc, ◌+◌, ◌<◌}
use mathlib.Core.Path.{◌≡◌, refl, sym, subst}
use mathlib.Core.Logic.{◌⊎◌, inl, inr, ◌↔◌}
use mathlib.Core.Bool.{Bool, true, false, true≢false}
use mathlib.Core.List.{List}
use native.Mathlib.Omega.{arith}
use Rattle.xpath.specs.Tree.{Tree, Child, WellFormed, Down, Under}
use Rattle.xpath.proofs.Trees.{one_parent, child_after, one_child, down_zero, ancestors, under_refl, under_trans, under_le, under_up, under_child, towards, root}
use Rattle.snippets.specs.Snippets.{Has, Skeleton}
use Rattle.snippets.specs.Marks.{Marked}

module _ (t : Tree) (wf : WellFormed t) where
  -- two ancestors of one node: one is the other's
  pub comparable : (x y z : ℕ) → Under t x z → Under t y z → Under t x y ⊎ Under t y x
  comparable x y z (n, h) (m, g) = go (ancestors t wf h g)
    where
      go : ((k : ℕ) × (n + k ≡ m) × Down t y x k) ⊎ ((k : ℕ) × (m + k ≡ n) × Down t x y k) → Under t x y ⊎ Under t y x
      go (inl (k, e, r)) = inr (k, r)
      go (inr (k, e, r)) = inl (k, r)

  -- a node under x is x or under a child of x
  pub under_down : (x w : ℕ) → Under t x w → (x ≡ w) ⊎ ((side : Bool) × (c : ℕ) × Child t side x c × Under t c w)
  under_down x w (zero, h) = inl (down_zero t wf refl h)
  under_down x w (suc n, h) = let (s, c, k, g) = towards t wf x w n h in inr (s, c, k, (n, g))

  one_level : (side side' : Bool) (x a b : ℕ) → Child t side x a → Child t side' x b → Under t a b → a ≡ b
  one_level side side' x a b c k h = go (under_up t wf side' a x b k h)
    where
      go : (a ≡ b) ⊎ Under t a x → a ≡ b
      go (inl e) = e
      go (inr g) = let i = under_le t wf a x g in let j = child_after wf c in absurd (omega arith)

  -- two children of a node that have a node under both are one
  pub same_child : (side side' : Bool) (x a b w : ℕ) → Child t side x a → Child t side' x b → Under t a w → Under t b w → a ≡ b
  same_child side side' x a b w c k h g = go (comparable a b w h g)
    where
      go : Under t a b ⊎ Under t b a → a ≡ b
      go (inl i) = one_level side side' x a b c k i
      go (inr i) = sym (one_level side' side x b a k c i)

  -- and it is on one side
  pub same_side : (side side' : Bool) (x a b w : ℕ) → Child t side x a → Child t side' x b → Under t a w → Under t b w → side ≡ side'
  same_side side side' x a b w c k h g = (one_parent c (subst (λ i. Child t side' x i) (sym (same_child side side' x a b w c k h g)) k)).1

module _ (t : Tree) (d : List ℕ) where
  -- x has two children, and both are marked
  abbrev pub BothMarked : ℕ → Type 0
  BothMarked x = (a b : ℕ) × Child t true x a × Child t false x b × Marked t d a × Marked t d b

  -- x has one marked child, and all nodes of D under x are under that child
  pub record OneMarked (x : ℕ) : Type 0 where
    pub side : Bool
    pub child : ℕ
    pub below : Child t side x child
    pub marked : Marked t d child
    pub all : (w : ℕ) → Has t d w → Under t x w → Under t child w
    pub only : (side' : Bool) (c : ℕ) → Child t side' x c → Marked t d c → c ≡ child

  module _ (wf : WellFormed t) where
    -- ── The marks go up ──
    pub marked_parent : (side : Bool) (x c : ℕ) → Child t side x c → Marked t d c → Marked t d x
    marked_parent side x c k (w, h, u) = (w, h, under_trans t wf x c w (under_child t wf side x x c k (under_refl t wf x)) u)

    pub marked_root : (w : ℕ) → Has t d w → Marked t d 0
    marked_root w h = (w, h, root t wf w h.inside)

    -- a node is marked if it has the value or a marked child
    pub marked_iff : (x : ℕ) → Marked t d x ↔ (Has t d x ⊎ ((side : Bool) × (c : ℕ) × Child t side x c × Marked t d c))
    marked_iff x = (λ (w, h, u). go w h (under_down t wf x w u), back)
      where
        go : (w : ℕ) → Has t d w → (x ≡ w) ⊎ ((side : Bool) × (c : ℕ) × Child t side x c × Under t c w) → Has t d x ⊎ ((side : Bool) × (c : ℕ) × Child t side x c × Marked t d c)
        go w h (inl e) = inl (subst (λ i. Has t d i) (sym e) h)
        go w h (inr (s, c, k, u)) = inr (s, c, k, (w, h, u))

        back : Has t d x ⊎ ((side : Bool) × (c : ℕ) × Child t side x c × Marked t d c) → Marked t d x
        back (inl h) = (x, h, under_refl t wf x)
        back (inr (s, c, k, m)) = marked_parent s x c k m

    -- ── The marks tell the skeleton ──
    pub has_skeleton : (x : ℕ) → Has t d x → Skeleton t d x
    has_skeleton x h = record { u = x; w = x; has_u = h; has_w = h; meet = record { left = under_refl t wf x; right = under_refl t wf x; closest = λ s a b. a } }

    pub skeleton_marked : (x : ℕ) → Skeleton t d x → Marked t d x
    skeleton_marked x k = (k.u, k.has_u, k.meet.left)

    pub skeleton_inside : (x : ℕ) → Skeleton t d x → x < t.size
    skeleton_inside x k = let i = under_le t wf x k.u k.meet.left in let j = k.has_u.inside in omega arith

    both_skeleton : (x : ℕ) → BothMarked x → Skeleton t d x
    both_skeleton x (a, b, ca, cb, (u, hu, au), (w, hw, bw)) = record {
      u = u;
      w = w;
      has_u = hu;
      has_w = hw;
      meet = record {
        left = under_trans t wf x a u (under_child t wf true x x a ca (under_refl t wf x)) au;
        right = under_trans t wf x b w (under_child t wf false x x b cb (under_refl t wf x)) bw;
        closest = λ s h g. go s g (comparable t wf s a u h au);
      };
    }
      where
        apart : ¬ Under t a w
        apart h = true≢false (same_side t wf true false x a b w ca cb h bw)

        up : (s : ℕ) → Under t s w → (s ≡ a) ⊎ Under t s x → Under t s x
        up s g (inl e) = absurd (apart (subst (λ i. Under t i w) e g))
        up s g (inr h) = h

        go : (s : ℕ) → Under t s w → Under t s a ⊎ Under t a s → Under t s x
        go s g (inl h) = up s g (under_up t wf true s x a ca h)
        go s g (inr h) = absurd (apart (under_trans t wf a s w h g))

    skeleton_both : (x : ℕ) → Skeleton t d x → Has t d x ⊎ BothMarked x
    skeleton_both x k = go (under_down t wf x k.u k.meet.left) (under_down t wf x k.w k.meet.right)
      where
        one : (s : Bool) (a b : ℕ) → Child t s x a → Child t s x b → Under t a k.u → ¬ Under t b k.w
        one s a b c e h g =
            let i = under_le t wf a x (k.meet.closest a h (subst (λ z. Under t z k.w) (one_child wf s e c) g)) in
            let j = child_after wf c in
            omega arith

        two : (s s' : Bool) (a b : ℕ) → Child t s x a → Child t s' x b → Under t a k.u → Under t b k.w → BothMarked x
        two true true a b c e h g = absurd (one true a b c e h g)
        two true false a b c e h g = (a, b, c, e, (k.u, k.has_u, h), (k.w, k.has_w, g))
        two false true a b c e h g = (b, a, e, c, (k.w, k.has_w, g), (k.u, k.has_u, h))
        two false false a b c e h g = absurd (one false a b c e h g)

        go : (x ≡ k.u) ⊎ ((side : Bool) × (c : ℕ) × Child t side x c × Under t c k.u)
            → (x ≡ k.w) ⊎ ((side : Bool) × (c : ℕ) × Child t side x c × Under t c k.w) → Has t d x ⊎ BothMarked x
        go (inl e) r = inl (subst (λ i. Has t d i) (sym e) k.has_u)
        go (inr l) (inl e) = inl (subst (λ i. Has t d i) (sym e) k.has_w)
        go (inr (s, a, c, h)) (inr (s', b, e, g)) = inr (two s s' a b c e h g)

    -- x is in the skeleton if and only if it has the value or both its children are marked
    pub skeleton_iff : (x : ℕ) → Skeleton t d x ↔ (Has t d x ⊎ BothMarked x)
    skeleton_iff x = (skeleton_both x, back)
      where
        back : Has t d x ⊎ BothMarked x → Skeleton t d x
        back (inl h) = has_skeleton x h
        back (inr h) = both_skeleton x h

    -- a marked node that is not in the skeleton has one marked child
    pub marked_one : (x : ℕ) → Marked t d x → ¬ Skeleton t d x → OneMarked x
    marked_one x m f = go ((marked_iff x).0 m)
      where
        same : (s s' : Bool) (a b : ℕ) → Child t s x a → Child t s' x b → Marked t d a → Marked t d b → b ≡ a
        same true true a b c e h g = one_child wf true e c
        same true false a b c e h g = absurd (f (both_skeleton x (a, b, c, e, h, g)))
        same false true a b c e h g = absurd (f (both_skeleton x (b, a, e, c, g, h)))
        same false false a b c e h g = one_child wf false e c

        under : (s : Bool) (a : ℕ) → Child t s x a → Marked t d a → (w : ℕ) → Has t d w → (x ≡ w) ⊎ ((side : Bool) × (c : ℕ) × Child t side x c × Under t c w) → Under t a w
        under s a c h w g (inl e) = absurd (f (has_skeleton x (subst (λ i. Has t d i) (sym e) g)))
        under s a c h w g (inr (s', b, k, u)) = subst (λ i. Under t i w) (same s s' a b c k h (w, g, u)) u

        go : Has t d x ⊎ ((side : Bool) × (c : ℕ) × Child t side x c × Marked t d c) → OneMarked x
        go (inl h) = absurd (f (has_skeleton x h))
        go (inr (s, a, c, h)) = record {
          side = s;
          child = a;
          below = c;
          marked = h;
          all = λ w g u. under s a c h w g (under_down t wf x w u);
          only = λ s' b e g. same s s' a b c e h g;
        }
