-- A chain between two nodes takes every edge between them and passes every node between them.
use Prim.Native.Nat.{ℕ, suc, ◌+◌, ◌≤◌, ◌<◌}
use mathlib.Core.Path.{◌≡◌, refl, sym, ap, subst}
use mathlib.Core.Logic.{◌⊎◌, inl, inr, ◌↔◌}
use mathlib.Core.Bool.{Bool, true, false}
use mathlib.Core.List.{◌++◌}
use lib.ListN.{length-append}
use native.Mathlib.Omega.{arith}
use native.Mathlib.Decide.{ℕ_discrete}
use Rattle.xpath.specs.Syntax.{XPath, Step, to_left, to_right, from_left, from_right, stay, steps, size}
use Rattle.xpath.specs.Tree.{Tree, Child, WellFormed, Down, Under}
use Rattle.xpath.specs.Meaning.{Moves}
use Rattle.positions.specs.Positions.{Numbered, Follows, Comes}
use Rattle.positions.proofs.Runs.{num_in}
use Rattle.xpath.proofs.Trees.{one_parent, under_refl, under_up, under_child}
use Rattle.snippets.proofs.Settles.{comes_join, enter_top, leave_top, proper_not}

-- the step down to a child on a side, and the step up from it
abbrev pub step_down : Bool → Step
step_down true = to_left
step_down false = to_right

abbrev pub step_up : Bool → Step
step_up true = from_left
step_up false = from_right

pub moves_down : {t : Tree} (side : Bool) {x y : ℕ} → Child t side x y → Moves t (step_down side) x y
moves_down true c = c
moves_down false c = c

pub moves_up : {t : Tree} (side : Bool) {x y : ℕ} → Child t side x y → Moves t (step_up side) y x
moves_up true c = c
moves_up false c = c

module _ (P R : XPath) (t : Tree) where
  -- a chain that takes a step s from x to y
  pub record Crossing (s : Step) (x y i v j w : ℕ) : Type 0 where
    pub from : ℕ
    pub to : ℕ
    pub before : Comes P R t i v from x
    pub follows : Follows P R from to
    pub numbered : Numbered 1 (steps P ++ steps R) to s
    pub after : Comes P R t to y j w

  -- how many steps a chain has
  abbrev pub count : {i v j w : ℕ} → Comes P R t i v j w → ℕ
  count Comes.here = 0
  count (Comes.on s f a m c) = suc (count c)

  -- the same, with no step lost
  abbrev pub Split : (s : Step) (x y : ℕ) {i v j w : ℕ} → Comes P R t i v j w → Type 0
  Split s x y {i} {v} {j} {w} c = (k : Crossing s x y i v j w) × (count k.before + suc (count k.after) ≡ count c)

  -- a step from S stays in S, or it is the step s from x to y
  abbrev Door : Step → ℕ → ℕ → (ℕ → Type 0) → Type 0
  Door s x y S = (r : Step) (v u : ℕ) → Moves t r v u → S v → S u ⊎ ((r ≡ s) × (v ≡ x) × (u ≡ y))

  split : (s : Step) (x y : ℕ) (S : ℕ → Type 0) → Door s x y S → {i v j w : ℕ} (c : Comes P R t i v j w) → S v → ¬ S w → Split s x y c
  split s x y S door Comes.here h g = absurd (g h)
  split s x y S door {i} {v} {j = k} {w} (Comes.on {j = j} {u = u} r f a m c) h g = go (door r v u m h) (λ h'. split s x y S door c h' g) (Comes.on r f a m c) refl
    where
      go : S u ⊎ ((r ≡ s) × (v ≡ x) × (u ≡ y)) → (S u → Split s x y c) → (whole : Comes P R t i v k w) → count whole ≡ suc (count c) → Split s x y whole
      go (inl h') ih whole o =
          let (z, e) = ih h' in
          (record { from = z.from; to = z.to; before = Comes.on r f a m z.before; follows = z.follows; numbered = z.numbered; after = z.after }, omega arith)
      go (inr (es, ev, eu)) ih whole o =
          let (b, p) : (b : Comes P R t i v i x) × (count b ≡ 0) = subst (λ z. (b : Comes P R t i v i z) × (count b ≡ 0)) ev (Comes.here, refl) in
          let (d, q) : (d : Comes P R t j y k w) × (count d ≡ count c) = subst (λ z. (d : Comes P R t j z k w) × (count d ≡ count c)) eu (c, refl) in
          (record { from = i; to = j; before = b; follows = f; numbered = subst (λ z. Numbered 1 (steps P ++ steps R) j z) es a; after = d }, omega arith)

  -- a position that is come to is a step of the two paths or where the chain began
  pub comes_few : size P + size R ≤ 14 → {i v j w : ℕ} → Comes P R t i v j w → i < 16 → j < 16
  comes_few few Comes.here l = l
  comes_few few (Comes.on {j = j} s f a m c) l =
      let h = num_in (steps P ++ steps R) 1 j s a in
      comes_few few c (omega (arith, length-append (steps P) (steps R)))

  module _ (wf : WellFormed t) where
    module _ {side : Bool} {x y : ℕ} (child : Child t side x y) where
      pub not_under : ¬ Under t y x
      not_under = proper_not t P R wf x y 1 (omega arith) (Down.deeper Down.here child)

      -- ── The edge to a child is the only way into what is under it ──
      into : (b : Bool) (v u : ℕ) → Child t b v u → ¬ Under t y v → (¬ Under t y u) ⊎ ((step_down b ≡ step_down side) × (v ≡ x) × (u ≡ y))
      into b v u c f = go (ℕ_discrete y u)
        where
          go : Dec (y ≡ u) → (¬ Under t y u) ⊎ ((step_down b ≡ step_down side) × (v ≡ x) × (u ≡ y))
          go (yes e) = let (p, q) = one_parent c (subst (λ z. Child t side x z) e child) in inr (ap step_down q, p, sym e)
          go (no g) = inl (λ h. neither (under_up t wf b y v u c h))
            where
              neither : (y ≡ u) ⊎ Under t y v → ⊥
              neither (inl e) = g e
              neither (inr h) = f h

      door_in : Door (step_down side) x y (λ v. ¬ Under t y v)
      door_in to_left v u c f = into true v u c f
      door_in to_right v u c f = into false v u c f
      door_in from_left v u c f = inl (λ h. f (under_child t wf true y u v c h))
      door_in from_right v u c f = inl (λ h. f (under_child t wf false y u v c h))
      door_in (stay T) v u (e, h) f = inl (subst (λ z. ¬ Under t y z) e f)

      out : (b : Bool) (v u : ℕ) → Child t b u v → Under t y v → Under t y u ⊎ ((step_up b ≡ step_up side) × (v ≡ y) × (u ≡ x))
      out b v u c h = go (under_up t wf b y u v c h)
        where
          go : (y ≡ v) ⊎ Under t y u → Under t y u ⊎ ((step_up b ≡ step_up side) × (v ≡ y) × (u ≡ x))
          go (inl e) = let (p, q) = one_parent c (subst (λ z. Child t side x z) e child) in inr (ap step_up q, sym e, p)
          go (inr g) = inl g

      door_out : Door (step_up side) y x (λ v. Under t y v)
      door_out to_left v u c h = inl (under_child t wf true y v u c h)
      door_out to_right v u c h = inl (under_child t wf false y v u c h)
      door_out from_left v u c h = out true v u c h
      door_out from_right v u c h = out false v u c h
      door_out (stay T) v u (e, g) h = inl (subst (λ z. Under t y z) e h)

      -- a chain into what is under a child takes the edge down to it, and a chain out of it the edge up
      pub enters : {i v j w : ℕ} (c : Comes P R t i v j w) → ¬ Under t y v → Under t y w → Split (step_down side) x y c
      enters c f h = split (step_down side) x y (λ v. ¬ Under t y v) door_in c f (λ g. g h)

      pub leaves : {i v j w : ℕ} (c : Comes P R t i v j w) → Under t y v → ¬ Under t y w → Split (step_up side) y x c
      leaves c h f = split (step_up side) y x (λ v. Under t y v) door_out c h f

      pub edge_down : (i j : ℕ) → Comes P R t i x j y ↔ Crossing (step_down side) x y i x j y
      edge_down i j = (λ c. (enters c not_under (under_refl t wf y)).0, λ k. comes_join t P R k.before (Comes.on (step_down side) k.follows k.numbered (moves_down side child) k.after))

      pub edge_up : (i j : ℕ) → Comes P R t i y j x ↔ Crossing (step_up side) y x i y j x
      edge_up i j = (λ c. (leaves c (under_refl t wf y) not_under).0, λ k. comes_join t P R k.before (Comes.on (step_up side) k.follows k.numbered (moves_up side child) k.after))

    -- ── A node between two others is passed ──
    pub pass_down : {x h y a b : ℕ} → Down t x h a → Down t h y b → (i j : ℕ) → Comes P R t i x j y ↔ ((k : ℕ) × Comes P R t i x k h × Comes P R t k h j y)
    pass_down Down.here e i j = (λ c. (i, Comes.here, c), λ (k, c, c'). comes_join t P R c c')
    pass_down {x} {h} {b = b} (Down.deeper {n = n} d q) e i j =
        (λ c. enter_top t P R wf h c (proper_not t P R wf x h (suc n) (omega arith) (Down.deeper d q)) (b, e), λ (k, c, c'). comes_join t P R c c')

    pub pass_up : {x h y a b : ℕ} → Down t x h a → Down t h y b → (i j : ℕ) → Comes P R t i y j x ↔ ((k : ℕ) × Comes P R t i y k h × Comes P R t k h j x)
    pass_up Down.here e i j = (λ c. (j, c, Comes.here), λ (k, c, c'). comes_join t P R c c')
    pass_up {x} {h} {b = b} (Down.deeper {n = n} d q) e i j =
        (λ c. leave_top t P R wf h c (b, e) (proper_not t P R wf x h (suc n) (omega arith) (Down.deeper d q)), λ (k, c, c'). comes_join t P R c c')
