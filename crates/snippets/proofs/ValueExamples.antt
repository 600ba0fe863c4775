-- Two values that yield a snippet in common, so that the counts of two lists of values are not added.
-- The tree is a way of five nodes, each the left child of the one before, with the values 0, 1, 0, 1, 2, a byte each. The equality is (+eL=+el): the node or its parent, and the node or its left child.
use Prim.Native.Nat.{ℕ, zero, suc, ◌+◌, ◌-◌, ◌*◌, ◌/◌, ◌%◌, ◌≤◌, ◌<◌}
use mathlib.Core.Path.{◌≡◌, refl, sym, ap, ◌∙◌, subst}
use mathlib.Core.Logic.{inl, inr, ◌≢◌}
use mathlib.Core.Bool.{true, false≢true}
use mathlib.Core.List.{List, [], ◌∷◌}
use native.Mathlib.Omega.{arith}
use native.Mathlib.Decide.{dec_le}
use Rattle.lists.specs.Lists.{Number}
use Rattle.lists.proofs.Lists.{number_iff, number_shared}
use Rattle.xpath.specs.Syntax.{XPath, empty, one, union, to_left, from_left}
use Rattle.xpath.specs.Tree.{Tree, WellFormed, Down, here, deeper, Under}
use Rattle.xpath.proofs.Trees.{parent_of_lem, under_le}
use Rattle.positions.specs.Positions.{Full, Follows, IsLast, Comes}
use Rattle.snippets.specs.Snippets.{Different, Has, Skeleton, Edge}
use Rattle.snippets.specs.Count.{Pair}
use Rattle.snippets.specs.Direct.{Direct}
use Rattle.snippets.specs.Halves.{direct, upper_half, lower_half}
use Rattle.snippets.specs.Values.{YieldedBy, IsSnippetBy}
use Rattle.snippets.proofs.Values.{joined_values}

-- ── The tree ──
abbrev way : Tree
way = record { size = 5; parent = λ v. v - 1; is_left = λ v. true; label = λ v. []; value = λ v. (v % 2 + 2 * (v / 4)) ∷ [] }

formed : WellFormed way
formed = record {
  rooted = omega arith;
  upwards = λ v h k. omega arith;
  left_next = λ v w c. let e : w - 1 ≡ v = c.above in let h = c.inner in omega arith;
  one_right = λ v w w' c c'. absurd (false≢true (sym c.which));
}

down_way : (n x y : ℕ) → n + x ≡ y → y < 5 → Down way x y n
down_way zero x y e h = subst (λ z. Down way x z 0) e' here
  where
    e' : x ≡ y
    e' = omega arith
down_way (suc n) x y e h = deeper (down_way n x (y - 1) (omega arith) (omega arith)) (parent_of_lem {t = way} {w = y} (omega arith) h)

under_way : (x y : ℕ) → x ≤ y → y < 5 → Under way x y
under_way x y h k = (y - x, down_way (y - x) x y (omega arith) k)

-- ── Its skeletons ──
-- of two nodes of a way the closest common ancestor is the upper one, so the skeleton of a value has just the nodes that have it
skeleton_has : (d : List ℕ) (x : ℕ) → Skeleton way d x → Has way d x
skeleton_has d x s = go (dec_le s.u s.w)
  where
    upper : (v : ℕ) → Has way d v → Under way x v → v ≤ s.u → v ≤ s.w → Has way d x
    upper v h xv u w =
        let e = under_le way formed x v xv in
        let f = under_le way formed v x (s.meet.closest v (under_way v s.u u s.has_u.inside) (under_way v s.w w s.has_w.inside)) in
        subst (λ z. Has way d z) (omega arith) h

    go : Dec (s.u ≤ s.w) → Has way d x
    go (yes h) = upper s.u s.has_u s.meet.left (omega arith) h
    go (no f) = upper s.w s.has_w s.meet.right (omega arith) (omega arith)

has_skeleton : (d : List ℕ) (x : ℕ) → Has way d x → Skeleton way d x
has_skeleton d x h = record { u = x; w = x; has_u = h; has_w = h; meet = record { left = (0, here); right = (0, here); closest = λ s p q. p } }

byte : (x : ℕ) → x < 2 → x % 2 + 2 * (x / 4) ≡ x
byte x h = omega arith

byte_back : (s x : ℕ) → x < 2 → s % 2 + 2 * (s / 4) ≡ x → s ≢ 2 + x → s ≡ x
byte_back s x h e f = let g : s / 4 ≡ 0 = omega arith in let k : s < 4 = omega arith in let l : s % 2 ≡ x = omega arith in omega arith

module _ (x y : ℕ) (early : x < 2) (two : 2 + x ≡ y) where
  abbrev d : List ℕ
  d = way.value x

  -- the value of x is also that of y, and of no other node
  has_x : Has way d x
  has_x = record { inside = omega arith; value = refl }

  has_y : Has way d y
  has_y = record { inside = omega arith; value = ap (λ (z : ℕ). z ∷ []) (omega arith) }

  no_other : (s : ℕ) → Has way d s → s ≢ y → s ≡ x
  no_other s h f = let e : s % 2 + 2 * (s / 4) ≡ x % 2 + 2 * (x / 4) = cc in byte_back s x early (e ∙ byte x early) (λ g. f (g ∙ two))

  edge : Edge way d x y 2
  edge = record {
    top = has_skeleton d x has_x;
    bottom = has_skeleton d y has_y;
    far = down_way 2 x y two (omega arith);
    proper = omega arith;
    nearest = λ s k u f. (0, subst (λ z. Down way s z 0) (no_other s (skeleton_has d s k) f) here);
  }

-- ── The equality ──
abbrev up : XPath
up = union empty (one from_left)

abbrev down : XPath
down = union empty (one to_left)

-- 0 and then 1 are positions of the first path, 3 and then 2 of the second; each is a last one
last_0 : IsLast up down 0
unfolding IsLast Full
last_0 = ([], inl ([], refl, inl refl))

last_1 : IsLast up down 1
unfolding IsLast Full
last_1 = (0 ∷ [], inl (1 ∷ [], refl, inr refl))

last_2 : IsLast up down 2
unfolding IsLast Full
last_2 = (3 ∷ [], inr (2 ∷ [], refl, inr refl))

last_3 : IsLast up down 3
unfolding IsLast Full
last_3 = ([], inr ([], refl, inl refl))

comes_up : Comes up down way 0 1 1 0
unfolding Follows Full
comes_up = Comes.on from_left ([], [], inl (1 ∷ [], refl, inr refl)) (inl (refl, refl)) (parent_of_lem {t = way} {w = 1} (omega arith) (omega arith)) Comes.here

comes_down : Comes up down way 3 2 2 3
unfolding Follows Full
comes_down = Comes.on to_left ([], [], inr (2 ∷ [], refl, inr refl)) (inr (inl (refl, refl))) (parent_of_lem {t = way} {w = 3} (omega arith) (omega arith)) Comes.here

-- ── A snippet that two values yield ──
-- the whole of a first snippet between the two nodes of a value
first : (x y p q : ℕ) → x < 2 → 2 + x ≡ y → Different up down p q → IsLast up down p → IsLast up down q → Direct way up down (way.value x) 1 x y p q
first x y p q h e different last last' =
    Direct.upper {k = 1}
    (record {
      edge = edge x y h e;
      different = different;
      outside = (x, has_x x y h e, λ u. let l = under_le way formed y x u in omega arith, (p, last, Comes.here));
      inside = (y, has_y x y h e, (0, here), (q, last', Comes.here));
    })
    (omega arith) (omega arith) (down_way 2 x y e (omega arith)) here Comes.here

-- the value of the nodes 0 and 2 yields it as a lower half
by_first : YieldedBy way (0 ∷ []) up down 0 1 2 0 3
by_first = lower_half (direct (way.value 0, (0, inl refl, refl), first 0 2 1 3 (omega arith) refl (inl (omega arith, omega arith)) last_1 last_3)) (down_way 1 0 1 refl (omega arith)) (down_way 1 1 2 refl (omega arith)) comes_up

-- that of the nodes 1 and 3 as an upper half
by_second : YieldedBy way (1 ∷ []) up down 0 1 2 0 3
by_second = upper_half (direct (way.value 1, (1, inl refl, refl), first 1 3 0 2 (omega arith) refl (inl (omega arith, omega arith)) last_0 last_2)) (down_way 1 1 2 refl (omega arith)) (down_way 1 2 3 refl (omega arith)) comes_down

-- ── The counts ──
abbrev both : Pair
both = record { first = up; second = down }

-- the two values together yield less than the sum of what each yields
pub not_added : (i j n : ℕ) → Number (IsSnippetBy way (0 ∷ []) both) i → Number (IsSnippetBy way (1 ∷ []) both) j → Number (IsSnippetBy way (0 ∷ 1 ∷ []) both) n → n < i + j
not_added i j n h g k =
    number_shared h g (number_iff (λ s. joined_values (0 ∷ []) (1 ∷ []) s.power s.x s.y s.p s.q) k)
    (record { power = 0; x = 1; y = 2; p = 0; q = 3 }) by_first by_second
