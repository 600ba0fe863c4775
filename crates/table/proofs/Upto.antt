-- The table while it is built: what it holds of the nodes below v. A child that is not below v is not linked yet.
use Prim.Native.Nat.{ℕ, suc, ◌+◌, ◌*◌, ◌≤◌, ◌<◌}
use mathlib.Core.Path.{◌≡◌, refl, sym, ap₂, ◌∙◌, subst, subst₂}
use mathlib.Core.Logic.{◌≢◌, inl, inr, ⊎_elim}
use mathlib.Core.Bool.{Bool, true, false}
use mathlib.Core.List.{List}
use lib.ListN.{length, drop, get_or}
use lib.Dec.{ltb}
use native.Mathlib.Nat.{eq-or-lt_of_le}
use native.Mathlib.Omega.{arith}
use borrow.Author.Tests.{ltb-false, le-ltb, eq-eqb, ne_eqb}
use Rattle.lists.specs.Lists.{All}
use Rattle.xpath.specs.Tree.{Child}
use Rattle.xpath.proofs.Trees.{parent_of_lem, one_parent, child_after, child?}
use Rattle.document_spec.specs.Library.{Node}
use Rattle.document_spec.specs.Binary.{pick, back, is_first, before, parent_of, tree_of}
use Rattle.document_spec.specs.Verdict.{Accepts}
use Rattle.document_spec.specs.Intervals.{deep}
use Rattle.document_spec.proofs.Binary.{up_to, tree_formed, depth_le}
use Rattle.document_lines.specs.Entries.{Start, Stands}
use Rattle.layout.specs.Table.{LOW, HIGH, PARENT, LAST, column, offset_of}
use Rattle.layout.specs.Words.{NONE, cell, word, Wrote}
use Rattle.table.specs.Writes.{entered, hung, parent_by}
use Rattle.table.specs.Links.{Points, IsParent, Linked}
use Rattle.table.proofs.Cells.{sides, apart}

-- w is u's child on a side and lies below v
abbrev pub ChildBelow : List Node → ℕ → Bool → ℕ → ℕ → Type 0
ChildBelow ns v side u w = (w < v) × Child (tree_of ns) side u w

-- the nodes below v are entered, the last of them has depth d, and the lines of v stand at an offset; the last node is known of each depth that v can go back to
pub record Upto (s : List ℕ) (ns : List Node) (n v at d : ℕ) (t : List ℕ) : Type 0 where
  pub start : Start s (drop v ns) at
  pub depth : d ≡ deep ns (before v)
  pub places : (u : ℕ) → u < v → Stands s ns u (offset_of t n u)
  pub children : (side : Bool) (u : ℕ) → u < v → Points (ChildBelow ns v side u) (word t n (column side) u)
  pub parents : (u : ℕ) → u < v → IsParent ns u (word t n PARENT u)
  pub lasts : (e : ℕ) → e ≤ d → word t n LAST e ≡ back ns e v

-- the words that were written are there
abbrev Holds : List ℕ → List (ℕ × ℕ) → Type 0
Holds t ws = All (λ w. get_or t w.0 0 ≡ w.1) ws

module _ {s : List ℕ} {ns : List Node} {n : ℕ} (a : Accepts s ns) (size : length ns ≡ n) where
  -- ── The new node ──
  module _ (v at d u : ℕ) (t : List ℕ) (h : Holds t (entered n v at d u)) where
    -- its lines stand where it says, it has no child so far, and it is the last node of its depth
    own_place : v < n → Start s (drop v ns) at → Stands s ns v (offset_of t n v)
    own_place r q =
        let e : at ≡ offset_of t n v = let hi = h.1.1.1.1.0 in let lo = h.1.1.1.1.1.0 in omega arith in
        subst (λ i. Stands s ns v i) e (record { accepts = a; node = omega arith; start = q })

    own_children : (side : Bool) → Points (ChildBelow ns (suc v) side v) (word t n (column side) v)
    own_children side = inr (none side, λ w k. let r = child_after (tree_formed a.legal) k.1 in let l = k.0 in absurd (omega arith))
      where
        none : (x : Bool) → word t n (column x) v ≡ NONE
        none true = h.1.1.1.0
        none false = h.1.1.0

    own_last : d ≡ deep ns v → word t n LAST d ≡ back ns d (suc v)
    own_last e = rw (eq-eqb (deep ns v) d (sym e)) h.0

  -- behind v a depth below v's own has the same last node
  back_below : (v e : ℕ) → e < deep ns v → back ns e v ≡ back ns e (suc v)
  back_below v e r = rw (ne_eqb (deep ns v) e (omega arith)) refl

  -- where v is not the child, the word stays right
  points_keep : {side : Bool} {u v x : ℕ} → ¬ Child (tree_of ns) side u v → Points (ChildBelow ns v side u) x → Points (ChildBelow ns (suc v) side u) x
  points_keep f (inl (l, k)) = inl (omega arith, k)
  points_keep {side} {u} f (inr (e, g)) =
      inr (e, λ w k. let l = k.0 in ⊎_elim (λ q. f (subst (λ w. Child (tree_of ns) side u w) q k.1)) (λ r. g w (r, k.1)) (eq-or-lt_of_le (omega arith)))

  -- node v is entered, and what held before it still holds
  extend : (v at next d u : ℕ) (t : List ℕ) → v < n → d ≡ deep ns v → Start s (drop v ns) at → Start s (drop (suc v) ns) next
      → Holds t (entered n v at d u) → IsParent ns v u
      → ((w : ℕ) → w < v → Stands s ns w (offset_of t n w))
      → ((side : Bool) (w : ℕ) → w < v → Points (ChildBelow ns (suc v) side w) (word t n (column side) w))
      → ((w : ℕ) → w < v → IsParent ns w (word t n PARENT w))
      → ((e : ℕ) → e < d → word t n LAST e ≡ back ns e v)
      → Upto s ns n (suc v) next d t
  extend v at next d u t r q here behind h p places children parents lasts =
      record {
        start = behind;
        depth = q;
        places = λ w l. up_to (λ w. Stands s ns w (offset_of t n w)) (own_place v at d u t h r here) places w (omega arith);
        children = λ side w l. up_to (λ w. Points (ChildBelow ns (suc v) side w) (word t n (column side) w)) (own_children v at d u t h side) (children side) w (omega arith);
        parents = λ w l. up_to (λ w. IsParent ns w (word t n PARENT w)) (subst (IsParent ns v) (sym h.1.0) p) parents w (omega arith);
        lasts = up_to (λ e. word t n LAST e ≡ back ns e (suc v)) (own_last v at d u t h q) (λ e l. lasts e l ∙ back_below v e (omega arith));
      }

  pub upto_root : (at next : ℕ) (t t' : List ℕ) → Start s ns at → Start s (drop 1 ns) next → Wrote (entered n 0 at 0 NONE) t t' → Upto s ns n 1 next 0 t'
  upto_root at next t t' here behind w =
      extend 0 at next 0 NONE t' (let h = a.legal.some in omega arith) (sym a.legal.top) here behind w.here (inl (refl, refl))
      (λ u l. absurd (omega arith)) (λ side u l. absurd (omega arith)) (λ u l. absurd (omega arith)) (λ e l. absurd (omega arith))

  -- ── A child v of u ──
  module _ (v at next d b u : ℕ) (side : Bool) (t t' : List ℕ) (c : Child (tree_of ns) side u v) (r : v < n) (near : d ≤ suc b) (shallow : d < n)
      (h : Upto s ns n v at b t) (w : Wrote (hung n v at d side u) t t') where
    up : u < v
    up = child_after (tree_formed a.legal) c

    -- the word of the one parent becomes v, and any other stays
    linked_to : (x : Bool) (y : ℕ) → y < v → Dec (Child (tree_of ns) x y v) → Points (ChildBelow ns (suc v) x y) (word t' n (column x) y)
    linked_to x y l (yes k) =
        let (e, q) = one_parent k c in
        let there : word t' n (column x) y ≡ v = ap₂ (λ x y. word t' n (column x) y) q e ∙ w.here.0 in
        inl (subst (λ i. ChildBelow ns (suc v) x y i) (sym there) (omega arith, k))
    linked_to x y l (no f) =
        let i = up in let below = sides n x in
        let link = apart n x side y u (omega arith) (omega arith) (λ e. f (subst₂ (λ x y. Child (tree_of ns) x y v) (sym e.0) (sym e.1) c)) in
        let own : (z : Bool) → cell n (column x) y ≢ cell n (column z) v = λ z. apart n x z y v (omega arith) r (λ e. let q = e.1 in omega arith) in
        let same = w.other (cell n (column x) y) (link, (omega arith, (omega arith, (own false, (own true, (omega arith, (omega arith, tt))))))) in
        subst (λ i. Points (ChildBelow ns (suc v) x y) i) (sym same) (points_keep f (h.children x y l))

    hang : d ≡ deep ns v → Start s (drop (suc v) ns) next → Upto s ns n (suc v) next d t'
    hang q behind =
        let i = up in let below = sides n side in
        extend v at next d u t' r q h.start behind w.here.1 (inr (c.inner, sym c.above))
        (λ x l. subst (λ i. Stands s ns x i) (sym (ap₂ (λ lo hi. lo + 65_536 * hi) (w.other (cell n LOW x) (omega arith)) (w.other (cell n HIGH x) (omega arith)))) (h.places x l))
        (λ x y l. linked_to x y l (child? x y v))
        (λ x l. subst (λ i. IsParent ns x i) (sym (w.other (cell n PARENT x) (omega arith))) (h.parents x l))
        (λ e l. w.other (cell n LAST e) (omega arith) ∙ h.lasts e (omega arith))

  -- ── The node behind v ──
  module _ (v at d b : ℕ) (t : List ℕ) (r : suc v < n) (q : d ≡ deep ns (suc v)) (h : Upto s ns n (suc v) at b t) where
    -- its side and its parent are those of the tree
    side_is : ltb b d ≡ is_first ns (suc v)
    side_is = ap₂ ltb h.depth q

    above_by : (x : Bool) → ltb b d ≡ x → parent_by t n (suc v) d x ≡ pick x v (back ns d (suc v))
    above_by true e = omega arith
    above_by false e = h.lasts d (ltb-false b d e)

    above_is : parent_by t n (suc v) d (ltb b d) ≡ parent_of ns (suc v)
    above_is = above_by (ltb b d) refl ∙ ap₂ (λ x e. pick x v (back ns e (suc v))) side_is q

    near_by : d ≤ suc b
    near_by = let k = (a.legal.depths v (omega arith)).1 in let e = h.depth in omega arith

    pub shallow_by : d < n
    shallow_by = let k = depth_le a.legal (suc v) (omega arith) in omega arith

    pub above_below : parent_by t n (suc v) d (ltb b d) < suc v
    above_below = let e = above_is in let k = (tree_formed a.legal).upwards (suc v) (omega arith) (omega arith) in omega arith

    pub last_below : d ≤ b → word t n LAST d < suc v
    last_below l = subst (λ x. parent_by t n (suc v) d x < suc v) (le-ltb b d l) above_below

    pub upto_step : (next : ℕ) (t' : List ℕ) → Start s (drop (suc (suc v)) ns) next
        → Wrote (hung n (suc v) at d (ltb b d) (parent_by t n (suc v) d (ltb b d))) t t' → Upto s ns n (suc (suc v)) next d t'
    upto_step next t' behind w =
        hang (suc v) at next d b (parent_of ns (suc v)) (is_first ns (suc v)) t t' (parent_of_lem (omega arith) (omega arith)) r near_by shallow_by h
        (subst₂ (λ x u. Wrote (hung n (suc v) at d x u) t t') side_is above_is w)
        q behind

-- ── The last node ──
pub upto_all : {s : List ℕ} {ns : List Node} {at d : ℕ} {t : List ℕ} → Upto s ns (length ns) (length ns) at d t → Linked s ns t
upto_all {ns} h =
    record {
      places = h.places;
      children = λ side v l. ⊎_elim (λ k. inl k.1) (λ k. inr (k.0, λ w c. k.1 w (c.inside, c))) (h.children side v l);
      parents = h.parents;
    }
