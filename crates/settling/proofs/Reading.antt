-- What the words tell is so in the tree, and what is so in the tree they tell.
use Prim.Native.Nat.{ℕ, ◌<◌}
use mathlib.Core.Path.{◌≡◌, refl, sym, ◌∙◌, subst}
use mathlib.Core.Logic.{inl, inr, ◌↔◌}
use mathlib.Core.Bool.{Bool, true, false}
use mathlib.Core.List.{List}
use native.Mathlib.Decide.{ℕ_discrete}
use native.Mathlib.Omega.{arith}
use Rattle.xpath.specs.Syntax.{XPath}
use Rattle.xpath.specs.Tree.{Tree, Child, Down}
use Rattle.xpath.proofs.Trees.{child_after}
use Rattle.positions.specs.Positions.{Comes, Ends}
use Rattle.snippets.proofs.Edges.{comes_few}
use Rattle.layout.specs.Blocks.{down_at, up_at, snippet_at}
use Rattle.layout.specs.Part.{loop_at, pair_at}
use Rattle.layout.specs.Table.{LEFT, PARENT}
use Rattle.layout.specs.Words.{word}
use Rattle.layout.proofs.Frames.{within_back}
use Rattle.matrices.specs.Matrices.{Related, Before}
use Rattle.machine.specs.declared.Machine.{Machine}
use Rattle.machine.proofs.Walking.{child_inside, parent_word}
use Rattle.loops.specs.Loops.{Stage, Loops}
use Rattle.loops.proofs.Sides.{side_child}
use Rattle.powers.specs.Powers.{Powers}
use Rattle.settling.specs.Pairs.{Meets, Settles, Closed}
use Rattle.pairs.specs.Derived.{MeetsBy, Sees, LeadsOver, Derived}
use Rattle.pairs.specs.Growing.{Framed, Ended, Held, Met, Everywhere}
use Rattle.pair_rounds.specs.Rounds.{Still}
use Rattle.settling.specs.Settled.{Marked}
use Rattle.settling.proofs.Settling.{settles_before, closed_settles}
use Rattle.pairs.proofs.Widening.{related_same}
use Rattle.pairs.proofs.Framing.{Outside, snippet_outside, framed_same, framed_parent, derived_kept}

module _ {P R : XPath} {t : Tree} {m : Machine} {n : ℕ} {p : List ℕ} (stage : Stage P R t m n p) (loops : Loops P R t n p) (powers : Powers P R t n p 1) where
  abbrev C : ℕ → ℕ → ℕ → ℕ → Type 0
  C i v j w = Comes P R t i v j w

  abbrev S : ℕ → ℕ → ℕ → ℕ → Type 0
  S = Marked t n p

  -- the matrix at an offset tells the chains from v to u
  abbrev Tells : ℕ → ℕ → ℕ → Type 0
  Tells at v u = (i j : ℕ) → i < 16 → j < 16 → Related p at i j ↔ C i v j u

  tells_as : {at at' v v' u u' : ℕ} → at ≡ at' → v ≡ v' → u ≡ u' → Tells at' v' u' → Tells at v u
  tells_as {at} {at'} {v} {v'} {u} {u'} e f g h =
      subst (λ (x : ℕ). Tells x v u) (sym e) (subst (λ (x : ℕ). Tells at' x u) (sym f) (subst (λ (x : ℕ). Tells at' v' x) (sym g) h))

  child_below : {side : Bool} {x y : ℕ} → Child t side x y → y < n
  child_below child = child_inside stage.formed stage.machine stage.drawn child

  down_tells : {side : Bool} {x y : ℕ} → Child t side x y → Tells (down_at n 0 y) x y
  down_tells {x = x} {y = y} child i j l r = (powers 0 y (omega arith) (child_below child)).down x i j (Down.deeper Down.here child) l r

  up_tells : {side : Bool} {x y : ℕ} → Child t side x y → Tells (up_at n 0 y) y x
  up_tells {x = x} {y = y} child i j l r = (powers 0 y (omega arith) (child_below child)).up x i j (Down.deeper Down.here child) l r

  -- the parent that the words tell
  edge : (y : ℕ) → 0 < y → y < n → (side : Bool) × Child t side (word p n PARENT y) y
  edge y h l = go (ℕ_discrete (word p n LEFT (word p n PARENT y)) y)
    where
      go : Dec (word p n LEFT (word p n PARENT y) ≡ y) → (side : Bool) × Child t side (word p n PARENT y) y
      go (yes e) = (true, side_child stage true y h l e)
      go (no f) = (false, side_child stage false y h l f)

  few : {i v j w : ℕ} → C i v j w → i < 16 → j < 16
  few c l = comes_few P R t stage.machine.few c l

  -- ── What is derived is settled ──
  ends : (v a : ℕ) → v < n → a < 16 → Before p (loop_at n v) m.last a → Ends P R t a v v
  ends v a h l (j, r, e, c) = (j, (stage.machine.last j).0 e, (loops v a j h l r).0 c)

  sees_tells : {side : Bool} {x y v up down : ℕ} → Child t side x y → word p n PARENT y ≡ x → v < n → Sees n p y v up down → Tells up v x × Tells down v y
  sees_tells {v = v} child ex h (inl (e, f, g)) = (tells_as f refl (sym ex ∙ sym e) (λ i j l r. loops v i j h l r), tells_as g (e ∙ ex) refl (down_tells child))
  sees_tells {y = y} child ex h (inr (e, f, g)) = (tells_as f e refl (up_tells child), tells_as g e refl (λ i j l r. loops y i j (child_below child) l r))

  leads_tells : {side : Bool} {x y v u at : ℕ} → Child t side x y → word p n PARENT y ≡ x → LeadsOver n p y v u at → Tells at v u
  leads_tells child ex (inl (e, f, g)) = tells_as g (e ∙ ex) f (down_tells child)
  leads_tells child ex (inr (e, f, g)) = tells_as g e (f ∙ ex) (up_tells child)

  meets : {side : Bool} {x y v up down a b : ℕ} → Child t side x y → a < 16 → b < 16 → Tells up v x → Tells down v y → MeetsBy p (snippet_at n 0 y) up down a b → Settles P R t S v a b
  meets {side} {x} {y} {a = a} {b = b} child l r one two (inl o) =
      inr (
        x,
        y,
        o.first,
        o.second,
        record { side = side; child = child; upper_few = o.first_few; lower_few = o.second_few; marked = o.pair },
        inl ((one a o.first l o.first_few).0 o.left, (two b o.second r o.second_few).0 o.right),
      )
  meets {side} {x} {y} {a = a} {b = b} child l r one two (inr o) =
      inr (
        x,
        y,
        o.second,
        o.first,
        record { side = side; child = child; upper_few = o.second_few; lower_few = o.first_few; marked = o.pair },
        inr ((two a o.first l o.first_few).0 o.left, (one b o.second r o.second_few).0 o.right),
      )

  derived_settles : {v a b : ℕ} → Derived n p m.last v a b → Settles P R t S v a b
  derived_settles {v} {a} {b} (Derived.ended h l r (e, f)) = inl (v, ends v a h l e, ends v b h r f)
  derived_settles {v} (Derived.met y up down h i k l r s o) =
      let (side, child) = edge y i k in
      let (one, two) = sees_tells child refl h s in
      meets child l r one two o
  derived_settles {v} {a} {b} (Derived.led {i = i} {j = j} y at h k l r e f s x z d) =
      let (side, child) = edge y h k in
      let tells = leads_tells child refl s in
      settles_before P R t S ((tells a i l e).0 x) ((tells b j r f).0 z) (derived_settles d)

  -- ── What is settled is found ──
  module _ {q : List ℕ} (framed : Framed n p q) (ended : Ended m.last n n q) (met : Everywhere (Met n q) n) (still : Still n q) where
    -- the pairs of the nodes
    abbrev L : ℕ → ℕ → ℕ → Type 0
    L v a b = v < n → a < 16 → b < 16 → Related q (pair_at n v) a b

    told : {at v u i j : ℕ} → Outside n at → Tells at v u → i < 16 → C i v j u → Related q at i j
    told {at} {i = i} {j = j} o tells l c = related_same p q at i j l (framed_same framed at o) ((tells i j l (few c l)).1 c)

    parent : {side : Bool} {x y : ℕ} → Child t side x y → word q n PARENT y ≡ x
    parent {x = x} {y = y} child = framed_parent framed y (child_below child) ∙ parent_word stage.formed stage.machine stage.drawn y x child

    last_told : {v a : ℕ} → v < n → a < 16 → Ends P R t a v v → Before q (loop_at n v) m.last a
    last_told {v} {a} h l (j, e, c) = (j, few c l, (stage.machine.last j).1 e, told {at = loop_at n v} (inl (omega arith)) (λ i j l r. loops v i j h l r) l c)

    meets_told : {x y i j v up down a b : ℕ} → Outside n up → Outside n down → Tells up v x → Tells down v y → a < 16 → b < 16
        → S x y i j → Meets P R t x y i j v a b → MeetsBy q (snippet_at n 0 y) up down a b
    meets_told {x} {y} {i} {j} {up = up} {down = down} o u one two l r s (inl (c, e)) = inl (record {
      first = i;
      second = j;
      first_few = s.upper_few;
      second_few = s.lower_few;
      left = told {at = up} o one l c;
      pair = related_same p q (snippet_at n 0 y) i j s.upper_few (framed_same framed (snippet_at n 0 y) (snippet_outside n y)) s.marked;
      right = told {at = down} u two r e;
    })
    meets_told {x} {y} {i} {j} {up = up} {down = down} o u one two l r s (inr (c, e)) = inr (record {
      first = j;
      second = i;
      first_few = s.lower_few;
      second_few = s.upper_few;
      left = told {at = down} u two l c;
      pair = related_same p q (snippet_at n 0 y) i j s.upper_few (framed_same framed (snippet_at n 0 y) (snippet_outside n y)) s.marked;
      right = told {at = up} o one r e;
    })

    closed : Closed P R t S L
    closed = record {
      ended = λ v a b z e f h l r. ended v a b h l r (last_told h l e, last_told h r f);
      top = λ side x y i j a b child s o h l r. met y child.inner (child_below child) x (loop_at n x) (down_at n 0 y) a b l r (inl (sym (parent child), refl, refl))
          (meets_told {up = loop_at n x} {down = down_at n 0 y} (inl (omega arith)) (inr (omega arith)) (λ i j l r. loops x i j h l r) (down_tells child) l r s o);
      bottom = λ side x y i j a b child s o h l r. met y child.inner h y (up_at n 0 y) (loop_at n y) a b l r (inr (refl, refl, refl))
          (meets_told {up = up_at n 0 y} {down = loop_at n y} (inr (omega arith)) (inl (omega arith)) (up_tells child) (λ i j l r. loops y i j h l r) l r s o);
      rise = λ side x y a b i j child c e found h l r. subst (λ (z : ℕ). Related q (pair_at n z) a b) (parent child)
          (still.0 y child.inner (child_below child) a b l r (record {
            first = i;
            second = j;
            first_few = few c l;
            second_few = few e r;
            left = told {at = down_at n 0 y} (inr (omega arith)) (down_tells child) l c;
            pair = found (child_below child) (few c l) (few e r);
            right = told {at = down_at n 0 y} (inr (omega arith)) (down_tells child) r e;
          }));
      fall = λ side x y a b i j child c e found h l r.
          still.1 y child.inner h a b l r (record {
            first = i;
            second = j;
            first_few = few c l;
            second_few = few e r;
            left = told {at = up_at n 0 y} (inr (omega arith)) (up_tells child) l c;
            pair = subst (λ (z : ℕ). Related q (pair_at n z) i j) (sym (parent child)) (found (let b = child_after stage.formed child in omega arith) (few c l) (few e r));
            right = told {at = up_at n 0 y} (inr (omega arith)) (up_tells child) r e;
          });
    }

    -- the pairs of a node are those that are settled from it
    pub related_settles : Held m.last n n q → (v a b : ℕ) → v < n → a < 16 → b < 16 → Related q (pair_at n v) a b ↔ Settles P R t (Marked t n p) v a b
    related_settles held v a b h l r = (
      λ e. derived_settles (derived_kept (within_back framed) m.last (held v a b h l r e)),
      λ s. closed_settles P R t S stage.formed L closed (λ x y i j z. (z.side, z.child)) v a b (let e = stage.drawn.size in omega arith) s h l r,
    )
