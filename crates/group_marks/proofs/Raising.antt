-- The way up from a node w that marks the nodes on it.
use Prim.Native.Nat.{ℕ, suc, ◌+◌, ◌%◌, ◌<◌}
use mathlib.Core.Path.{◌≡◌, refl, sym, ap, ◌∙◌, subst}
use mathlib.Core.Logic.{◌≢◌, ◌⊎◌, inl, inr}
use mathlib.Core.List.{List}
use native.Mathlib.Decide.{ℕ_discrete}
use native.Mathlib.Omega.{arith}
use Rattle.xpath.specs.Tree.{Tree, Child, Under}
use Rattle.xpath.proofs.Trees.{under_refl, under_trans, under_child}
use Rattle.layout.specs.Groups.{MARKED}
use Rattle.layout.specs.Table.{PARENT}
use Rattle.layout.specs.Words.{NONE, word, Within}
use Rattle.layout.proofs.Frames.{within_none, within_then, before_within}
use Rattle.machine.specs.Shape.{Shape}
use Rattle.group_marks.specs.Groups.{IsMarked, IsNoted}
use Rattle.group_marks.specs.Steps.{Marking, Noting, Fork, Closed, Raised, Joined}
use Rattle.machine.proofs.Shape.{parent_case, shape_within}
use Rattle.group_marks.proofs.Noting.{fork_note}

-- ── The way ends ──
-- one more than the number of a node, and 0 for no node
abbrev pub height : ℕ → ℕ
height v = (v + 1) % 65_536

pub height_less : {t : Tree} {n : ℕ} {p : List ℕ} → Shape t n p → (v : ℕ) → v < n → height (word p n PARENT v) < height v
height_less {t} {n} {p} s v r = go (parent_case s v r)
  where
    go : ((v ≡ 0) × (word p n PARENT v ≡ NONE)) ⊎ ((word p n PARENT v < v) × Child t (t.is_left v) (word p n PARENT v) v) → height (word p n PARENT v) < height v
    go (inl (i, none)) = let few = s.few in omega arith
    go (inr (i, c)) = let few = s.few in omega arith

-- ── The marks ──
-- all nodes from w up to v, v not among them, are marked: so the parents of marked nodes are marked, or v; and where two marked nodes meet, the block is noted, or it is at v, which had its mark before
pub record Raising (n w v : ℕ) (p₀ p : List ℕ) : Type 0 where
  pub inside : w < n
  pub within : Within n MARKED (suc MARKED) p₀ p
  pub up : (u : ℕ) → u < n → IsMarked p n u → word p₀ n PARENT u < n → (word p₀ n PARENT u ≡ v) ⊎ IsMarked p n (word p₀ n PARENT u)
  pub forked : (x a b : ℕ) → x < n → Fork n p x a b → IsNoted p n x ⊎ ((x ≡ v) × IsMarked p n x)
  pub grows : (u : ℕ) → u < n → IsMarked p₀ n u → IsMarked p n u
  pub notes : (u : ℕ) → u < n → IsNoted p₀ n u → IsNoted p n u
  pub begun : (w ≡ v) ⊎ IsMarked p n w
  pub sound : (t : Tree) → Shape t n p₀ → (u : ℕ) → u < n → IsMarked p n u → IsMarked p₀ n u ⊎ Under t u w
  pub way : (t : Tree) → Shape t n p₀ → v < n → Under t v w

pub raising_none : {n : ℕ} {p : List ℕ} {w : ℕ} → w < n → Closed n p → Raising n w w p p
raising_none {n} {p} {w} l c =
    record {
      inside = l;
      within = within_none p;
      up = λ u l a r. inr (c.up u l a r);
      forked = λ x a b l f. inl (c.forked x a b l f);
      grows = λ u l a. a;
      notes = λ u l a. a;
      begun = inl refl;
      sound = λ t s u l a. inl a;
      way = λ t s l. under_refl t s.formed w;
    }

fork_swap : {n x a b : ℕ} {p : List ℕ} → Fork n p x a b → Fork n p x b a
fork_swap f = record { one = f.two; two = f.one; apart = λ e. f.apart (sym e); over = f.also; also = f.over }

pub raising_step : {t : Tree} {n w v x : ℕ} {p₀ p p' : List ℕ} → Shape t n p₀ → Raising n w v p₀ p → v < n → ¬ IsMarked p n v → Marking n v p p' → x ≡ word p' n PARENT v → Raising n w x p₀ p'
raising_step {n = n} {w} {v} {x} {p₀} {p} {p'} shape g r bare new e =
    record {
      inside = g.inside;
      within = within;
      up = λ u l a i. up u l a i (ℕ_discrete u v);
      forked = λ y a b l f. forked y a b l f (ℕ_discrete a v) (ℕ_discrete b v);
      grows = λ u l a. stays u l (g.grows u l a);
      notes = λ u l a. new.notes u l (g.notes u l a);
      begun = begun g.begun;
      sound = λ t s u l a. sound t s u l a (ℕ_discrete u v);
      way = λ t s l. way t s l (parent_case s v r);
    }
  where
    within : Within n MARKED (suc MARKED) p₀ p'
    within = within_then g.within new.within

    parent : word p₀ n PARENT v ≡ x
    parent = sym (e ∙ before_within within PARENT v (omega arith) r)

    here : (u : ℕ) → u ≡ v → IsMarked p' n u
    here u i = subst (λ (j : ℕ). IsMarked p' n j) (sym i) new.here

    stays : (u : ℕ) → u < n → IsMarked p n u → IsMarked p' n u
    stays u l a = go (ℕ_discrete u v)
      where
        go : Dec (u ≡ v) → IsMarked p' n u
        go (yes i) = here u i
        go (no f) = new.other u l f ∙ a

    up : (u : ℕ) → u < n → IsMarked p' n u → word p₀ n PARENT u < n → Dec (u ≡ v) → (word p₀ n PARENT u ≡ x) ⊎ IsMarked p' n (word p₀ n PARENT u)
    up u l a i (yes j) = inl (ap (λ (k : ℕ). word p₀ n PARENT k) j ∙ parent)
    up u l a i (no f) = go (g.up u l (sym (new.other u l f) ∙ a) i)
      where
        go : (word p₀ n PARENT u ≡ v) ⊎ IsMarked p n (word p₀ n PARENT u) → (word p₀ n PARENT u ≡ x) ⊎ IsMarked p' n (word p₀ n PARENT u)
        go (inl j) = inr (here (word p₀ n PARENT u) j)
        go (inr b) = inr (stays (word p₀ n PARENT u) i b)

    -- the other child of v's parent was marked, so the parent had its mark
    beside : (y a b : ℕ) → y < n → Fork n p' y a b → a ≡ v → b ≢ v → (y ≡ x) × IsMarked p' n y
    beside y a b l f i j =
        let k : y ≡ x = sym f.over ∙ ap (λ (z : ℕ). word p' n PARENT z) i ∙ sym e in
        let q : word p₀ n PARENT b ≡ y = sym (before_within within PARENT b (omega arith) f.two.0) ∙ f.also in
        (k, stays y l (go q k (g.up b f.two.0 (sym (new.other b f.two.0 j) ∙ f.two.1) (omega arith))))
      where
        go : word p₀ n PARENT b ≡ y → y ≡ x → (word p₀ n PARENT b ≡ v) ⊎ IsMarked p n (word p₀ n PARENT b) → IsMarked p n y
        go q k (inl z) = let h = height_less shape v r in let m = parent in let o : word p₀ n PARENT v ≡ v = omega arith in absurd (omega arith)
        go q k (inr z) = subst (λ (c : ℕ). IsMarked p n c) q z

    forked : (y a b : ℕ) → y < n → Fork n p' y a b → Dec (a ≡ v) → Dec (b ≡ v) → IsNoted p' n y ⊎ ((y ≡ x) × IsMarked p' n y)
    forked y a b l f (yes i) (yes j) = absurd (f.apart (i ∙ sym j))
    forked y a b l f (yes i) (no j) = inr (beside y a b l f i j)
    forked y a b l f (no i) (yes j) = inr (beside y b a l (fork_swap f) j i)
    forked y a b l f (no i) (no j) =
        go (g.forked y a b l (record {
          one = (f.one.0, sym (new.other a f.one.0 i) ∙ f.one.1);
          two = (f.two.0, sym (new.other b f.two.0 j) ∙ f.two.1);
          apart = f.apart;
          over = sym (before_within new.within PARENT a (omega arith) f.one.0) ∙ f.over;
          also = sym (before_within new.within PARENT b (omega arith) f.two.0) ∙ f.also;
        }))
      where
        go : IsNoted p n y ⊎ ((y ≡ v) × IsMarked p n y) → IsNoted p' n y ⊎ ((y ≡ x) × IsMarked p' n y)
        go (inl k) = inl (new.notes y l k)
        go (inr (k, m)) = absurd (bare (subst (λ (z : ℕ). IsMarked p n z) k m))

    begun : (w ≡ v) ⊎ IsMarked p n w → (w ≡ x) ⊎ IsMarked p' n w
    begun (inl i) = inr (here w i)
    begun (inr a) = inr (stays w g.inside a)

    sound : (t : Tree) → Shape t n p₀ → (u : ℕ) → u < n → IsMarked p' n u → Dec (u ≡ v) → IsMarked p₀ n u ⊎ Under t u w
    sound t s u l a (yes i) = inr (subst (λ j. Under t j w) (sym i) (g.way t s r))
    sound t s u l a (no f) = g.sound t s u l (sym (new.other u l f) ∙ a)

    way : (t : Tree) → Shape t n p₀ → x < n
        → ((v ≡ 0) × (word p₀ n PARENT v ≡ NONE)) ⊎ ((word p₀ n PARENT v < v) × Child t (t.is_left v) (word p₀ n PARENT v) v) → Under t x w
    way t s l (inl (i, none)) = let few = s.few in let j = parent in absurd (omega arith)
    way t s l (inr (i, c)) =
        let wf = s.formed in
        subst (λ j. Under t j w) parent
        (under_trans t wf (word p₀ n PARENT v) v w (under_child t wf (t.is_left v) (word p₀ n PARENT v) (word p₀ n PARENT v) v c (under_refl t wf (word p₀ n PARENT v))) (g.way t s r))

-- a note changes no mark
pub raising_note : {n w v x : ℕ} {p₀ p p' : List ℕ} → Raising n w v p₀ p → Noting n x p p' → Raising n w v p₀ p'
raising_note {n} {w} {v} {x} {p₀} {p} {p'} g h =
    record {
      inside = g.inside;
      within = within_then g.within h.within;
      up = λ u l a i. up (word p₀ n PARENT u) i (g.up u l (back u l a) i);
      forked = λ y a b l f. forked y l (g.forked y a b l (fork_note h f));
      grows = λ u l a. stays u l (g.grows u l a);
      notes = λ u l a. h.notes u l (g.notes u l a);
      begun = up w g.inside g.begun;
      sound = λ t s u l a. g.sound t s u l (back u l a);
      way = g.way;
    }
  where
    stays : (u : ℕ) → u < n → IsMarked p n u → IsMarked p' n u
    stays u l a = h.marks u l ∙ a

    back : (u : ℕ) → u < n → IsMarked p' n u → IsMarked p n u
    back u l a = sym (h.marks u l) ∙ a

    up : (u : ℕ) → u < n → (u ≡ v) ⊎ IsMarked p n u → (u ≡ v) ⊎ IsMarked p' n u
    up u l (inl i) = inl i
    up u l (inr a) = inr (stays u l a)

    forked : (y : ℕ) → y < n → IsNoted p n y ⊎ ((y ≡ v) × IsMarked p n y) → IsNoted p' n y ⊎ ((y ≡ v) × IsMarked p' n y)
    forked y l (inl i) = inl (h.notes y l i)
    forked y l (inr (i, a)) = inr (i, stays y l a)

-- the way ends at a marked node, whose block is noted, or above the root
pub raising_all : {n w v : ℕ} {p₀ p : List ℕ} → Raising n w v p₀ p → (v < n → IsMarked p n v × IsNoted p n v) → Raised n w p₀ p
raising_all {n} {w} {v} {p₀} {p} g end =
    record {
      within = g.within;
      closed = record { up = up; forked = λ x a b l f. met x l (g.forked x a b l f) };
      grows = g.grows;
      notes = g.notes;
      here = last w g.inside g.begun;
      sound = g.sound;
    }
  where
    last : (u : ℕ) → u < n → (u ≡ v) ⊎ IsMarked p n u → IsMarked p n u
    last u l (inl i) = subst (λ (j : ℕ). IsMarked p n j) (sym i) (end (omega arith)).0
    last u l (inr a) = a

    met : (x : ℕ) → x < n → IsNoted p n x ⊎ ((x ≡ v) × IsMarked p n x) → IsNoted p n x
    met x l (inl i) = i
    met x l (inr (i, a)) = subst (λ (j : ℕ). IsNoted p n j) (sym i) (end (omega arith)).1

    up : (u : ℕ) → u < n → IsMarked p n u → word p n PARENT u < n → IsMarked p n (word p n PARENT u)
    up u l a i =
        let e = before_within g.within PARENT u (omega arith) l in let j : word p₀ n PARENT u < n = omega arith in
        subst (λ k. IsMarked p n k) (sym e) (last (word p₀ n PARENT u) j (g.up u l a j))

-- the node's own block is noted before
pub raised_joined : {n w : ℕ} {p p₁ p₂ : List ℕ} → w < n → Noting n w p p₁ → Raised n w p₁ p₂ → Joined n w p p₂
raised_joined {n} {w} {p} {p₁} {p₂} l h g =
    record {
      raised = record {
        within = within_then h.within g.within;
        closed = g.closed;
        grows = λ u i a. g.grows u i (h.marks u i ∙ a);
        notes = λ u i a. g.notes u i (h.notes u i a);
        here = g.here;
        sound = λ t s u i a. sound u i (g.sound t (shape_within (omega arith) h.within s) u i a);
      };
      noted = g.notes w l h.here;
    }
  where
    sound : {t : Tree} (u : ℕ) → u < n → IsMarked p₁ n u ⊎ Under t u w → IsMarked p n u ⊎ Under t u w
    sound u i (inl a) = inl (sym (h.marks u i) ∙ a)
    sound u i (inr b) = inr b
