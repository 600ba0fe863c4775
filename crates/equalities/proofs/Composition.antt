-- From the values in a list to all snippets that they yield, and from those to the answers.
use Prim.Native.Nat.{ℕ, suc, ◌+◌, ◌*◌, ◌^◌, ◌≤◌, ◌<◌}
use mathlib.Core.Path.{◌≡◌, refl, sym, ap, ◌∙◌, subst}
use mathlib.Core.Logic.{◌⊎◌, inl, inr, ⊎_elim, ◌↔◌}
use mathlib.Core.Bool.{false≢true}
use mathlib.Core.List.{List}
use lib.ListN.{length}
use lib.Pow.{pow_pos}
use native.Mathlib.Decide.{ℕ_discrete}
use native.Mathlib.Nat.{mul-le-mul_right}
use native.Mathlib.Omega.{arith}
use Rattle.lists.specs.Lists.{Number}
use Rattle.lists.proofs.Lists.{number_iff}
use Rattle.bits.specs.Sets.{bit}
use Rattle.bits.proofs.SetLaws.{bit_none}
use Rattle.xpath.specs.Syntax.{XPath, size}
use Rattle.xpath.specs.Tree.{Tree, Child, WellFormed, Down, here, deeper}
use Rattle.xpath.proofs.Booleans.{trans}
use Rattle.xpath.proofs.Trees.{down_zero}
use Rattle.snippets.specs.Halves.{Halved, direct}
use Rattle.snippets.specs.Values.{DirectBy, YieldedBy, SettlesBy, IsSnippetBy}
use Rattle.snippets.proofs.Settles.{sound}
use Rattle.snippets.proofs.Counting.{down_inside, ends_small}
use Rattle.snippets.proofs.Halves.{halved_map}
use Rattle.snippets.proofs.Values.{by_yielded, by_down, by_different, every_yielded, every_settles}
use Rattle.layout.specs.Blocks.{BLOCKS, snippet_at, Rest}
use Rattle.layout.specs.Groups.{FIRST, NEXT}
use Rattle.layout.specs.Part.{ANSWER}
use Rattle.layout.specs.Table.{RANK}
use Rattle.layout.specs.Words.{word}
use Rattle.layout.proofs.Frames.{same_wider}
use Rattle.machine.specs.Shape.{Shape}
use Rattle.machine.specs.declared.Machine.{Machine}
use Rattle.matrices.specs.Matrices.{Related}
use Rattle.loops.specs.Loops.{Stage, Looped}
use Rattle.loops.proofs.Kept.{stage_kept}
use Rattle.powers.specs.Powers.{Powers, Ready, Founded, Powered}
use Rattle.powers.specs.Blocks.{BlockRoom}
use Rattle.powers.proofs.Kept.{founded_of, founded_less}
use Rattle.powers.proofs.Rest.{founded_rest, stage_shape}
use Rattle.buckets.specs.Buckets.{Buckets}
use Rattle.buckets.proofs.Least.{buckets_kept}
use Rattle.group_ends.specs.Ends.{Enough}
use Rattle.edge_snippets.specs.Edges.{Gains}
use Rattle.edge_snippets.proofs.Lengths.{exponent_below}
use Rattle.first_snippets.specs.Groups.{Base, AddedBy}
use Rattle.halving.specs.Halving.{Inside, Within, Sets, Marked, Topped, Halving, Counts}
use Rattle.halving.proofs.Families.{topped_of, sets_marked}
use Rattle.halving.proofs.Counting.{counts_sets}
use Rattle.settling.specs.Settled.{Settled}
use Rattle.settling.specs.Settled as pairs
use Rattle.settling.proofs.Finding.{answers_settle}
use Rattle.equalities.specs.Equalities.{Evaluated}
use Rattle.equalities.specs.Steps.{Cleared, Empty, Prepares, Gathers}
use Rattle.equalities.proofs.Clearing.{cleared_empty, cleared_rest}

-- ── What the values in a list yield keeps to the bounds of the words ──
by_within : {P R : XPath} {t : Tree} (vs : List ℕ) {n b : ℕ} → WellFormed t → t.size ≡ n → Enough t b → size P + size R ≤ 14 → Within t n b (YieldedBy t vs P R)
by_within {P} {R} {t} vs {n} {b} wf whole enough few k x y i j z =
    let d = by_down vs wf z in
    let r = down_inside t x y (2 ^ k) (pow_pos k) d in
    let (e, (w, u, v, a, c)) = sound t P R (by_yielded vs z) in
    let f = ends_small P R t i x a.0 w a.1 a.2 in
    let g = ends_small P R t j y c.0 u c.1 c.2 in
    record { power = exponent_below {k = k} {b = b} {l = 2 ^ k} (omega arith) (enough x y (2 ^ k) d); lower = omega arith; apart = d; first = omega arith; second = omega arith }

-- ── What stays ──
halving_rest : {n b : ℕ} {p p' : List ℕ} → Halving n b p p' → Rest 16 n b p p'
halving_rest h = record { same = same_wider (λ k. ⊎_elim (λ l e y i a c d z. omega arith) (λ (l, aside). aside)) h.same }

-- ── Before the snippets ──
module _ {m : Machine} {n : ℕ} {p p₁ : List ℕ} (given : (P R : XPath) × (t : Tree) × Stage P R t m n p) (loops : (P R : XPath) (t : Tree) → Stage P R t m n p → Looped P R t n p p₁) where
  -- p₁ is the part with its loops
  ready : (P R : XPath) (t : Tree) → Stage P R t m n p → Ready P R t m n p₁
  ready P R t stage = let l = loops P R t stage in record { stage = stage_kept l.frame.front stage; loops = l.loops }

  pub looped : ((P R : XPath) × (t : Tree) × Ready P R t m n p₁) × (length p₁ ≡ length p)
  looped = let (P, R, t, stage) = given in ((P, R, t, ready P R t stage), (loops P R t stage).frame.long)

  -- p₂ has its powers too, and p₃ has no snippets
  pub prepared : {b : ℕ} {p₂ p₃ : List ℕ} → 0 < n → ((P R : XPath) (t : Tree) → Ready P R t m n p₁ → Powered P R t n b p₁ p₂) → Cleared n (b * n) p₂ p₃ → Prepares m n b p p₃
  prepared {b} {p₂} {p₃} some powers cleared = record {
    long = rest.same.long ∙ powered.frame.long ∙ found.frame.long;
    front = λ k l. rest.same.same k (inl l) ∙ powered.frame.front k (omega arith) ∙ found.frame.front k l;
    founded = λ P R t stage. let r = ready P R t stage in founded_rest rest (omega arith) (founded_of r (powers P R t r));
    empty = cleared_empty cleared;
  }
    where
      rest : Rest 16 n b p₂ p₃
      rest = cleared_rest cleared some

      found : Looped given.0 given.1 given.2 n p p₁
      found = loops given.0 given.1 given.2 given.3

      powered : Powered given.0 given.1 given.2 n b p₁ p₂
      powered = powers given.0 given.1 given.2 (ready given.0 given.1 given.2 given.3)

-- ── The snippets ──
-- p is the part without snippets, p' with what the first snippets of the values in the list yield
module _ {P R : XPath} {t : Tree} {m : Machine} (vs : List ℕ) {n b : ℕ} {p p' : List ℕ} (f : Founded P R t m n b p) (enough : Enough t b) (some : 0 < b) (empty : Empty n b p) (g : Gains t n b (DirectBy t vs P R) p p') where
  all_within : Within t n b (YieldedBy t vs P R)
  all_within = by_within vs f.stage.formed f.stage.drawn.size enough f.stage.machine.few

  gained_topped : Topped t n b p'
  gained_topped = topped_of t n b p' (λ k y i l r s none. g.top k y i l r s none ∙ empty k y i l r s)

  gained_direct : (k x y i j : ℕ) → Marked t n b p' k x y i j → DirectBy t vs P R k x y i j
  gained_direct k x y i j h = let o = h.inside in go o.power o.lower o.first ((g.rows k x y i j o.power o.lower o.apart o.first o.second).0 h.marked)
    where
      go : k < b → y < n → i < 16 → Related p (snippet_at n k y) i j ⊎ DirectBy t vs P R k x y i j → DirectBy t vs P R k x y i j
      go l r s (inl e) = absurd (false≢true (sym (bit_none j) ∙ ap (λ (w : ℕ). bit w j) (sym (empty k y i l r s)) ∙ e))
      go l r s (inr z) = z

  direct_gained : (k x y i j : ℕ) → DirectBy t vs P R k x y i j → Marked t n b p' k x y i j
  direct_gained k x y i j z = let o = all_within k x y i j (direct z) in record { inside = o; marked = (g.rows k x y i j o.power o.lower o.apart o.first o.second).1 (inr z) }

  -- and p'' with their halves
  module _ {p'' : List ℕ} (powers : Powers P R t n p' b) (h : Halving n b p' p'') where
    all_sets : Sets t n b p'' (YieldedBy t vs P R)
    all_sets = record {
      same = λ k y i j l r s q. let e = same.same k y i j l r s q in (
        λ z. let (x, d, w) = e.0 z in (x, d, halved_map gained_direct w),
        λ (x, d, w). e.1 (x, d, halved_map direct_gained w),
      );
    }
      where
        same : Sets t n b p'' (Halved P R t (Marked t n b p'))
        same = h.sets P R t (record { formed = f.stage.formed; whole = f.stage.drawn.size; few = f.stage.machine.few; powers = powers; topped = gained_topped })

    all_number : {r : ℕ} → Counts n b p'' r → Number (IsSnippetBy t vs (record { first = P; second = R })) r
    all_number c = counts_sets c f.stage.formed all_within all_sets

    -- those of power 0, at the edges of the tree
    edge_marked : (x y i j : ℕ) → pairs.Marked t n p'' x y i j ↔ YieldedBy t vs P R 0 x y i j
    edge_marked x y i j = (
      λ z. let e = f.stage.drawn.size in let r = z.child.inside in
          all.0 (record { inside = record { power = some; lower = omega arith; apart = deeper here z.child; first = z.upper_few; second = z.lower_few }; marked = z.marked }),
      λ z. let w = all.1 z in edge x y w.inside w.marked w.inside.apart,
    )
      where
        all : Marked t n b p'' 0 x y i j ↔ YieldedBy t vs P R 0 x y i j
        all = sets_marked all_sets f.stage.formed all_within 0 x y i j

        edge : (x y : ℕ) → Inside t n b 0 x y i j → Related p'' (snippet_at n 0 y) i j → Down t x y 1 → pairs.Marked t n p'' x y i j
        edge x y o r (deeper {side = side} d c) =
            record { side = side; child = subst (λ (u : ℕ). Child t side u y) (sym (down_zero t f.stage.formed refl d)) c; upper_few = o.first; lower_few = o.second; marked = r }

-- p has no snippets, p₁ has what the first snippets yield, and p₂ their halves too
pub gathered : {vs : List ℕ} {m : Machine} {n b r : ℕ} {p p₁ p₂ : List ℕ} → 0 < b → Empty n b p → AddedBy vs m n b m.first p p₁ → Halving n b p₁ p₂ → Counts n b p₂ r → Gathers vs m n b p p₂ r
gathered {vs} {m} {n} {b} {r} {p} {p₁} {p₂} some empty a h c = record {
  long = h.same.long ∙ a.rest.same.long;
  founded = λ P R t f. founded_rest (halving_rest h) (omega arith) (added f);
  number = λ P R t f enough. all_number vs f enough some empty (gains f) (added f).powers h c;
  marked = λ P R t f enough. edge_marked vs f enough some empty (gains f) (added f).powers h;
}
  where
    added : {P R : XPath} {t : Tree} → Founded P R t m n b p → Founded P R t m n b p₁
    added f = founded_rest a.rest (omega arith) f

    gains : {P R : XPath} {t : Tree} → Founded P R t m n b p → Gains t n b (DirectBy t vs P R) p p₁
    gains {P} {R} {t} f = a.found P R t f f.stage.machine.first

-- ── The answers ──
one_or_none : {A : Type 0} (w : ℕ) → w ≤ 1 → (w ≡ 1) ↔ A → (A × (w ≡ 1)) ⊎ ((¬ A) × (w ≡ 0))
one_or_none {A} w small told = go (ℕ_discrete w 1)
  where
    go : Dec (w ≡ 1) → (A × (w ≡ 1)) ⊎ ((¬ A) × (w ≡ 0))
    go (yes e) = inl (told.0 e, e)
    go (no f) = inr (λ a. f (told.1 a), omega arith)

-- some comparison is given at every step
module _ {m : Machine} {n b : ℕ} {p p₁ : List ℕ} (f : Prepares m n b p p₁) (enough : (t : Tree) → Shape t n p → Enough t b) where
  pub prepared_base : (P R : XPath) × (t : Tree) × Stage P R t m n p → BlockRoom n b p → Buckets n p → Base m n b p₁
  prepared_base (P, R, t, stage) sizes buckets = record {
    first = P;
    second = R;
    tree = t;
    founded = f.founded P R t stage;
    buckets = buckets_kept (same RANK (omega arith)) (same FIRST (omega arith)) (same NEXT (omega arith)) buckets;
    enough = enough t (stage_shape stage);
    sizes = let room = sizes.room in let long = f.long in record { few = sizes.few; low = sizes.low; room = omega arith };
  }
    where
      same : (c : ℕ) → c < 16 → (v : ℕ) → v < n → word p₁ n c v ≡ word p n c v
      same c l v r = let h : suc c * n ≤ 16 * n = mul-le-mul_right n l in f.front (c * n + v) (omega arith)

  module _ {vs : List ℕ} {r : ℕ} {p₂ : List ℕ} (g : Gathers vs m n b p₁ p₂ r) where
    pub gathered_some : (P R : XPath) × (t : Tree) × Stage P R t m n p → (P R : XPath) × (t : Tree) × Stage P R t m n p₂
    gathered_some (P, R, t, stage) = (P, R, t, (g.founded P R t (f.founded P R t stage)).stage)

    -- p is the part at first, p₁ without snippets, p₂ with those of the list, and p₃ with the answers
    pub evaluated : {p₃ : List ℕ} → 0 < b → Settled m n p₂ p₃ → Evaluated vs m n p p₃ r
    evaluated {p₃} some s = record {
      long = s.same.long ∙ g.long ∙ f.long;
      found = λ P R t stage. (number P R t stage, λ v l. one_or_none (word p₃ n ANSWER v) (s.small v l) (settles P R t stage v l));
      whole = λ P R t stage each. (
        number_iff (λ a. every_yielded vs each.every a.power a.x a.y a.p a.q) (number P R t stage),
        λ v l. one_or_none (word p₃ n ANSWER v) (s.small v l) (trans (settles P R t stage v l) (every_settles stage.formed vs each v (let e = stage.drawn.size in omega arith))),
      );
    }
      where
        number : (P R : XPath) (t : Tree) → Stage P R t m n p → Number (IsSnippetBy t vs (record { first = P; second = R })) r
        number P R t stage = g.number P R t (f.founded P R t stage) (enough t (stage_shape stage))

        settles : (P R : XPath) (t : Tree) → Stage P R t m n p → (v : ℕ) → v < n → (word p₃ n ANSWER v ≡ 1) ↔ SettlesBy t vs P R v
        settles P R t stage =
            let founded = f.founded P R t stage in
            answers_settle (founded_less (omega arith) (g.founded P R t founded)) (g.marked P R t founded (enough t (stage_shape stage))) (λ x y i j z. by_different vs z) s

-- there is room for the blocks of exponent 0
pub edges_fit : (n b l : ℕ) → 0 < b → (BLOCKS + 64 * b) * n ≤ l → 176 * n ≤ l
edges_fit n b l some room = let h : 176 * n ≤ (BLOCKS + 64 * b) * n = mul-le-mul_right n (omega arith) in omega arith
