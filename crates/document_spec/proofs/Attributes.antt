-- The attributes of one element have different labels, and two nodes are attributes of one element exactly if they stand together.
use Prim.Native.Nat.{ℕ, zero, suc, ◌≤◌, ◌<◌}
use mathlib.Core.Path.{◌≡◌, sym, subst}
use mathlib.Core.Logic.{◌⊎◌, inl, inr, ◌≢◌, ◌↔◌}
use mathlib.Core.List.{List}
use native.Mathlib.Omega.{arith}
use native.Mathlib.Decide.{dec_le, dec_lt}
use lib.ListN.{length}
use Rattle.document_spec.specs.Library.{Node, Kind, element, attribute, at, Together, Legal}
use Rattle.document_spec.specs.Verdict.{Accepts}
use Rattle.document_spec.specs.Attributes.{AttributeOf}

-- no attribute is an element
unlike : {k : Kind} → k ≡ attribute → k ≢ element
unlike a b = let z : ◌≡◌ {A = ℕ} 0 1 = cc in omega arith

-- node i is an attribute one deeper than e
abbrev Beneath : List Node → ℕ → ℕ → Type 0
Beneath ns e i = ((at ns i).kind ≡ attribute) × ((at ns i).depth ≡ suc (at ns e).depth)

-- so are all nodes behind the element e up to v
record Run (ns : List Node) (e v : ℕ) : Type 0 where
  before : e < v
  owner : (at ns e).kind ≡ element
  all : (i : ℕ) → e < i → i ≤ v → Beneath ns e i

module _ {ns : List Node} where
  -- one node more
  run_on : (e v : ℕ) → e ≤ v → (at ns e).kind ≡ element → ((i : ℕ) → e < i → i ≤ v → Beneath ns e i) → Beneath ns e (suc v) → Run ns e (suc v)
  run_on e v l o h g = record { before = omega arith; owner = o; all = λ i b m. go i b m (dec_le i v) }
    where
      go : (i : ℕ) → e < i → i ≤ suc v → Dec (i ≤ v) → Beneath ns e i
      go i b m (yes k) = h i b k
      go i b m (no k) = let z : suc v ≡ i = omega arith in subst (Beneath ns e) z g

  -- what is in the run is an attribute of its element
  run_child : {e w : ℕ} → Run ns e w → w < length ns → (u : ℕ) → e < u → u ≤ w → AttributeOf ns e u
  run_child r l u b m =
      let (k, d) = r.all u b m in
      record {
        before = b;
        inside = omega arith;
        kind = k;
        owner = r.owner;
        depth = d;
        between = λ i a c. let x = (r.all i a (omega arith)).1 in omega arith;
      }

  module _ (legal : Legal ns) where
    -- an attribute is right behind its element or another attribute of its depth
    run : (v : ℕ) → v < length ns → (at ns v).kind ≡ attribute → (e : ℕ) × Run ns e v
    run zero l h = absurd (unlike h legal.rooted)
    run (suc v) l h = go (legal.kinds v l h) (run v (omega arith))
      where
        go : (((at ns v).kind ≡ element) × ((at ns (suc v)).depth ≡ suc (at ns v).depth)) ⊎ (((at ns v).kind ≡ attribute) × ((at ns (suc v)).depth ≡ (at ns v).depth))
            → ((at ns v).kind ≡ attribute → (e : ℕ) × Run ns e v) → (e : ℕ) × Run ns e (suc v)
        go (inl (o, d)) f = (v, run_on v v (omega arith) o (λ i b m. absurd (omega arith)) (h, d))
        go (inr (a, d)) f =
            let (e, r) = f a in
            let b = r.before in
            let x = (r.all v b (omega arith)).1 in
            (e, run_on e v (omega arith) r.owner r.all (h, omega arith))

    -- from an element to its attribute all are its attributes
    owned : (e v : ℕ) → AttributeOf ns e v → Run ns e v
    owned e v a = go (run v a.inside a.kind)
      where
        go : (f : ℕ) × Run ns f v → Run ns e v
        go (f, r) = same (dec_lt f e) (dec_lt e f)
          where
            same : Dec (f < e) → Dec (e < f) → Run ns e v
            same (yes l) d = let b = a.before in absurd (unlike (r.all e l (omega arith)).0 a.owner)
            same (no h) (yes l) =
                let b = r.before in
                let x = (r.all v b (omega arith)).1 in
                let y = a.between f l b in
                let z = a.depth in
                absurd (omega arith)
            same (no h) (no g) = let z : f ≡ e = omega arith in subst (λ f. Run ns f v) z r

    -- two attributes of one element stand together
    stand_together : (e u w : ℕ) → AttributeOf ns e u → AttributeOf ns e w → u < w → Together (λ i. (at ns i).kind ≡ attribute) u w
    stand_together e u w a b l = let r = owned e w b in let x = a.before in record { before = l; all = λ i h m. (r.all i (omega arith) m).0 }

    -- 02, (d): no element has two attributes of one label
    pub attributes_differ : (e u w : ℕ) → AttributeOf ns e u → AttributeOf ns e w → u ≢ w → (at ns u).label ≢ (at ns w).label
    attributes_differ e u w a b h = go (dec_lt u w)
      where
        go : Dec (u < w) → (at ns u).label ≢ (at ns w).label
        go (yes l) = legal.distinct u w b.inside (stand_together e u w a b l)
        go (no m) = λ z. legal.distinct w u a.inside (stand_together e w u b a (omega arith)) (sym z)

    -- what Legal asks of nodes that stand together it asks of an element's attributes, no less and no more
    pub together_one_element : (u w : ℕ) → w < length ns
        → Together (λ i. (at ns i).kind ≡ attribute) u w ↔ ((u < w) × ((e : ℕ) × AttributeOf ns e u × AttributeOf ns e w))
    together_one_element u w l = (from, λ (b, (e, x, y)). stand_together e u w x y b)
      where
        from : Together (λ i. (at ns i).kind ≡ attribute) u w → (u < w) × ((e : ℕ) × AttributeOf ns e u × AttributeOf ns e w)
        from t =
            let b = t.before in
            let (e, r) = run w l (t.all w (omega arith) (omega arith)) in
            go e r (dec_lt e u)
          where
            go : (e : ℕ) → Run ns e w → Dec (e < u) → (u < w) × ((e : ℕ) × AttributeOf ns e u × AttributeOf ns e w)
            go e r (yes h) = let b = t.before in (omega arith, (e, run_child r l u h (omega arith), run_child r l w (omega arith) (omega arith)))
            go e r (no h) = let b = r.before in absurd (unlike (t.all e (omega arith) (omega arith)) r.owner)

-- later parts may rely on it
pub accepted_attributes_differ : {s : List ℕ} {ns : List Node} → Accepts s ns → (e u w : ℕ) → AttributeOf ns e u → AttributeOf ns e w → u ≢ w
    → (at ns u).label ≢ (at ns w).label
accepted_attributes_differ a = attributes_differ a.legal
