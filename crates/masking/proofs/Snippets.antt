-- In two trees that are alike the values have the same groups of nodes, though they are other values; so skeletons, first snippets and yielded snippets are the same.
use Prim.Native.Nat.{ℕ, ◌<◌}
use mathlib.Core.Path.{refl, sym, ◌∙◌}
use mathlib.Core.Logic.{◌↔◌}
use mathlib.Core.List.{List, ◌++◌}
use lib.Pow.{pow_pos}
use native.Mathlib.Omega.{arith}
use Rattle.xpath.specs.Syntax.{eq, XPath}
use Rattle.xpath.specs.Tree.{Tree}
use Rattle.xpath.proofs.Booleans.{swap}
use Rattle.xpath.proofs.Trees.{down_le}
use Rattle.snippets.specs.Snippets.{Closest, Has, Skeleton, Edge, First, Yielded, upper, lower, upper_half, lower_half}
use Rattle.snippets.proofs.Counting.{down_inside}
use Rattle.masking.specs.Masking.{in_path}
use Rattle.masking.specs.Alike.{Alike, Within}
use Rattle.masking.proofs.Shape.{inside, alike_sym, down_alike, under_alike}
use Rattle.masking.proofs.Positions.{comes_imp, ends_imp}

-- ── Groups ──
-- the nodes with the value d in t are those with the value d' in t'
abbrev SameGroup : Tree → List ℕ → Tree → List ℕ → Type 0
SameGroup t d t' d' = (w : ℕ) → Has t d w ↔ Has t' d' w

module _ {C : List ℕ → Type 0} where
  has_imp : {t t' : Tree} → Alike C t t' → {d : List ℕ} {u w : ℕ} → Has t d u → Has t d w → Has t' (t'.value u) w
  has_imp a {u = u} {w = w} h g = record { inside = inside a g.inside; value = (a.values w u g.inside h.inside eq).0 (g.value ∙ sym h.value) }

  -- a value that u has: its group is that of u's other value
  group : {t t' : Tree} → Alike C t t' → {d : List ℕ} {u : ℕ} → Has t d u → SameGroup t d t' (t'.value u)
  group {t} {t'} a {d} {u} h w = (has_imp a h, back)
    where
      back : Has t' (t'.value u) w → Has t d w
      back g = let i = has_imp (alike_sym a) {u = u} (record { inside = inside a h.inside; value = refl }) g in record { inside = i.inside; value = i.value ∙ h.value }

  -- ── Skeletons ──
  closest_imp : {t t' : Tree} → Alike C t t' → {x u w : ℕ} → Closest t x u w → Closest t' x u w
  closest_imp a c = record {
    left = under_alike a c.left;
    right = under_alike a c.right;
    closest = λ s h g. under_alike a (c.closest s (under_alike (alike_sym a) h) (under_alike (alike_sym a) g));
  }

  skeleton_imp : {t t' : Tree} → Alike C t t' → {d d' : List ℕ} → SameGroup t d t' d' → {x : ℕ} → Skeleton t d x → Skeleton t' d' x
  skeleton_imp a g s = record { u = s.u; w = s.w; has_u = (g s.u).0 s.has_u; has_w = (g s.w).0 s.has_w; meet = closest_imp a s.meet }

  edge_imp : {t t' : Tree} → Alike C t t' → {d d' : List ℕ} → SameGroup t d t' d' → {x y n : ℕ} → Edge t d x y n → Edge t' d' x y n
  edge_imp a g e = record {
    top = skeleton_imp a g e.top;
    bottom = skeleton_imp a g e.bottom;
    far = down_alike a e.far;
    proper = e.proper;
    nearest = λ s k u f. under_alike a (e.nearest s (skeleton_imp (alike_sym a) (λ w. swap (g w)) k) (under_alike (alike_sym a) u) f);
  }

  -- ── Snippets ──
  module _ (P R : XPath) (k : Within C (in_path P ++ in_path R)) where
    first_imp : {t t' : Tree} → Alike C t t' → {x y p q n : ℕ} → First t P R x y p q n → First t' P R x y p q n
    first_imp {t} {t'} a {x} {y} f =
        let g = group a f.edge.top.has_u in
        let low = down_inside t x y _ f.edge.proper f.edge.far in
        let above = down_le t a.formed f.edge.far in
        let (w, h, b, e) = f.outside in
        let (w', h', b', e') = f.inside in
        record {
          d = t'.value f.edge.top.u;
          edge = edge_imp a g f.edge;
          different = f.different;
          outside = (w, (g w).0 h, λ i. b (under_alike (alike_sym a) i), ends_imp P R k a (omega arith) e);
          inside = (w', (g w').0 h', under_alike a b', ends_imp P R k a low e');
        }

    yielded_imp : {t t' : Tree} → Alike C t t' → {n x y p q : ℕ} → Yielded t P R n x y p q → Yielded t' P R n x y p q
    yielded_imp {t} a (upper {k = n} {x = x} {u = u} f m l d e c) =
        upper (first_imp a f) m l (down_alike a d) (down_alike a e) (comes_imp P R k a (down_inside t x u _ (pow_pos n) d) c)
    yielded_imp {t} a (lower {k = n} {w = w} {y = y} f m l d e c) =
        let i = down_inside t w y _ (pow_pos n) e in
        let j = down_le t a.formed e in
        lower (first_imp a f) m l (down_alike a d) (down_alike a e) (comes_imp P R k a (omega arith) c)
    yielded_imp {t} a (upper_half {k = n} {x = x} {h = h} y d e c) =
        upper_half (yielded_imp a y) (down_alike a d) (down_alike a e) (comes_imp P R k a (down_inside t x h _ (pow_pos n) d) c)
    yielded_imp {t} a (lower_half {k = n} {x = x} {h = h} y d e c) =
        lower_half (yielded_imp a y) (down_alike a d) (down_alike a e) (comes_imp P R k a (down_inside t x h _ (pow_pos n) d) c)

  -- ── The theorems ──
  module _ {t t' : Tree} (a : Alike C t t') where
    -- of a value that a node u has in t, and of the one that u has in t'
    pub skeleton_alike : (u : ℕ) → u < t.size → (x : ℕ) → Skeleton t (t.value u) x ↔ Skeleton t' (t'.value u) x
    skeleton_alike u r x = let g = group a (record { inside = r; value = refl }) in (skeleton_imp a g, skeleton_imp (alike_sym a) (λ w. swap (g w)))

    module _ (P R : XPath) (k : Within C (in_path P ++ in_path R)) where
      pub first_alike : (x y p q n : ℕ) → First t P R x y p q n ↔ First t' P R x y p q n
      first_alike x y p q n = (first_imp P R k a, first_imp P R k (alike_sym a))

      pub yielded_alike : (n x y p q : ℕ) → Yielded t P R n x y p q ↔ Yielded t' P R n x y p q
      yielded_alike n x y p q = (yielded_imp P R k a, yielded_imp P R k (alike_sym a))
