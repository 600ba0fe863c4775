-- The snippets that the first snippets of one value yield, told by the edges of its skeleton; all others come by halving.
use Prim.Native.Nat.{ℕ, suc, ◌^◌, ◌≤◌, ◌<◌}
use mathlib.Core.Path.{refl, sym, subst}
use mathlib.Core.Logic.{◌⊎◌, inl, inr, ◌↔◌}
use mathlib.Core.List.{List}
use Rattle.xpath.specs.Syntax.{XPath}
use Rattle.xpath.specs.Tree.{Tree, Down}
use Rattle.positions.specs.Positions.{Comes}
use Rattle.snippets.specs.Snippets.{Edge, First, Yielded}
use Rattle.snippets.specs.Direct.{FirstOf, Direct, Upper, Lower}
use Rattle.snippets.proofs.Settles.{comes_first, comes_second, back_first, back_second, diff_left, diff_right}

-- ── Snippets that an edge of the skeleton tells ──
module _ (t : Tree) (P R : XPath) where
  module _ (d : List ℕ) where
    abbrev pub OnEdge : (k a b p q : ℕ) → Type 0
    OnEdge k a b p q = (x y n : ℕ) × Edge t d x y n × (2 ^ k ≤ n) × (n < 2 ^ suc k) × (Upper t P R d k x y a b p q ⊎ Lower t P R d k x y a b p q)

    direct_edge : {k a b p q : ℕ} → Direct t P R d k a b p q → OnEdge k a b p q
    direct_edge (Direct.upper {k} {n} {l} {x} {u} {y} {p} {q'} {q} f lo hi xu uy c) = (
      x,
      y,
      n,
      f.edge,
      lo,
      hi,
      inl (record {
        top = refl;
        far = xu;
        rest = (l, uy);
        outside = f.outside;
        q₀ = q;
        inside = f.inside;
        comes = c;
        different = diff_right t P R p q' q (back_first t P R c) (back_second t P R c) f.different;
      }),
    )
    direct_edge (Direct.lower {k} {n} {l} {x} {w} {y} {p} {p'} {q} f lo hi xw wy c) = (
      x,
      y,
      n,
      f.edge,
      lo,
      hi,
      inr (record {
        bottom = refl;
        rest = (l, xw);
        far = wy;
        p₀ = p;
        outside = f.outside;
        comes = c;
        inside = f.inside;
        different = diff_left t P R p' p q (back_first t P R c) (back_second t P R c) f.different;
      }),
    )

    edge_direct : (k a b p q : ℕ) → OnEdge k a b p q → Direct t P R d k a b p q
    edge_direct k a b p q (x, y, n, e, lo, hi, inl h) =
        subst (λ i. Direct t P R d k i b p q) (sym h.top) (Direct.upper
        (record { edge = e; different = diff_right t P R p h.q₀ q (comes_first t P R h.comes) (comes_second t P R h.comes) h.different; outside = h.outside; inside = h.inside })
        lo hi h.far h.rest.1 h.comes)
    edge_direct k a b p q (x, y, n, e, lo, hi, inr h) =
        subst (λ i. Direct t P R d k a i p q) (sym h.bottom) (Direct.lower
        (record { edge = e; different = diff_left t P R h.p₀ p q (comes_first t P R h.comes) (comes_second t P R h.comes) h.different; outside = h.outside; inside = h.inside })
        lo hi h.rest.1 h.far h.comes)

    pub direct_iff : (k a b p q : ℕ) → Direct t P R d k a b p q ↔ OnEdge k a b p q
    direct_iff k a b p q = (direct_edge, edge_direct k a b p q)

  -- ── First snippets, and halves ──
  -- a first snippet is one of its value
  pub first_iff : (x y p q n : ℕ) → First t P R x y p q n ↔ ((d : List ℕ) × FirstOf t P R d x y p q n)
  first_iff x y p q n = (
    λ f. (f.d, record { edge = f.edge; different = f.different; outside = f.outside; inside = f.inside }),
    λ (d, f). record { d = d; edge = f.edge; different = f.different; outside = f.outside; inside = f.inside },
  )

  -- (x, h, p, q) is the upper half of a snippet of power k + 1
  abbrev pub UpperHalf : (k x h p q : ℕ) → Type 0
  UpperHalf k x h p q = (y q₀ : ℕ) × Yielded t P R (suc k) x y p q₀ × Down t x h (2 ^ k) × Down t h y (2 ^ k) × Comes P R t q h q₀ y

  -- (h, y, p, q) is the lower half of one
  abbrev pub LowerHalf : (k h y p q : ℕ) → Type 0
  LowerHalf k h y p q = (x p₀ : ℕ) × Yielded t P R (suc k) x y p₀ q × Down t x h (2 ^ k) × Down t h y (2 ^ k) × Comes P R t p h p₀ x

  -- ── Where a snippet comes from ──
  abbrev Origin : (k x y p q : ℕ) → Type 0
  Origin k x y p q = ((d : List ℕ) × Direct t P R d k x y p q) ⊎ (UpperHalf k x y p q ⊎ LowerHalf k x y p q)

  origin : {k x y p q : ℕ} → Yielded t P R k x y p q → Origin k x y p q
  origin (Yielded.upper {n = n} {x = x} {y = y} {p = p} {q = q} f lo hi xu uy c) = let (d, g) = (first_iff x y p q n).0 f in inl (d, Direct.upper g lo hi xu uy c)
  origin (Yielded.lower {n = n} {x = x} {y = y} {p = p} {q = q} f lo hi xw wy c) = let (d, g) = (first_iff x y p q n).0 f in inl (d, Direct.lower g lo hi xw wy c)
  origin (Yielded.upper_half {y = y} {q = q} z xh hy c) = inr (inl (y, q, z, xh, hy, c))
  origin (Yielded.lower_half {x = x} {p = p} z xh hy c) = inr (inr (x, p, z, xh, hy, c))

  direct_yielded : (d : List ℕ) {k x y p q : ℕ} → Direct t P R d k x y p q → Yielded t P R k x y p q
  direct_yielded d (Direct.upper {n = n} {x = x} {y = y} {p = p} {q = q} f lo hi xu uy c) = Yielded.upper ((first_iff x y p q n).1 (d, f)) lo hi xu uy c
  direct_yielded d (Direct.lower {n = n} {x = x} {y = y} {p = p} {q = q} f lo hi xw wy c) = Yielded.lower ((first_iff x y p q n).1 (d, f)) lo hi xw wy c

  pub yielded_iff : (k x y p q : ℕ) → Yielded t P R k x y p q ↔ (((d : List ℕ) × Direct t P R d k x y p q) ⊎ (UpperHalf k x y p q ⊎ LowerHalf k x y p q))
  yielded_iff k x y p q = (origin, back)
    where
      back : Origin k x y p q → Yielded t P R k x y p q
      back (inl (d, z)) = direct_yielded d z
      back (inr (inl (b, q₀, z, xh, hy, c))) = Yielded.upper_half z xh hy c
      back (inr (inr (a, p₀, z, xh, hy, c))) = Yielded.lower_half z xh hy c
