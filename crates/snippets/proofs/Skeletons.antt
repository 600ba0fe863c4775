-- The closest common ancestor, and the skeleton of a value, which can be decided.
use Prim.Native.Nat.{ℕ, suc, ◌<◌}
use mathlib.Core.Path.{◌≡◌, sym, subst}
use mathlib.Core.Logic.{◌⊎◌, inl, inr}
use mathlib.Core.List.{List, List-discrete}
use native.Mathlib.Decide.{ℕ_discrete, dec_lt}
use Rattle.lists.proofs.Search.{search_below}
use Rattle.xpath.specs.Tree.{Tree, WellFormed, Down, here, deeper, Under}
use Rattle.xpath.proofs.Trees.{under_antisym, under_up, under_child, root, dec_under}
use Rattle.snippets.specs.Snippets.{Closest, Has, Skeleton}

-- ── The closest common ancestor ──
module _ (t : Tree) (wf : WellFormed t) where
  closest_by : (u w n : ℕ) → w < t.size → Down t 0 u n → (x : ℕ) × Closest t x u w
  closest_by u w n r here = (0, record { left = (0, here); right = root t wf w r; closest = λ s a b. a })
  closest_by u w n r (deeper {y = y} {n = m} {side = side} d c) = go (dec_under t wf u w r) (closest_by y w m r d)
    where
      go : Dec (Under t u w) → (x : ℕ) × Closest t x y w → (x : ℕ) × Closest t x u w
      go (yes h) k = (u, record { left = (0, here); right = h; closest = λ s a b. a })
      go (no f) (x, k) = (x, record { left = under_child t wf side x y u c k.left; right = k.right; closest = λ s a b. step s b (under_up t wf side s y u c a) })
        where
          step : (s : ℕ) → Under t s w → (s ≡ u) ⊎ Under t s y → Under t s x
          step s b (inl e) = absurd (f (subst (λ i. Under t i w) e b))
          step s b (inr h) = k.closest s h b

  pub closest : (u w : ℕ) → u < t.size → w < t.size → (x : ℕ) × Closest t x u w
  closest u w q r = let (n, d) = root t wf u q in closest_by u w n r d

  pub closest_one : (x y u w : ℕ) → Closest t x u w → Closest t y u w → x ≡ y
  closest_one x y u w a b = under_antisym t wf x y (b.closest x a.left a.right) (a.closest y b.left b.right)

  dec_closest : (x u w : ℕ) → u < t.size → w < t.size → Dec (Closest t x u w)
  dec_closest x u w q r = let (y, c) = closest u w q r in go y c (ℕ_discrete x y)
    where
      go : (y : ℕ) → Closest t y u w → Dec (x ≡ y) → Dec (Closest t x u w)
      go y c (yes e) = yes (subst (λ i. Closest t i u w) (sym e) c)
      go y c (no f) = no (λ k. f (closest_one x y u w k c))

  -- ── The skeleton is decided ──
  module _ (d : List ℕ) where
    dec_has : (w : ℕ) → Dec (Has t d w)
    dec_has w = go (dec_lt w t.size) (List-discrete ℕ_discrete (t.value w) d)
      where
        go : Dec (w < t.size) → Dec (t.value w ≡ d) → Dec (Has t d w)
        go (yes r) (yes e) = yes (record { inside = r; value = e })
        go (yes r) (no f) = no (λ h. f h.value)
        go (no f) k = no (λ h. f h.inside)

    abbrev Meets : ℕ → ℕ → ℕ → Type 0
    Meets x u w = Has t d u × Has t d w × Closest t x u w

    dec_meets : (x u w : ℕ) → Dec (Meets x u w)
    dec_meets x u w = go (dec_has u) (dec_has w)
      where
        last : Has t d u → Has t d w → Dec (Closest t x u w) → Dec (Meets x u w)
        last h g (yes c) = yes (h, g, c)
        last h g (no f) = no (λ m. f m.2)

        go : Dec (Has t d u) → Dec (Has t d w) → Dec (Meets x u w)
        go (yes h) (yes g) = last h g (dec_closest x u w h.inside g.inside)
        go (yes h) (no f) = no (λ m. f m.1)
        go (no f) k = no (λ m. f m.0)

    pub dec_skeleton : (x : ℕ) → Dec (Skeleton t d x)
    dec_skeleton x = go (search_below t.size (λ u. (w : ℕ) × (w < t.size) × Meets x u w) (λ u. search_below t.size (λ w. Meets x u w) (λ w. dec_meets x u w)))
      where
        go : Dec ((u : ℕ) × (u < t.size) × ((w : ℕ) × (w < t.size) × Meets x u w)) → Dec (Skeleton t d x)
        go (yes (u, q, (w, r, m))) = yes (record { u = u; w = w; has_u = m.0; has_w = m.1; meet = m.2 })
        go (no f) = no (λ s. f (s.u, s.has_u.inside, (s.w, s.has_w.inside, (s.has_u, s.has_w, s.meet))))

    -- ── The lowest skeleton node on a way ──
    -- the lowest skeleton node at or above z
    pub lowest : (a z n : ℕ) → Skeleton t d a → Down t a z n
        → (x : ℕ) × Skeleton t d x × Under t a x × Under t x z × ((s : ℕ) → Skeleton t d s → Under t s z → Under t s x)
    lowest a z n k here = (a, k, (0, here), (0, here), λ s q h. h)
    lowest a z n k (deeper {y = y} {n = m} {side = side} e c) = go (dec_skeleton z) (lowest a y m k e)
      where
        go : Dec (Skeleton t d z) → (x : ℕ) × Skeleton t d x × Under t a x × Under t x y × ((s : ℕ) → Skeleton t d s → Under t s y → Under t s x)
            → (x : ℕ) × Skeleton t d x × Under t a x × Under t x z × ((s : ℕ) → Skeleton t d s → Under t s z → Under t s x)
        go (yes s) r = (z, s, (suc m, deeper e c), (0, here), λ s q h. h)
        go (no f) (x, s, ax, xy, low) = (x, s, ax, under_child t wf side x y z c xy, λ s q h. step s q (under_up t wf side s y z c h))
          where
            step : (s : ℕ) → Skeleton t d s → (s ≡ z) ⊎ Under t s y → Under t s x
            step s q (inl i) = absurd (f (subst (λ i. Skeleton t d i) i q))
            step s q (inr h) = low s q h
