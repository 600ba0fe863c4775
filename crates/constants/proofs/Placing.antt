-- The search by halving: its invariant, and what a comparison with the node in the middle gives.
use Prim.Native.Nat.{ℕ, ◌+◌, ◌≤◌, ◌<◌}
use mathlib.Core.Path.{◌≡◌, sym, ◌∙◌, subst}
use native.Mathlib.Omega.{arith}
use native.Mathlib.Decide.{ℕ_discrete}
use Rattle.std.specs.declared.cmp.Ordering.{Ordering}
use Rattle.std.specs.declared.cmp.Ordering.TheVariants.{Less, Equal, Greater}
use Rattle.constants.specs.Places.{Against, ComparesAt, Nearest, Told, Placed}

-- what is used of the ranks of n nodes
pub record Valued (k : Against) (n : ℕ) (rank : ℕ → ℕ) : Type 0 where
  pub transitive : (x y z : k.Kind) → k.Smaller x y → k.Smaller y z → k.Smaller x z
  pub rises : (v w : ℕ) → v < n → w < n → rank v < n → rank w < n → rank v < rank w → k.Smaller (k.value v) (k.value w)
  pub agrees : (v w : ℕ) → v < n → w < n → rank v < n → rank w < n → rank v ≡ rank w → k.value v ≡ k.value w

-- the ranks below lo belong to smaller values than the constant, those from hi on to greater ones
pub record Around (k : Against) (n : ℕ) (rank : ℕ → ℕ) (lo hi : ℕ) : Type 0 where
  pub smaller : (v : ℕ) → v < n → rank v < n → rank v < lo → ComparesAt k v Less
  pub greater : (v : ℕ) → v < n → rank v < n → hi ≤ rank v → ComparesAt k v Greater

pub around_all : (k : Against) (n : ℕ) (rank : ℕ → ℕ) → Around k n rank 0 n
around_all k n rank = record { smaller = λ v l m h. absurd (omega arith); greater = λ v l m h. absurd (omega arith) }

module _ {k : Against} {n : ℕ} {rank : ℕ → ℕ} where
  -- no node has a rank from mid on
  pub around_none : {lo hi mid v : ℕ} → Around k n rank lo hi → Nearest n rank mid v → v ≡ n → Around k n rank lo mid
  around_none a m e = record { smaller = a.smaller; greater = λ w l s h. let q = (m.least w l h s).0 in absurd (omega arith) }

  pub placed_between : {lo hi : ℕ} → Around k n rank lo hi → hi ≤ lo → Placed k n rank (record { first = lo; behind = lo })
  placed_between {lo} {hi} a e = record { tells = go }
    where
      go : (v : ℕ) (o : Ordering) → v < n → rank v < n → Told (record { first = lo; behind = lo }) (rank v) o → ComparesAt k v o
      go v Less l s h = a.smaller v l s h
      go v Equal l s h = let x = h.0 in let y = h.1 in absurd (omega arith)
      go v Greater l s h = a.greater v l s (omega arith)

  -- ── A node v whose value was read ──
  module _ (g : Valued k n rank) {mid v r : ℕ} (m : Nearest n rank mid v) (z : v < n) (e : r ≡ rank v) where
    pub around_smaller : {lo hi : ℕ} → Around k n rank lo hi → ComparesAt k v Less → Around k n rank (r + 1) hi
    around_smaller a h = record { smaller = λ w l s q. go w l s (omega arith) (ℕ_discrete (rank w) (rank v)); greater = a.greater }
      where
        go : (w : ℕ) → w < n → rank w < n → rank w ≤ rank v → Dec (rank w ≡ rank v) → ComparesAt k w Less
        go w l s q (yes p) = subst (λ x. k.Smaller x k.wanted) (sym (g.agrees w v l z s (m.high z).1 p)) h
        go w l s q (no p) = g.transitive (k.value w) (k.value v) k.wanted (g.rises w v l z s (m.high z).1 (omega arith)) h

    pub around_greater : {lo hi : ℕ} → Around k n rank lo hi → ComparesAt k v Greater → Around k n rank lo mid
    around_greater a h = record { smaller = a.smaller; greater = λ w l s q. go w l s (m.least w l q s).1 (ℕ_discrete (rank v) (rank w)) }
      where
        go : (w : ℕ) → w < n → rank w < n → rank v ≤ rank w → Dec (rank v ≡ rank w) → ComparesAt k w Greater
        go w l s q (yes p) = subst (λ x. k.Smaller k.wanted x) (g.agrees v w z l (m.high z).1 s p) h
        go w l s q (no p) = g.transitive k.wanted (k.value v) (k.value w) h (g.rises v w z l (m.high z).1 s (omega arith))

    pub placed_same : ComparesAt k v Equal → Placed k n rank (record { first = r; behind = r + 1 })
    placed_same h = record { tells = go }
      where
        go : (w : ℕ) (o : Ordering) → w < n → rank w < n → Told (record { first = r; behind = r + 1 }) (rank w) o → ComparesAt k w o
        go w Less l s q = subst (λ x. k.Smaller (k.value w) x) h (g.rises w v l z s (m.high z).1 (omega arith))
        go w Equal l s q = let x = q.0 in let y = q.1 in g.agrees w v l z s (m.high z).1 (omega arith) ∙ h
        go w Greater l s q = subst (λ x. k.Smaller x (k.value w)) h (g.rises v w z l (m.high z).1 s (omega arith))
