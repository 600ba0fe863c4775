-- The loop that looks for the smallest rank from a number on: the nodes from v on are seen.
use Prim.Native.Nat.{ℕ, ◌-◌, ◌≤◌, ◌<◌}
use mathlib.Core.Path.{◌≡◌, sym, ap, ◌∙◌}
use native.Mathlib.Omega.{arith}
use native.Mathlib.Decide.{ℕ_discrete}
use Rattle.constants.specs.Places.{Nearest}

-- `least` is n, which is no rank, as long as no node was found
pub record Nearing (n : ℕ) (rank : ℕ → ℕ) (low best least v : ℕ) : Type 0 where
  pub seen : v ≤ n
  pub within : best ≤ n
  pub small : least ≤ n
  pub some : least < n → best < n
  pub found : best < n → (least ≡ rank best) × (low ≤ least) × (least < n)
  pub smallest : (w : ℕ) → v ≤ w → w < n → low ≤ rank w → rank w < n → least ≤ rank w

pub nearing_none : (n : ℕ) (rank : ℕ → ℕ) (low : ℕ) → Nearing n rank low n n n
nearing_none n rank low =
    record {
      seen = omega arith;
      within = omega arith;
      small = omega arith;
      some = λ l. l;
      found = λ l. absurd (omega arith);
      smallest = λ w a b l k. absurd (omega arith);
    }

module _ {n : ℕ} {rank : ℕ → ℕ} {low best least v r : ℕ} (h : Nearing n rank low best least v) (pos : 0 < v) (e : r ≡ rank (v - 1)) where
  -- a bound that holds of the nodes so far holds of the next one too
  further : {x : ℕ} → x ≤ least → (low ≤ r → r < n → x ≤ r) → (w : ℕ) → v - 1 ≤ w → w < n → low ≤ rank w → rank w < n → x ≤ rank w
  further {x} m f w a b l k = go (ℕ_discrete w (v - 1))
    where
      go : Dec (w ≡ v - 1) → x ≤ rank w
      go (yes q) = let z : rank w ≡ r = ap rank q ∙ sym e in let y = f (omega arith) (omega arith) in omega arith
      go (no q) = let y = h.smallest w (omega arith) b l k in omega arith

  -- the next node does not come nearer
  pub nearing_skip : (low ≤ r → r < n → least ≤ r) → Nearing n rank low best least (v - 1)
  nearing_skip f =
      let s = h.seen in
      record {
        seen = omega arith;
        within = h.within;
        small = h.small;
        some = h.some;
        found = h.found;
        smallest = further (omega arith) f;
      }

  -- it does
  pub nearing_take : low ≤ r → r < least → Nearing n rank low (v - 1) r (v - 1)
  nearing_take k l =
      let s = h.seen in let m = h.small in
      record {
        seen = omega arith;
        within = omega arith;
        small = omega arith;
        some = λ z. omega arith;
        found = λ z. (e, k, omega arith);
        smallest = further (omega arith) (λ a b. omega arith);
      }

pub nearing_all : {n : ℕ} {rank : ℕ → ℕ} {low best least v : ℕ} → Nearing n rank low best least v → v ≤ 0 → Nearest n rank low best
nearing_all h l =
    record {
      within = h.within;
      high = λ b. let f = h.found b in let e = f.0 in let k = f.1 in let m = f.2 in (omega arith, omega arith);
      least = λ w b k m. let q = h.smallest w (omega arith) b k m in let s = h.some (omega arith) in let e = (h.found s).0 in (s, omega arith);
    }
