-- How many positions are seen: at most 16 at a node, and one more is one more in all.
use Prim.Native.Nat.{ℕ, zero, suc, ◌+◌, ◌*◌, ◌≤◌, ◌<◌, zero-le}
use mathlib.Core.Path.{◌≡◌, refl, ap, ap₂, subst}
use mathlib.Core.Logic.{◌≢◌, ⊎_elim}
use mathlib.Core.List.{List}
use native.Mathlib.Nat.{le_of_suc-le-suc, eq-or-lt_of_le}
use native.Mathlib.Omega.{arith}
use Rattle.bits.specs.Sets.{size}
use Rattle.bits.proofs.SetLaws.{size_le}
use Rattle.layout.specs.Part.{SEEN}
use Rattle.layout.specs.Words.{word}
use Rattle.reach.specs.Work.{total, Work}

pub total_le : (p : List ℕ) (n v : ℕ) → total p n v ≤ 16 * v
unfolding total
total_le p n zero = zero-le
total_le p n (suc v) = let h = total_le p n v in let s = size_le 16 (word p n SEEN v) in omega arith

-- the entries have room
pub work_room : {n len : ℕ} {p : List ℕ} → Work n len p → len ≤ 16 * n
work_room {n} {p} w = let c = w.count in let t = total_le p n n in omega arith

-- where a position is not seen, not all are
pub total_room : (p : List ℕ) (n u v : ℕ) → u < v → size 16 (word p n SEEN u) < 16 → total p n v < 16 * v
unfolding total
total_room p n u zero h l = absurd (omega arith)
total_room p n u (suc v) h l = ⊎_elim
    (λ (e : u ≡ v). let t = total_le p n v in let s = subst (λ (x : ℕ). size 16 (word p n SEEN x) < 16) e l in omega arith)
    (λ (q : u < v). let t = total_room p n u v q l in let s = size_le 16 (word p n SEEN v) in omega arith)
    (eq-or-lt_of_le (le_of_suc-le-suc h))

module _ (p p' : List ℕ) (n u : ℕ) (same : (x : ℕ) → x < n → x ≢ u → word p' n SEEN x ≡ word p n SEEN x) where
  pub total_same : (v : ℕ) → v ≤ n → v ≤ u → total p' n v ≡ total p n v
  unfolding total
  total_same zero h l = refl
  total_same (suc v) h l =
      ap₂ (λ (x y : ℕ). x + y) (total_same v (omega arith) (omega arith)) (ap (size 16) (same v h (omega arith)))

  pub total_more : (v : ℕ) → v ≤ n → u < v → size 16 (word p n SEEN u) < size 16 (word p' n SEEN u) → total p n v < total p' n v
  unfolding total
  total_more zero h l s = absurd (omega arith)
  total_more (suc v) h l s = ⊎_elim
      (λ (e : u ≡ v).
      let t = total_same v (omega arith) (omega arith) in
      let r = subst (λ (x : ℕ). size 16 (word p n SEEN x) < size 16 (word p' n SEEN x)) e s in
      omega arith)
      (λ (q : u < v).
      let t = total_more v (omega arith) q s in
      let e = ap (size 16) (same v h (omega arith)) in
      omega arith)
      (eq-or-lt_of_le (le_of_suc-le-suc l))
