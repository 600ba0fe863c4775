-- The same links and tests give the same walks, and so the same comparisons.
use Prim.Native.Nat.{ℕ, ◌<◌}
use mathlib.Core.Path.{sym, ◌∙◌, subst₂}
use mathlib.Core.Logic.{◌↔◌}
use mathlib.Core.List.{List}
use native.Mathlib.Omega.{arith}
use Rattle.xpath.specs.Syntax.{Op}
use Rattle.layout.specs.Part.{HIT}
use Rattle.layout.specs.Table.{RANK}
use Rattle.machine.specs.declared.Machine.{Machine}
use Rattle.machine.specs.Walks.{Signed, Stops, Meets, Hits}
use Rattle.reach.proofs.Walks.{walk_same}
use Rattle.rank_sets.specs.Ends.{Held}
use Rattle.rank_sets.proofs.Steady.{held_back, held_at, held_word}

module _ {m : Machine} {n : ℕ} {p p' : List ℕ} (h : Held n p p') where
  stops_on : {i v w : ℕ} → v < n → Stops m n p i v w → Stops m n p' i v w
  stops_on r (j, b, s) = (j, b, walk_same (λ k l q. held_at h k l (omega arith)) r s)

module _ {m : Machine} {n : ℕ} {p p' : List ℕ} (h : Held n p p') where
  pub stops_same : {i v w : ℕ} → v < n → Stops m n p i v w ↔ Stops m n p' i v w
  stops_same r = (stops_on h r, stops_on (held_back h) r)

  meets_on : (q : Op) {v : ℕ} → v < n → Meets m n p q v → Meets m n p' q v
  meets_on q r (w, u, l, k, s, t, c) =
      (w, u, l, k, stops_on h r s, stops_on h r t, subst₂ (λ x y. Signed q n x y) (sym (held_word h RANK w (omega arith) (omega arith) l)) (sym (held_word h RANK u (omega arith) (omega arith) k)) c)

  hits_on : {v : ℕ} → v < n → Hits m n p v → Hits m n p' v
  hits_on r (w, l, s, c) = (w, l, stops_on h r s, held_word h HIT w (omega arith) (omega arith) l ∙ c)

module _ {m : Machine} {n : ℕ} {p p' : List ℕ} (h : Held n p p') where
  pub meets_same : (q : Op) (v : ℕ) → v < n → Meets m n p q v ↔ Meets m n p' q v
  meets_same q v r = (meets_on h q r, meets_on (held_back h) q r)

  pub hits_same : (v : ℕ) → v < n → Hits m n p v ↔ Hits m n p' v
  hits_same v r = (hits_on h r, hits_on (held_back h) r)
