-- Laws of walks: a walk goes on at its end, and the same links give the same steps.
use Prim.Native.Nat.{ℕ, ◌*◌, ◌≤◌, ◌<◌}
use mathlib.Core.Path.{◌≡◌, ap, ◌∙◌}
use mathlib.Core.Bool.{true}
use mathlib.Core.List.{List}
use native.Mathlib.Omega.{arith}
use lib.ListN.{get_or}
use Rattle.bits.specs.Sets.{bit}
use Rattle.layout.specs.Part.{STAYS, HIT}
use Rattle.layout.specs.Table.{LEFT}
use Rattle.layout.specs.Words.{cell}
use Rattle.machine.specs.declared.Machine.{Machine}
use Rattle.machine.specs.Walks.{Leads, left, right, from_left, from_right, stays, Walk, here, on}
use Rattle.machine.proofs.Walking.{walk_inside}

pub walk_on : {m : Machine} {n : ℕ} {p : List ℕ} {i v j u k w : ℕ} → Walk m n p i v j u → k < 16 → bit (get_or m.rows j 0) k ≡ true → Leads m n p u k w
    → Walk m n p i v k w
walk_on here h b l = on h b l here
walk_on (on g a s r) h b l = on g a s (walk_on r h b l)

-- the columns from LEFT up to HIT hold all that a step goes by
module _ {m : Machine} {n : ℕ} {p p' : List ℕ} (same : (k : ℕ) → LEFT * n ≤ k → k < HIT * n → get_or p' k 0 ≡ get_or p k 0) where
  pub leads_same : {v j u : ℕ} → v < n → Leads m n p v j u → Leads m n p' v j u
  leads_same h (left a e l) = left a (same _ (omega arith) (omega arith) ∙ e) l
  leads_same h (right a e l) = right a (same _ (omega arith) (omega arith) ∙ e) l
  leads_same h (from_left a e l r) = from_left a (same _ (omega arith) (omega arith) ∙ e) l (same _ (omega arith) (omega arith) ∙ r)
  leads_same h (from_right a e l r) = from_right a (same _ (omega arith) (omega arith) ∙ e) l (same _ (omega arith) (omega arith) ∙ r)
  leads_same {v} {j} h (stays a e) = stays (ap (λ (x : ℕ). bit x j) (same (cell n STAYS v) (omega arith) (omega arith)) ∙ a) e

  pub walk_same : {i v j u : ℕ} → v < n → Walk m n p i v j u → Walk m n p' i v j u
  walk_same h here = here
  walk_same h (on g a s r) = on g a (leads_same h s) (walk_same (walk_inside h (on g a s here)) r)
