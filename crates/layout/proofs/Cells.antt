-- Where a word stands; one word written, and one more.
use Prim.Native.Nat.{ℕ, ◌*◌, ◌≤◌, ◌<◌}
use mathlib.Core.Path.{◌≡◌, ◌∙◌}
use mathlib.Core.Logic.{◌≢◌}
use mathlib.Core.List.{List, [], ◌∷◌}
use lib.ListN.{length, get_or, set, length-set}
use lib.Seq.{get_or-set_same, get_or-set_other}
use native.Mathlib.Nat.{mul-le-mul_right}
use native.Mathlib.Omega.{arith}
use Rattle.lists.specs.Lists.{All}
use Rattle.layout.specs.Words.{cell, Wrote}
use Rattle.layout.specs.Table.{COLUMNS, Room}

-- a cell of the table lies in the scratch
pub cell_inside : (t : List ℕ) {n c v : ℕ} → c < COLUMNS → v < n → Room n t → cell n c v < length t
cell_inside t {n} {c} h r room = let k : c * n ≤ 15 * n = mul-le-mul_right n (omega arith) in omega arith

pub wrote_one : (t : List ℕ) (i x : ℕ) → i < length t → Wrote ((i, x) ∷ []) t (set t i x)
wrote_one t i x h =
    record {
      long = length-set t i x;
      here = (get_or-set_same t i x 0 h, tt);
      other = λ k n. get_or-set_other t i k x 0 n.0;
    }

pub wrote_then : {ws : List (ℕ × ℕ)} {i x : ℕ} {t t₁ t₂ : List ℕ}
    → Wrote ws t t₁ → All (λ w. w.0 ≢ i) ws → Wrote ((i, x) ∷ []) t₁ t₂ → Wrote ((i, x) ∷ ws) t t₂
wrote_then {ws} {i} {x} {t} {t₁} {t₂} p a q =
    record {
      long = q.long ∙ p.long;
      here = (q.here.0, kept ws a p.here);
      other = λ k n. q.other k (n.0, tt) ∙ p.other k n.1;
    }
  where
    kept : (us : List (ℕ × ℕ)) → All (λ w. w.0 ≢ i) us → All (λ w. get_or t₁ w.0 0 ≡ w.1) us → All (λ w. get_or t₂ w.0 0 ≡ w.1) us
    kept [] b h = tt
    kept (u ∷ us) b h = (q.other u.0 (b.0, tt) ∙ h.0, kept us b.1 h.1)
