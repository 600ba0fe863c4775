-- The copies of the links and of the ranks.
use Prim.Native.Nat.{ℕ, suc, ◌+◌, ◌-◌, ◌*◌, ◌≤◌, ◌<◌}
use mathlib.Core.Path.{◌≡◌, subst₂}
use mathlib.Core.List.{List}
use native.Mathlib.Nat.{mul-le-mul_right, add-mul}
use native.Mathlib.Omega.{arith}
use lib.ListN.{get_or}
use Rattle.layout.specs.Table.{COLUMNS, LEFT, PARENT, RANK}
use Rattle.layout.specs.Words.{word}
use Rattle.layout.proofs.Frames.{frame_wider, frame_within}
use Rattle.staging.specs.Drawing.{Repeated, Copied, RanksCopied}
use Rattle.staging.proofs.Drawn.{Drawn}

-- x is the word k behind `from`
abbrev pub Taken : List ℕ → ℕ → ℕ → ℕ → Type 0
Taken t from k x = x ≡ get_or t (from + k) 0

pub taken_all : {from to size i : ℕ} {t t' : List ℕ} → Drawn (Taken t from) to size i t t' → size ≤ i → Repeated from to size t t'
taken_all d l = record { frame = d.frame; again = λ k h. d.done k (omega arith) }

-- three columns from LEFT on
pub links_copied : {n : ℕ} {t t' : List ℕ} → Repeated (LEFT * n) ((COLUMNS + LEFT) * n) (3 * n) t t' → Copied n t t'
links_copied {n} {t} {t'} f = record { within = frame_within n (COLUMNS + LEFT) (COLUMNS + PARENT + 1) (frame_wider (omega arith) (omega arith) f.frame); copied = go }
  where
    go : (c v : ℕ) → LEFT ≤ c → c ≤ PARENT → v < n → word t' n (COLUMNS + c) v ≡ word t n c v
    go c v low high r =
        let a : LEFT * n ≤ c * n = mul-le-mul_right n low in let b : c * n ≤ PARENT * n = mul-le-mul_right n high in
        let e : (COLUMNS + c) * n ≡ COLUMNS * n + c * n = add-mul COLUMNS c n in
        let k : ℕ = c * n + v - LEFT * n in
        let to : (COLUMNS + LEFT) * n + k ≡ (COLUMNS + c) * n + v = omega arith in
        let from : LEFT * n + k ≡ c * n + v = omega arith in
        subst₂ (λ (i j : ℕ). get_or t' i 0 ≡ get_or t j 0) to from (f.again k (omega arith))

-- one column, which ends where the table does or before
pub column_ends : {c : ℕ} (n : ℕ) → c < COLUMNS → c * n + n ≤ COLUMNS * n
column_ends {c} n l = let h : suc c * n ≤ COLUMNS * n = mul-le-mul_right n l in omega arith

pub ranks_copied : {n c : ℕ} {t t' : List ℕ} → Repeated (c * n) ((COLUMNS + RANK) * n) n t t' → RanksCopied n c t t'
ranks_copied {n} f = record { within = frame_within n (COLUMNS + RANK) (COLUMNS + RANK + 1) (frame_wider (omega arith) (omega arith) f.frame); copied = f.again }
