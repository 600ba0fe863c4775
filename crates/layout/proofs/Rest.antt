-- Laws of what may change: columns from one on, and the snippets' rows.
use Prim.Native.Nat.{ℕ, suc, ◌+◌, ◌*◌, ◌≤◌, ◌<◌}
use mathlib.Core.Path.{◌≡◌}
use mathlib.Core.Logic.{inl, ⊎_map}
use mathlib.Core.List.{List}
use native.Mathlib.Nat.{mul-le-mul_right}
use native.Mathlib.Omega.{arith}
use Rattle.layout.specs.Blocks.{Rest}
use Rattle.layout.specs.Words.{word, Within}
use Rattle.layout.proofs.Frames.{within_frame, same_none, same_then, same_wider, frame_same}

pub rest_none : (c n b : ℕ) (p : List ℕ) → Rest c n b p p
rest_none c n b p = record { same = same_none p }

pub rest_then : {c n b : ℕ} {p p₁ p₂ : List ℕ} → Rest c n b p p₁ → Rest c n b p₁ p₂ → Rest c n b p p₂
rest_then g h = record { same = same_then g.same h.same }

-- fewer columns are among more
pub rest_more : {c a n b : ℕ} {p p' : List ℕ} → a ≤ c → Rest c n b p p' → Rest a n b p p'
rest_more {c} {a} {n} l h = let x : a * n ≤ c * n = mul-le-mul_right n l in record { same = same_wider (λ k. ⊎_map (λ q. omega arith) (λ q. q)) h.same }

-- columns alone
pub rest_within : {c d n b : ℕ} {p p' : List ℕ} → d ≤ 16 → Within n c d p p' → Rest c n b p p'
rest_within {d = d} {n} l h = let x : d * n ≤ 16 * n = mul-le-mul_right n l in record { same = frame_same (λ k. ⊎_map (λ q. q) (λ (q, f). omega arith)) (within_frame h) }

-- the columns before them
pub same_word : {c n b : ℕ} {p p' : List ℕ} → Rest c n b p p' → (a v : ℕ) → a < c → v < n → word p' n a v ≡ word p n a v
same_word {c} {n} h a v l r = let y : suc a * n ≤ c * n = mul-le-mul_right n l in h.same.same (a * n + v) (inl (omega arith))
