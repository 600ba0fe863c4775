-- The next marked node is one node. The search for it.
use Prim.Native.Nat.{ℕ, ◌+◌, ◌≤◌, ◌<◌}
use mathlib.Core.Path.{◌≡◌, subst}
use mathlib.Core.List.{List}
use lib.ListN.{length}
use native.Mathlib.Decide.{dec_lt}
use native.Mathlib.Omega.{arith}
use Rattle.streams.specs.Output.{Marked, NextMarked}

not_lower : {marks : List ℕ} {from r q : ℕ} → NextMarked marks from r → NextMarked marks from q → ¬ (r < q)
not_lower {r = r} h g l = let (f, m) = h.marked (omega arith) in g.first r f l m

pub next_one : {marks : List ℕ} {from r q : ℕ} → NextMarked marks from r → NextMarked marks from q → r ≡ q
next_one h g = omega (arith, not_lower h g, not_lower g h)

-- ── The search: from `from` on no node below n is marked ──
pub record Passed (marks : List ℕ) (from n : ℕ) : Type 0 where
  pub behind : from ≤ n
  pub none : (v : ℕ) → from ≤ v → v < n → ¬ Marked marks v

pub passed_none : (marks : List ℕ) (from : ℕ) → Passed marks from from
passed_none marks from = record { behind = omega arith; none = λ v l m. absurd (omega arith) }

pub passed_more : {marks : List ℕ} {from n : ℕ} → Passed marks from n → ¬ Marked marks n → Passed marks from (n + 1)
passed_more {marks} {from} {n} h f = record { behind = omega arith; none = λ v l m. go v l m (dec_lt v n) }
  where
    go : (v : ℕ) → from ≤ v → v < n + 1 → Dec (v < n) → ¬ Marked marks v
    go v l m (yes k) = h.none v l k
    go v l m (no k) = let e : n ≡ v = omega arith in subst (λ w. ¬ Marked marks w) e f

pub next_found : {marks : List ℕ} {from n : ℕ} → Passed marks from n → n < length marks → Marked marks n → NextMarked marks from n
next_found h l m = record { inside = omega arith; marked = λ _. (h.behind, m); first = h.none }

pub next_none : {marks : List ℕ} {from n : ℕ} → Passed marks from n → length marks ≤ n → NextMarked marks from (length marks)
next_none h l = record { inside = omega arith; marked = λ k. absurd (omega arith); first = λ v f k. h.none v f (omega arith) }
