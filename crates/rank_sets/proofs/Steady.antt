-- Laws of what stays as it was.
use Prim.Native.Nat.{ℕ, ◌*◌, ◌≤◌, ◌<◌}
use mathlib.Core.Path.{◌≡◌, sym, subst}
use mathlib.Core.Logic.{inl, inr}
use mathlib.Core.List.{List, [], ◌∷◌}
use native.Mathlib.Nat.{mul-le-mul_right}
use native.Mathlib.Omega.{arith}
use lib.ListN.{get_or}
use Rattle.layout.specs.Part.{MARK, SEEN, Space}
use Rattle.layout.specs.Table.{LEFT, RANK, SmallRanks}
use Rattle.layout.specs.Words.{cell, word, Wrote, Within}
use Rattle.layout.proofs.Frames.{within_frame, within_put, same_none, same_then, same_back, frame_same}
use Rattle.rank_sets.specs.Ends.{Held, Steady}

-- ── Links, ranks, tests and hits ──
pub held_none : (n : ℕ) (p : List ℕ) → Held n p p
held_none n p = record { middle = same_none p }

pub held_then : {n : ℕ} {p p₁ p₂ : List ℕ} → Held n p p₁ → Held n p₁ p₂ → Held n p p₂
held_then g h = record { middle = same_then g.middle h.middle }

pub held_back : {n : ℕ} {p p' : List ℕ} → Held n p p' → Held n p' p
held_back h = record { middle = same_back h.middle }

module _ {n : ℕ} {p p' : List ℕ} (h : Held n p p') where
  pub held_at : (k : ℕ) → LEFT * n ≤ k → k < SEEN * n → get_or p' k 0 ≡ get_or p k 0
  held_at k l r = h.middle.same k (l, r)

  pub held_word : (c v : ℕ) → LEFT ≤ c → c < SEEN → v < n → word p' n c v ≡ word p n c v
  held_word c v l r b =
      let x : LEFT * n ≤ c * n = mul-le-mul_right n l in let y : c * n ≤ 7 * n = mul-le-mul_right n (omega arith) in
      held_at (cell n c v) (omega arith) (omega arith)

  pub held_space : Space n p → Space n p'
  held_space s = let e = h.middle.long in let r = s.room in record { some = s.some; few = s.few; room = omega arith }

  pub held_small : SmallRanks n p → SmallRanks n p'
  held_small s v l = subst (λ x. x < n) (sym (held_word RANK v (omega arith) (omega arith) l)) (s v l)

-- ── The answers too ──
pub steady_none : (n : ℕ) (p : List ℕ) → Steady n p p
steady_none n p = record { held = held_none n p; answers = same_none p }

pub steady_then : {n : ℕ} {p p₁ p₂ : List ℕ} → Steady n p p₁ → Steady n p₁ p₂ → Steady n p p₂
steady_then g h = record { held = held_then g.held h.held; answers = same_then g.answers h.answers }

-- the marks stand between the answers and the links
pub steady_marks : {n : ℕ} {p p' : List ℕ} → Within n MARK LEFT p p' → Steady n p p'
steady_marks w = let f = within_frame w in record { held = record { middle = frame_same (λ k h. inr h.0) f }; answers = frame_same (λ k l. inl (omega arith)) f }

pub steady_mark : {n r x : ℕ} {p p' : List ℕ} → r < n → Wrote ((cell n MARK r, x) ∷ []) p p' → Steady n p p'
steady_mark r w = steady_marks (within_put (omega arith) (omega arith) r w)
