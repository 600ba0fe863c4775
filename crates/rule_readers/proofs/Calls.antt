-- What a reader may hand to the one that it calls.
use Rattle.std.specs.Prelude.{Result, Ok, Err}
use Prim.Native.Nat.{ℕ, suc, ◌≤◌, ◌<◌}
use mathlib.Core.List.{List}
use lib.ListN.{length}
use Rattle.limits.specs.Limits.{rule_nesting}
use Rattle.tokens.specs.declared.heads.TestHead.{TestHead}
use Rattle.tokens.specs.declared.heads.PathHead.{PathHead}
use Rattle.tokens.specs.declared.read.Refusal.{Refusal}
use Rattle.tokens.specs.Readers.{Stands}
use Rattle.tokens.specs.Heads.{TestBegins, PathBegins}
use Rattle.rule_readers.specs.Calls.{Due}

pub due : {s : List ℕ} {i n k : ℕ} → i ≤ length s → n ≤ suc rule_nesting → k ≤ i → Due s i n k
due h l f = record { inside = h; nested = l; few = f }

-- a part begins at i, no deeper than is allowed: one more byte, nesting and step can be counted
pub record Room (s : List ℕ) (i n k : ℕ) : Type 0 where
  pub inside : i < length s
  pub nested : n ≤ rule_nesting
  pub few : k ≤ i

room : {s : List ℕ} {i n k : ℕ} {B : ℕ → Type 0} → Due s i n k → (b : ℕ) × B b × Stands s i b × (n ≤ rule_nesting) → Room s i n k
room p (b, e, h, l) = record { inside = h.inside; nested = l; few = p.few }

-- ── By what begins ──
abbrev pub TestRoom : List ℕ → ℕ → ℕ → ℕ → Result TestHead Refusal → Type 0
TestRoom s i n k (Ok h) = Room s i n k
TestRoom s i n k (Err e) = Unit {0}

abbrev pub PathRoom : List ℕ → ℕ → ℕ → ℕ → Result PathHead Refusal → Type 0
PathRoom s i n k (Ok h) = Room s i n k
PathRoom s i n k (Err e) = Unit {0}

module _ {s : List ℕ} {i n k : ℕ} (p : Due s i n k) where
  pub test_room : (h : Result TestHead Refusal) → TestBegins s i n h → TestRoom s i n k h
  test_room (Ok h) b = room p b
  test_room (Err e) b = tt

  pub path_room : (h : Result PathHead Refusal) → PathBegins s i n h → PathRoom s i n k h
  path_room (Ok h) b = room p b
  path_room (Err e) b = tt
