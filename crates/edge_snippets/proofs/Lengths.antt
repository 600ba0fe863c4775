-- The lengths of stretches of the tree, and their exponents.
use Prim.Native.Nat.{ℕ, suc, ◌+◌, ◌-◌, ◌^◌, ◌≤◌, ◌<◌}
use mathlib.Core.Path.{◌≡◌, sym, subst}
use mathlib.Core.Logic.{◌⊎◌, inl, inr}
use mathlib.Core.List.{List}
use lib.Pow.{pow_mono}
use native.Mathlib.Decide.{dec_lt}
use native.Mathlib.Omega.{arith}
use Rattle.xpath.specs.Tree.{Tree, WellFormed, Down}
use Rattle.xpath.proofs.Trees.{down_le, down_split, ancestors}
use Rattle.lifting.specs.Ladder.{Stretch}

pub exponent_below : {k b l : ℕ} → 2 ^ k ≤ l → l < 2 ^ b → k < b
exponent_below {k} {b} h l = go (dec_lt k b)
  where
    go : Dec (k < b) → k < b
    go (yes r) = r
    go (no f) = let s : 2 ^ b ≤ 2 ^ k = pow_mono (omega arith) in absurd (omega arith)

-- a length has one exponent
pub exponent_one : {k k' l : ℕ} → 2 ^ k ≤ l → l < 2 ^ suc k → 2 ^ k' ≤ l → l < 2 ^ suc k' → k ≡ k'
exponent_one a c e g = let h = exponent_below a g in let q = exponent_below e c in omega arith

-- from one node to another there is one length
pub one_length : {t : Tree} (wf : WellFormed t) {x y a c : ℕ} → Down t x y a → Down t x y c → a ≡ c
one_length {t} wf {x} {y} {a} {c} d e = go (ancestors t wf d e)
  where
    go : ((k : ℕ) × (a + k ≡ c) × Down t x x k) ⊎ ((k : ℕ) × (c + k ≡ a) × Down t x x k) → a ≡ c
    go (inl (k, q, f)) = let h = down_le t wf f in omega arith
    go (inr (k, q, f)) = let h = down_le t wf f in omega arith

-- the lower part of a stretch is one
pub stretch_lower : {n b y len : ℕ} {p : List ℕ} (s : Stretch n b y len p) (l : ℕ) → l ≤ len → Stretch n b y l p
stretch_lower {len = len} s l h =
    let (u, f, g) = down_split s.tree s.ladder.formed (len - l) l (omega arith) s.down in
    let q = s.short in
    record {
      first = s.first;
      second = s.second;
      tree = s.tree;
      top = u;
      ladder = s.ladder;
      down = g;
      node = s.node;
      few = s.few;
      low = s.low;
      short = omega arith;
      room = s.room;
    }

-- and so is the upper part, over a node that the lower part comes to
pub stretch_upper : {n b y len : ℕ} {p : List ℕ} (s : Stretch n b y len p) (l w : ℕ) → l ≤ len → ((u : ℕ) → Down s.tree u y (len - l) → w ≡ u) → Stretch n b w l p
stretch_upper {n} {b} {y} {len} s l w h over =
    let (u, f, g) = down_split s.tree s.ladder.formed l (len - l) (omega arith) s.down in
    let e = over u g in
    let q = s.short in
    let r = down_le s.tree s.ladder.formed g in
    let z = s.node in
    record {
      first = s.first;
      second = s.second;
      tree = s.tree;
      top = s.top;
      ladder = s.ladder;
      down = subst (λ (x : ℕ). Down s.tree s.top x l) (sym e) f;
      node = omega arith;
      few = s.few;
      low = s.low;
      short = omega arith;
      room = s.room;
    }
