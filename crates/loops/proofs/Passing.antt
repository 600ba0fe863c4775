-- Rounds over all nodes, until one of them changes nothing.
use Prim.Native.Nat.{ℕ, ◌+◌, ◌*◌, ◌-◌, ◌≤◌, ◌<◌}
use mathlib.Core.Path.{◌≡◌, sym, subst}
use mathlib.Core.Logic.{◌⊎◌, inl, inr}
use mathlib.Core.List.{List}
use native.Mathlib.Nat.{eq-or-lt_of_le}
use native.Mathlib.Omega.{arith}
use lib.ListN.{length}
use Rattle.xpath.specs.Syntax.{XPath}
use Rattle.xpath.specs.Tree.{Tree}
use Rattle.layout.proofs.Frames.{frame_then, frame_wider}
use Rattle.matrices.proofs.Pairs.{pairs_le}
use Rattle.machine.specs.declared.Machine.{Machine}
use Rattle.loops.specs.Loops.{Stage, Looped}
use Rattle.loops.specs.Closed.{Closed}
use Rattle.detours.specs.Visits.{Ready}
use Rattle.loops.specs.Growing.{Woven, Started, total, Grown, Passed, Rises, Falls, Everywhere, Settled}
use Rattle.loops.proofs.Kept.{stage_kept}
use Rattle.loops.proofs.Sides.{parent_before}
use Rattle.loops.proofs.Sounds.{loops_of}
use Rattle.loops.proofs.Grows.{grown_then}

-- ── One pass after the other ──
module _ {m : Machine} {n r s : ℕ} {p q q' : List ℕ} where
  -- what holds where nothing changes holds of the start
  pub passed_then : (B : List ℕ → Type 0) → Grown m n p q r → Passed (B q) m n q q' s → Passed (B p) m n p q' (r + s)
  passed_then B g w = record { grown = grown_then g w.grown; settled = λ e. subst B (g.still (omega arith)) (w.settled (omega arith)) }

  -- one node more
  pub sweep_more : (B : List ℕ → ℕ → Type 0) (v : ℕ) (S T : ℕ → Type 0) → ((u : ℕ) → T u → (u ≡ v) ⊎ S u)
      → Passed ((u : ℕ) → S u → B p u) m n p q r → Passed (B q v) m n q q' s → Passed ((u : ℕ) → T u → B p u) m n p q' (r + s)
  sweep_more B v S T cover a b =
      let c = passed_then (λ l. B l v) a.grown b in
      record { grown = c.grown; settled = λ e u t. go e (cover u t) }
    where
      go : {u : ℕ} → r + s ≡ 0 → (u ≡ v) ⊎ S u → B p u
      go e (inl z) = subst (B p) (sym z) ((passed_then (λ l. B l v) a.grown b).settled e)
      go e (inr x) = a.settled (omega arith) _ x

-- ── Over all nodes, up and down ──
-- from the last node up, and from the root down
pub up_cover : {n v u : ℕ} → 0 < v → (v - 1 ≤ u) × (u < n) → (u ≡ v - 1) ⊎ ((v ≤ u) × (u < n))
up_cover {n} {v} {u} some (h, l) = go (eq-or-lt_of_le h)
  where
    go : (v - 1 ≡ u) ⊎ (v - 1 < u) → (u ≡ v - 1) ⊎ ((v ≤ u) × (u < n))
    go (inl e) = inl (sym e)
    go (inr k) = inr (omega arith, l)

pub down_cover : {v u : ℕ} → (0 < u) × (u < v + 1) → (u ≡ v) ⊎ ((0 < u) × (u < v))
down_cover {v} {u} (h, l) = go (eq-or-lt_of_le (omega arith))
  where
    go : (u ≡ v) ⊎ (u < v) → (u ≡ v) ⊎ ((0 < u) × (u < v))
    go (inl e) = inl e
    go (inr k) = inr (h, k)

pub both_ways : {m : Machine} {n r s : ℕ} {p q q' : List ℕ} → Passed (Everywhere (Rises m n p) n) m n p q r → Passed (Everywhere (Falls m n q) n) m n q q' s
    → Passed (Settled m n p) m n p q' (r + s)
both_ways {m} {n} a b =
    let c = passed_then (λ l. Everywhere (Falls m n l) n) a.grown b in
    record { grown = c.grown; settled = λ e. (a.settled (omega arith), c.settled e) }

-- ── What rounds can gain, and the last of them ──
pub total_le : (n : ℕ) (p : List ℕ) → total n p ≤ 16 * (16 * n)
total_le n p = pairs_le p (16 * n) (16 * n)

-- a round that changes nothing leaves what is settled
pub passed_settled : {m : Machine} {n r : ℕ} {p q : List ℕ} → Passed (Settled m n p) m n p q r → r ≡ 0 → Settled m n q
passed_settled {m} {n} w e = subst (Settled m n) (sym (w.grown.still e)) (w.settled e)

-- ── From the start to matrices that are settled ──
pub ready_of : {P R : XPath} {t : Tree} {m : Machine} {n : ℕ} {p : List ℕ} → Stage P R t m n p → 32 * n ≤ length p → Ready n p
ready_of s room = record { few = s.drawn.few; room = room; parents = parent_before s }

closed_of : {m : Machine} {n : ℕ} {p : List ℕ} → Woven m n n p → Settled m n p → Closed m n p
closed_of w (up, down) = record {
  reflexive = w.reflexive;
  transitive = w.transitive;
  bracket = w.bracket;
  upwards = λ side v i j h l on a b d. up v h l side i j on a b d;
  downwards = λ side v i j h l on a b d. down v h l side i j on a b d;
}

-- from the start to matrices that are settled
pub found : {P R : XPath} {t : Tree} {m : Machine} {n r : ℕ} {p q q' : List ℕ} → Started m n n p q → Grown m n q q' r → Settled m n q' → Stage P R t m n p → Looped P R t n p q'
found {P} {R} {t} {m} {n} {q = q} s g settled stage =
    let begun : Stage P R t m n q = stage_kept s.frame.front stage in
    record {
      frame = frame_then (frame_wider (omega arith) (omega arith) s.frame) g.frame;
      loops = loops_of (stage_kept g.frame.front begun) (closed_of (g.woven s.woven) settled) (g.sound P R t begun (s.sound P R t stage));
    }
