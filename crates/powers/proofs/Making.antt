-- A block is made by two matrices and a word.
use Prim.Native.Nat.{ℕ, ◌+◌, ◌≤◌, ◌<◌}
use mathlib.Core.Path.{◌≡◌, sym, ◌∙◌, subst}
use mathlib.Core.Logic.Iff
use mathlib.Core.Logic.{◌≢◌, ◌↔◌}
use mathlib.Core.Bool.{true}
use mathlib.Core.List.{List}
use lib.ListN.{length, get_or, set}
use lib.Seq.{get_or-set_same, get_or-set_other}
use native.Mathlib.Omega.{arith}
use Rattle.bits.specs.Sets.{bit}
use Rattle.matrices.specs.Matrices.{Related, Redrawn, Composed}
use Rattle.machine.specs.declared.Machine.{Machine}
use Rattle.layout.specs.Blocks.{block_at, down_at, up_at, upper_at}
use Rattle.layout.specs.Part.{loop_at}
use Rattle.layout.proofs.Frames.{frame_then, frame_wider, set_frame}
use Rattle.powers.specs.Blocks.{Fits, Only, Crossed, Block, Edge, Twice}
use Rattle.powers.proofs.Places.{block_before}
use Rattle.powers.proofs.Crossing.{composed_kept, crossed_kept}

-- the upper node alone
pub only_upper : (n k y : ℕ) (p : List ℕ) (x : ℕ) → Only n k y p (set p (upper_at n k y) x)
only_upper n k y p x = frame_wider (omega arith) (omega arith) (set_frame p (upper_at n k y) x)

pub upper_set : (n k y : ℕ) (p : List ℕ) (x : ℕ) → Fits n k y p → get_or (set p (upper_at n k y) x) (upper_at n k y) 0 ≡ x
upper_set n k y p x f = let r = f.room in get_or-set_same p (upper_at n k y) x 0 (omega arith)

-- a matrix became that of a relation
abbrev Made : (ℕ → ℕ → Type 0) → ℕ → List ℕ → List ℕ → Type 0
Made A c p q = Redrawn c p q × ((i j : ℕ) → i < 16 → j < 16 → Related q c i j ↔ A i j)

-- the matrix down, then the matrix up, then the upper node
block_made : {n k y : ℕ} {p q r : List ℕ} (A B C : ℕ → ℕ → Type 0) (x : ℕ) → Fits n k y p → Made A (down_at n k y) p q → Made B (up_at n k y) q r
    → ((i j : ℕ) → i < 16 → B i j ↔ C i j) → Block n k y x A C p (set r (upper_at n k y) x)
block_made {n} {k} {y} {p} {q} {r} A B C x fits (d, down) (u, up) turn = record {
  only = frame_then (frame_wider (omega arith) (omega arith) d) (frame_then (frame_wider (omega arith) (omega arith) u) (only_upper n k y r x));
  upper = get_or-set_same r (upper_at n k y) x 0 (inside fits.room);
  down = λ i j l h. subst (λ (w : ℕ). (bit w j ≡ true) ↔ A i j) (sym (other (down_at n k y + i) (omega arith) ∙ u.front (down_at n k y + i) (omega arith))) (down i j l h);
  up = λ i j l h. subst (λ (w : ℕ). (bit w j ≡ true) ↔ C i j) (sym (other (up_at n k y + i) (omega arith))) (Iff.trans (up i j l h) (turn i j l));
}
  where
    inside : block_at n k y + 64 ≤ length p → upper_at n k y < length r
    inside h = let a = u.long in let b = d.long in omega arith

    other : (l : ℕ) → l ≢ upper_at n k y → get_or (set r (upper_at n k y) x) l 0 ≡ get_or r l 0
    other l h = get_or-set_other r (upper_at n k y) l x 0 h

-- ── What `twice` writes ──
pub twice_made : {n h y at above below x : ℕ} {p q r : List ℕ} (k : ℕ) → h < n → Fits n (k + 1) y p
    → at ≡ block_at n (k + 1) y → above ≡ block_at n k h → below ≡ block_at n k y → x ≡ get_or p (upper_at n k h) 0
    → Made (Composed (Related p above) (Related p below)) at p q → Made (Composed (Related q (below + 16)) (Related q (above + 16))) (at + 16) q r
    → Twice n k h y p (set r (at + 48) x)
twice_made {n} {h} {y} {at} {above} {below} {x} {p} {q} {r} k inside fits ea eu eb ex =
    subst (λ (a : ℕ). Told a above below x) (sym ea) (subst (λ (u : ℕ). Told (block_at n (k + 1) y) u below x) (sym eu)
    (subst (λ (b : ℕ). Told (block_at n (k + 1) y) (block_at n k h) b x) (sym eb) (subst (λ (z : ℕ). Told (block_at n (k + 1) y) (block_at n k h) (block_at n k y) z) (sym ex) told)))
  where
    Told : ℕ → ℕ → ℕ → ℕ → Type 0
    Told a u b z = Made (Composed (Related p u) (Related p b)) a p q → Made (Composed (Related q (b + 16)) (Related q (u + 16))) (a + 16) q r
        → Twice n k h y p (set r (a + 48) z)

    told : Told (block_at n (k + 1) y) (block_at n k h) (block_at n k y) (get_or p (upper_at n k h) 0)
    told d u =
        let first = block_before n k (k + 1) h y (omega arith) inside in
        let second = block_before n k (k + 1) y y (omega arith) fits.node in
        block_made (Composed (Related p (down_at n k h)) (Related p (down_at n k y))) (Composed (Related q (up_at n k y)) (Related q (up_at n k h))) (Composed (Related p (up_at n k y)) (Related p (up_at n k h)))
        (get_or p (upper_at n k h) 0) fits d u (λ i j l. composed_kept d.0 (up_at n k y) (up_at n k h) i j (omega arith) (omega arith) l)

-- ── What `edge` writes ──
pub edge_made : {n x y at above below : ℕ} {p q r : List ℕ} (m : Machine) (down up : ℕ) → x < n → Fits n 0 y p
    → at ≡ block_at n 0 y → above ≡ loop_at n x → below ≡ loop_at n y
    → Made (Crossed m.rows p above down below) at p q → Made (Crossed m.rows q below up above) (at + 16) q r
    → Edge m n x y down up p (set r (at + 48) x)
edge_made {n} {x} {y} {at} {above} {below} {p} {q} {r} m down up inside fits ea eu eb =
    subst (λ (a : ℕ). Told a above below) (sym ea) (subst (λ (u : ℕ). Told (block_at n 0 y) u below) (sym eu) (subst (λ (b : ℕ). Told (block_at n 0 y) (loop_at n x) b) (sym eb) told))
  where
    Told : ℕ → ℕ → ℕ → Type 0
    Told a u b = Made (Crossed m.rows p u down b) a p q → Made (Crossed m.rows q b up u) (a + 16) q r → Edge m n x y down up p (set r (a + 48) x)

    told : Told (block_at n 0 y) (loop_at n x) (loop_at n y)
    told d u =
        let h = fits.node in
        block_made (Crossed m.rows p (loop_at n x) down (loop_at n y)) (Crossed m.rows q (loop_at n y) up (loop_at n x)) (Crossed m.rows p (loop_at n y) up (loop_at n x)) x fits d u
        (λ i j l. crossed_kept d.0 m.rows (loop_at n y) up (loop_at n x) i j (omega arith) (omega arith) l)
