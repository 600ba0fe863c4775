-- What stays where only columns from one on and the snippets' rows change: powers, loops and stages.
use Prim.Native.Nat.{ℕ, ◌+◌, ◌*◌, ◌≤◌, ◌<◌}
use mathlib.Core.Path.{◌≡◌, refl, sym, subst}
use mathlib.Core.Logic.{◌⊎◌, inl, inr, ⊎_elim, ◌↔◌}
use mathlib.Core.Bool.{true}
use mathlib.Core.List.{List}
use lib.ListN.{length}
use native.Mathlib.Nat.{mul-le-mul_right}
use native.Mathlib.Omega.{arith}
use Rattle.bits.specs.Sets.{bit}
use Rattle.xpath.specs.Syntax.{XPath}
use Rattle.xpath.specs.Tree.{Tree}
use Rattle.positions.specs.Positions.{Comes}
use Rattle.layout.specs.Blocks.{BLOCKS, block_at, snippet_at, Aside, upper_at, Rest}
use Rattle.layout.specs.Part.{STAYS}
use Rattle.layout.proofs.Rest.{same_word}
use Rattle.machine.specs.declared.Machine.{Machine}
use Rattle.machine.specs.Shape.{Shape}
use Rattle.machine.proofs.Shape.{drawn_shape}
use Rattle.matrices.specs.Matrices.{Redrawn}
use Rattle.matrices.proofs.Drawing.{redrawn_other}
use Rattle.loops.specs.Loops.{Stage, Loops}
use Rattle.loops.proofs.Kept.{stage_same}
use Rattle.powers.specs.Powers.{Powers, Founded}
use Rattle.powers.specs.Blocks.{BlockRoom}
use Rattle.powers.proofs.Kept.{power_kept}

-- the rows of one exponent and node
pub rest_rows : {n b k y : ℕ} {p p' : List ℕ} → k < b → y < n → Redrawn (snippet_at n k y) p p' → Rest 16 n b p p'
rest_rows {k = k} {y} low node h =
    record { same = record { long = h.long; same = λ l. ⊎_elim (λ q. h.front l (omega arith)) (λ (q, f). redrawn_other h l (λ i s. f k y i low node s)) } }

-- ── What stays ──
-- the words of a power are no rows of snippets
power_aside : (n b k y l : ℕ) → block_at n k y ≤ l → (l < block_at n k y + 32) ⊎ (l ≡ upper_at n k y) → Aside n b l
power_aside n b k y l h (inl q) e z i le r s = λ x. absurd (let f : ⊥ = omega arith in f)
power_aside n b k y l h (inr q) e z i le r s = λ x. absurd (let f : ⊥ = omega arith in f)

module _ {c n b : ℕ} {p p' : List ℕ} (h : Rest c n b p p') where
  pub powers_rest : {P R : XPath} {t : Tree} → Powers P R t n p b → Powers P R t n p' b
  powers_rest f k y l r =
      power_kept (λ i a q. h.same.same i (inr (omega arith, power_aside n b k y i a (inl q))))
      (h.same.same (upper_at n k y) (inr (omega arith, power_aside n b k y (upper_at n k y) (omega arith) (inr refl)))) (f k y l r)

  -- the loops stand before the powers
  loop_aside : (k : ℕ) → k < 32 * n → Aside n b k
  loop_aside k q e z i l r s = λ x. absurd (let f : ⊥ = omega arith in f)

  pub sizes_rest : BlockRoom n b p → BlockRoom n b p'
  sizes_rest s = let r = s.room in let l = h.same.long in record { few = s.few; low = s.low; room = omega arith }

  pub loops_rest : {P R : XPath} {t : Tree} → Loops P R t n p → Loops P R t n p'
  loops_rest {P} {R} {t} f v i j r l q = subst (λ (w : ℕ). (bit w j ≡ true) ↔ Comes P R t i v j v) (sym (h.same.same (16 * n + 16 * v + i) (inr (omega arith, loop_aside (16 * n + 16 * v + i) (omega arith))))) (f v i j r l q)

  module _ (l : STAYS < c) where
    -- the links, the ranks and the tests stand in columns before
    stage_rest : {P R : XPath} {t : Tree} {m : Machine} → Stage P R t m n p → Stage P R t m n p'
    stage_rest = stage_same (λ a v q r. same_word h a v (omega arith) r)

    pub founded_rest : {P R : XPath} {t : Tree} {m : Machine} → Founded P R t m n b p → Founded P R t m n b p'
    founded_rest f = record { stage = stage_rest f.stage; loops = loops_rest f.loops; powers = powers_rest f.powers }

-- there is room for the columns and the loops
pub sizes_front : {n b : ℕ} {p : List ℕ} → BlockRoom n b p → 32 * n ≤ length p
sizes_front {n} {b} s = let h : 32 * n ≤ (BLOCKS + 64 * b) * n = mul-le-mul_right n (omega arith) in let r = s.room in omega arith

-- the links of a stage
pub stage_shape : {P R : XPath} {t : Tree} {m : Machine} {n : ℕ} {p : List ℕ} → Stage P R t m n p → Shape t n p
stage_shape s = drawn_shape s.formed s.drawn
