-- A power, and the loops, are told by their own words.
use Prim.Native.Nat.{ℕ, ◌+◌, ◌*◌, ◌^◌, ◌≤◌, ◌<◌}
use mathlib.Core.Path.{◌≡◌, sym, subst}
use mathlib.Core.Logic.{◌↔◌}
use mathlib.Core.Bool.{true}
use mathlib.Core.List.{List}
use lib.ListN.{get_or}
use native.Mathlib.Omega.{arith}
use Rattle.bits.specs.Sets.{bit}
use Rattle.xpath.specs.Syntax.{XPath}
use Rattle.xpath.specs.Tree.{Tree, Down}
use Rattle.positions.specs.Positions.{Comes}
use Rattle.table.specs.Links.{Points}
use Rattle.machine.specs.declared.Machine.{Machine}
use Rattle.layout.specs.Blocks.{BLOCKS, block_at, down_at, up_at, upper_at}
use Rattle.layout.specs.Part.{loop_at}
use Rattle.loops.specs.Loops.{Loops}
use Rattle.loops.proofs.Kept.{stage_kept}
use Rattle.powers.specs.Powers.{Power, Powers, Ready, Founded, Powered}
use Rattle.powers.proofs.Places.{block_before}

-- a power is told by the two matrices and the upper node: the snippets beside them may change
pub power_kept : {P R : XPath} {t : Tree} {n k y : ℕ} {p p' : List ℕ}
    → ((l : ℕ) → block_at n k y ≤ l → l < block_at n k y + 32 → get_or p' l 0 ≡ get_or p l 0)
    → get_or p' (upper_at n k y) 0 ≡ get_or p (upper_at n k y) 0 → Power P R t n p k y → Power P R t n p' k y
power_kept {P} {R} {t} {n} {k} {y} {p} {p'} rows upper f = record {
  upper = subst (λ (w : ℕ). Points (λ x. Down t x y (2 ^ k)) w) (sym upper) f.upper;
  down = λ x i j d l r. subst (λ (w : ℕ). (bit w j ≡ true) ↔ Comes P R t i x j y) (sym (rows (down_at n k y + i) (omega arith) (omega arith))) (f.down x i j d l r);
  up = λ x i j d l r. subst (λ (w : ℕ). (bit w j ≡ true) ↔ Comes P R t i y j x) (sym (rows (up_at n k y + i) (omega arith) (omega arith))) (f.up x i j d l r);
}

-- a power stays where all words up to some offset behind it do
pub power_front : {P R : XPath} {t : Tree} {n k y : ℕ} {p p' : List ℕ} (at : ℕ) → block_at n k y + 64 ≤ at
    → ((l : ℕ) → l < at → get_or p' l 0 ≡ get_or p l 0) → Power P R t n p k y → Power P R t n p' k y
power_front {n = n} {k} {y} at h front f = power_kept (λ l a b. front l (omega arith)) (front (upper_at n k y) (omega arith)) f

-- so do the powers below an exponent
pub powers_front : {P R : XPath} {t : Tree} {n k : ℕ} {p p' : List ℕ}
    → ((l : ℕ) → l < block_at n k 0 → get_or p' l 0 ≡ get_or p l 0) → Powers P R t n p k → Powers P R t n p' k
powers_front {n = n} {k} front f j y h r = power_front (block_at n k 0) (block_before n j k y 0 h r) front (f j y h r)

pub loops_kept : {P R : XPath} {t : Tree} {n : ℕ} (p p' : List ℕ) → ((l : ℕ) → l < 32 * n → get_or p' l 0 ≡ get_or p l 0) → Loops P R t n p → Loops P R t n p'
loops_kept {P} {R} {t} {n} p p' front f v i j r l q =
    subst (λ (w : ℕ). (bit w j ≡ true) ↔ Comes P R t i v j v) (sym (front (loop_at n v + i) (omega arith))) (f v i j r l q)

pub ready_kept : {P R : XPath} {t : Tree} {m : Machine} {n : ℕ} {p p' : List ℕ} → ((l : ℕ) → l < BLOCKS * n → get_or p' l 0 ≡ get_or p l 0)
    → Ready P R t m n p → Ready P R t m n p'
ready_kept {p = p} {p'} front f = record { stage = stage_kept (λ l h. front l (omega arith)) f.stage; loops = loops_kept p p' (λ l h. front l (omega arith)) f.loops }

-- what `find_powers` leaves
pub founded_of : {P R : XPath} {t : Tree} {m : Machine} {n b : ℕ} {p p' : List ℕ} → Ready P R t m n p → Powered P R t n b p p' → Founded P R t m n b p'
founded_of ready f = let r = ready_kept f.frame.front ready in record { stage = r.stage; loops = r.loops; powers = f.powers }

-- the powers aside
pub founded_ready : {P R : XPath} {t : Tree} {m : Machine} {n b : ℕ} {p : List ℕ} → Founded P R t m n b p → Ready P R t m n p
founded_ready f = record { stage = f.stage; loops = f.loops }

-- fewer powers
pub founded_less : {P R : XPath} {t : Tree} {m : Machine} {n b c : ℕ} {p : List ℕ} → c ≤ b → Founded P R t m n b p → Founded P R t m n c p
founded_less h f = record { stage = f.stage; loops = f.loops; powers = λ k y l r. f.powers k y (omega arith) r }
