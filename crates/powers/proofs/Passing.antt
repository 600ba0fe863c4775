-- The passes: one exponent after the other, and for each one node after the other.
use Prim.Native.Nat.{ℕ, ◌+◌, ◌*◌, ◌^◌, ◌≤◌, ◌<◌}
use mathlib.Core.Path.{◌≡◌, sym, ap, ◌∙◌, subst}
use mathlib.Core.Logic.{◌⊎◌, inl, inr}
use mathlib.Core.Bool.{Bool, true, false}
use mathlib.Core.List.{List}
use lib.ListN.{get_or}
use native.Mathlib.Nat.{eq-or-lt_of_le}
use native.Mathlib.Omega.{arith}
use Rattle.xpath.specs.Syntax.{XPath}
use Rattle.xpath.specs.Tree.{Tree, Down}
use Rattle.layout.specs.Blocks.{BLOCKS, block_at, upper_at}
use Rattle.layout.specs.Table.{LEFT, PARENT}
use Rattle.layout.specs.Words.{NONE, word, Frame}
use Rattle.layout.proofs.Frames.{frame_none, frame_then, frame_wider}
use Rattle.machine.specs.declared.Machine.{Machine}
use Rattle.detours.specs.Detours.{downs, ups, OnSide}
use Rattle.powers.specs.Powers.{Power, Powers, Ready, Powered}
use Rattle.powers.specs.Blocks.{Fits, Only, Edge, Twice, Doubled, Found, Passed}
use Rattle.powers.proofs.Kept.{power_front, powers_front, ready_kept}
use Rattle.powers.proofs.Doubling.{twice_power, twice_none, upper_near, upper_none}
use Rattle.powers.proofs.Edges.{parent_power, root_power}

-- ── A node ──
module _ {m : Machine} {n y : ℕ} {p p' : List ℕ} where
  found_edge : {x : ℕ} (side : Bool) → y < n → x < n → x ≡ word p n PARENT y → OnSide p n y side → Edge m n x y (downs m side) (ups m side) p p' → Found m n 0 y p p'
  found_edge side r h e on edge = record { only = edge.only; power = λ P R t ready f. parent_power ready side r h e on edge }

  -- l is the left child of y's parent
  module _ {x l : ℕ} (r : y < n) (h : x < n) (e : x ≡ word p n PARENT y) (child : l ≡ word p n LEFT x) where
    pub found_left : l ≡ y → Edge m n x y m.left m.leftup p p' → Found m n 0 y p p'
    found_left on = found_edge true r h e (sym (child ∙ ap (word p n LEFT) e) ∙ on)

    pub found_right : (l ≡ y → ⊥) → Edge m n x y m.right m.rightup p p' → Found m n 0 y p p'
    found_right off = found_edge false r h e (λ on. off (child ∙ ap (word p n LEFT) e ∙ on))

  pub found_root : {x : ℕ} → y < n → n ≤ x → x ≡ word p n PARENT y → Only n 0 y p p' × (get_or p' (upper_at n 0 y) 0 ≡ NONE) → Found m n 0 y p p'
  found_root r h e (only, none) = record { only = only; power = λ P R t ready f. root_power ready r (omega arith) none }

module _ {n y h : ℕ} {p p' : List ℕ} (k : ℕ) (fits : Fits n (k + 1) y p) (e : h ≡ get_or p (upper_at n k y) 0) where
  pub doubled_none : n ≤ h → Only n (k + 1) y p p' × (get_or p' (upper_at n (k + 1) y) 0 ≡ NONE) → Doubled n k y p p'
  doubled_none l (only, none) = record {
    only = only;
    power = λ P R t wf few f. twice_none wf few k (upper_none wf few (f k y (omega arith) fits.node) fits.node (omega arith)) none;
  }

  pub doubled_twice : h < n → Twice n k h y p p' → Doubled n k y p p'
  doubled_twice l twice = record {
    only = twice.only;
    power = λ P R t wf few f.
        let lower = f k y (omega arith) fits.node in
        twice_power wf few (f k h (omega arith) l) lower (subst (λ (u : ℕ). Down t u y (2 ^ k)) (sym e) (upper_near wf few lower fits.few (omega arith))) twice;
  }

pub found_doubled : {m : Machine} {n y : ℕ} {p p' : List ℕ} (k : ℕ) → Doubled n k y p p' → Found m n (k + 1) y p p'
found_doubled k d = record { only = d.only; power = λ P R t ready f. d.power P R t ready.stage.formed ready.stage.machine.few f }

pub found_to : {m : Machine} {n j k y : ℕ} {p p' : List ℕ} → j ≡ k → Found m n j y p p' → Found m n k y p p'
found_to {m} {n} {j} {k} {y} {p} {p'} e f = subst (λ (i : ℕ). Found m n i y p p') e f

-- ── The nodes ──
pub passed_none : (m : Machine) (n k : ℕ) (p : List ℕ) → Passed m n k 0 p p
passed_none m n k p = record { frame = frame_none p; power = λ P R t ready f v h. absurd (let z : ⊥ = omega arith in z) }

pub passed_step : {m : Machine} {n k y : ℕ} {p q r : List ℕ} → Passed m n k y p q → Found m n k y q r → Passed m n k (y + 1) p r
passed_step {m} {n} {k} {y} {p} {q} {r} c f = record {
  frame = frame_then (frame_wider (omega arith) (omega arith) c.frame) (frame_wider (omega arith) (omega arith) f.only);
  power = λ P R t ready low v h. go P R t ready low v (eq-or-lt_of_le (omega arith));
}
  where
    go : (P R : XPath) (t : Tree) → Ready P R t m n p → Powers P R t n p k → (v : ℕ) → (v ≡ y) ⊎ (v < y) → Power P R t n r k v
    go P R t ready low v (inl e) =
        subst (λ (u : ℕ). Power P R t n r k u) (sym e)
        (f.power P R t (ready_kept (λ l h. c.frame.front l (omega arith)) ready) (powers_front c.frame.front low))
    go P R t ready low v (inr h) = power_front (block_at n k y) (omega arith) f.only.front (c.power P R t ready low v h)

pub passed_to : {m : Machine} {n k y z : ℕ} {p p' : List ℕ} → y ≡ z → Passed m n k y p p' → Passed m n k z p p'
passed_to {m} {n} {k} {y} {z} {p} {p'} e f = subst (λ (v : ℕ). Passed m n k v p p') e f

-- ── The exponents ──
-- the powers below k are found
pub record Rising (m : Machine) (n k : ℕ) (p p' : List ℕ) : Type 0 where
  pub frame : Frame (BLOCKS * n) (block_at n k 0) p p'
  pub powers : (P R : XPath) (t : Tree) → Ready P R t m n p → Powers P R t n p' k

pub rising_none : (m : Machine) (n : ℕ) (p : List ℕ) → Rising m n 0 p p
rising_none m n p = record { frame = frame_none p; powers = λ P R t ready k y h. absurd (let z : ⊥ = omega arith in z) }

pub rising_step : {m : Machine} {n k : ℕ} {p q r : List ℕ} → Rising m n k p q → Passed m n k n q r → Rising m n (k + 1) p r
rising_step {m} {n} {k} {p} {q} {r} c f = record {
  frame = frame_then (frame_wider (omega arith) (omega arith) c.frame) (frame_wider (omega arith) (omega arith) f.frame);
  powers = λ P R t ready j y h l. go P R t ready j y l (eq-or-lt_of_le (omega arith));
}
  where
    go : (P R : XPath) (t : Tree) → Ready P R t m n p → (j y : ℕ) → y < n → (j ≡ k) ⊎ (j < k) → Power P R t n r j y
    go P R t ready j y l (inl e) =
        subst (λ (i : ℕ). Power P R t n r i y) (sym e) (f.power P R t (ready_kept c.frame.front ready) (c.powers P R t ready) y l)
    go P R t ready j y l (inr h) = powers_front f.frame.front (c.powers P R t ready) j y h l

pub rising_all : {m : Machine} {n k b : ℕ} {p p' : List ℕ} → k ≡ b → Rising m n k p p' → (P R : XPath) (t : Tree) → Ready P R t m n p → Powered P R t n b p p'
rising_all {n = n} {p = p} {p'} e c P R t ready = subst (λ (i : ℕ). Powered P R t n i p p') e (record { frame = c.frame; powers = c.powers P R t ready })
