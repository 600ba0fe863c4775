-- What is added to a matrix, row by row.
use Prim.Native.Nat.{ℕ, ◌+◌, ◌<◌}
use mathlib.Core.Path.{◌≡◌, sym, ap, ◌∙◌}
use mathlib.Core.Bool.{true}
use mathlib.Core.Logic.{◌⊎◌, ⊎_map, ◌↔◌}
use mathlib.Core.List.{List}
use lib.ListN.{length, get_or, set}
use native.Mathlib.Omega.{arith}
use Rattle.bits.specs.Sets.{bit, or}
use Rattle.matrices.specs.Matrices.{Exactly, Related, Image, Before, Apart, Drawing}
use Rattle.matrices.proofs.Members.{union_iff}
use Rattle.matrices.proofs.Drawing.{drawing_step, undrawn, apart_same}
use Rattle.halving.specs.Passes.{Upper, Lower, With}

-- the same word has the same bits
pub bit_same : (p q : List ℕ) (l j : ℕ) → get_or q l 0 ≡ get_or p l 0 → bit (get_or p l 0) j ≡ true → bit (get_or q l 0) j ≡ true
bit_same p q l j e h = ap (λ w. bit w j) e ∙ h

-- the same words have the same halves
module _ (p q : List ℕ) (source way i j : ℕ) where
  pub upper_same : get_or q (source + i) 0 ≡ get_or p (source + i) 0 → get_or q (way + j) 0 ≡ get_or p (way + j) 0 → Upper p source way i j → Upper q source way i j
  upper_same e f (c, m, s, r) = (c, m, bit_same p q (source + i) c e s, bit_same p q (way + j) c f r)

  pub lower_same : get_or q (way + i) 0 ≡ get_or p (way + i) 0 → ((c : ℕ) → c < 16 → get_or q (source + c) 0 ≡ get_or p (source + c) 0) → Lower p source way i j → Lower q source way i j
  lower_same e f (c, m, s, r) = (c, m, bit_same p q (way + i) c e s, bit_same p q (source + c) j (f c m) r)

module _ {p q : List ℕ} {to i : ℕ} (new r : ℕ) (union : (j : ℕ) → bit r j ≡ or (bit (get_or q (to + i) 0) j) (bit new j)) (few : i < 16) (room : to + i < length p) where
  with_step : (M : ℕ → ℕ → Type 0) → Drawing (With p to M) to i p q → Exactly new (M i) → Drawing (With p to M) to (i + 1) p (set q (to + i) r)
  with_step M d f = drawing_step d r room (λ j l. (λ e. ⊎_map (old j) (f j l).0 ((u j).0 e), λ c. (u j).1 (⊎_map (old' j) (f j l).1 c)))
    where
      u : (j : ℕ) → (bit r j ≡ true) ↔ ((bit (get_or q (to + i) 0) j ≡ true) ⊎ (bit new j ≡ true))
      u = union_iff (get_or q (to + i) 0) new r union

      same : get_or q (to + i) 0 ≡ get_or p (to + i) 0
      same = undrawn d i (omega arith)

      old : (j : ℕ) → bit (get_or q (to + i) 0) j ≡ true → Related p to i j
      old j h = bit_same q p (to + i) j (sym same) h

      old' : (j : ℕ) → Related p to i j → bit (get_or q (to + i) 0) j ≡ true
      old' j h = bit_same p q (to + i) j same h

  row : {A : ℕ → ℕ → Type 0} → Drawing A to i p q → (a : ℕ) → Apart a to → (c : ℕ) → c < 16 → get_or q (a + c) 0 ≡ get_or p (a + c) 0
  row d a o c l = apart_same d a c o (omega arith) l

  module _ (source way : ℕ) (f : Apart source to) (g : Apart way to) where
    pub upper_step : Drawing (With p to (Upper p source way)) to i p q → Exactly new (Before q way (get_or q (source + i) 0))
        → Drawing (With p to (Upper p source way)) to (i + 1) p (set q (to + i) r)
    upper_step d h = with_step (Upper p source way) d (λ j l. (
      λ e. upper_same q p source way i j (sym (row d source f i few)) (sym (row d way g j l)) ((h j l).0 e),
      λ c. (h j l).1 (upper_same p q source way i j (row d source f i few) (row d way g j l) c),
    ))

    pub lower_step : Drawing (With p to (Lower p source way)) to i p q → Exactly new (Image q source (get_or q (way + i) 0))
        → Drawing (With p to (Lower p source way)) to (i + 1) p (set q (to + i) r)
    lower_step d h = with_step (Lower p source way) d (λ j l. (
      λ e. lower_same q p source way i j (sym (row d way g i few)) (λ c m. sym (row d source f c m)) ((h j l).0 e),
      λ c. (h j l).1 (lower_same p q source way i j (row d way g i few) (row d source f) c),
    ))
