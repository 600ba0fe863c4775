-- Laws of rows and of squares.
use mathlib.Core.Path.{◌≡◌, refl, sym, ap, ◌∙◌, subst}
use mathlib.Core.Logic.{⊎_elim}
use mathlib.Core.Bool.{Bool, true, false}
use mathlib.Core.List.{List, [], ◌∷◌}
use native.Mathlib.Decide.{ℕ_discrete}
use denote.Param.Members.{Mut, Called}
use Rattle.std.specs.Array.{IsFromFnResultFrom, IsElementAt}
use Prim.Native.Nat.{ℕ, zero, suc, ◌+◌, ◌≤◌, ◌<◌}
use native.Mathlib.Nat.{not-suc-le-zero, le_of_suc-le-suc, eq-or-lt_of_le}
use native.Mathlib.Omega.{arith}
use lib.ListN.{length, get_or, set, length-set}
use lib.Seq.{get_or-set_same, get_or-set_other}
use mir.Val.{Val}
use denote.Array.{each}
use denote.Shadow.{shadow}
use borrow.Kind.Array.{e_arr, e_bool}
use Rattle.bits.specs.Sets.{or, and, bit}
use Rattle.bits.specs.Square.{cell}

-- ── The rows of a square by value ──
-- each row of an array of arrays by value has 16 cells
pub row_long : (f : List (List Bool)) (us : List Val) → shadow (each (List Bool) (e_arr e_bool 16).ty.own_val f us) → (i : ℕ) → i < length f → length (get_or f i []) ≡ 16
row_long [] us s i h = absurd (not-suc-le-zero h)
row_long (x ∷ xs) [] s i h = absurd s
row_long (x ∷ xs) (u ∷ us) s zero h = s.0.1.0.1
row_long (x ∷ xs) (u ∷ us) s (suc i) h = row_long xs us s.1 i (le_of_suc-le-suc h)

-- ── Elements that are done one by one ──
-- the elements below i are done by F, the others are as they were
pub record Done {A : Type 0} (d : A) (F : ℕ → A → A) (l₀ : List A) (i : ℕ) (l : List A) : Type 0 where
  pub long : length l ≡ length l₀
  pub done : (k : ℕ) → k < i → get_or l k d ≡ F k (get_or l₀ k d)
  pub rest : (k : ℕ) → i ≤ k → get_or l k d ≡ get_or l₀ k d

module _ {A : Type 0} {d : A} {F : ℕ → A → A} {l₀ l : List A} {i : ℕ} where
  -- an element that is not written
  pub done_skip : Done d F l₀ i l → get_or l i d ≡ F i (get_or l₀ i d) → Done d F l₀ (i + 1) l
  done_skip w e = record {
    long = w.long;
    done = λ k p. ⊎_elim (λ (q : k ≡ i). subst (λ (j : ℕ). get_or l j d ≡ F j (get_or l₀ j d)) (sym q) e) (λ q. w.done k q) (eq-or-lt_of_le (omega arith));
    rest = λ k p. w.rest k (omega arith);
  }

  -- an element that is written
  pub done_set : (v : A) → Done d F l₀ i l → i < length l₀ → v ≡ F i (get_or l₀ i d) → Done d F l₀ (i + 1) (set l i v)
  done_set v w h e = record {
    long = length-set l i v ∙ w.long;
    done = λ k p. ⊎_elim
        (λ (q : k ≡ i). subst (λ (j : ℕ). get_or (set l i v) j d ≡ F j (get_or l₀ j d)) (sym q) (get_or-set_same l i v d (omega (arith, w.long)) ∙ e))
        (λ q. get_or-set_other l i k v d (omega arith) ∙ w.done k q)
        (eq-or-lt_of_le (omega arith));
    rest = λ k p. get_or-set_other l i k v d (omega arith) ∙ w.rest k (omega arith);
  }

pub done_none : {A : Type 0} (d : A) (F : ℕ → A → A) (l : List A) → Done d F l 0 l
done_none d F l = record { long = refl; done = λ k p. absurd (not-suc-le-zero p); rest = λ k p. refl }

-- ── Or with true and with false ──
pub or_true : (x : Bool) → true ≡ or x true
or_true true = refl
or_true false = refl

pub or_false : (x : Bool) → x ≡ or x false
or_false true = refl
or_false false = refl

-- ── An array of what a function gives of each index ──
module _ {F B : Type 0} {g : Mut F (ℕ × Unit {0}) B} {f : F} (P : ℕ → B → Type 0) (told : (i : ℕ) (y : B) (q : F) → Called g f (i, tt) y q → (q ≡ f) × P i y) (ys : List B) (d : B) where
  -- the element of index i, and those behind it
  made_here : (i j : ℕ) (y : B) → Dec (i ≡ j) → IsElementAt ys i y → P i y → (i < j → P j (get_or ys j d)) → i ≤ j → P j (get_or ys j d)
  made_here i j y (yes z) at p rest l = subst (λ k. P k (get_or ys k d)) z (subst (P i) (sym (at.1 d)) p)
  made_here i j y (no z) at p rest l = rest (omega arith)

  pub made : (n i : ℕ) (q : F) → q ≡ f → IsFromFnResultFrom g q ys i n → (j : ℕ) → i ≤ j → j < i + n → P j (get_or ys j d)
  made zero i q e m j l h = absurd (omega arith)
  made (suc n) i q e (q', y, at, called, rest) j l h =
      let now = told i y q' (subst (λ s. Called g s (i, tt) y q') e called) in
      made_here i j y (ℕ_discrete i j) at now.1 (λ k. made n (i + 1) q' now.0 rest j (omega arith) (omega arith)) l

-- ── Rows that are joined one by one ──
-- the rows below i have the members of b added where a has the row, the others are as they were
pub record Joining (a b : ℕ) (f : List (List Bool)) (i : ℕ) (g : List (List Bool)) : Type 0 where
  pub long : length g ≡ 16
  pub done : (k m : ℕ) → k < i → m < 16 → cell g k m ≡ or (cell f k m) (and (bit a k) (bit b m))
  pub rest : (k m : ℕ) → i ≤ k → cell g k m ≡ cell f k m

module _ {a b i : ℕ} {f g : List (List Bool)} where
  pub joining_skip : Joining a b f i g → false ≡ bit a i → Joining a b f (i + 1) g
  joining_skip w e = record {
    long = w.long;
    done = λ k m p q. ⊎_elim
        (λ (z : k ≡ i). w.rest k m (omega arith) ∙ or_false (cell f k m) ∙ ap (λ (t : Bool). or (cell f k m) (and t (bit b m))) (e ∙ ap (bit a) (sym z)))
        (λ z. w.done k m z q)
        (eq-or-lt_of_le (omega arith));
    rest = λ k m p. w.rest k m (omega arith);
  }

  pub joining_set : (r : List Bool) → Joining a b f i g → i < 16 → true ≡ bit a i → ((j : ℕ) → j < 16 → get_or r j false ≡ or (get_or (get_or g i []) j false) (bit b j)) → Joining a b f (i + 1) (set g i r)
  joining_set r w h e row = record {
    long = length-set g i r ∙ w.long;
    done = λ k m p q. ⊎_elim
        (λ (z : k ≡ i). subst (λ (x : ℕ). cell (set g i r) x m ≡ or (cell f x m) (and (bit a x) (bit b m))) (sym z)
        (ap (λ (l : List Bool). get_or l m false) (get_or-set_same g i r [] (omega (arith, w.long))) ∙ row m q ∙ ap (λ (t : Bool). or t (bit b m)) (w.rest i m (omega arith)) ∙ ap (λ (t : Bool). or (cell f i m) (and t (bit b m))) e))
        (λ z. ap (λ (l : List Bool). get_or l m false) (get_or-set_other g i k r [] (omega arith)) ∙ w.done k m z q)
        (eq-or-lt_of_le (omega arith));
    rest = λ k m p. ap (λ (l : List Bool). get_or l m false) (get_or-set_other g i k r [] (omega arith)) ∙ w.rest k m (omega arith);
  }
