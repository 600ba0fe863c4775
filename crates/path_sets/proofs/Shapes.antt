-- A path's kind tells how it is made, and so where its inner paths stand and that their numbers have room.
use Prim.Native.Nat.{ℕ, ◌+◌, ◌<◌, ◌≤◌}
use native.Mathlib.Omega.{arith}
use Rattle.std.specs.Prelude.{Option, Some, None}
use mathlib.Core.Path.{◌≡◌, refl, sym, ap, subst, ◌∙◌}
use mathlib.Core.Logic.{◌⊎◌, inl, inr, ⊎_elim}
use mathlib.Core.List.{List, [], ◌∷◌, ◌++◌}
use lib.ListN.{length, length-append}
use types.Run.{OneOf}
use denote.Enum.Declared.{tag_of}
use Rattle.xpath.specs.Syntax.{XPath, empty, one, seq, union, star, Step, to_left, to_right, from_left, from_right, stay, steps, size}
use Rattle.positions.specs.Glushkov.{Next}
use Rattle.rule_spec.specs.Spelling.{spell_path, spell_step}
use Rattle.rule_parts.specs.Standing.{PathAt}
use Rattle.rule_parts.specs.Kinds.{path_kind}
use Rattle.rule_parts.specs.declared.kinds.PathKind.{PathKind}
use Rattle.rule_parts.specs.declared.kinds.PathKind.TheVariants.{Empty, ToLeft, ToRight, FromLeft, FromRight, Stay, Seq, Union, Star}
use Rattle.rule_parts.specs.contracts.kinds.PathKind.{the_type}
use Rattle.rule_parts.proofs.Inner.{seq_inner, union_inner, star_inner}
use Rattle.path_sets.specs.Paths.{Room, SecondAt, TwoPaths}

abbrev pub StepPath : XPath → Type 0
StepPath P = (t : Step) × (P ≡ one t)

abbrev pub Shape : PathKind → XPath → Type 0
Shape Empty P = P ≡ empty
Shape ToLeft P = StepPath P
Shape ToRight P = StepPath P
Shape FromLeft P = StepPath P
Shape FromRight P = StepPath P
Shape Stay P = StepPath P
Shape Seq P = (A B : XPath) × (P ≡ seq A B)
Shape Union P = (A B : XPath) × (P ≡ union A B)
Shape Star P = (A : XPath) × (P ≡ star A)

shape : (P : XPath) → Shape (path_kind P) P
shape empty = refl
shape (one to_left) = (to_left, refl)
shape (one to_right) = (to_right, refl)
shape (one from_left) = (from_left, refl)
shape (one from_right) = (from_right, refl)
shape (one (stay T)) = (stay T, refl)
shape (seq A B) = (A, B, refl)
shape (union A B) = (A, B, refl)
shape (star A) = (A, refl)

pub shaped : {k l : PathKind} → k ≡ l → (P : XPath) → k ≡ path_kind P → Shape l P
shaped e P h = subst (λ l. Shape l P) (sym h ∙ e) (shape P)

-- ── The arms of several kinds: a kind is known by its number ──
-- the steps are the kinds 1 to 5
abbrev pub Steps : PathKind → Type 0
Steps k = OneOf (1 ∷ 2 ∷ 3 ∷ 4 ∷ 5 ∷ []) (tag_of the_type k)

no_step : (n : ℕ) → (n ≡ 0) ⊎ (5 < n) → OneOf (1 ∷ 2 ∷ 3 ∷ 4 ∷ 5 ∷ []) n → ⊥
no_step n h (inl e) = ⊎_elim (λ x. omega arith) (λ x. omega arith) h
no_step n h (inr (inl e)) = ⊎_elim (λ x. omega arith) (λ x. omega arith) h
no_step n h (inr (inr (inl e))) = ⊎_elim (λ x. omega arith) (λ x. omega arith) h
no_step n h (inr (inr (inr (inl e)))) = ⊎_elim (λ x. omega arith) (λ x. omega arith) h
no_step n h (inr (inr (inr (inr e)))) = ⊎_elim (λ x. omega arith) (λ x. omega arith) h

step_of : (P : XPath) → Steps (path_kind P) → StepPath P
step_of empty h = absurd (no_step 0 (inl refl) h)
step_of (one t) h = (t, refl)
step_of (seq A B) h = absurd (no_step 6 (inr (omega arith)) h)
step_of (union A B) h = absurd (no_step 7 (inr (omega arith)) h)
step_of (star A) h = absurd (no_step 8 (inr (omega arith)) h)

pub stepped : {k : PathKind} → Steps k → (P : XPath) → k ≡ path_kind P → StepPath P
stepped l P h = step_of P (subst Steps h l)

-- nothing follows in a path without parts, the kinds 0 to 5
abbrev pub Leaves : PathKind → Type 0
Leaves k = OneOf (0 ∷ 1 ∷ 2 ∷ 3 ∷ 4 ∷ 5 ∷ []) (tag_of the_type k)

no_leaf : (n : ℕ) → 5 < n → OneOf (0 ∷ 1 ∷ 2 ∷ 3 ∷ 4 ∷ 5 ∷ []) n → ⊥
no_leaf n h (inl e) = omega arith
no_leaf n h (inr l) = no_step n (inr h) l

leaf_next : (P : XPath) → Leaves (path_kind P) → (b i j : ℕ) → Next P b i j → ⊥
leaf_next empty h b i j n = n
leaf_next (one t) h b i j n = n
leaf_next (seq A B) h b i j n = no_leaf 6 (omega arith) h
leaf_next (union A B) h b i j n = no_leaf 7 (omega arith) h
leaf_next (star A) h b i j n = no_leaf 8 (omega arith) h

pub no_next : {k : PathKind} → Leaves k → (P : XPath) → k ≡ path_kind P → (b i j : ℕ) → Next P b i j → ⊥
no_next l P h = leaf_next P (subst Leaves h l)

-- .AB and +AB are the kinds 6 and 7: A and B stand one behind the other
abbrev pub Pairs : PathKind → Type 0
Pairs k = OneOf (6 ∷ 7 ∷ []) (tag_of the_type k)

pub record Pair (P A B : XPath) : Type 0 where
  pub numbered : steps P ≡ steps A ++ steps B
  pub inner : (s : List ℕ) {i j : ℕ} → PathAt s P i j → (m : ℕ) × PathAt s A (i + 1) m × PathAt s B m j

seq_pair : (A B : XPath) → Pair (seq A B) A B
seq_pair A B = record { numbered = refl; inner = λ s a. seq_inner s a }

union_pair : (A B : XPath) → Pair (union A B) A B
union_pair A B = record { numbered = refl; inner = λ s a. union_inner s a }

no_pair : (n : ℕ) → (n < 6) ⊎ (7 < n) → OneOf (6 ∷ 7 ∷ []) n → ⊥
no_pair n h (inl e) = ⊎_elim (λ x. omega arith) (λ x. omega arith) h
no_pair n h (inr e) = ⊎_elim (λ x. omega arith) (λ x. omega arith) h

pair_of : (P : XPath) → Pairs (path_kind P) → (A B : XPath) × Pair P A B
pair_of empty h = absurd (no_pair 0 (inl (omega arith)) h)
pair_of (one to_left) h = absurd (no_pair 1 (inl (omega arith)) h)
pair_of (one to_right) h = absurd (no_pair 2 (inl (omega arith)) h)
pair_of (one from_left) h = absurd (no_pair 3 (inl (omega arith)) h)
pair_of (one from_right) h = absurd (no_pair 4 (inl (omega arith)) h)
pair_of (one (stay T)) h = absurd (no_pair 5 (inl (omega arith)) h)
pair_of (seq A B) h = (A, B, seq_pair A B)
pair_of (union A B) h = (A, B, union_pair A B)
pair_of (star A) h = absurd (no_pair 8 (inr (omega arith)) h)

pub paired : {k : PathKind} → Pairs k → (P : XPath) → k ≡ path_kind P → (A B : XPath) × Pair P A B
paired l P h = pair_of P (subst Pairs h l)

-- ── Places ──
-- no path is spelled by nothing
spelled_long : (P : XPath) → 0 < length (spell_path P)
unfolding spell_path spell_step
spelled_long empty = omega arith
spelled_long (one to_left) = omega arith
spelled_long (one to_right) = omega arith
spelled_long (one from_left) = omega arith
spelled_long (one from_right) = omega arith
spelled_long (one (stay T)) = omega arith
spelled_long (seq A B) = omega arith
spelled_long (union A B) = omega arith
spelled_long (star A) = omega arith

module _ (s : List ℕ) where
  pub path_long : {P : XPath} {i j : ℕ} → PathAt s P i j → (i < j) × (j ≤ length s)
  path_long {P} {i} {j} a = let n = spelled_long P in let e = a.spans.ends in let l = a.spans.inside in omega arith

  pub room_long : (at b : ℕ) → Room s at b → at < length s
  room_long at b (P, j, a, l) = let h = path_long a in omega arith

  module _ (at b : ℕ) where
    -- two paths, one behind the other, stand behind the byte that joins them
    abbrev pub Two : Type 0
    Two = (A B : XPath) × (m j : ℕ) × PathAt s A (at + 1) m × PathAt s B m j × (b + size A + size B ≤ 16)

    two_of : {P A B : XPath} {j : ℕ} → Pair P A B → PathAt s P at j → b + size P ≤ 16 → Two
    two_of {A = A} {B = B} {j = j} p a l =
        let (m, x, y) = p.inner s a in let e = ap length p.numbered in let n = length-append (steps A) (steps B) in
        (A, B, m, j, x, y, omega arith)

    pub first_room : Two → Room s (at + 1) b
    first_room (A, B, m, j, x, y, l) = (A, m, x, omega arith)

    -- the first path was read up to n, and the next number is d
    module _ (t : Two) (n d : ℕ) (told : (P : XPath) (j : ℕ) → PathAt s P (at + 1) j → b + size P ≤ 16 → (n ≡ j) × (d ≡ b + size P)) where
      first_told : (n ≡ t.2) × (d ≡ b + size t.0)
      first_told = let (A, B, m, j, x, y, l) = t in told A m x (omega arith)

      pub second_room : Room s n d
      second_room =
          let (A, B, m, j, x, y, l) = t in let (e, k) = first_told in
          (B, j, subst (λ i. PathAt s B i j) (sym e) y, omega arith)

      pub second_behind : at < n
      second_behind = let w = path_long t.4 in let e = first_told.0 in omega arith

  module _ {at : ℕ} {k : PathKind} (kind : (P : XPath) (j : ℕ) → PathAt s P at j → k ≡ path_kind P) (b : ℕ) where
    pub seq_two : k ≡ Seq → Room s at b → Two at b
    seq_two e (P, j, a, l) = let (A, B, h) = shaped e P (kind P j a) in two_of at b (subst (λ X. Pair X A B) (sym h) (seq_pair A B)) a l

    pub union_two : k ≡ Union → Room s at b → Two at b
    union_two e (P, j, a, l) = let (A, B, h) = shaped e P (kind P j a) in two_of at b (subst (λ X. Pair X A B) (sym h) (union_pair A B)) a l

    pub pair_two : Pairs k → Room s at b → Two at b
    pair_two e (P, j, a, l) = let (A, B, p) = paired e P (kind P j a) in two_of at b p a l

    pub star_room : k ≡ Star → Room s at b → Room s (at + 1) b
    star_room e (P, j, a, l) =
        let (A, h) = shaped e P (kind P j a) in let z = ap size h in
        (A, j, star_inner s (subst (λ P. PathAt s P at j) h a), omega arith)

    -- a step needs one number
    pub step_room : Steps k → Room s at b → b < 16
    step_room e (P, j, a, l) = let (t, h) = stepped e P (kind P j a) in let z = ap size h in omega arith

-- ── The paths of a comparison ──
-- the first path alone
pub first_of : (s : List ℕ) (at : ℕ) (behind : Option ℕ) → TwoPaths s at behind → TwoPaths s at None
first_of s at behind (P, R, a) = let l = a.few in (P, empty, record { end = a.end; first = a.first; second = refl; few = omega arith })

module _ (s : List ℕ) (at : ℕ) {behind : Option ℕ} where
  pub path_room : TwoPaths s at behind → Room s at 1
  path_room (P, R, a) = let l = a.few in (P, a.end, a.first, omega arith)

  -- the first path was read up to n, and the next number is d
  pub behind_room : {b n d : ℕ} → behind ≡ Some b → ((P : XPath) (j : ℕ) → PathAt s P at j → 1 + size P ≤ 16 → (n ≡ j) × (d ≡ 1 + size P)) → TwoPaths s at behind → Room s b d
  behind_room there told (P, R, a) =
      let l = a.few in let e = (told P a.end a.first (omega arith)).1 in
      let (k, x) = subst (SecondAt s R) there a.second in (R, k, x, omega arith)
