-- The steps of two paths by the bytes at their places, and so their machine.
use Prim.Native.Nat.{ℕ, suc, ◌+◌, ◌≤◌, ◌<◌}
use native.Mathlib.Nat.{eq-or-lt_of_le}
use native.Mathlib.Omega.{arith}
use Rattle.std.specs.Prelude.{Option}
use mathlib.Core.Path.{◌≡◌, refl, sym, ap, subst, ◌∙◌}
use mathlib.Core.Bool.{Bool, true}
use mathlib.Core.Logic.{inl, inr, ⊎_elim, ◌↔◌}
use mathlib.Core.List.{List, [], ◌∷◌, ◌++◌, head-eq_of_cons-eq}
use lib.ListN.{length, get_or, drop, length-append}
use lib.Seq.{drop-cons}
use Rattle.bits.specs.Sets.{bit}
use Rattle.bits.specs.Square.{cell}
use Rattle.xpath.specs.Syntax.{Test, XPath, one, Step, to_left, to_right, from_left, from_right, stay, steps}
use Rattle.positions.specs.Positions.{Numbered, IsLast}
use Rattle.positions.proofs.Runs.{num_in}
use Rattle.rule_spec.specs.Spelling.{spell_path, spell_step}
use Rattle.rule_parts.specs.declared.kinds.PathKind.{PathKind}
use Rattle.rule_parts.specs.declared.kinds.PathKind.TheVariants.{Empty, ToLeft, ToRight, FromLeft, FromRight, Stay, Seq, Union, Star}
use Rattle.rule_parts.proofs.Told.{path_by}
use Rattle.path_sets.specs.Paths.{PathsAt, TwoPaths}
use Rattle.path_sets.proofs.Shapes.{path_long}
use Rattle.step_places.specs.Places.{Placed, Places}
use Rattle.automaton.specs.declared.automaton.Automaton.{Automaton}
use Rattle.automaton.specs.Compared.{Tells, TellsFollow}
use Rattle.machine.specs.declared.Machine.{Machine}
use Rattle.machine.specs.Meaning.{IsStep}
use Rattle.compiler.specs.Gathered.{Gathered, Inside, Begins}
use Rattle.compiler.specs.Machines.{KnownOf, Known, Machines, Machined}

-- ── The byte that a step begins with ──
abbrev byte : Step → ℕ
byte to_left = 108
byte to_right = 114
byte from_left = 76
byte from_right = 82
byte (stay T) = 91

spelled : (t : Step) → (u : List ℕ) × (spell_path (one t) ≡ byte t ∷ u)
unfolding spell_path spell_step
spelled to_left = (_, refl)
spelled to_right = (_, refl)
spelled from_left = (_, refl)
spelled from_right = (_, refl)
spelled (stay T) = (_, refl)

-- what a step is by its kind
abbrev Told : PathKind → Step → Type 0
Told Empty t = ⊥
Told ToLeft t = t ≡ to_left
Told ToRight t = t ≡ to_right
Told FromLeft t = t ≡ from_left
Told FromRight t = t ≡ from_right
Told Stay t = (T : Test) × (t ≡ stay T)
Told Seq t = ⊥
Told Union t = ⊥
Told Star t = ⊥

kind : (t : Step) → Told (path_by (byte t)) t
kind to_left = refl
kind to_right = refl
kind from_left = refl
kind from_right = refl
kind (stay T) = (T, refl)

-- and so by its byte
told : (b : ℕ) (t : Step) → byte t ≡ b → Told (path_by b) t
told b t e = subst (λ c. Told (path_by c) t) e (kind t)

-- ── The steps at their places ──
-- each number has a step
num_some : (xs : List Step) (b j : ℕ) → b ≤ j → j < b + length xs → (t : Step) × Numbered b xs j t
num_some [] b j p q = absurd (let z : ⊥ = omega arith in z)
num_some (x ∷ xs) b j p q = ⊎_elim (λ e. (x, inl (sym e, refl))) (λ l. let (t, h) = num_some xs (suc b) j l (omega arith) in (t, inr h)) (eq-or-lt_of_le p)

module _ (s : List ℕ) (xs : List Step) (places : List ℕ) (placed : Placed s xs places) where
  stands : (i : ℕ) (t : Step) → Numbered 1 xs i t → get_or s (get_or places i 0) 0 ≡ byte t
  stands i t h =
      let (m, a) = placed i t h in let l = path_long s a in
      head-eq_of_cons-eq (sym (drop-cons s (get_or places i 0) 0 (omega arith)) ∙ a.spans.spelled ∙ ap (λ u. u ++ drop m s) (spelled t).1)

  module _ (n : ℕ) (all : n ≡ length xs) where
    inside : n < 16 → Inside s places n
    inside l = record {
      few = l;
      within = λ i p q. let (t, h) = num_some xs 1 i p (omega arith) in let (m, a) = placed i t h in let k = path_long s a in omega arith;
    }

    module _ {b w : ℕ} (g : Gathered (Begins s places b) (n + 1) w) (j : ℕ) where
      -- a member is a step that begins with the byte
      to_step : bit w j ≡ true → (t : Step) × Numbered 1 xs j t × (byte t ≡ b)
      to_step e = let (l, (p, z)) = (g.told j).0 e in let (t, h) = num_some xs 1 j p (omega arith) in (t, h, sym (stands j t h) ∙ z)

      from_step : (t : Step) → Numbered 1 xs j t → byte t ≡ b → bit w j ≡ true
      from_step t h e = let r = num_in xs 1 j t h in (g.told j).1 (omega arith, (omega arith, stands j t h ∙ e))

      -- u is the only step that begins with it
      only_step : (u : Step) → ((t : Step) → byte t ≡ b → t ≡ u) → byte u ≡ b → (bit w j ≡ true) ↔ Numbered 1 xs j u
      only_step u only e = (λ c. let (t, h, z) = to_step c in subst (λ t. Numbered 1 xs j t) (only t z) h, λ h. from_step u h e)

    bracket_step : {w : ℕ} → Gathered (Begins s places 91) (n + 1) w → (j : ℕ) → (bit w j ≡ true) ↔ ((T : Test) × Numbered 1 xs j (stay T))
    bracket_step g j = (
      λ c. let (t, h, z) = to_step g j c in let (T, e) = told 91 t z in (T, subst (λ t. Numbered 1 xs j t) e h),
      λ h. from_step g j (stay h.0) h.1 refl,
    )

module _ {s : List ℕ} {f : List (List Bool)} {a : Automaton} {places : List ℕ} where
  module _ (P R : XPath) (k : KnownOf s f a places P R) where
    numbers : a.count ≡ length (steps P ++ steps R)
    numbers = let n = k.automaton.count in let l = length-append (steps P) (steps R) in omega arith

    step_set : {b w : ℕ} (u : Step) → ((t : Step) → byte t ≡ b → t ≡ u) → byte u ≡ b → Gathered (Begins s places b) (a.count + 1) w
        → (j : ℕ) → (bit w j ≡ true) ↔ IsStep P R j u
    step_set u only e g j = only_step s (steps P ++ steps R) places k.placed a.count numbers g j u only e

    bracket_set : {w : ℕ} → Gathered (Begins s places 91) (a.count + 1) w → (j : ℕ) → (bit w j ≡ true) ↔ ((T : Test) × IsStep P R j (stay T))
    bracket_set g j = bracket_step s (steps P ++ steps R) places k.placed a.count numbers g j

  pub known_inside : Known s f a places → Inside s places a.count
  known_inside (P, R, k) =
      let n = k.automaton.count in let l = k.few in
      inside s (steps P ++ steps R) places k.placed a.count (numbers P R k) (omega arith)

  pub known_middle : Known s f a places → a.middle < 16
  known_middle (P, R, k) = let m = k.automaton.middle in let l = k.few in omega arith

  pub machine_told : {m : Machine} → ((i j : ℕ) → i < 16 → j < 16 → (bit (get_or m.rows i 0) j ≡ true) ↔ (cell f i j ≡ true))
      → Gathered (Begins s places 108) (a.count + 1) m.left
      → Gathered (Begins s places 114) (a.count + 1) m.right
      → Gathered (Begins s places 76) (a.count + 1) m.leftup
      → Gathered (Begins s places 82) (a.count + 1) m.rightup
      → Gathered (Begins s places 91) (a.count + 1) m.brackets
      → m.last ≡ a.last
      → ((j : ℕ) → (bit m.first j ≡ true) ↔ (j ≤ a.middle))
      → m.second ≡ a.count + 1
      → Machines s f a places m
  machine_told {m} rows left right leftup rightup brackets last first second P R k = record {
    few = k.few;
    rows = λ i j p q. let r = rows i j p q in let h = k.square.follow i j p q in (λ e. h.0 (r.0 e), λ e. r.1 (h.1 e));
    left = λ j p. step_set P R k to_left (told 108) refl left j;
    right = λ j p. step_set P R k to_right (told 114) refl right j;
    from_left = λ j p. step_set P R k from_left (told 76) refl leftup j;
    from_right = λ j p. step_set P R k from_right (told 82) refl rightup j;
    brackets = λ j p. bracket_set P R k brackets j;
    last = λ j. subst (λ w. (bit w j ≡ true) ↔ IsLast P R j) (sym last) (k.automaton.last j);
    first = λ j p. subst (λ n. (bit m.first j ≡ true) ↔ (j ≤ n)) k.automaton.middle (first j);
    start = let n = k.automaton.count in omega arith;
  }

-- ── The paths at the offsets ──
module _ (s : List ℕ) (at : ℕ) (behind : Option ℕ) {f : List (List Bool)} {a : Automaton} {places : List ℕ} (follow : TellsFollow s at behind f) (tells : Tells s at behind a) (stand : Places s at behind places) where
  known_two : (P R : XPath) → PathsAt s at behind P R → KnownOf s f a places P R
  known_two P R x = record { few = x.few; square = follow P R x; automaton = tells P R x; placed = stand P R x }

  pub two_known : TwoPaths s at behind → Known s f a places
  two_known (P, R, x) = (P, R, known_two P R x)

  pub two_machined : {m : Machine} → Machines s f a places m → Machined s at behind m
  two_machined h P R x = h P R (known_two P R x)
