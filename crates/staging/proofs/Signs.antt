-- The signs: tests that tell them, and what they say of texts and of amounts by how these compare.
use Prim.Native.Nat.{ℕ, ◌≤◌, ◌<◌}
use mathlib.Core.Path.{◌≡◌, refl, sym, ap, ◌∙◌, subst}
use mathlib.Core.Logic.{◌↔◌}
use mathlib.Core.Bool.{Bool, true, false, not}
use mathlib.Core.List.{List}
use native.Mathlib.Omega.{arith}
use Rattle.xpath.specs.Syntax.{Op, eq, ne, lt, le, gt, ge}
use Rattle.xpath.specs.Reading.{amount_of}
use Rattle.xpath.specs.Meaning.{Rel}
use Rattle.xpath.proofs.Booleans.{trans, ¬-iff}
use Rattle.rule_spec.proofs.Bytes.{clash}
use Rattle.rule_parts.specs.declared.kinds.Operator.{Operator}
use Rattle.rule_parts.specs.declared.kinds.Operator.TheVariants.{Equal as Alike, Unequal, Less as Smaller, LessEqual, Greater as Larger, GreaterEqual}
use Rattle.rule_parts.specs.Kinds.{operator}
use Rattle.layout.specs.Table.{RANK, AMOUNT}
use Rattle.string_order.specs.Bytes as Bytes
use Rattle.std.specs.declared.cmp.Ordering.{Ordering}
use Rattle.std.specs.declared.cmp.Ordering.TheVariants.{Less, Equal, Greater}
use Rattle.std.specs.Ordering.{is_eq, is_ne, is_lt, is_le, is_gt, is_ge}
use Rattle.string_order.proofs.Bytes.{less_distinct}
use Rattle.numerals.specs.Keys.{no_key, key_of}
use Rattle.numerals.proofs.Keys.{below_by_keys, at_most_by_keys}
use Rattle.constants.specs.Places.{Compares}
use Rattle.staging.specs.Signs.{Stands, ByText, ranks_of}

-- ── A test tells whether A holds ──
pub told_yes : {A : Type 0} → A → (true ≡ true) ↔ A
told_yes a = (λ e. a, λ h. refl)

pub told_no : {A : Type 0} → ¬ A → (false ≡ true) ↔ A
told_no f = (λ e. clash e, λ a. absurd (f a))

pub told_not : {A : Type 0} (r : Bool) → (r ≡ true) ↔ A → (not r ≡ true) ↔ (¬ A)
told_not true h = told_no (λ f. f (h.0 refl))
told_not false h = told_yes (λ a. clash (h.1 a))

pub told_left : {A : Type 0} {r : Bool} → r ≡ false → (r ≡ true) ↔ A → ¬ A
told_left e h a = clash (sym e ∙ h.1 a)

-- 1 and 0 tell it too
pub counted_yes : {A : Type 0} {r : Bool} → r ≡ true → (r ≡ true) ↔ A → (◌≡◌ {A = ℕ} 1 1) ↔ A
counted_yes e h = (λ z. h.0 e, λ a. refl)

pub counted_no : {A : Type 0} {r : Bool} → r ≡ false → (r ≡ true) ↔ A → (◌≡◌ {A = ℕ} 0 1) ↔ A
counted_no e h = (λ z. absurd (omega arith), λ a. absurd (told_left e h a))

-- ── The sign that an operator stands for ──
abbrev sign : Operator → Op
sign Alike = eq
sign Unequal = ne
sign Smaller = lt
sign LessEqual = le
sign Larger = gt
sign GreaterEqual = ge

sign_is : (q : Op) → sign (operator q) ≡ q
sign_is eq = refl
sign_is ne = refl
sign_is lt = refl
sign_is le = refl
sign_is gt = refl
sign_is ge = refl

-- what is said of the one sign that an operator stands for is said of each
pub said_by : (P : Op → Type 0) {o : Operator} (p q : Op) → o ≡ operator p → o ≡ operator q → P p → P q
said_by P p q e f h = subst P (sym (sign_is p) ∙ ap (λ (x : Operator). sign x) (sym e ∙ f) ∙ sign_is q) h

-- ── The ranks that a sign compares ──
pub ranks_text : (q : Op) → ByText q → RANK ≡ ranks_of q
ranks_text eq y = refl
ranks_text ne y = refl
ranks_text lt y = absurd y
ranks_text le y = absurd y
ranks_text gt y = absurd y
ranks_text ge y = absurd y

pub ranks_amount : (q : Op) → ¬ ByText q → AMOUNT ≡ ranks_of q
ranks_amount eq f = absurd (f tt)
ranks_amount ne f = absurd (f tt)
ranks_amount lt f = refl
ranks_amount le f = refl
ranks_amount gt f = refl
ranks_amount ge f = refl

-- ── How values compare: in one of three ways ──
abbrev code : Ordering → ℕ
code Less = 0
code Equal = 1
code Greater = 2

pub apart : {A : Type 0} {c d : Ordering} → c ≡ d → ¬ (code c ≡ code d) → A
apart e f = absurd (f (ap (λ (c : Ordering). code c) e))

same_text : (bs cs : List ℕ) (c : Ordering) → Compares Bytes.Less bs cs c → (c ≡ Equal) ↔ (bs ≡ cs)
same_text bs cs Less h = (λ e. absurd (cc), λ e. absurd (less_distinct bs cs h e))
same_text bs cs Equal h = (λ e. h, λ e. refl)
same_text bs cs Greater h = (λ e. absurd (cc), λ e. absurd (less_distinct cs bs h (sym e)))

module _ (a b : ℕ) where
  less_number : (c : Ordering) → Compares ◌<◌ a b c → (c ≡ Less) ↔ (a < b)
  less_number Less h = (λ e. h, λ l. refl)
  less_number Equal h = (λ e. absurd (cc), λ l. absurd (omega arith))
  less_number Greater h = (λ e. absurd (cc), λ l. absurd (omega arith))

  greater_number : (c : Ordering) → Compares ◌<◌ a b c → (c ≡ Greater) ↔ (b < a)
  greater_number Less h = (λ e. absurd (cc), λ l. absurd (omega arith))
  greater_number Equal h = (λ e. absurd (cc), λ l. absurd (omega arith))
  greater_number Greater h = (λ e. h, λ l. refl)

  not_less : (¬ (a < b)) ↔ (b ≤ a)
  not_less = (λ f. omega arith, λ l h. omega arith)

-- the test of std for each sign
abbrev test : Op → Ordering → Bool
test eq c = is_eq c
test ne c = is_ne c
test lt c = is_lt c
test le c = is_le c
test gt c = is_gt c
test ge c = is_ge c

stands_if : (q : Op) (c : Ordering) → (test q c ≡ true) ↔ Stands q c
stands_if eq Less = told_no (λ e. cc)
stands_if eq Equal = told_yes refl
stands_if eq Greater = told_no (λ e. cc)
stands_if ne Less = told_yes (λ e. cc)
stands_if ne Equal = told_no (λ f. f refl)
stands_if ne Greater = told_yes (λ e. cc)
stands_if lt Less = told_yes refl
stands_if lt Equal = told_no (λ e. cc)
stands_if lt Greater = told_no (λ e. cc)
stands_if le Less = told_yes (λ e. cc)
stands_if le Equal = told_yes (λ e. cc)
stands_if le Greater = told_no (λ f. f refl)
stands_if gt Less = told_no (λ e. cc)
stands_if gt Equal = told_no (λ e. cc)
stands_if gt Greater = told_yes refl
stands_if ge Less = told_no (λ f. f refl)
stands_if ge Equal = told_yes (λ e. cc)
stands_if ge Greater = told_yes (λ e. cc)

pub fits_by : {o : Operator} {r : Bool} (p : Op) (c : Ordering) → o ≡ operator p → r ≡ test p c → (q : Op) → o ≡ operator q → (r ≡ true) ↔ Stands q c
fits_by {o} {r} p c e h q f = said_by (λ x. (r ≡ true) ↔ Stands x c) p q e f (rw h (stands_if p c))

-- ── What a sign of text says ──
pub stands_text : (q : Op) (bs cs : List ℕ) (c : Ordering) → ByText q → Compares Bytes.Less bs cs c → Stands q c ↔ Rel q bs cs
stands_text eq bs cs c y h = same_text bs cs c h
stands_text ne bs cs c y h = ¬-iff (same_text bs cs c h)
stands_text lt bs cs c y h = absurd y
stands_text le bs cs c y h = absurd y
stands_text gt bs cs c y h = absurd y
stands_text ge bs cs c y h = absurd y

-- ── What a sign of order says, by the keys of the amounts ──
abbrev pub key : List ℕ → ℕ
key bs = key_of (amount_of bs)

keyed : {A B C D : Type 0} → A → B → D ↔ (A × B × C) → C ↔ D
keyed a b f = (λ c. f.1 (a, b, c), λ d. (f.0 d).2)

pub stands_amount : (q : Op) (bs cs : List ℕ) (c : Ordering) → ¬ ByText q → key bs < no_key → key cs < no_key → Compares ◌<◌ (key bs) (key cs) c → Stands q c ↔ Rel q bs cs
stands_amount eq bs cs c f x y h = absurd (f tt)
stands_amount ne bs cs c f x y h = absurd (f tt)
stands_amount lt bs cs c f x y h = trans (less_number (key bs) (key cs) c h) (keyed x y (below_by_keys bs cs))
stands_amount le bs cs c f x y h = trans (trans (¬-iff (greater_number (key bs) (key cs) c h)) (not_less (key cs) (key bs))) (keyed x y (at_most_by_keys bs cs))
stands_amount gt bs cs c f x y h = trans (greater_number (key bs) (key cs) c h) (keyed y x (below_by_keys cs bs))
stands_amount ge bs cs c f x y h = trans (trans (¬-iff (less_number (key bs) (key cs) c h)) (not_less (key bs) (key cs))) (keyed y x (at_most_by_keys cs bs))

-- it holds between numerals alone
pub amounts_both : (q : Op) (bs cs : List ℕ) → ¬ ByText q → Rel q bs cs → (key bs < no_key) × (key cs < no_key)
amounts_both eq bs cs f r = absurd (f tt)
amounts_both ne bs cs f r = absurd (f tt)
amounts_both lt bs cs f r = let z = (below_by_keys bs cs).0 r in (z.0, z.1)
amounts_both le bs cs f r = let z = (at_most_by_keys bs cs).0 r in (z.0, z.1)
amounts_both gt bs cs f r = let z = (below_by_keys cs bs).0 r in (z.1, z.0)
amounts_both ge bs cs f r = let z = (at_most_by_keys cs bs).0 r in (z.1, z.0)
