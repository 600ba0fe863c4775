-- Where a rule is refused, one ground is first: those that apply stand in a list that is computed.
use Prim.Native.Nat.{ℕ, ◌<◌}
use native.Mathlib.Omega.{arith}
use mathlib.Core.Path.{◌≡◌, refl, sym, ap, subst, ◌∙◌}
use mathlib.Core.Logic.{◌⊎◌, inl, inr, ◌↔◌, ⊎_elim}
use mathlib.Core.Bool.{Bool, true, false}
use mathlib.Core.Option.{Option, none, some}
use mathlib.Core.List.{List, [], ◌∷◌, ◌++◌}
use lib.ListN.{length}
use lib.Dec.{ltb}
use borrow.Author.Tests.{ltb-true, ltb-false}
use Rattle.limits.specs.Limits.{rule_bytes}
use Rattle.lists.specs.Lists.{Occurs}
use Rattle.lists.proofs.Lists.{occurs_left, occurs_right, occurs_append}
use Rattle.refusals.specs.Refusals.{Refusal, rule_length, unreadable, nesting, tests, steps, First}
use Rattle.xpath.specs.Syntax.{Test}
use Rattle.rule_spec.specs.Verdict.{Unreadable, TooDeep, ManyTests, ManySteps, RuleGround, Accepts, Checked}
use Rattle.rule_spec.specs.Machine.{Answer}
use Rattle.rule_spec.proofs.Machine.{answer, rule_start}
use Rattle.rule_spec.proofs.Least.{Settles}
use Rattle.rule_spec.proofs.Grounds.{known, unread_at, unread_settles, deep_at, deep_settles, many_tests_at, tests_settles, many_steps_at, steps_settles}
use Rattle.rule_spec.proofs.Earliest.{earliest, Earliest, earliest_first}
use Rattle.rule_spec.proofs.Accepted.{unrefused_accepted}

module _ (s : List ℕ) where
  -- the refusals of one number: none applies, or the one found and no other
  abbrev Applies : (ℕ → Refusal) → Option ℕ → Type 0
  Applies c none = (o : ℕ) → ¬ RuleGround s (c o)
  Applies c (some o) = RuleGround s (c o) × ((i : ℕ) → RuleGround s (c i) → c i ≡ c o)

  pub record Row : Type 0 where
    pub refusal : ℕ → Refusal
    pub found : Option ℕ
    pub applies : Applies refusal found

  -- A is the ground of this number
  module _ (c : ℕ → Refusal) (A : ℕ → Type 0) (to : (o : ℕ) → A o → RuleGround s (c o)) (from : (o : ℕ) → RuleGround s (c o) → A o) where
    pub settled : (x : Option ℕ) → Settles A x → Applies c x
    settled none h = λ o g. h o (from o g)
    settled (some o) h = (to o h.0, λ i g. ap c (h.1 i (from i g)))

    abbrev row : (x : Option ℕ) → Settles A x → Row
    row x h = record { refusal = c; found = x; applies = settled x h }

  pub is_unread : (o : ℕ) → RuleGround s (unreadable o) → Unreadable s o
  is_unread o (RuleGround.unread h) = h

  pub is_deep_lem : (o : ℕ) → RuleGround s (nesting o) → TooDeep s o
  is_deep_lem o (RuleGround.deep h) = h

  pub is_crowded : (o : ℕ) → RuleGround s (tests o) → ManyTests s o
  is_crowded o (RuleGround.crowded h) = h

  pub is_heavy_lem : (o : ℕ) → RuleGround s (steps o) → ManySteps s o
  is_heavy_lem o (RuleGround.heavy h) = h

  is_long : RuleGround s rule_length → rule_bytes < length s
  is_long (RuleGround.long h) = h

  abbrev long_at : Bool → Option ℕ
  long_at true = some 0
  long_at false = none

  pub long_applies : (t : Bool) → ltb rule_bytes (length s) ≡ t → Applies (λ o. rule_length) (long_at t)
  long_applies true e = (RuleGround.long (ltb-true rule_bytes (length s) e), λ i h. refl)
  long_applies false e = λ o h. let l = ltb-false rule_bytes (length s) e in let g = is_long h in omega arith

  abbrev heard : Answer Test
  heard = answer rule_start s

  abbrev rows : List Row
  rows =
      record { refusal = λ o. rule_length; found = long_at (ltb rule_bytes (length s)); applies = long_applies _ refl }
      ∷ row unreadable (Unreadable s) (λ o. RuleGround.unread) is_unread (unread_at heard) (unread_settles s heard (known s))
      ∷ row nesting (TooDeep s) (λ o. RuleGround.deep) is_deep_lem (deep_at heard) (deep_settles s)
      ∷ row tests (ManyTests s) (λ o. RuleGround.crowded) is_crowded (many_tests_at heard) (tests_settles s heard (known s))
      ∷ row steps (ManySteps s) (λ o. RuleGround.heavy) is_heavy_lem (many_steps_at heard) (steps_settles s heard (known s))
      ∷ []

  abbrev listed : (ℕ → Refusal) → Option ℕ → List Refusal
  listed c none = []
  listed c (some o) = c o ∷ []

  abbrev all : List Row → List Refusal
  all [] = []
  all (x ∷ xs) = listed x.refusal x.found ++ all xs

  in_row : (c : ℕ → Refusal) (x : Option ℕ) → Applies c x → (o : ℕ) → RuleGround s (c o) → Occurs (c o) (listed c x)
  in_row c none h o g = absurd (h o g)
  in_row c (some i) h o g = inl (h.1 o g)

  out_row : (c : ℕ → Refusal) (x : Option ℕ) → Applies c x → (r : Refusal) → Occurs r (listed c x) → RuleGround s r
  out_row c none h r o = absurd o
  out_row c (some i) h r (inl e) = subst (RuleGround s) (sym e) h.0
  out_row c (some i) h r (inr o) = absurd o

  in_all : (xs : List Row) (x : Row) → Occurs x xs → (o : ℕ) → RuleGround s (x.refusal o) → Occurs (x.refusal o) (all xs)
  in_all [] x i o g = absurd i
  in_all (y ∷ xs) x (inl e) o g = occurs_left _ (listed y.refusal y.found) (all xs)
      (subst (λ z. Occurs (x.refusal o) (listed z.refusal z.found)) e (in_row x.refusal x.found x.applies o g))
  in_all (y ∷ xs) x (inr i) o g = occurs_right _ (listed y.refusal y.found) (all xs) (in_all xs x i o g)

  out_all : (xs : List Row) (r : Refusal) → Occurs r (all xs) → RuleGround s r
  out_all [] r o = absurd o
  out_all (y ∷ xs) r o = ⊎_elim (out_row y.refusal y.found y.applies r) (out_all xs r) (occurs_append r (listed y.refusal y.found) (all xs) o)

  -- the grounds that apply
  unfoldable pub grounds : List Refusal
  grounds = all rows

  pub grounds_exact : (r : Refusal) → RuleGround s r ↔ Occurs r grounds
  unfolding grounds
  grounds_exact r = (to r, out_all rows r)
    where
      to : (r : Refusal) → RuleGround s r → Occurs r (all rows)
      to r (RuleGround.long g) = in_all rows _ (inl refl) 0 (RuleGround.long g)
      to r (RuleGround.unread {k = k} g) = in_all rows _ (inr (inl refl)) k (RuleGround.unread g)
      to r (RuleGround.deep {o = o} g) = in_all rows _ (inr (inr (inl refl))) o (RuleGround.deep g)
      to r (RuleGround.crowded {o = o} g) = in_all rows _ (inr (inr (inr (inl refl)))) o (RuleGround.crowded g)
      to r (RuleGround.heavy {o = o} g) = in_all rows _ (inr (inr (inr (inr (inl refl))))) o (RuleGround.heavy g)

  unfoldable pub verdict : Option Refusal
  unfolding grounds earliest
  verdict = earliest grounds

-- what a verdict says of a rule
abbrev pub Judged : List ℕ → Option Refusal → Type 0
Judged s none = (T : Test) × Accepts s T
Judged s (some r) = First (RuleGround s) r

pub verdict_judged : (s : List ℕ) → Judged s (verdict s)
unfolding verdict
verdict_judged s = go (earliest (grounds s)) (earliest_first (grounds s))
  where
    go : (x : Option Refusal) → Earliest (grounds s) x → Judged s x
    go none h = unrefused_accepted s (λ r g. h r ((grounds_exact s r).0 g))
    go (some r) f = record { applies = (grounds_exact s r).1 f.applies; first = λ q g. f.first q ((grounds_exact s q).0 g) }

pub rule_judged : (s : List ℕ) → ((r : Refusal) × First (RuleGround s) r) ⊎ ((T : Test) × Accepts s T)
rule_judged s = go (verdict s) (verdict_judged s)
  where
    go : (x : Option Refusal) → Judged s x → ((r : Refusal) × First (RuleGround s) r) ⊎ ((T : Test) × Accepts s T)
    go none h = inr h
    go (some r) h = inl (r, h)

-- ── The check's contract leaves nothing open ──
pub checked_one : (s : List ℕ) (n p n' p' : ℕ) → Checked s n p → Checked s n' p' → (n ≡ n') × (p ≡ p')
checked_one s n p n' p' a b = go (rule_judged s)
  where
    go : ((r : Refusal) × First (RuleGround s) r) ⊎ ((T : Test) × Accepts s T) → (n ≡ n') × (p ≡ p')
    go (inl (r, f)) = let x = a.refused r f in let y = b.refused r f in (x.0 ∙ sym y.0, x.1 ∙ sym y.1)
    go (inr (T, c)) = let x = a.accepted T c in let y = b.accepted T c in (x.0 ∙ sym y.0, x.1 ∙ sym y.1)
