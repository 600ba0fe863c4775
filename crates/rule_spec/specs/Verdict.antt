-- When a rule is refused, and the limits of an accepted one: numbers 5 to 9 of 01.
use Rattle.std.specs.Prelude.{ℕ, suc, ◌≤◌, ◌<◌, ◌≡◌, List, ◌∷◌, ◌++◌, length, take}
use Rattle.limits.specs.Limits.{rule_bytes, rule_nesting, rule_tests, comparison_steps}
use Rattle.lists.specs.Lists.{Occurs}
use Rattle.refusals.specs.Refusals.{Refusal, rule_length, unreadable, nesting, number, place, First}
use Rattle.refusals.specs.Refusals as Refusals
use Rattle.xpath.specs.Syntax.{Test}
use Rattle.rule_spec.specs.Spelling.{spell_test, LegalTest}
use Rattle.rule_spec.specs.Parts.{Part, stepped, parts, tests}

-- p is a comparison or a count above 14 steps
abbrev pub Heavy : Part → Type 0
Heavy p = (m : ℕ) × (p.sort ≡ stepped m) × (comparison_steps < m)

module _ (s : List ℕ) where
  -- the rule reads as T
  pub record Reads (T : Test) : Type 0 where
    pub legal : LegalTest T
    pub spelled : s ≡ spell_test T

  -- the first k bytes begin the rule T, with nesting, steps, tests and whole length set aside
  pub record BeginsAs (k : ℕ) (T : Test) : Type 0 where
    pub inside : k ≤ length s
    pub legal : LegalTest T
    pub rest : List ℕ
    pub spelled : spell_test T ≡ take k s ++ rest

  abbrev pub Begins : ℕ → Type 0
  Begins k = (T : Test) × BeginsAs k T

  -- number 6: the rule does not read, and k is the length of its longest prefix that begins some rule
  pub record Unreadable (k : ℕ) : Type 0 where
    pub unread : (T : Test) → ¬ Reads T
    pub begins : Begins k
    pub longest : (i : ℕ) → Begins i → i ≤ k

  -- p is a part whose first byte lies inside a prefix that begins some rule (in a rule that reads, any part)
  pub record IsPart (p : Part) : Type 0 where
    pub rule : Test
    pub begins : BeginsAs (suc p.offset) rule
    pub among : Occurs p (parts rule)

  -- number 7: the first byte of the first part at nesting 33
  pub record TooDeep (o : ℕ) : Type 0 where
    pub part : Part
    pub is_part : IsPart part
    pub here : part.offset ≡ o
    pub deep : part.nesting ≡ suc rule_nesting
    pub first : (p : Part) → IsPart p → p.nesting ≡ suc rule_nesting → o ≤ p.offset

  -- number 8: the first byte of the 65th test
  pub record ManyTests (o : ℕ) : Type 0 where
    pub rule : Test
    pub reads : Reads rule
    pub before : List Part
    pub part : Part
    pub after : List Part
    pub split : tests (parts rule) ≡ before ++ part ∷ after
    pub full : length before ≡ rule_tests
    pub here : part.offset ≡ o

  -- number 9: the first byte of the first comparison or count above 14 steps, its opening bracket or its #
  pub record ManySteps (o : ℕ) : Type 0 where
    pub rule : Test
    pub reads : Reads rule
    pub part : Part
    pub among : Occurs part (parts rule)
    pub heavy : Heavy part
    pub here : part.offset ≡ o
    pub first : (p : Part) → Occurs p (parts rule) → Heavy p → o ≤ p.offset

  -- the grounds that judge a rule
  pub data RuleGround : Refusal → Type 0 where
    long : rule_bytes < length s → RuleGround rule_length
    unread : {k : ℕ} → Unreadable k → RuleGround (unreadable k)
    deep : {o : ℕ} → TooDeep o → RuleGround (nesting o)
    crowded : {o : ℕ} → ManyTests o → RuleGround (Refusals.tests o)
    heavy : {o : ℕ} → ManySteps o → RuleGround (Refusals.steps o)

  -- the rule reads as T, within the limits
  pub record Accepts (T : Test) : Type 0 where
    pub reads : Reads T
    pub short : length s ≤ rule_bytes
    pub shallow : (p : Part) → Occurs p (parts T) → p.nesting ≤ rule_nesting
    pub few : length (tests (parts T)) ≤ rule_tests
    pub light : (p : Part) → Occurs p (parts T) → ¬ Heavy p

  -- what the rule check returns, by number and place: the first ground, or no number and no place
  pub record Checked (n p : ℕ) : Type 0 where
    pub refused : (r : Refusal) → First RuleGround r → (n ≡ number r) × (p ≡ place r)
    pub accepted : (T : Test) → Accepts T → (n ≡ 0) × (p ≡ 0)
