-- The grounds on which a call is refused, with the papers' number and place for each, and the order in which they are looked at.
use Rattle.std.specs.Prelude.{ℕ, ◌<◌, ◌≡◌, ◌⊎◌}

-- a number in a constructor is the line (from 1) or the offset (from 0)
pub data Refusal : Type 0 where
  document_length : Refusal
  line_form : ℕ → Refusal
  node_count : Refusal
  tree_rule : ℕ → Refusal
  rule_length : Refusal
  unreadable : ℕ → Refusal
  nesting : ℕ → Refusal
  tests : ℕ → Refusal
  steps : ℕ → Refusal
  scratch_length : Refusal
  marks_length : Refusal
  duplicate_attribute : ℕ → Refusal
  other_comparison : Refusal
  no_such_node : Refusal

pub record Row : Type 0 where
  pub number : ℕ
  pub place : ℕ
  -- 01, order: 1; then 2 to 4, and with them 14 (02, d); 5; then 6 or 7; 8; 9; 23 (02, m); 10; 11; 13 (02, c)
  pub stage : ℕ

abbrev row : ℕ → ℕ → ℕ → Row
row n p s = record { number = n; place = p; stage = s }

-- 01, what a call hands back: the table
abbrev pub table : Refusal → Row
table document_length = row 1 0 1
table (line_form line) = row 2 line 2
table node_count = row 3 1 2
table (tree_rule line) = row 4 line 2
table rule_length = row 5 0 3
table (unreadable offset) = row 6 offset 4
table (nesting offset) = row 7 offset 4
table (tests offset) = row 8 offset 5
table (steps offset) = row 9 offset 6
table scratch_length = row 10 0 8
table marks_length = row 11 0 9
-- 02, (d): at the label line, taken in line order with 2 to 4
table (duplicate_attribute line) = row 14 line 2
-- 02, (m): the rule is not the comparison that the call is for, after 9
table other_comparison = row 23 0 7
-- 02, (c): a given node is not below N, after 10, and after 11 where marks are lent
table no_such_node = row 13 0 10

abbrev pub number : Refusal → ℕ
number r = (table r).number

abbrev pub place : Refusal → ℕ
place r = (table r).place

abbrev pub stage : Refusal → ℕ
stage r = (table r).stage

-- 01, order: within a stage the first bad line, or the lower offset, and the lowest number if one line has two
abbrev pub Earlier : Refusal → Refusal → Type 0
Earlier a b =
    (stage a < stage b)
    ⊎ ((stage a ≡ stage b) × ((place a < place b) ⊎ ((place a ≡ place b) × (number a < number b))))

-- of the grounds that apply, the one that the written order puts first
pub record First (Applies : Refusal → Type 0) (r : Refusal) : Type 0 where
  pub applies : Applies r
  pub first : (q : Refusal) → Applies q → ¬ Earlier q r
