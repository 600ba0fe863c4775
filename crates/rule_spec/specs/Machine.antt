-- A machine that reads a rule byte by byte: a stack of what is still to be read, and what the things read so far make of the rest.
use Rattle.std.specs.Prelude.{ℕ, zero, suc, ◌+◌, ◌-◌, ◌*◌, ◌⊎◌, Bool, true, false, List, [], ◌∷◌, ◌++◌, eqb, leb}
use Rattle.std.proofs.Common.{inl, inr}
use Rattle.std.proofs.Math.Option.{Option, none, some, map}
use Rattle.lists.specs.Numerals.{reading}
use Rattle.limits.specs.Limits.{label_bytes, constant_bytes, rule_count}
use Rattle.xpath.specs.Syntax.{Op, eq, ne, lt, le, gt, ge, Test, named, not, and, or, compare, compare_to, at_least, XPath, empty, one, seq, union, star, to_left, to_right, from_left, from_right, stay}
use Rattle.rule_spec.specs.Bytes.{choose, both, is_letter, is_name_byte, is_digit, is_printable}

-- ── The stack ──
-- test n and path n have nesting n; tail i is up to i more bytes of a name, quoted i up to i bytes of a constant and the quote that ends it;
-- number is the n of a count, and figures m what may still come of it where the digits read so far make m;
-- signed is a comparison from its sign to its closing bracket, operand from behind its sign, or_equal from behind the first byte of a sign with < or >
pub data Symbol : Type 0 where
  test path : ℕ → Symbol
  byte : ℕ → Symbol
  label : Symbol
  tail quoted : ℕ → Symbol
  number : Symbol
  figures : ℕ → Symbol
  signed or_equal operand : ℕ → Symbol

abbrev pub Stack : Type 0
Stack = List Symbol

-- a path or a constant
abbrev pub Operand : Type 0
Operand = XPath ⊎ List ℕ

-- what is read for a symbol
abbrev pub Value : Symbol → Type 0
Value (test n) = Test
Value (path n) = XPath
Value (byte c) = Unit {0}
Value label = List ℕ
Value (tail i) = List ℕ
Value (quoted i) = List ℕ
Value number = List ℕ
Value (figures m) = List ℕ
Value (signed n) = Op × Operand
Value (or_equal n) = Bool × Operand
Value (operand n) = Operand

abbrev pub Values : Stack → Type 0
Values [] = Unit {0}
Values (x ∷ st) = Value x × Values st

-- ── One byte ──
-- one byte read: the stack after it, how the values of that stack make those of the stack before, and the nesting of the part that begins at the byte, if one does
pub record Move (st : Stack) : Type 0 where
  pub after : Stack
  pub build : Values after → Values st
  pub begins : Option ℕ

-- the entry under a byte
abbrev pub look : {A : Type 0} → ℕ → List (ℕ × A) → Option A
look b [] = none
look b (r ∷ rs) = choose (eqb b r.0) (some r.1) (look b rs)

abbrev pub comparing : XPath → Op → Operand → Test
comparing P o (inl Q) = compare o P Q
comparing P o (inr c) = compare_to o P c

module _ {st : Stack} where
  -- a byte at which a part of nesting n begins, and one at which none does
  abbrev pub start : ℕ → (st' : Stack) → (Values st' → Values st) → Move st
  start n st' f = record { after = st'; build = f; begins = some n }

  abbrev pub go : (st' : Stack) → (Values st' → Values st) → Move st
  go st' f = record { after = st'; build = f; begins = none }

  -- the byte belongs to what stands in place of st, or behind what is left empty
  abbrev pub pass : {st' : Stack} → (Values st' → Values st) → Move st' → Move st
  pass f m = record { after = m.after; build = λ v. f (m.build v); begins = m.begins }

-- ── What each byte begins ──
-- : ! & | ( #
abbrev pub test_moves : (n : ℕ) (st : Stack) → List (ℕ × Move (test n ∷ st))
test_moves n st =
    (58, start n (label ∷ st) (λ v. (named v.0, v.1)))
    ∷ (33, start n (test (suc n) ∷ st) (λ v. (not v.0, v.1)))
    ∷ (38, start n (test (suc n) ∷ test (suc n) ∷ st) (λ v. (and v.0 v.1.0, v.1.1)))
    ∷ (124, start n (test (suc n) ∷ test (suc n) ∷ st) (λ v. (or v.0 v.1.0, v.1.1)))
    ∷ (40, start n (path (suc n) ∷ signed (suc n) ∷ st) (λ v. (comparing v.0 v.1.0.0 v.1.0.1, v.1.1)))
    ∷ (35, start n (number ∷ path (suc n) ∷ st) (λ v. (at_least (reading v.0) v.1.0, v.1.1)))
    ∷ []

-- e l r L R [ . + *
abbrev pub path_moves : (n : ℕ) (st : Stack) → List (ℕ × Move (path n ∷ st))
path_moves n st =
    (101, start n st (λ v. (empty, v)))
    ∷ (108, start n st (λ v. (one to_left, v)))
    ∷ (114, start n st (λ v. (one to_right, v)))
    ∷ (76, start n st (λ v. (one from_left, v)))
    ∷ (82, start n st (λ v. (one from_right, v)))
    ∷ (91, start n (test (suc n) ∷ byte 93 ∷ st) (λ v. (one (stay v.0), v.1.1)))
    ∷ (46, start n (path (suc n) ∷ path (suc n) ∷ st) (λ v. (seq v.0 v.1.0, v.1.1)))
    ∷ (43, start n (path (suc n) ∷ path (suc n) ∷ st) (λ v. (union v.0 v.1.0, v.1.1)))
    ∷ (42, start n (path (suc n) ∷ st) (λ v. (star v.0, v.1)))
    ∷ []

-- = ! < >
abbrev pub sign_moves : (n : ℕ) (st : Stack) → List (ℕ × Move (signed n ∷ st))
sign_moves n st =
    (61, go (operand n ∷ st) (λ v. ((eq, v.0), v.1)))
    ∷ (33, go (byte 61 ∷ operand n ∷ st) (λ v. ((ne, v.1.0), v.1.1)))
    ∷ (60, go (or_equal n ∷ st) (λ v. ((choose v.0.0 le lt, v.0.1), v.1)))
    ∷ (62, go (or_equal n ∷ st) (λ v. ((choose v.0.0 ge gt, v.0.1), v.1)))
    ∷ []

abbrev pub operand_move : (n : ℕ) (st : Stack) → ℕ → Option (Move (operand n ∷ st))
operand_move n st b =
    choose (eqb b 34)
    (some (go (quoted constant_bytes ∷ byte 41 ∷ st) (λ v. (inr v.0, v.1.1))))
    (map (pass (λ v. (inl v.0, v.1.1))) (look b (path_moves n (byte 41 ∷ st))))

-- one digit more makes m a number that a count may have: none comes behind a zero, and it stays at most 4,096
abbrev pub goes_on : ℕ → ℕ → Bool
goes_on m b = both (is_digit b) (both (leb 1 m) (leb (m * 10 + (b - 48)) rule_count))

-- ── The machine ──
-- the machine: what it does at a byte, if it does not refuse it
unfoldable pub move : (st : Stack) → ℕ → Option (Move st)
move [] b = none
move (test n ∷ st) b = look b (test_moves n st)
move (path n ∷ st) b = look b (path_moves n st)
move (byte c ∷ st) b = choose (eqb b c) (some (go st (λ v. (tt, v)))) none
move (label ∷ st) b = choose (is_letter b) (some (go (tail (label_bytes - 1) ∷ st) (λ v. (b ∷ v.0, v.1)))) none
move (tail zero ∷ st) b = map (pass (λ v. ([], v))) (move st b)
move (tail (suc i) ∷ st) b =
    choose (is_name_byte b) (some (go (tail i ∷ st) (λ v. (b ∷ v.0, v.1)))) (map (pass (λ v. ([], v))) (move st b))
move (quoted zero ∷ st) b = choose (eqb b 34) (some (go st (λ v. ([], v)))) none
move (quoted (suc i) ∷ st) b =
    choose (eqb b 34) (some (go st (λ v. ([], v)))) (choose (is_printable b) (some (go (quoted i ∷ st) (λ v. (b ∷ v.0, v.1)))) none)
move (number ∷ st) b = choose (is_digit b) (some (go (figures (b - 48) ∷ st) (λ v. (b ∷ v.0, v.1)))) none
move (figures m ∷ st) b =
    choose (goes_on m b) (some (go (figures (m * 10 + (b - 48)) ∷ st) (λ v. (b ∷ v.0, v.1)))) (map (pass (λ v. ([], v))) (move st b))
move (signed n ∷ st) b = look b (sign_moves n st)
move (or_equal n ∷ st) b =
    choose (eqb b 61) (some (go (operand n ∷ st) (λ v. ((true, v.0), v.1)))) (map (pass (λ v. ((false, v.0), v.1))) (operand_move n st b))
move (operand n ∷ st) b = operand_move n st b

-- the values of a stack that may be left, if it may
unfoldable pub rest : (st : Stack) → Option (Values st)
rest [] = some tt
rest (test n ∷ st) = none
rest (path n ∷ st) = none
rest (byte c ∷ st) = none
rest (label ∷ st) = none
rest (tail i ∷ st) = map (λ v. ([], v)) (rest st)
rest (quoted i ∷ st) = none
rest (number ∷ st) = none
rest (figures m ∷ st) = map (λ v. ([], v)) (rest st)
rest (signed n ∷ st) = none
rest (or_equal n ∷ st) = none
rest (operand n ∷ st) = none

-- ── A whole text ──
-- the offset and the nesting of a part
abbrev pub Key : Type 0
Key = ℕ × ℕ

abbrev pub note : List Key → ℕ → Option ℕ → List Key
note ks o none = ks
note ks o (some n) = ks ++ (o, n) ∷ []

module _ (R : Type 0) where
  -- the machine on its way to an R: what the values of the stack will make, the parts begun, and the offset
  pub record State : Type 0 where
    pub stack : Stack
    pub result : Values stack → R
    pub seen : List Key
    pub here : ℕ

module _ {R : Type 0} where
  abbrev pub state : (st : Stack) → (Values st → R) → List Key → ℕ → State R
  state st f ks o = record { stack = st; result = f; seen = ks; here = o }

  abbrev pub advance : (s : State R) → Move s.stack → State R
  advance s m = state m.after (λ v. s.result (m.build v)) (note s.seen s.here m.begins) (suc s.here)

  abbrev pub step : State R → ℕ → Option (State R)
  step s b = map (advance s) (move s.stack b)

  -- all bytes of a text: what is made of the state at its end, or of the parts and the offset where a byte is refused
  abbrev pub ask : {X : Type 0} → Option (State R) → (State R → X) → X → X
  ask none f x = x
  ask (some s) f x = f s

  unfoldable pub over : {X : Type 0} → (State R → X) → (List Key → ℕ → X) → State R → List ℕ → X
  over end stop s [] = end s
  over end stop s (b ∷ w) = ask (step s b) (λ t. over end stop t w) (stop s.seen s.here)

-- what is read, with its parts; or the parts begun and the offset where the machine refuses a byte or the end
pub data Answer (R : Type 0) : Type 0 where
  read : R → List Key → Answer R
  stopped : List Key → ℕ → Answer R

module _ {R : Type 0} where
  abbrev pub closing : (s : State R) → Option (Values s.stack) → Answer R
  closing s none = stopped s.seen s.here
  closing s (some v) = read (s.result v) s.seen

  abbrev pub close : State R → Answer R
  close s = closing s (rest s.stack)
