-- What a reader answers: it goes along the rule as the machine does that reads rules byte by byte.
use Rattle.std.specs.Prelude.{ℕ, suc, ◌+◌, ◌≤◌, ◌<◌, ◌-◌, ◌≡◌, ◌≢◌, Bool, true, false, List, [], ◌∷◌, length, drop, Result, Ok, Err}
use Rattle.std.proofs.Common.{inl, inr}
use Rattle.limits.specs.Limits.{label_bytes, rule_nesting}
use Rattle.lists.specs.Lists.{All}
use Rattle.lists.specs.Text.{decimal}
use Rattle.lists.specs.Numerals.{reading}
use Rattle.xpath.specs.Syntax.{Op, Test, size}
use Rattle.rule_spec.specs.Spelling.{sign, spell_test, spell_path}
use Rattle.rule_spec.specs.Parts.{Part, test_parts, path_parts}
use Rattle.rule_spec.specs.Bytes.{choose}
use Rattle.rule_spec.specs.Machine.{Symbol, test, path, byte, label, tail, quoted, number, figures, signed, or_equal, operand, Stack, Value, Values, Operand, Answer, stopped, close, Key}
use Rattle.rule_spec.specs.Readers.{goes, Ends, Stop, Meet, keys, spell_operand, Returns}
use Rattle.tokens.specs.declared.read.Tally.{Tally}
use Rattle.tokens.specs.declared.read.Behind.{Behind}
use Rattle.tokens.specs.declared.read.Refusal.{Refusal}
use Rattle.tokens.specs.declared.read.Refusal.TheVariants.{Stuck, Deep}
use Rattle.tokens.specs.Tallies.{tallied}

-- ── Of what a symbol reads: its parts, its steps, and how many bytes it has ──
abbrev operand_parts : Operand → ℕ → ℕ → List Part
operand_parts (inl P) o n = path_parts P o n
operand_parts (inr c) o n = []

abbrev operand_size : Operand → ℕ
operand_size (inl P) = size P
operand_size (inr c) = 0

abbrev pub parts_of : (x : Symbol) → Value x → ℕ → List Part
parts_of (test n) T o = test_parts T o n
parts_of (path n) P o = path_parts P o n
parts_of (byte c) u o = []
parts_of label a o = []
parts_of (tail i) a o = []
parts_of (quoted i) c o = []
parts_of number ds o = []
parts_of (figures m) ds o = []
parts_of (signed n) v o = operand_parts v.1 (o + length (sign v.0)) n
parts_of (or_equal n) v o = operand_parts v.1 (o + choose v.0 1 0) n
parts_of (operand n) w o = operand_parts w o n

-- the steps of a test count for the comparisons and counts in it alone
abbrev pub size_of : (x : Symbol) → Value x → ℕ
size_of (test n) T = 0
size_of (path n) P = size P
size_of (byte c) u = 0
size_of label a = 0
size_of (tail i) a = 0
size_of (quoted i) c = 0
size_of number ds = 0
size_of (figures m) ds = 0
size_of (signed n) v = operand_size v.1
size_of (or_equal n) v = operand_size v.1
size_of (operand n) w = operand_size w

abbrev pub width : (x : Symbol) → Value x → ℕ
width (test n) T = length (spell_test T)
width (path n) P = length (spell_path P)
width (byte c) u = 1
width label a = length a
width (tail i) a = length a
width (quoted i) c = suc (length c)
width number ds = length ds
width (figures m) ds = length ds
width (signed n) v = length (sign v.0) + length (spell_operand v.1)
width (or_equal n) v = choose v.0 1 0 + length (spell_operand v.1)
width (operand n) w = length (spell_operand w)

-- ── What is known of a rule at an offset ──
abbrev pub Shallow : List Key → Type 0
Shallow ks = All (λ k. k.1 ≤ rule_nesting) ks

-- the rule does not go on with b
abbrev pub Lacks : ℕ → List ℕ → Type 0
Lacks b [] = Unit {0}
Lacks b (c ∷ w) = c ≢ b

-- how the machine answers where reading is refused
abbrev pub ending : Refusal → List Key → Answer Test → Type 0
ending (Stuck j) = Stop {R = Test} close stopped j
ending (Deep j) = Meet {R = Test} close stopped (j, suc rule_nesting)

module _ (s : List ℕ) where
  pub record Stands (i b : ℕ) : Type 0 where
    pub inside : i < length s
    pub here : drop i s ≡ b ∷ drop (suc i) s

  abbrev pub Stood : ℕ → ℕ → Bool → Type 0
  Stood i b true = Stands i b
  Stood i b false = Lacks b (drop i s)

  -- ── What readers answer ──
  -- x is read from i to j; the steps were k and are l, the tally was t and is u
  pub record Back (x : Symbol) (i k : ℕ) (t : Tally) (j l : ℕ) (u : Tally) : Type 0 where
    pub value : Value x
    pub forth : i < j
    pub inside : j ≤ length s
    pub long : j ≡ i + width x value
    pub shallow : Shallow (keys (parts_of x value i))
    pub returns : Returns x value (keys (parts_of x value i)) i (drop i s) j (drop j s)
    pub steps : l ≡ k + size_of x value
    pub few : l ≤ j
    pub kept : u ≡ tallied t (parts_of x value i)

  -- x is begun at i, and reading ends in a way E
  pub record Halts (E : List Key → Answer Test → Type 0) (x : Symbol) (i : ℕ) : Type 0 where
    pub seen : List Key
    pub shallow : Shallow seen
    pub ends : Ends {R = Test} close stopped E x seen i (drop i s)

  abbrev pub StuckAt : ℕ → Symbol → ℕ → Type 0
  StuckAt j = Halts (Stop {R = Test} close stopped j)

  abbrev pub DeepAt : ℕ → Symbol → ℕ → Type 0
  DeepAt j = Halts (Meet {R = Test} close stopped (j, suc rule_nesting))

  -- the way in which it ends, by what is answered: StuckAt j at Stuck j, DeepAt j at Deep j
  abbrev pub RefusedAt : Refusal → Symbol → ℕ → Type 0
  RefusedAt e = Halts (ending e)

  abbrev pub Reading : Symbol → ℕ → ℕ → Tally → Result Behind Refusal → Type 0
  Reading x i k t (Ok b) = Back x i k t b.next b.steps b.tally
  Reading x i k t (Err e) = RefusedAt e x i

  -- the n of a count: its digits are those of the number that they make
  abbrev pub NumberRead : ℕ → ℕ → Tally → Result Behind Refusal → Type 0
  NumberRead i k t (Ok b) = (c : Back number i k t b.next b.steps b.tally) × (decimal (reading c.value) ≡ c.value)
  NumberRead i k t (Err e) = RefusedAt e number i

  -- behind the first letter of a name
  pub record NameEnds (i j : ℕ) : Type 0 where
    pub value : List ℕ
    pub inside : j ≤ length s
    pub long : j ≡ i + length value
    pub returns : Returns (tail (label_bytes - 1)) value [] i (drop i s) j (drop j s)

  -- what stands at i for x goes on at j for y
  pub record Turns (x y : Symbol) (g : Value y → Value x) (i j : ℕ) : Type 0 where
    pub turns : (st : Stack) (f : Values (x ∷ st) → Test) (ks : List Key)
        → goes {R = Test} close stopped (x ∷ st) f ks i (drop i s) ≡ goes {R = Test} close stopped (y ∷ st) (λ t. f (g t.0, t.1)) ks j (drop j s)

  -- the sign o stands at i, and an operand is due at j
  pub record Signs (o : Op) (i j : ℕ) : Type 0 where
    pub inside : j ≤ length s
    pub long : j ≡ i + length (sign o)
    pub turns : (n : ℕ) → Turns (signed n) (operand n) (λ w. (o, w)) i j

  -- a sign holds no part, so none is too deep
  abbrev pub SignRead : ℕ → Result ℕ Refusal → Type 0
  SignRead i (Ok j) = (o : Op) × Signs o i j
  SignRead i (Err (Stuck j)) = (n : ℕ) → StuckAt j (signed n) i
  SignRead i (Err (Deep j)) = ⊥
