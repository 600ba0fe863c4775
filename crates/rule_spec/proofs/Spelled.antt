-- What a stack may spell: each move of the machine keeps to it, every stack spells something, and a stack that may be left spells nothing.
use Prim.Native.Nat.{ℕ, zero, suc, ◌≤◌, zero-le}
use native.Mathlib.Omega.{arith}
use mathlib.Core.Path.{◌≡◌, refl, sym, ap, subst, ◌∙◌}
use mathlib.Core.Logic.{inl, inr, ◌≢◌}
use mathlib.Core.Bool.{Bool, true, false}
use mathlib.Core.Option.{Option, none, some, map}
use mathlib.Core.List.{List, [], ◌∷◌, ◌++◌, append_assoc}
use lib.Dec.{eqb, lit≤}
use lib.ListN.{length}
use borrow.Author.Tests.{eqb-true, eqb-false}
use Rattle.lists.specs.Lists.{All}
use Rattle.lists.specs.Text.{bytes, Printable, NameByte}
use Rattle.lists.specs.Numerals.{reading}
use Rattle.lists.proofs.Numerals.{Decimal, decimal_reading}
use Rattle.limits.specs.Names.{Name}
use Rattle.xpath.specs.Syntax.{Op, eq, lt, le, gt, ge, compare, at_least, XPath, empty}
use Rattle.rule_spec.specs.Spelling.{sign, spell_test, spell_path, spell_step, Constant, LegalTest, LegalPath, LegalStep}
use Rattle.rule_spec.specs.Bytes.{choose, is_letter, is_name_byte, is_digit, is_printable}
use Rattle.rule_spec.specs.Machine.{Symbol, test, path, byte, label, tail, quoted, number, figures, signed, or_equal, operand, Stack, Operand, Value, Values, Move, pass, look, comparing, test_moves, path_moves, sign_moves, operand_move, goes_on, move, rest}
use Rattle.rule_spec.specs.Readers.{spell_operand}
use Rattle.rule_spec.proofs.Bytes.{letter_iff, nameByte_iff, printable_iff}
use Rattle.rule_spec.proofs.Figures.{Figures, Number, number_iff}

-- ── Legal values and how they are spelled ──
abbrev LegalOperand : Operand → Type 0
LegalOperand (inl P) = LegalPath P
LegalOperand (inr c) = Constant c

abbrev LegalValue : (x : Symbol) → Value x → Type 0
LegalValue (test n) T = LegalTest T
LegalValue (path n) P = LegalPath P
LegalValue (byte c) u = Unit {0}
LegalValue label a = Name a
LegalValue (tail i) bs = All NameByte bs × (length bs ≤ i)
LegalValue (quoted i) c = All (λ b. Printable b × (b ≢ 34)) c × (length c ≤ i)
LegalValue number bs = Number bs
LegalValue (figures m) bs = Figures m bs
LegalValue (signed n) v = LegalOperand v.1
LegalValue (or_equal n) v = LegalOperand v.1
LegalValue (operand n) w = LegalOperand w

abbrev spell_value : (x : Symbol) → Value x → List ℕ
spell_value (test n) T = spell_test T
spell_value (path n) P = spell_path P
spell_value (byte c) u = c ∷ []
spell_value label a = a
spell_value (tail i) bs = bs
spell_value (quoted i) c = c ++ bytes "\""
spell_value number bs = bs
spell_value (figures m) bs = bs
spell_value (signed n) v = sign v.0 ++ spell_operand v.1
spell_value (or_equal n) v = choose v.0 (bytes "=") [] ++ spell_operand v.1
spell_value (operand n) w = spell_operand w

abbrev pub Legal : (st : Stack) → Values st → Type 0
Legal [] v = Unit {0}
Legal (x ∷ st) v = LegalValue x v.0 × Legal st v.1

abbrev pub spell : (st : Stack) → Values st → List ℕ
spell [] v = []
spell (x ∷ st) v = spell_value x v.0 ++ spell st v.1

-- ── Moves that keep to the spelling ──
-- what a move builds is legal, and spelled with the byte in front
abbrev pub Faithful : (st : Stack) → ℕ → Option (Move st) → Type 0
Faithful st b none = Unit {0}
Faithful st b (some m) = (v : Values m.after) → Legal m.after v → Legal st (m.build v) × (spell st (m.build v) ≡ b ∷ spell m.after v)

by_test : {A : Type 0} (P : A → Type 0) (t : Bool) {x y : A} → (t ≡ true → P x) → (t ≡ false → P y) → P (choose t x y)
by_test P true h k = h refl
by_test P false h k = k refl

module _ (st : Stack) (b : ℕ) where
  at_byte : (c : ℕ) (m : Move st) (y : Option (Move st)) → Faithful st c (some m) → (eqb b c ≡ false → Faithful st b y) → Faithful st b (choose (eqb b c) (some m) y)
  at_byte c m y h k = by_test (Faithful st b) (eqb b c) (λ e. subst (λ x. Faithful st x (some m)) (sym (eqb-true b c e)) h) k

  look_faithful : (rows : List (ℕ × Move st)) → All (λ r. Faithful st r.0 (some r.1)) rows → Faithful st b (look b rows)
  look_faithful [] a = tt
  look_faithful (r ∷ rows) a = at_byte r.0 r.1 (look b rows) a.0 (λ e. look_faithful rows a.1)

  pass_faithful : (st' : Stack) (h : Values st' → Values st) → ((v : Values st') → Legal st' v → Legal st (h v) × (spell st (h v) ≡ spell st' v))
      → (x : Option (Move st')) → Faithful st' b x → Faithful st b (map (pass h) x)
  pass_faithful st' h k none a = tt
  pass_faithful st' h k (some m) a = λ v l. let (p, e) = a v l in let (q, d) = k (m.build v) p in (q, d ∙ e)

-- ── Every row of the tables keeps to it ──
comparing_legal : (P : XPath) (o : Op) (w : Operand) → LegalPath P → LegalOperand w → LegalTest (comparing P o w)
unfolding LegalTest
comparing_legal P o (inl Q) l k = (l, k)
comparing_legal P o (inr c) l k = (l, k)

comparing_spelled : (P : XPath) (o : Op) (w : Operand) → spell_test (comparing P o w) ≡ bytes "(" ++ (spell_path P ++ (sign o ++ spell_operand w))
unfolding spell_test
comparing_spelled P o (inl Q) = refl
comparing_spelled P o (inr c) = refl

count_spelled : (ds : List ℕ) (P : XPath) (w : List ℕ) → Decimal ds → spell_test (at_least (reading ds) P) ++ w ≡ bytes "#" ++ (ds ++ (spell_path P ++ w))
unfolding spell_test
count_spelled ds P w d = ap (λ s. 35 ∷ ((s ++ spell_path P) ++ w)) (decimal_reading ds d) ∙ ap (λ s. 35 ∷ s) (append_assoc ds (spell_path P) w)

-- the tables, row by row
infixr 20 ◌⋆◌
abbrev ◌⋆◌ : {A B : Type 0} → A → B → A × B
◌⋆◌ a b = (a, b)

test_faithful : (n : ℕ) (st : Stack) → All (λ r. Faithful (test n ∷ st) r.0 (some r.1)) (test_moves n st)
unfolding spell_test LegalTest
test_faithful n st =
    (λ v l. (l, refl))
    ⋆ (λ v l. (l, refl))
    ⋆ (λ v l. (((l.0, l.1.0), l.1.1), simp append_assoc))
    ⋆ (λ v l. (((l.0, l.1.0), l.1.1), simp append_assoc))
    ⋆ (λ v l. let (P, ((o, w), t)) = v in ((comparing_legal P o w l.0 l.1.0, l.1.1), rw (comparing_spelled P o w) (simp append_assoc)))
    ⋆ (λ v l. let (d, h) = (number_iff v.0).0 l.0 in (((h, l.1.0), l.1.1), count_spelled v.0 v.1.0 (spell st v.1.1) d))
    ⋆ tt

path_faithful : (n : ℕ) (st : Stack) → All (λ r. Faithful (path n ∷ st) r.0 (some r.1)) (path_moves n st)
unfolding spell_path LegalPath spell_step LegalStep
path_faithful n st =
    (λ v l. ((tt, l), refl))
    ⋆ (λ v l. ((tt, l), refl))
    ⋆ (λ v l. ((tt, l), refl))
    ⋆ (λ v l. ((tt, l), refl))
    ⋆ (λ v l. ((tt, l), refl))
    ⋆ (λ v l. ((l.0, l.1.1), simp append_assoc))
    ⋆ (λ v l. (((l.0, l.1.0), l.1.1), simp append_assoc))
    ⋆ (λ v l. (((l.0, l.1.0), l.1.1), simp append_assoc))
    ⋆ (λ v l. (l, refl))
    ⋆ tt

lt_spelled : (e : Bool) → sign (choose e le lt) ≡ bytes "<" ++ choose e (bytes "=") []
lt_spelled true = refl
lt_spelled false = refl

gt_spelled : (e : Bool) → sign (choose e ge gt) ≡ bytes ">" ++ choose e (bytes "=") []
gt_spelled true = refl
gt_spelled false = refl

sign_faithful : (n : ℕ) (st : Stack) → All (λ r. Faithful (signed n ∷ st) r.0 (some r.1)) (sign_moves n st)
sign_faithful n st = (λ v l. (l, refl)) ⋆ (λ v l. (l.1, refl)) ⋆ (λ v l. (l, rw (lt_spelled v.0.0))) ⋆ (λ v l. (l, rw (gt_spelled v.0.0))) ⋆ tt

operand_faithful : (n : ℕ) (st : Stack) (b : ℕ) → Faithful (operand n ∷ st) b (operand_move n st b)
unfolding Constant
operand_faithful n st b =
    at_byte (operand n ∷ st) b 34 _ _ (λ v l. ((l.0, l.1.1), simp append_assoc))
    (λ e. pass_faithful (operand n ∷ st) b (path n ∷ byte 41 ∷ st) (λ v. (inl v.0, v.1.1)) (λ v l. ((l.0, l.1.1), simp append_assoc))
    (look b (path_moves n (byte 41 ∷ st))) (look_faithful (path n ∷ byte 41 ∷ st) b (path_moves n (byte 41 ∷ st)) (path_faithful n (byte 41 ∷ st))))

-- ── Every move keeps to it ──
pub faithful : (st : Stack) (b : ℕ) → Faithful st b (move st b)
unfolding move Name
faithful [] b = tt
faithful (test n ∷ st) b = look_faithful (test n ∷ st) b (test_moves n st) (test_faithful n st)
faithful (path n ∷ st) b = look_faithful (path n ∷ st) b (path_moves n st) (path_faithful n st)
faithful (byte c ∷ st) b = at_byte (byte c ∷ st) b c _ none (λ v l. ((tt, l), refl)) (λ e. tt)
faithful (label ∷ st) b =
    by_test (Faithful (label ∷ st) b) (is_letter b) (λ e v l. let h = l.0.1 in ((((letter_iff b).0 e, l.0.0, omega arith), l.1), refl)) (λ e. tt)
faithful (tail zero ∷ st) b = pass_faithful (tail zero ∷ st) b st (λ v. ([], v)) (λ v l. (((tt, zero-le), l), refl)) (move st b) (faithful st b)
faithful (tail (suc i) ∷ st) b =
    by_test (Faithful (tail (suc i) ∷ st) b) (is_name_byte b) (λ e v l. let h = l.0.1 in (((((nameByte_iff b).0 e, l.0.0), omega arith), l.1), refl))
    (λ e. pass_faithful (tail (suc i) ∷ st) b st (λ v. ([], v)) (λ v l. (((tt, zero-le), l), refl)) (move st b) (faithful st b))
faithful (quoted zero ∷ st) b = at_byte (quoted zero ∷ st) b 34 _ none (λ v l. (((tt, zero-le), l), refl)) (λ e. tt)
faithful (quoted (suc i) ∷ st) b =
    at_byte (quoted (suc i) ∷ st) b 34 _ _ (λ v l. (((tt, zero-le), l), refl))
    (λ e. by_test (Faithful (quoted (suc i) ∷ st) b) (is_printable b)
    (λ d v l. let h = l.0.1 in ((((((printable_iff b).0 d, eqb-false b 34 e), l.0.0), omega arith), l.1), refl)) (λ d. tt))
faithful (number ∷ st) b = by_test (Faithful (number ∷ st) b) (is_digit b) (λ e v l. (((e, l.0), l.1), refl)) (λ e. tt)
faithful (figures m ∷ st) b =
    by_test (Faithful (figures m ∷ st) b) (goes_on m b) (λ e v l. (((e, l.0), l.1), refl))
    (λ e. pass_faithful (figures m ∷ st) b st (λ v. ([], v)) (λ v l. ((tt, l), refl)) (move st b) (faithful st b))
faithful (signed n ∷ st) b = look_faithful (signed n ∷ st) b (sign_moves n st) (sign_faithful n st)
faithful (or_equal n ∷ st) b =
    at_byte (or_equal n ∷ st) b 61 _ _ (λ v l. (l, refl))
    (λ e. pass_faithful (or_equal n ∷ st) b (operand n ∷ st) (λ v. ((false, v.0), v.1)) (λ v l. (l, refl)) (operand_move n st b) (operand_faithful n st b))
faithful (operand n ∷ st) b = operand_faithful n st b

-- ── Stacks that are completed, and stacks that are left ──
-- every stack can be completed
filler : (x : Symbol) → (v : Value x) × LegalValue x v
unfolding LegalTest LegalPath Name is_digit
filler (test n) = (compare eq empty empty, (tt, tt))
filler (path n) = (empty, tt)
filler (byte c) = (tt, tt)
filler label = (bytes "a", ((lit≤ tt, lit≤ tt), tt, lit≤ tt))
filler (tail i) = ([], (tt, zero-le))
filler (quoted i) = ([], (tt, zero-le))
filler number = (bytes "0", (refl, tt))
filler (figures m) = ([], tt)
filler (signed n) = ((eq, inl empty), tt)
filler (or_equal n) = ((false, inl empty), tt)
filler (operand n) = (inl empty, tt)

pub completed : (st : Stack) → (v : Values st) × Legal st v
completed [] = (tt, tt)
completed (x ∷ st) = let (v, l) = filler x in let (t, k) = completed st in ((v, t), (l, k))

-- a stack that may be left spells nothing
abbrev pub Nothing : (st : Stack) → Option (Values st) → Type 0
Nothing st none = Unit {0}
Nothing st (some v) = Legal st v × (spell st v ≡ [])

left_above : (x : Symbol) (st : Stack) (v : Value x) → LegalValue x v → spell_value x v ≡ [] → (y : Option (Values st)) → Nothing st y → Nothing (x ∷ st) (map (λ t. (v, t)) y)
left_above x st v l e none h = tt
left_above x st v l e (some t) h = ((l, h.0), rw (e, h.1))

pub left_empty : (st : Stack) → Nothing st (rest st)
unfolding rest
left_empty [] = (tt, refl)
left_empty (test n ∷ st) = tt
left_empty (path n ∷ st) = tt
left_empty (byte c ∷ st) = tt
left_empty (label ∷ st) = tt
left_empty (tail i ∷ st) = left_above (tail i) st [] (tt, zero-le) refl (rest st) (left_empty st)
left_empty (quoted i ∷ st) = tt
left_empty (number ∷ st) = tt
left_empty (figures m ∷ st) = left_above (figures m) st [] tt refl (rest st) (left_empty st)
left_empty (signed n ∷ st) = tt
left_empty (or_equal n ∷ st) = tt
left_empty (operand n ∷ st) = tt
