-- The machine reads what is spelled: from a symbol on top of a stack it comes back to the stack, with the value and its parts.
use Prim.Native.Nat.{ℕ, zero, suc, ◌+◌, ◌-◌, ◌*◌, ◌≤◌}
use native.Mathlib.Omega.{arith}
use mathlib.Core.Path.{◌≡◌, refl, sym, ap, ◌∙◌, subst}
use mathlib.Core.Logic.{inl, inr, ◌≢◌}
use mathlib.Core.Bool.{true, false}
use mathlib.Core.Option.{Option, none, some}
use mathlib.Core.List.{List, [], ◌∷◌, ◌++◌, map, map-append, append_assoc, append-nil}
use lib.Dec.{eqb}
use borrow.Author.Tests.{eq-eqb, ne_eqb}
use lib.ListN.{length, length-append}
use Rattle.lists.specs.Lists.{All}
use Rattle.lists.specs.Text.{bytes, Printable, NameByte, decimal}
use Rattle.lists.specs.Numerals.{value_from, reading}
use Rattle.lists.proofs.Numerals.{reading_first, reading_decimal}
use Rattle.limits.specs.Names.{Name}
use Rattle.xpath.specs.Syntax.{Op, eq, ne, lt, le, gt, ge, Test, named, not, and, or, compare, compare_to, at_least, XPath, empty, one, seq, union, star, Step, to_left, to_right, from_left, from_right, stay, size}
use Rattle.rule_spec.specs.Spelling.{sign, spell_test, spell_path, spell_step, Constant, LegalTest, LegalPath, LegalStep}
use Rattle.rule_spec.specs.Parts.{Part, Sort, test_parts, path_parts, step_parts}
use Rattle.rule_spec.specs.Readers.{key, keys, spell_operand, goes, Comes}
use Rattle.rule_spec.specs.Bytes.{choose, is_name_byte, is_digit}
use Rattle.rule_spec.specs.Machine.{Symbol, test, path, byte, label, tail, quoted, number, figures, signed, or_equal, operand, Stack, Operand, Value, Values, comparing, goes_on, move, State, over, Key}
use Rattle.rule_spec.proofs.Bytes.{letter_iff, nameByte_iff, printable_iff}
use Rattle.rule_spec.proofs.Comes.{passes, fresh, comes_as, Leaves, leaves_byte, leaves_comes, comes_none, comes_one, comes_two}
use Rattle.rule_spec.proofs.Figures.{Figures, Number, number_decimal}

-- a list that begins with a byte that is B
abbrev pub Begun : (ℕ → Type 0) → List ℕ → Type 0
Begun B w = (b : ℕ) × (u : List ℕ) × (w ≡ b ∷ u) × B b

pub test_head : (T : Test) → Begun (λ b. is_name_byte b ≡ false) (spell_test T)
unfolding spell_test is_name_byte
test_head (named a) = (58, _, refl, refl)
test_head (not T) = (33, _, refl, refl)
test_head (and T U) = (38, _, refl, refl)
test_head (or T U) = (124, _, refl, refl)
test_head (compare o P Q) = (40, _, refl, refl)
test_head (compare_to o P c) = (40, _, refl, refl)
test_head (at_least k P) = (35, _, refl, refl)

-- a path begins neither as a constant nor as the second byte of a sign, and with no digit
abbrev pub OfPath : ℕ → Type 0
OfPath b = (eqb b 34 ≡ false) × (eqb b 61 ≡ false) × (is_digit b ≡ false)

pub path_head : (P : XPath) → Begun OfPath (spell_path P)
unfolding spell_path spell_step is_digit
path_head empty = (101, _, refl, (refl, refl, refl))
path_head (one to_left) = (108, _, refl, (refl, refl, refl))
path_head (one to_right) = (114, _, refl, (refl, refl, refl))
path_head (one from_left) = (76, _, refl, (refl, refl, refl))
path_head (one from_right) = (82, _, refl, (refl, refl, refl))
path_head (one (stay T)) = (91, _, refl, (refl, refl, refl))
path_head (seq P Q) = (46, _, refl, (refl, refl, refl))
path_head (union P Q) = (43, _, refl, (refl, refl, refl))
path_head (star P) = (42, _, refl, (refl, refl, refl))

operand_head : (w : Operand) → Begun (λ b. eqb b 61 ≡ false) (spell_operand w)
operand_head (inl P) = let (b, u, e, h) = path_head P in (b, u ++ bytes ")", ap (λ x. x ++ bytes ")") e, h.1)
operand_head (inr c) = (34, _, refl, refl)

-- a byte begins no part, or one of this nesting and sort
abbrev Mark : Type 0
Mark = Option (ℕ × Sort)

abbrev nest : Mark → Option ℕ
nest none = none
nest (some k) = some k.0

abbrev marks : Mark → ℕ → List Part
marks none o = []
marks (some k) o = record { offset = o; nesting = k.0; sort = k.1 } ∷ []

marked : (k : Mark) (o : ℕ) → fresh o (nest k) ≡ keys (marks k o)
marked none o = refl
marked (some k) o = refl

-- what may come behind: anything
abbrev pub Any : List ℕ → Type 0
Any r = Unit {0}

abbrev no_parts : ℕ → List Part
no_parts o = []

module _ {R X : Type 0} (end : State R → X) (stop : List Key → ℕ → X) where
  -- behind a name the machine forgets that the name could go on
  abbrev pub Pops : List ℕ → Type 0
  Pops r = (i : ℕ) → Leaves end stop (tail i) [] r

  pub pops_byte : (b : ℕ) (w : List ℕ) → is_name_byte b ≡ false → Pops (b ∷ w)
  unfolding move
  pops_byte b w e zero = leaves_byte end stop (tail zero) [] b w (λ st. refl)
  pops_byte b w e (suc i) = leaves_byte end stop (tail (suc i)) [] b w (λ st. rw e)

  pub pops_test : (T : Test) (r : List ℕ) → Pops (spell_test T ++ r)
  pops_test T r = let (b, u, e, h) = test_head T in rw e (pops_byte b (u ++ r) h)

  -- behind a number, where no digit goes on with it, the machine forgets that one could
  pub number_stops : (m b : ℕ) (w : List ℕ) → goes_on m b ≡ false → Leaves end stop (figures m) [] (b ∷ w)
  unfolding move
  number_stops m b w e = leaves_byte end stop (figures m) [] b w (λ st. rw e)

  number_path : (m : ℕ) (P : XPath) (r : List ℕ) → Leaves end stop (figures m) [] (spell_path P ++ r)
  number_path m P r = let (b, u, e, h) = path_head P in rw e (number_stops m b (u ++ r) (rw h.2))

  -- over w the machine comes from x back with the value v and the parts p, if what comes behind is Ok
  pub record Takes (Ok : List ℕ → Type 0) (x : Symbol) (v : Value x) (w : List ℕ) (p : ℕ → List Part) : Type 0 where
    pub takes : (o : ℕ) (r : List ℕ) → Ok r → Comes end stop x v (keys (p o)) o (w ++ r) (o + length w) r

  pub recast : {A B : List ℕ → Type 0} {x : Symbol} {v : Value x} {w : List ℕ} {p q : ℕ → List Part}
      → ((r : List ℕ) → B r → A r) → ((o : ℕ) → p o ≡ q o) → Takes A x v w p → Takes B x v w q
  recast k e l = record { takes = λ o r h. comes_as end stop (ap keys (e o)) refl refl (l.takes o r (k r h)) }

  -- ── By the first byte ──
  module _ (x : Symbol) (b : ℕ) (k : Mark) where
    lead : (v : Value x) → ((st : Stack) → move (x ∷ st) b ≡ some (record { after = st; build = λ t. (v, t); begins = nest k })) → Takes Any x v (b ∷ []) (marks k)
    lead v e = record { takes = λ o r q. comes_as end stop (marked k o) refl (omega arith) (comes_none end stop x b (nest k) v e) }

    lead_one : {Ok : List ℕ → Type 0} (y : Symbol) (h : Value y → Value x) {v : Value y} {w : List ℕ} {p : ℕ → List Part}
        → ((st : Stack) → move (x ∷ st) b ≡ some (record { after = y ∷ st; build = λ t. (h t.0, t.1); begins = nest k })) → Takes Ok y v w p
        → Takes Ok x (h v) (b ∷ w) (λ o. marks k o ++ p (suc o))
    lead_one y h {v} {w} {p} e l = record {
      takes = λ o r q.
          comes_as end stop (ap (λ ks. ks ++ keys (p (suc o))) (marked k o) ∙ sym (map-append key (marks k o) (p (suc o)))) refl (omega arith)
          (comes_one end stop x b (nest k) y h e (l.takes (suc o) r q));
    }

    lead_two : {A B : List ℕ → Type 0} (y z : Symbol) (h : Value y → Value z → Value x) {v : Value y} {u : Value z} {w w' : List ℕ} {p p' : ℕ → List Part}
        → ((st : Stack) → move (x ∷ st) b ≡ some (record { after = y ∷ z ∷ st; build = λ t. (h t.0 t.1.0, t.1.1); begins = nest k }))
        → Takes A y v w p → Takes B z u w' p' → ((r : List ℕ) → B r → A (w' ++ r))
        → Takes B x (h v u) (b ∷ (w ++ w')) (λ o. marks k o ++ (p (suc o) ++ p' (suc o + length w)))
    lead_two y z h {v} {u} {w} {w'} {p} {p'} e l c ok = record {
      takes = λ o r q.
          comes_as end stop (rw (marked k o) (simp map-append)) (ap (λ ls. b ∷ ls) (sym (append_assoc w w' r))) (omega (arith, length-append w w'))
          (comes_two end stop x b (nest k) y z h e (l.takes (suc o) (w' ++ r) (ok r q)) (c.takes (suc o + length w) r q));
    }

  -- ── Names and constants ──
  take_byte : (c : ℕ) → Takes Any (byte c) tt (c ∷ []) no_parts
  unfolding move
  take_byte c = lead (byte c) c none tt (λ st. rw (eq-eqb c c refl))

  -- nothing is read of what may be left
  take_none : {Ok : List ℕ → Type 0} (x : Symbol) (v : Value x) → ((r : List ℕ) → Ok r → Leaves end stop x v r) → Takes Ok x v [] no_parts
  take_none x v l = record { takes = λ o r q. comes_as end stop refl refl (omega arith) (leaves_comes end stop (l r q) o) }

  take_tail : (bs : List ℕ) (i : ℕ) → All NameByte bs → length bs ≤ i → Takes Pops (tail i) bs bs no_parts
  unfolding move
  take_tail [] i a h = take_none (tail i) [] (λ r q. q i)
  take_tail (b ∷ bs) zero a h = absurd (omega arith)
  take_tail (b ∷ bs) (suc i) a h = lead_one (tail (suc i)) b none (tail i) (λ v. b ∷ v) (λ st. rw ((nameByte_iff b).1 a.0)) (take_tail bs i a.1 (omega arith))

  take_label : (a : List ℕ) → Name a → Takes Pops label a a no_parts
  unfolding move Name
  take_label [] l = absurd l
  take_label (b ∷ bs) l = lead_one label b none (tail 15) (λ v. b ∷ v) (λ st. rw ((letter_iff b).1 l.0)) (take_tail bs 15 l.1 (let h = l.2 in omega arith))

  take_quoted : (c : List ℕ) (i : ℕ) → All (λ b. Printable b × (b ≢ 34)) c → length c ≤ i → Takes Any (quoted i) c (c ++ 34 ∷ []) no_parts
  unfolding move
  take_quoted [] zero a h = lead (quoted zero) 34 none [] (λ st. refl)
  take_quoted [] (suc i) a h = lead (quoted (suc i)) 34 none [] (λ st. refl)
  take_quoted (b ∷ c) zero a h = absurd (omega arith)
  take_quoted (b ∷ c) (suc i) a h =
      lead_one (quoted (suc i)) b none (quoted i) (λ v. b ∷ v) (λ st. rw (ne_eqb b 34 a.0.1, (printable_iff b).1 a.0.0)) (take_quoted c i a.1 (omega arith))

  -- ── Numbers ──
  take_figures : (bs : List ℕ) (m : ℕ) → Figures m bs → Takes (Leaves end stop (figures (value_from 10 m (map (λ b. b - 48) bs))) []) (figures m) bs bs no_parts
  unfolding move
  take_figures [] m l = take_none (figures m) [] (λ r q. q)
  take_figures (b ∷ bs) m l = lead_one (figures m) b none (figures (m * 10 + (b - 48))) (λ v. b ∷ v) (λ st. rw l.0) (take_figures bs (m * 10 + (b - 48)) l.1)

  -- over the digits of a number, behind which none goes on with it
  pub take_number : (bs : List ℕ) → Number bs → Takes (Leaves end stop (figures (reading bs)) []) number bs bs no_parts
  unfolding move
  take_number [] l = absurd l
  take_number (b ∷ bs) l =
      rw (reading_first b bs) (lead_one number b none (figures (b - 48)) (λ v. b ∷ v) (λ st. rw l.0) (take_figures bs (b - 48) l.1))

  take_count : (ds : List ℕ) (P : XPath) (n : ℕ) {p : ℕ → List Part} → Number ds → Takes Any (path (suc n)) P (spell_path P) p
      → Takes Pops (test n) (at_least (reading ds) P) (bytes "#" ++ (ds ++ spell_path P)) (λ o. marks (some (n, Sort.stepped (size P))) o ++ p (suc o + length ds))
  unfolding move
  take_count ds P n d l =
      recast (λ r q. tt) (λ o. refl)
      (lead_two (test n) 35 (some (n, Sort.stepped (size P))) number (path (suc n)) (λ ds P. at_least (reading ds) P) (λ st. refl) (take_number ds d) l
      (λ r q. number_path (reading ds) P r))

  -- ── Comparisons ──
  take_constant : (n : ℕ) (c : List ℕ) → Constant c → Takes Any (operand n) (inr c) (spell_operand (inr c)) no_parts
  unfolding move Constant
  take_constant n c l =
      subst (λ w. Takes Any (operand n) (inr c) (34 ∷ w) no_parts) (append_assoc c (34 ∷ []) (41 ∷ []))
      (lead_two (operand n) 34 none (quoted 32) (byte 41) (λ c u. inr c) (λ st. refl) (take_quoted c 32 l.0 l.1) (take_byte 41) (λ r q. tt))

  -- an operand that is no constant is a path and a bracket; behind < or > an operand stands if no = does
  pub as_path : (n b : ℕ) (u : List ℕ) → eqb b 34 ≡ false → (st : Stack) (f : Values (operand n ∷ st) → R) (ks : List Key) (o : ℕ)
      → goes end stop (operand n ∷ st) f ks o (b ∷ u) ≡ goes end stop (path n ∷ byte 41 ∷ st) (λ t. f (inl t.0, t.1.1)) ks o (b ∷ u)
  unfolding over move
  as_path n b u h st f ks o = rw (h, passes (operand n ∷ st) (path n ∷ byte 41 ∷ st) (λ t. (inl t.0, t.1.1)) f ks o (move (path n ∷ byte 41 ∷ st) b))

  pub as_operand : (n b : ℕ) (u : List ℕ) → eqb b 61 ≡ false → (st : Stack) (f : Values (or_equal n ∷ st) → R) (ks : List Key) (o : ℕ)
      → goes end stop (or_equal n ∷ st) f ks o (b ∷ u) ≡ goes end stop (operand n ∷ st) (λ t. f ((false, t.0), t.1)) ks o (b ∷ u)
  unfolding over move
  as_operand n b u h st f ks o = rw (h, passes (or_equal n ∷ st) (operand n ∷ st) (λ t. ((false, t.0), t.1)) f ks o (move (operand n ∷ st) b))

  path_operand : (n : ℕ) (P : XPath) {p : ℕ → List Part} → Takes Any (path n) P (spell_path P) p → Takes Any (operand n) (inl P) (spell_operand (inl P)) p
  path_operand n P {p} l = let (b, u, d, h) = path_head P in record {
    takes = λ o r q. comes_as end stop refl (sym (append_assoc (spell_path P) (41 ∷ []) r)) (omega (arith, length-append (spell_path P) (41 ∷ []))) (record {
      comes = λ st f ks.
          rw d (as_path n b (u ++ 41 ∷ r) h.0 st f ks o) ∙ (l.takes o (41 ∷ r) tt).comes (byte 41 ∷ st) (λ t. f (inl t.0, t.1.1)) ks
          ∙ ((take_byte 41).takes (o + length (spell_path P)) r tt).comes st (λ t. f (inl P, t.1)) (ks ++ keys (p o))
          ∙ ap (λ ls. goes end stop st (λ t. f (inl P, t)) ls (o + length (spell_path P) + 1) r) (append-nil (ks ++ keys (p o)));
    });
  }

  plain : (n : ℕ) (w : Operand) {p : ℕ → List Part} → Takes Any (operand n) w (spell_operand w) p → Takes Any (or_equal n) (false, w) (spell_operand w) p
  plain n w l = let (b, u, d, h) = operand_head w in record {
    takes = λ o r q. record { comes = λ st f ks. rw d (as_operand n b (u ++ r) h st f ks o) ∙ (l.takes o r q).comes st (λ t. f ((false, t.0), t.1)) ks };
  }

  equal : (n : ℕ) (w : Operand) {p : ℕ → List Part} → Takes Any (operand n) w (spell_operand w) p → Takes Any (or_equal n) (true, w) (bytes "=" ++ spell_operand w) (λ o. p (suc o))
  unfolding move
  equal n w l = lead_one (or_equal n) 61 none (operand n) (λ v. (true, v)) (λ st. refl) l

  take_signed : (n : ℕ) (s : Op) (w : Operand) {p : ℕ → List Part} → Takes Any (operand n) w (spell_operand w) p
      → Takes Any (signed n) (s, w) (sign s ++ spell_operand w) (λ o. p (o + length (sign s)))
  unfolding move
  take_signed n eq w {p} l = recast (λ r q. q) (λ o. ap p (omega arith)) (lead_one (signed n) 61 none (operand n) (λ v. (eq, v)) (λ st. refl) l)
  take_signed n ne w {p} l =
      recast (λ r q. q) (λ o. ap p (omega arith)) (lead_two (signed n) 33 none (byte 61) (operand n) (λ u v. (ne, v)) (λ st. refl) (take_byte 61) l (λ r q. tt))
  take_signed n lt w {p} l =
      recast (λ r q. q) (λ o. ap p (omega arith)) (lead_one (signed n) 60 none (or_equal n) (λ v. (choose v.0 le lt, v.1)) (λ st. refl) (plain n w l))
  take_signed n le w {p} l =
      recast (λ r q. q) (λ o. ap p (omega arith)) (lead_one (signed n) 60 none (or_equal n) (λ v. (choose v.0 le lt, v.1)) (λ st. refl) (equal n w l))
  take_signed n gt w {p} l =
      recast (λ r q. q) (λ o. ap p (omega arith)) (lead_one (signed n) 62 none (or_equal n) (λ v. (choose v.0 ge gt, v.1)) (λ st. refl) (plain n w l))
  take_signed n ge w {p} l =
      recast (λ r q. q) (λ o. ap p (omega arith)) (lead_one (signed n) 62 none (or_equal n) (λ v. (choose v.0 ge gt, v.1)) (λ st. refl) (equal n w l))

  take_compare : (P : XPath) (s : Op) (w : Operand) (m n : ℕ) {p q : ℕ → List Part} → Takes Any (path (suc n)) P (spell_path P) p → Takes Any (operand (suc n)) w (spell_operand w) q
      → Takes Pops (test n) (comparing P s w) (bytes "(" ++ (spell_path P ++ (sign s ++ spell_operand w)))
      (λ o. marks (some (n, Sort.stepped m)) o ++ (p (suc o) ++ q (suc o + length (spell_path P) + length (sign s))))
  unfolding move
  take_compare P s w m n l k =
      recast (λ r q. tt) (λ o. refl)
      (lead_two (test n) 40 (some (n, Sort.stepped m)) (path (suc n)) (signed (suc n)) (λ P v. comparing P v.0 v.1) (λ st. refl) l (take_signed (suc n) s w k) (λ r q. tt))

  -- ── Tests and paths ──
  no_more : (k : Mark) (o : ℕ) (ps : List Part) → marks k o ++ (ps ++ []) ≡ marks k o ++ ps
  no_more k o ps = ap (λ qs. marks k o ++ qs) (append-nil ps)

  mutual
    unfolding move is_name_byte spell_test spell_path spell_step test_parts path_parts step_parts LegalTest LegalPath LegalStep

    pub take_test : (T : Test) (n : ℕ) → LegalTest T → Takes Pops (test n) T (spell_test T) (λ o. test_parts T o n)
    take_test (named a) n l = lead_one (test n) 58 (some (n, Sort.test)) label named (λ st. refl) (take_label a l)
    take_test (not T) n l = lead_one (test n) 33 (some (n, Sort.test)) (test (suc n)) not (λ st. refl) (take_test T (suc n) l)
    take_test (and T U) n l =
        lead_two (test n) 38 (some (n, Sort.test)) (test (suc n)) (test (suc n)) and (λ st. refl) (take_test T (suc n) l.0) (take_test U (suc n) l.1) (λ r q. pops_test U r)
    take_test (or T U) n l =
        lead_two (test n) 124 (some (n, Sort.test)) (test (suc n)) (test (suc n)) or (λ st. refl) (take_test T (suc n) l.0) (take_test U (suc n) l.1) (λ r q. pops_test U r)
    take_test (compare s P Q) n l = take_compare P s (inl Q) (size P + size Q) n (take_path P (suc n) l.0) (path_operand (suc n) Q (take_path Q (suc n) l.1))
    take_test (compare_to s P c) n l =
        recast (λ r q. q) (λ o. no_more (some (n, Sort.stepped (size P))) o (path_parts P (suc o) (suc n)))
        (take_compare P s (inr c) (size P) n (take_path P (suc n) l.0) (take_constant (suc n) c l.1))
    take_test (at_least k P) n l =
        subst (λ j. Takes Pops (test n) (at_least j P) (spell_test (at_least k P)) (λ o. test_parts (at_least k P) o n)) (reading_decimal k)
        (take_count (decimal k) P n (number_decimal k l.0) (take_path P (suc n) l.1))

    pub take_path : (P : XPath) (n : ℕ) → LegalPath P → Takes Any (path n) P (spell_path P) (λ o. path_parts P o n)
    take_path empty n l = lead (path n) 101 (some (n, Sort.path)) empty (λ st. refl)
    take_path (one s) n l = take_step s n l
    take_path (seq P Q) n l =
        lead_two (path n) 46 (some (n, Sort.path)) (path (suc n)) (path (suc n)) seq (λ st. refl) (take_path P (suc n) l.0) (take_path Q (suc n) l.1) (λ r q. tt)
    take_path (union P Q) n l =
        lead_two (path n) 43 (some (n, Sort.path)) (path (suc n)) (path (suc n)) union (λ st. refl) (take_path P (suc n) l.0) (take_path Q (suc n) l.1) (λ r q. tt)
    take_path (star P) n l = lead_one (path n) 42 (some (n, Sort.path)) (path (suc n)) star (λ st. refl) (take_path P (suc n) l)

    take_step : (s : Step) (n : ℕ) → LegalStep s → Takes Any (path n) (one s) (spell_path (one s)) (λ o. path_parts (one s) o n)
    take_step to_left n l = lead (path n) 108 (some (n, Sort.path)) (one to_left) (λ st. refl)
    take_step to_right n l = lead (path n) 114 (some (n, Sort.path)) (one to_right) (λ st. refl)
    take_step from_left n l = lead (path n) 76 (some (n, Sort.path)) (one from_left) (λ st. refl)
    take_step from_right n l = lead (path n) 82 (some (n, Sort.path)) (one from_right) (λ st. refl)
    take_step (stay T) n l =
        recast (λ r q. q) (λ o. no_more (some (n, Sort.path)) o (test_parts T (suc o) (suc n)))
        (lead_two (path n) 91 (some (n, Sort.path)) (test (suc n)) (byte 93) (λ T u. one (stay T)) (λ st. refl) (take_test T (suc n) l) (take_byte 93)
        (λ r q. pops_byte 93 r refl))
