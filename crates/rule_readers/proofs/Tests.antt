-- The readers of tests conclude as the machine does from what stands inside: `:name`, `!T`, `&TT`, `|TT`, comparisons and counts.
use Rattle.std.specs.Prelude.{Result, Ok}
use Prim.Native.Nat.{ℕ, suc, ◌+◌}
use native.Mathlib.Omega.{arith}
use native.Mathlib.Numerals.{add-one}
use mathlib.Core.Path.{◌≡◌, refl, sym, ap, ap₂, ◌∙◌, subst, subst₂}
use mathlib.Core.Logic.{inl, inr, ⊎_elim}
use mathlib.Core.Option.{some}
use mathlib.Core.List.{List, [], ◌∷◌, ◌++◌, append-nil}
use lib.ListN.{length, length-append}
use Rattle.lists.specs.Text.{decimal}
use Rattle.lists.specs.Numerals.{reading}
use Rattle.xpath.specs.Syntax.{Op, Test, named, not, and, or, at_least, XPath, size}
use Rattle.rule_spec.specs.Spelling.{sign, spell_test, spell_path}
use Rattle.rule_spec.specs.Parts.{Part, Sort, test_parts, path_parts}
use Rattle.rule_spec.specs.Machine.{Symbol, test, path, label, number, signed, Value, move, comparing, Operand, Answer, Key}
use Rattle.rule_spec.specs.Readers.{spell_operand}
use Rattle.tokens.specs.declared.read.Tally.{Tally}
use Rattle.tokens.specs.declared.read.Behind.{Behind}
use Rattle.tokens.specs.declared.read.Refusal.{Refusal}
use Rattle.tokens.specs.declared.heads.TestHead.TheVariants.{Name, Not, TwoTests}
use Rattle.tokens.specs.Tallies.{begun, weighed, noted, tallied}
use Rattle.tokens.specs.Readers.{parts_of, size_of, width, Stands, Back, Halts, Reading, NumberRead}
use Rattle.tokens.specs.Heads.{TestBegins}
use Rattle.rule_readers.specs.Calls.{Opened}
use Rattle.rule_readers.proofs.Tallied.{weighed_last}
use Rattle.tokens.proofs.Joins.{tallied_append, Lead, LeadParts, lead_reads, Fork, ForkParts, first_halts, second_halts, both, fork_reads, back_as}

-- ── The part that begins at i ──
abbrev pub only : ℕ → Sort → ℕ → List Part
only n x i = record { offset = i; nesting = n; sort = x } ∷ []

-- ── :name and !T ──
name_lead : (n : ℕ) → Lead (test n) label 58 (some n)
unfolding move
name_lead n = record { join = named; moves = λ st. refl }

name_parts : (n : ℕ) → LeadParts (only n Sort.test) (test n) label named
unfolding test_parts spell_test
name_parts n = record { parts = λ v i. refl; wide = λ v. refl; size = λ v. refl }

not_lead : (n : ℕ) → Lead (test n) (test (suc n)) 33 (some n)
unfolding move
not_lead n = record { join = not; moves = λ st. refl }

not_parts : (n : ℕ) → LeadParts (only n Sort.test) (test n) (test (suc n)) not
unfolding test_parts spell_test
not_parts n = record { parts = λ v i. refl; wide = λ v. refl; size = λ v. refl }

-- ── &TT and |TT ──
and_fork : (n : ℕ) → Fork (test n) (test (suc n)) (test (suc n)) 38 (some n)
unfolding move
and_fork n = record { join = and; moves = λ st. refl }

or_fork : (n : ℕ) → Fork (test n) (test (suc n)) (test (suc n)) 124 (some n)
unfolding move
or_fork n = record { join = or; moves = λ st. refl }

and_parts : (n : ℕ) → ForkParts (only n Sort.test) 0 (test n) (test (suc n)) (test (suc n)) and
unfolding test_parts spell_test
and_parts n = record { parts = λ v w i. refl; wide = λ v w. ap suc (length-append (spell_test v) (spell_test w)); size = λ v w. refl }

or_parts : (n : ℕ) → ForkParts (only n Sort.test) 0 (test n) (test (suc n)) (test (suc n)) or
unfolding test_parts spell_test
or_parts n = record { parts = λ v w i. refl; wide = λ v w. ap suc (length-append (spell_test v) (spell_test w)); size = λ v w. refl }

-- ── Comparisons and counts ──
-- T is one of nesting n, of which v and w are read behind its first byte
record Stepped (n : ℕ) (y z : Symbol) (v : Value y) (w : Value z) (T : Test) : Type 0 where
  parts : (i : ℕ) → test_parts T i n ≡ only n (Sort.stepped (size_of y v + size_of z w)) i ++ (parts_of y v (suc i) ++ parts_of z w (suc i + width y v))
  wide : length (spell_test T) ≡ suc (width y v + width z w)

-- ── (P o P) and (P o "c") ──
compare_fork : (n : ℕ) → Fork (test n) (path (suc n)) (signed (suc n)) 40 (some n)
unfolding move
compare_fork n = record { join = λ P v. comparing P v.0 v.1; moves = λ st. refl }

compare_parts : (P : XPath) (o : Op) (w : Operand) (i n : ℕ)
    → test_parts (comparing P o w) i n
    ≡ only n (Sort.stepped (size P + size_of (signed (suc n)) (o, w))) i ++ (path_parts P (suc i) (suc n) ++ parts_of (signed (suc n)) (o, w) (suc i + length (spell_path P)))
unfolding test_parts
compare_parts P o (inl Q) i n = refl
compare_parts P o (inr c) i n =
    let e : size P ≡ size P + 0 = omega arith in
    ap₂ (λ m ps. only n (Sort.stepped m) i ++ ps) e (sym (append-nil (path_parts P (suc i) (suc n))))

compare_wide : (P : XPath) (o : Op) (w : Operand) → length (spell_test (comparing P o w)) ≡ suc (length (spell_path P) + (length (sign o) + length (spell_operand w)))
unfolding spell_test
compare_wide P o (inl Q) =
    let a = length-append (spell_path P) (sign o ++ spell_operand (inl Q)) in let b = length-append (sign o) (spell_operand (inl Q)) in omega arith
compare_wide P o (inr c) =
    let a = length-append (spell_path P) (sign o ++ spell_operand (inr c)) in let b = length-append (sign o) (spell_operand (inr c)) in omega arith

compare_stepped : (n : ℕ) (P : XPath) (o : Op) (w : Operand) → Stepped n (path (suc n)) (signed (suc n)) P (o, w) (comparing P o w)
compare_stepped n P o w = record { parts = λ i. compare_parts P o w i n; wide = compare_wide P o w }

-- ── #nP ──
count_fork : (n : ℕ) → Fork (test n) number (path (suc n)) 35 (some n)
unfolding move
count_fork n = record { join = λ ds P. at_least (reading ds) P; moves = λ st. refl }

count_stepped : (n : ℕ) (ds : List ℕ) (P : XPath) → decimal (reading ds) ≡ ds → Stepped n number (path (suc n)) ds P (at_least (reading ds) P)
unfolding test_parts spell_test
count_stepped n ds P e = record {
  parts = λ i. let none : size P ≡ 0 + size P = omega arith in ap₂ (λ m d. only n (Sort.stepped m) i ++ path_parts P (suc i + length d) (suc n)) none e;
  wide = ap (λ d. length (35 ∷ (d ++ spell_path P))) e ∙ ap suc (length-append ds (spell_path P));
}

-- ── What the reader of a test concludes; t is the tally before the test, b the one in which it has begun ──
module _ (s : List ℕ) {i n : ℕ} where
  pub name_reads : TestBegins s i n (Ok Name) → (k : ℕ) (t : Tally) {b : Tally} → b ≡ begun t i → (r : Result Behind Refusal) → Reading s label (i + 1) k b r → Reading s (test n) i k t r
  unfolding name_lead noted tallied
  name_reads (c, e, h, l) k t q r d =
      lead_reads s (some n) (subst (Stands s i) e h) (l, tt) (name_lead n) (only n Sort.test) refl (name_parts n) k t r
      (subst₂ (λ j b. Reading s label j k b r) (add-one i) q d)

  pub not_reads : TestBegins s i n (Ok Not) → (k : ℕ) (t : Tally) {b : Tally} → b ≡ begun t i → (r : Result Behind Refusal) → Reading s (test (n + 1)) (i + 1) k b r → Reading s (test n) i k t r
  unfolding not_lead noted tallied
  not_reads (c, e, h, l) k t q r d =
      lead_reads s (some n) (subst (Stands s i) e h) (l, tt) (not_lead n) (only n Sort.test) refl (not_parts n) k t r
      (subst₂ (λ m j. Reading s (test m) j k (begun t i) r) (add-one n) (add-one i) (subst (λ b. Reading s (test (n + 1)) (i + 1) k b r) q d))

  pub two_halts : TestBegins s i n (Ok TwoTests) → (E : List Key → Answer Test → Type 0) → Halts s E (test (n + 1)) (i + 1) → Halts s E (test n) i
  two_halts (b, e, h, l) E d =
      let d' = subst₂ (λ m j. Halts s E (test m) j) (add-one n) (add-one i) d in
      ⊎_elim (λ e. first_halts s (some n) (subst (Stands s i) e h) (l, tt) (and_fork n) E d') (λ e. first_halts s (some n) (subst (Stands s i) e h) (l, tt) (or_fork n) E d') e

  pub two_reads : TestBegins s i n (Ok TwoTests) → (k : ℕ) (t : Tally) {b : Tally} → b ≡ begun t i → {j l : ℕ} {u : Tally} → Back s (test (n + 1)) (i + 1) k b j l u
      → (r : Result Behind Refusal) → Reading s (test (n + 1)) j l u r → Reading s (test n) i k t r
  unfolding and_fork or_fork noted tallied
  two_reads (x, e, h, low) k t {b} q {j} {l} {u} c r d =
      let same : k ≡ k + 0 = omega arith in
      let c = subst (λ b. Back s (test (n + 1)) (i + 1) k b j l u) q c in
      let c' = subst₂ (λ m a. Back s (test m) (suc i) a (begun t i) j l u) (add-one n) same (subst (λ a. Back s (test (n + 1)) a k (begun t i) j l u) (add-one i) c) in
      let d' = subst (λ m. Reading s (test m) j l u r) (add-one n) d in
      ⊎_elim (λ e. fork_reads s (some n) (subst (Stands s i) e h) (low, tt) (and_fork n) (only n Sort.test) refl 0 (and_parts n) k t c' r d')
      (λ e. fork_reads s (some n) (subst (Stands s i) e h) (low, tt) (or_fork n) (only n Sort.test) refl 0 (or_parts n) k t c' r d') e

  -- ── Comparisons and counts: weighed when they end ──
  module _ {b k : ℕ} (o : Opened s b i n k) {y z : Symbol} (f : Fork (test n) y z b (some n)) (t : Tally) {j l : ℕ} {u : Tally} (c : Back s y (suc i) 0 (begun t i) j l u) where
    weighed_back : {j₂ m : ℕ} {v w : Tally} (d : Back s z j l u j₂ m v) → Stepped n y z c.value d.value (f.join c.value d.value) → w ≡ weighed v i m → Back s (test n) i k t j₂ k w
    unfolding noted tallied
    weighed_back {m = m} {v = v} d p heavy =
        let one = parts_of y c.value (suc i) in
        let two = parts_of z d.value j in
        let M = size_of y c.value + size_of z d.value in
        let new = only n (Sort.stepped M) i in
        let q = both s (some n) o.opens (o.nested, tt) f c new refl d in
        let wide = p.wide in
        let a₁ = c.forth in let a₂ = c.long in let a₃ = c.steps in
        let b₁ = d.forth in let b₂ = d.long in let b₃ = d.steps in
        let few = o.few in
        let sum : m ≡ M = omega arith in
        let whole : v ≡ tallied (begun t i) (one ++ two) = d.kept ∙ ap (λ x. tallied x two) c.kept ∙ sym (tallied_append one two (begun t i)) in
        back_as s (f.join c.value d.value) (new ++ (one ++ two))
        (p.parts i ∙ ap (λ a. new ++ (one ++ parts_of z d.value a)) (sym c.long))
        (omega arith) d.inside (omega arith) q.shallow q.returns (omega arith) (omega arith)
        (heavy ∙ ap₂ (λ x y. weighed x i y) whole sum ∙ weighed_last (one ++ two) (begun t i) i M)

  -- ── Comparisons ──
  module _ {k : ℕ} (o : Opened s 40 i n k) where
    pub first_path : (E : List Key → Answer Test → Type 0) → Halts s E (path (n + 1)) (i + 1) → Halts s E (test n) i
    first_path E d = first_halts s (some n) o.opens (o.nested, tt) (compare_fork n) E (subst₂ (λ m j. Halts s E (path m) j) (add-one n) (add-one i) d)

    module _ (t : Tally) {b : Tally} (q : b ≡ begun t i) {j l : ℕ} {u : Tally} (c : Back s (path (n + 1)) (i + 1) 0 b j l u) where
      first_back : Back s (path (suc n)) (suc i) 0 (begun t i) j l u
      first_back =
          subst₂ (λ m a. Back s (path m) a 0 (begun t i) j l u) (add-one n) (add-one i)
          (subst (λ b. Back s (path (n + 1)) (i + 1) 0 b j l u) q c)

      pub rest_halts : (E : List Key → Answer Test → Type 0) → Halts s E (signed (n + 1)) j → Halts s E (test n) i
      rest_halts E d = second_halts s (some n) o.opens (o.nested, tt) (compare_fork n) first_back E (subst (λ m. Halts s E (signed m) j) (add-one n) d)

      pub compare_back : {j₂ m : ℕ} {v w : Tally} → Back s (signed (n + 1)) j l u j₂ m v → w ≡ weighed v i m → Back s (test n) i k t j₂ k w
      unfolding compare_fork
      compare_back {j₂ = j₂} {m = m} {v = v} d heavy =
          let e = subst (λ x. Back s (signed x) j l u j₂ m v) (add-one n) d in
          weighed_back o (compare_fork n) t first_back e (compare_stepped n first_back.value e.value.0 e.value.1) heavy

  -- ── Counts ──
  module _ {k : ℕ} (o : Opened s 35 i n k) where
    pub number_halts : (E : List Key → Answer Test → Type 0) → Halts s E number (i + 1) → Halts s E (test n) i
    number_halts E d = first_halts s (some n) o.opens (o.nested, tt) (count_fork n) E (subst (Halts s E number) (add-one i) d)

    module _ (t : Tally) {b : Tally} (q : b ≡ begun t i) {a : Behind} (c : NumberRead s (i + 1) 0 b (Ok a)) where
      abbrev NumberBack : Type 0
      NumberBack = NumberRead s (suc i) 0 (begun t i) (Ok a)

      number_back : NumberBack
      number_back = subst₂ (λ j b. NumberRead s j 0 b (Ok a)) (add-one i) q c

      pub path_halts : (E : List Key → Answer Test → Type 0) → Halts s E (path (n + 1)) a.next → Halts s E (test n) i
      path_halts E d = second_halts s (some n) o.opens (o.nested, tt) (count_fork n) number_back.0 E (subst (λ m. Halts s E (path m) a.next) (add-one n) d)

      pub count_back : {j₂ m : ℕ} {v w : Tally} → Back s (path (n + 1)) a.next a.steps a.tally j₂ m v → w ≡ weighed v i m → Back s (test n) i k t j₂ k w
      unfolding count_fork
      count_back {j₂ = j₂} {m = m} {v = v} d heavy =
          let e = subst (λ x. Back s (path x) a.next a.steps a.tally j₂ m v) (add-one n) d in
          weighed_back o (count_fork n) t number_back.0 e (count_stepped n number_back.0.value e.value number_back.1) heavy
