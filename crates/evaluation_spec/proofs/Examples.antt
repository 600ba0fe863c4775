-- Document X of 01 and the ten rules marked on it (M), as one fact about their bytes, computed together; and rules that count.
use Prim.Native.Nat.{ℕ, ◌<◌}
use mathlib.Core.Path.{◌≡◌, refl, sym, subst}
use mathlib.Core.Logic.{◌↔◌}
use mathlib.Core.Bool.{Bool, true, false}
use mathlib.Core.Option.{Option, none, some}
use mathlib.Core.List.{List, [], ◌∷◌, map}
use lib.Dec.{T, eqb, ltb, ltb→lt}
use Rattle.lists.specs.Lists.{Occurs}
use Rattle.lists.specs.Text.{decimal, binary_digits, digits, digits_by}
use Rattle.lists.specs.Blanks.{trim, trim_end, trim_start}
use Rattle.limits.specs.Limits.{scratch_words}
use Rattle.refusals.specs.Refusals.{Refusal}
use Rattle.xpath.specs.Syntax.{Test}
use Rattle.xpath.specs.Meaning.{Holds}
use Rattle.xpath.specs.Booleans.{both, either}
use Rattle.xpath.specs.Reading.{amount_of, whole_from, decimals_from}
use Rattle.xpath.proofs.Booleans.{neg, T-both, T-either, T-neg, eqb_iff, ⊎-iff, trans}
use Rattle.xpath.proofs.Decide.{holdsb, holds_iff, some_below, some_iff, allb, each_by, sideb, side_iff}
use Rattle.document_spec.specs.Library.{Node}
use Rattle.document_spec.specs.Binary.{tree_of, compared_of}
use Rattle.document_spec.specs.Example.{X, text_x}
use Rattle.document_spec.specs.Verdict as Document
use Rattle.document_spec.proofs.Binary.{tree_formed}
use Rattle.document_spec.proofs.Accepted as Library
use Rattle.document_spec.proofs.Examples.{legal, accepted}
use Rattle.rule_spec.specs.Parts.{test_parts, path_parts, step_parts, parts}
use Rattle.rule_spec.specs.Parts as Parts
use Rattle.rule_spec.specs.Spelling.{spell_test, spell_path, spell_step}
use Rattle.rule_spec.specs.Verdict as Rule
use Rattle.rule_spec.specs.Bytes.{is_letter, is_name_byte, is_digit, is_printable}
use Rattle.rule_spec.specs.Machine.{Answer, read, stopped, move, rest, over}
use Rattle.rule_spec.proofs.Machine.{answer, rule_start}
use Rattle.rule_spec.proofs.Begins.{answer_reads}
use Rattle.rule_spec.proofs.Least.{least_of}
use Rattle.rule_spec.proofs.Grounds.{reads_one, unread_at, deep_at, many_tests_at, many_steps_at}
use Rattle.rule_spec.proofs.Earliest.{earliest, earlier}
use Rattle.rule_spec.proofs.Accepted as Grammar
use Rattle.rule_spec.proofs.Judged.{grounds, verdict, Judged, verdict_judged}
use Rattle.evaluation_spec.specs.Evaluation.{Selects}
use Rattle.evaluation_spec.specs.Marked.{Case, cases, counts}

-- ── A test that computes ──
abbrev occursb : ℕ → List ℕ → Bool
occursb v [] = false
occursb v (m ∷ ms) = either (eqb v m) (occursb v ms)

occurs_iff : (v : ℕ) (ms : List ℕ) → T (occursb v ms) ↔ Occurs v ms
occurs_iff v [] = (λ h. h, λ h. h)
occurs_iff v (m ∷ ms) = trans (T-either (eqb v m) (occursb v ms)) (⊎-iff (eqb_iff v m) (occurs_iff v ms))

-- some node of X is marked wrongly
abbrev wrong : Test → List ℕ → Bool
wrong U ms = some_below 5 (λ v. neg (sideb (holdsb (tree_of X) U v) (occursb v ms)))

abbrev in_x : ℕ → Bool
in_x v = ltb v 5

-- the rule reads, nothing refuses it, and it marks the right nodes
abbrev rightly : Answer Test → Option Refusal → List ℕ → Bool
rightly (read U ks) none ms = both (allb in_x ms) (neg (wrong U ms))
rightly (read U ks) (some r) ms = false
rightly (stopped ks o) v ms = false

abbrev rightb : Case → Bool
rightb c = rightly (answer rule_start c.rule) (verdict c.rule) c.marks

computed : T (allb rightb cases) × T (allb rightb counts)
unfolding verdict grounds earliest earlier unread_at deep_at many_tests_at many_steps_at least_of over move rest is_letter is_name_byte is_digit is_printable decimal digits digits_by parts test_parts path_parts step_parts Parts.tests spell_test spell_path spell_step compared_of trim trim_end trim_start amount_of whole_from decimals_from
computed = (tt, tt)

-- ── What it shows ──
pub record Right (c : Case) : Type 0 where
  pub test : Test
  pub accepts : Rule.Accepts c.rule test
  pub inside : (v : ℕ) → Occurs v c.marks → v < 5
  pub marked : (v : ℕ) → v < 5 → Holds (tree_of X) test v ↔ Occurs v c.marks

sure : (b : Bool) → ¬ T (neg b) → T b
sure true f = tt
sure false f = absurd (f tt)

marked_by : (U : Test) (ms : List ℕ) → T (neg (wrong U ms)) → (v : ℕ) → v < 5 → Holds (tree_of X) U v ↔ Occurs v ms
marked_by U ms h v r =
    let f : ℕ → Bool = λ v. neg (sideb (holdsb (tree_of X) U v) (occursb v ms)) in
    let e = (side_iff (holdsb (tree_of X) U v) (occursb v ms)).0
    (sure (sideb (holdsb (tree_of X) U v) (occursb v ms)) (λ k. (T-neg (wrong U ms)).0 h ((some_iff 5 f).1 (v, r, k)))) in
    let i = holds_iff (tree_of X) (tree_formed legal) U v r in
    let j = occurs_iff v ms in
    (λ a. j.0 (subst T e (i.1 a)), λ o. i.0 (subst T (sym e) (j.1 o)))

right_by : (c : Case) → T (rightb c) → Right c
right_by c = go (answer rule_start c.rule) refl (verdict c.rule) (verdict_judged c.rule)
  where
    go : (a : Answer Test) → answer rule_start c.rule ≡ a → (v : Option Refusal) → Judged c.rule v → T (rightly a v c.marks) → Right c
    go (read U ks) e none (W, k) h =
        let (i, w) = (T-both (allb in_x c.marks) (neg (wrong U c.marks))).0 h in
        record {
          test = U;
          accepts = subst (Rule.Accepts c.rule) (reads_one c.rule k.reads (answer_reads c.rule e)) k;
          inside = each_by in_x (λ v. v < 5) (λ v. ltb→lt v 5) c.marks i;
          marked = marked_by U c.marks w;
        }
    go (read U ks) e (some r) j h = absurd h
    go (stopped ks o) e v j h = absurd h

pub right : (c : Case) → Occurs c cases → Right c
right = each_by rightb Right right_by cases computed.0

pub right_count : (c : Case) → Occurs c counts → Right c
right_count = each_by rightb Right right_by counts computed.1

-- however X and the rule are read, the nodes selected are those that the case marks
abbrev pub MarkedOnX : Case → Type 0
MarkedOnX c = (ns : List Node) (U : Test) → Document.Accepts text_x ns → Rule.Accepts c.rule U → (v : ℕ) → Selects ns U v ↔ Occurs v c.marks

on_X : (c : Case) → Right c → MarkedOnX c
on_X c r ns U a b v =
    let i = Library.accepts_one text_x X ns accepted a in
    let j = Grammar.accepts_one c.rule r.accepts b in
    rw (← i, ← j) (λ s. (r.marked v s.0).0 s.1, λ m. (r.inside v m, (r.marked v (r.inside v m)).1 m))

-- 01, M: each of the ten rules is accepted (`right`), and selects on document X exactly the nodes that 01 marks.
pub marked_on_X : (c : Case) → Occurs c cases → MarkedOnX c
marked_on_X c o = on_X c (right c o)

-- 02 (h): so does each of the rules that count.
pub counted_on_X : (c : Case) → Occurs c counts → MarkedOnX c
counted_on_X c o = on_X c (right_count c o)

-- 01, buffers: N = 1, 63 and 64 need 192, 32,256 and 36,864 words.
pub sizes : map scratch_words (1 ∷ 63 ∷ 64 ∷ []) ≡ 192 ∷ 32_256 ∷ 36_864 ∷ []
unfolding scratch_words binary_digits digits digits_by
sizes = refl
