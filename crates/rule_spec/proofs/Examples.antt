-- 01's rules and their verdicts, computed together; where a name or a constant is too long, or a rule stops at a nesting, as the decisions read 01.
use Prim.Native.Nat.{ℕ, zero, suc}
use mathlib.Core.Path.{◌≡◌, refl, subst}
use mathlib.Core.Option.{Option, none, some}
use mathlib.Core.List.{List, [], ◌∷◌, ◌++◌, map, head-eq_of_cons-eq, tail-eq_of_cons-eq}
use Rattle.lists.specs.Lists.{All}
use Rattle.lists.specs.Text.{bytes, digits_by, digits, decimal}
use Rattle.refusals.specs.Refusals.{Refusal, rule_length, unreadable, nesting, tests, steps}
use Rattle.xpath.specs.Syntax.{Test, named, compare, eq, seq, star, one, to_left, to_right, stay}
use Rattle.rule_spec.specs.Spelling.{spell_test, spell_path, spell_step}
use Rattle.rule_spec.specs.Parts.{test_parts, path_parts, step_parts, parts}
use Rattle.rule_spec.specs.Parts as Parts
use Rattle.rule_spec.specs.Verdict.{Reads, Accepts}
use Rattle.rule_spec.specs.Bytes.{is_letter, is_name_byte, is_digit, is_printable}
use Rattle.rule_spec.specs.Machine.{move, rest, over, read}
use Rattle.rule_spec.specs.Readers.{keys}
use Rattle.rule_spec.proofs.Machine.{answer, rule_start}
use Rattle.rule_spec.proofs.Begins.{answer_reads}
use Rattle.rule_spec.proofs.Least.{least_of}
use Rattle.rule_spec.proofs.Grounds.{reads_one, unread_at, deep_at, many_tests_at, many_steps_at}
use Rattle.rule_spec.proofs.Earliest.{earliest, earlier}
use Rattle.rule_spec.proofs.Judged.{grounds, verdict, Judged, verdict_judged}

-- ── The rules and their verdicts ──
abbrev times : ℕ → List ℕ → List ℕ
times zero u = []
times (suc n) u = u ++ times n u

-- one step after the other, suc n of them: as a path, in a comparison and in a count
abbrev descent : ℕ → List ℕ
descent n = times n (bytes ".") ++ times (suc n) (bytes "l")

abbrev walk : ℕ → List ℕ
walk n = bytes "(" ++ (descent n ++ bytes "=e)")

abbrev count : ℕ → List ℕ
count n = bytes "#1" ++ descent n

abbrev session : List ℕ
session = bytes "(.l[:name]=..r*rl)"

abbrev examples : List (List ℕ × Option Refusal)
examples =
    ([], some (unreadable 0))
    ∷ (bytes ":a!", some (unreadable 2))
    ∷ (times 31 (bytes "!") ++ bytes ":a", none)
    ∷ (times 32 (bytes "!") ++ bytes ":a", some (nesting 32))
    ∷ (walk 13, none)
    ∷ (walk 14, some (steps 0))
    ∷ (session, none)
    ∷ (bytes ":" ++ times 16 (bytes "a"), none)
    ∷ (bytes ":" ++ times 17 (bytes "a"), some (unreadable 17))
    ∷ (bytes "(e=\"" ++ (times 32 (bytes " ") ++ bytes "\")"), none)
    ∷ (bytes "(e=\"" ++ (times 33 (bytes " ") ++ bytes "\")"), some (unreadable 36))
    ∷ (times 32 (bytes "!"), some (unreadable 32))
    ∷ (times 32 (bytes "!") ++ bytes "x", some (unreadable 32))
    ∷ (times 33 (bytes "!"), some (nesting 32))
    ∷ (times 32 (bytes "!") ++ bytes ":", some (nesting 32))
    ∷ (times 21 (bytes "&!:a") ++ bytes ":a", none)
    ∷ (bytes "!" ++ (times 21 (bytes "&!:a") ++ bytes ":a"), some (tests 85))
    ∷ (times 1024 (bytes "x"), some (unreadable 0))
    ∷ (times 1025 (bytes "x"), some rule_length)
    ∷ (bytes "#", some (unreadable 1))
    ∷ (bytes "#01e", some (unreadable 2))
    ∷ (bytes "#4097e", some (unreadable 4))
    ∷ (bytes "#0e", none)
    ∷ (bytes "#4096e", none)
    ∷ (times 30 (bytes "!") ++ bytes "#1e", none)
    ∷ (times 31 (bytes "!") ++ bytes "#10e", some (nesting 34))
    ∷ (count 13, none)
    ∷ (count 14, some (steps 0))
    ∷ (bytes "&" ++ (count 14 ++ walk 14), some (steps 1))
    ∷ (bytes "&" ++ (walk 14 ++ count 14), some (steps 1))
    ∷ []

-- ── All of them computed ──
computed : map (λ x. verdict x.0) examples ≡ map (λ x. x.1) examples
unfolding verdict grounds earliest earlier unread_at deep_at many_tests_at many_steps_at least_of over move rest is_letter is_name_byte is_digit is_printable decimal digits digits_by parts test_parts path_parts step_parts Parts.tests spell_test spell_path spell_step
computed = refl

each_judged : (xs : List (List ℕ × Option Refusal)) → map (λ x. verdict x.0) xs ≡ map (λ x. x.1) xs → All (λ x. Judged x.0 x.1) xs
each_judged [] e = tt
each_judged (x ∷ xs) e = (subst (Judged x.0) (head-eq_of_cons-eq e) (verdict_judged x.0), each_judged xs (tail-eq_of_cons-eq e))

pub judged : All (λ x. Judged x.0 x.1) examples
judged = each_judged examples computed

-- ── The session's rule ──
-- the session's rule, as the test that is meant
abbrev meant : Test
meant = compare eq (seq (one to_left) (one (stay (named (bytes "name"))))) (seq (seq (one to_right) (star (one to_right))) (one to_left))

pub session_reads : Reads session meant
unfolding over move rest is_letter is_name_byte is_printable parts test_parts path_parts step_parts spell_test spell_path spell_step
session_reads = answer_reads session heard
  where
    heard : answer rule_start session ≡ read meant (keys (parts meant))
    heard = refl

pub session_accepted : Accepts session meant
session_accepted = let a = judged.1.1.1.1.1.1.0 in subst (Accepts session) (reads_one session a.1.reads session_reads) a.1
