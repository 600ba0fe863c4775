-- The two sides of the contract of a call: refused, and accepted.
use Prim.Native.Nat.{ℕ}
use mathlib.Core.Path.{◌≡◌, refl}
use mathlib.Core.Logic.{◌≢◌}
use mathlib.Core.List.{List}
use lib.ListN.{length}
use native.Mathlib.Omega.{arith}
use Rattle.refusals.specs.Refusals.{Refusal, number, place, First}
use Rattle.evaluation_spec.specs.Evaluation.{Refused}
use Rattle.evaluation_spec.specs.Values.{ValuesEvaluation}
use Rattle.evaluation_spec.proofs.Agreement.{number_positive}
use Rattle.verdicts.specs.Judging.{Judges, JudgesValues}
use Rattle.evaluators.specs.declared.Evaluator.{Evaluator}
use Rattle.evaluation.specs.Outcomes.{refused_by, selecting, Selection, Evaluated, ValuesSelection}

-- ── By the grounds of any call ──
module _ {G : Refusal → Type 0} {n p nodes : ℕ} (judged : (r : Refusal) → First G r → (n ≡ number r) × (p ≡ place r) × (nodes ≡ 0)) where
  refused_by_lem : (scratch marks : List ℕ) (r : Refusal) → First G r → Refused r scratch marks (refused_by n p) scratch marks
  refused_by_lem scratch marks r f = let (h, g, _) = judged r f in record {
    outcome = λ i. record { number = h i; place = g i; selected = 0; snippets = 0 };
    same_scratch = refl;
    same_marks = refl;
  }

  unrefused : n ≡ 0 → (r : Refusal) → ¬ First G r
  unrefused z r f = let q = (judged r f).0 in let h = number_positive r in omega arith

-- ── An evaluation ──
module _ {document rule scratch marks : List ℕ} {n p nodes : ℕ} (j : Judges document rule (length scratch) (length marks) n p nodes) where
  pub call_refused : (e : Evaluator) → n ≢ 0 → Evaluated e document rule scratch marks (refused_by n p) scratch marks
  call_refused e z = record { refused = refused_by_lem j.refused scratch marks; accepted = λ ns T a. absurd (z (j.accepted ns T a).0) }

  pub call_accepted : (e : Evaluator) → n ≡ 0 → (k c : ℕ) (scratch' marks' : List ℕ) → Selection e document rule scratch marks k c scratch' marks'
      → Evaluated e document rule scratch marks (selecting k c) scratch' marks'
  call_accepted e z k c scratch' marks' s = record { refused = λ r f. absurd (unrefused j.refused z r f); accepted = s }

-- ── By a list of values ──
module _ {document rule values scratch marks : List ℕ} {n p nodes : ℕ} (j : JudgesValues document rule values (length scratch) (length marks) n p nodes) where
  pub values_refused : n ≢ 0 → ValuesEvaluation document rule values scratch marks (refused_by n p) scratch marks
  values_refused z = record { refused = refused_by_lem j.refused scratch marks; accepted = λ ns P R a. absurd (z (j.accepted ns P R a).0) }

  pub values_evaluated : n ≡ 0 → (k c : ℕ) (scratch' marks' : List ℕ) → ValuesSelection document rule values scratch marks k c scratch' marks'
      → ValuesEvaluation document rule values scratch marks (selecting k c) scratch' marks'
  values_evaluated z k c scratch' marks' s = record { refused = λ r f. absurd (unrefused j.refused z r f); accepted = s }
