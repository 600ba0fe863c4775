-- A comparison or a count is settled by what its evaluator leaves in the part.
use Prim.Native.Nat.{ℕ, ◌+◌, ◌≤◌, ◌<◌}
use native.Mathlib.Omega.{arith}
use mathlib.Core.Path.{◌≡◌, refl, sym, ◌∙◌, subst}
use mathlib.Core.Logic.{◌↔◌, ◌≢◌, ⊎_elim}
use mathlib.Core.Bool.{Bool, true, false}
use mathlib.Core.List.{List, ◌++◌}
use lib.ListN.{length, get_or}
use Rattle.limits.specs.Limits.{scratch_words}
use Rattle.bits.specs.Sets.{bit, and}
use Rattle.xpath.specs.Syntax.{Test, XPath, stay}
use Rattle.xpath.specs.Meaning.{Holds}
use Rattle.document_spec.specs.Library.{Node}
use Rattle.document_spec.specs.Binary.{tree_of}
use Rattle.rule_spec.proofs.Bytes.{clash}
use Rattle.layout.specs.Part.{STAYS}
use Rattle.layout.specs.Table.{COLUMNS, LEFT, RANK}
use Rattle.layout.specs.Words.{word, Within}
use Rattle.layout.proofs.Frames.{within_then, within_more}
use Rattle.test_bits.specs.Columns.{held}
use Rattle.test_numbers.specs.Tests.{path_tests, test}
use Rattle.test_numbers.specs.Numbering.{Brackets}
use Rattle.machine.specs.declared.Machine.{Machine}
use Rattle.machine.specs.Meaning.{IsStep, IsMachine, Drawn}
use Rattle.plain.specs.Plain.{Answered}
use Rattle.staging.specs.Drawing.{Copied, Stayed}
use Rattle.driver.specs.Tasks.{Scene, Tells, Apart}
use Rattle.driver.proofs.Frames.{within_apart, held_apart}
use Rattle.driver.proofs.Parts.{part, back, back_word}
use Rattle.driver.proofs.Drawn.{drawn}

and_true : (a b : Bool) → (and a b ≡ true) ↔ ((a ≡ true) × (b ≡ true))
and_true true b = (λ e. (refl, e), λ h. h.1)
and_true false b = (λ e. clash e, λ h. clash h.0)

-- the tests in the brackets of two paths are settled, so the set at a node holds the positions whose test holds there
brackets_hold : (ns : List Node) {n k : ℕ} {t t₁ : List ℕ} {m : Machine} {numbers : List ℕ} (P R : XPath)
    → ((e : ℕ) → e < length (path_tests P ++ path_tests R) → Tells ns n (k + e) (test (path_tests P ++ path_tests R) e) t)
    → Apart n t t₁ → IsMachine P R m → Brackets P R k numbers
    → (v j : ℕ) → v < n → j < 16
    → (and (bit m.brackets j) (held t₁ n (get_or numbers j 0) v) ≡ true) ↔ ((U : Test) × IsStep P R j (stay U) × Holds (tree_of ns) U v)
brackets_hold ns {n} {k} {t} {t₁} {m} {numbers} P R settled apart machine brackets v j l h = (
  (λ e.
      let (a, b) = (and_true (bit m.brackets j) (held t₁ n (get_or numbers j 0) v)).0 e in
      let (U, g) = (machine.brackets j h).0 a in
      (U, g, (told U g).0 b)),
  λ x. (and_true (bit m.brackets j) (held t₁ n (get_or numbers j 0) v)).1 ((machine.brackets j h).1 (x.0, x.1), (told x.0 x.1).1 x.2),
)
  where
    told : (U : Test) → IsStep P R j (stay U) → (held t₁ n (get_or numbers j 0) v ≡ true) ↔ Holds (tree_of ns) U v
    told U g =
        let (e, q, r, z) = brackets.numbered j U g in
        let w = held_apart apart (get_or numbers j 0) v (brackets.small j h) l in
        subst (λ b. (b ≡ true) ↔ Holds (tree_of ns) U v) (sym w)
        (subst (λ i. (held t n i v ≡ true) ↔ Holds (tree_of ns) U v) (sym q)
        (subst (λ W. (held t n (k + e) v ≡ true) ↔ Holds (tree_of ns) W v) z (settled e r v l)))

-- 1 or 0 in the answer's column, as A holds or not
answer_iff : {n : ℕ} {A : ℕ → Type 0} {p p' : List ℕ} → Answered n A p p' → (v : ℕ) → v < n → (word p' n 0 v ≡ 1) ↔ A v
answer_iff a v l = ⊎_elim (λ x. (λ e. x.0, λ y. x.1)) (λ x. (λ e. let z = x.1 in absurd (omega arith), λ y. absurd (x.0 y))) (a.answers v l)

-- so it stands behind the table when the part comes back
pub answer_told : {n : ℕ} {A : ℕ → Type 0} (t : List ℕ) {p : List ℕ} (pos : 0 < n) (room : scratch_words n ≤ length t) (a : Answered n A (part n t pos room) p)
    → (v : ℕ) → v < n → (word (back n t pos room p a.long) n COLUMNS v ≡ 1) ↔ A v
answer_told {n} t {p} pos room a v l =
    let g = answer_iff a v l in let w = back_word n t pos room p a.long v l in
    (λ e. g.0 (sym w ∙ e), λ x. w ∙ g.1 x)

-- ── What is drawn for two paths ──
module _ {s : List ℕ} {ns : List Node} {n : ℕ} {t : List ℕ} (scene : Scene s ns n t) where
  pub some_nodes : 0 < n
  some_nodes = subst (λ m. 0 < m) scene.size scene.library.legal.some

  module _ {b : ℕ} {numbers t₁ t₂ : List ℕ} (copied : Copied n t t₁) (stayed : Stayed n b numbers t₁ t₂) where
    pub drawn_within : Within n (COLUMNS + LEFT) (COLUMNS + STAYS + 1) t t₂
    drawn_within = within_then (within_more (omega arith) (omega arith) copied.within) (within_more (omega arith) (omega arith) stayed.within)

  -- the tests in the brackets have the numbers from k on, and p has what is drawn
  pub drawn_paths : {k : ℕ} {m : Machine} {numbers t₁ t₂ : List ℕ} (p : List ℕ) (P R : XPath)
      → ((e : ℕ) → e < length (path_tests P ++ path_tests R) → Tells ns n (k + e) (test (path_tests P ++ path_tests R) e) t)
      → IsMachine P R m → Brackets P R k numbers → Copied n t t₁ → Stayed n m.brackets numbers t₁ t₂
      → ((c v : ℕ) → c ≤ STAYS → c ≢ RANK → v < n → word p n c v ≡ word t₂ n (COLUMNS + c) v)
      → Drawn P R (tree_of ns) n p
  drawn_paths {k} p P R settled machine brackets copied stayed same =
      drawn p scene copied stayed same P R (brackets_hold ns {k = k} P R settled (within_apart some_nodes (omega arith) (omega arith) copied.within) machine brackets)
