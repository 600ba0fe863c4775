-- A session: what it answers is one, and the nodes that it prints are the selected ones.
use Prim.Native.Nat.{ℕ, ◌+◌, ◌-◌, ◌≤◌, ◌<◌}
use mathlib.Core.Path.{◌≡◌, sym, ap, ◌∙◌, subst}
use mathlib.Core.Logic.{◌⊎◌, inl, inr, ◌↔◌}
use mathlib.Core.Bool.{Bool, true, false, false≢true}
use mathlib.Core.List.{List}
use lib.ListN.{length, get_or, take, drop, replicate, length-drop, length-replicate, get_or-replicate, get_or-eq_default}
use lib.Seq.{take_all, get_or-drop}
use native.Mathlib.Omega.{arith}
use native.Mathlib.Decide.{dec_lt}
use Rattle.limits.specs.Limits.{program_input, program_words, program_marks}
use Rattle.refusals.specs.Refusals.{Refusal, First}
use Rattle.xpath.specs.Syntax.{Test}
use Rattle.document_spec.specs.Library.{Node}
use Rattle.snippets.specs.Count.{SnippetCount}
use Rattle.streams.specs.Input.{Parts, SplitAt}
use Rattle.streams.specs.Output.{Marked}
use Rattle.streams.proofs.Splitting.{parts_some, parts_one}
use Rattle.evaluation_spec.specs.Buffers.{Ground, Accepted}
use Rattle.evaluation_spec.specs.Evaluation.{Outcome, Selects, Selected, SnippetEvaluation}
use Rattle.evaluation_spec.proofs.Agreement.{snippet_evaluation_one}
use Rattle.select.specs.Session.{rest, Answered, Session}

-- ── An input that is not too long ──
pub not_longer : {b : Bool} {m n : ℕ} → (b ≡ true) ↔ (m < n) → b ≡ false → n ≤ m
not_longer {b} {m} {n} f e = go (dec_lt m n)
  where
    go : Dec (m < n) → n ≤ m
    go (yes l) = absurd (false≢true (sym e ∙ f.1 l))
    go (no g) = omega arith

pub answered_parts : {input : List ℕ} {e b : ℕ} → SplitAt input e b → length input ≤ program_input
    → (scratch marks : List ℕ) (o : Outcome) (scratch' marks' : List ℕ)
    → SnippetEvaluation (rest b input) (take e input) scratch marks o scratch' marks' → Answered input scratch marks o scratch' marks'
answered_parts {input} {e} {b} s l scratch marks o scratch' marks' h = record { longer = λ k. absurd (omega arith); evaluated = λ _ rule document p. same rule document p }
  where
    same : (rule document : List ℕ) → Parts input rule document → SnippetEvaluation document rule scratch marks o scratch' marks'
    same rule document p =
        let (r, d) = parts_one s.parts p in
        let whole : rest b input ≡ document = take_all (length input - b) (drop b input) (simp length-drop (omega arith)) ∙ d in
        subst (λ t. SnippetEvaluation t rule scratch marks o scratch' marks') whole
        (subst (λ t. SnippetEvaluation (rest b input) t scratch marks o scratch' marks') r h)

-- ── A session leaves nothing open ──
pub session_one : {input : List ℕ} {o₁ o₂ : Outcome} {marks₁ marks₂ : List ℕ} → Session input o₁ marks₁ → Session input o₂ marks₂ → (o₁ ≡ o₂) × (marks₁ ≡ marks₂)
session_one {input} {o₁} {o₂} {marks₁} {marks₂} (s₁, a₁) (s₂, a₂) = go (dec_lt program_input (length input))
  where
    go : Dec (program_input < length input) → (o₁ ≡ o₂) × (marks₁ ≡ marks₂)
    go (yes l) = let p = a₁.longer l in let q = a₂.longer l in (p.outcome ∙ sym q.outcome, p.same_marks ∙ sym q.same_marks)
    go (no f) =
        let k : length input ≤ program_input = omega arith in
        let (rule, document, p) = parts_some input in
        let (o, s, m) = snippet_evaluation_one document rule (replicate program_words 0) (replicate program_marks 0) o₁ o₂ s₁ marks₁ s₂ marks₂ (a₁.evaluated k rule document p) (a₂.evaluated k rule document p) in
        (o, m)

-- ── The printed nodes ──
unmarked : (n v : ℕ) → ¬ Marked (replicate n 0) v
unmarked n v m = go (dec_lt v n)
  where
    go : Dec (v < n) → ⊥
    go (yes l) = let e = get_or-replicate {A = ℕ} n v 0 0 l in omega arith
    go (no f) = let e = get_or-eq_default {A = ℕ} (replicate n 0) 0 {n = v} (rw length-replicate (omega arith)) in omega arith

later : (n : ℕ) (xs ys : List ℕ) → drop n xs ≡ drop n ys → (v : ℕ) → n ≤ v → get_or xs v 0 ≡ get_or ys v 0
later n xs ys d v r =
    let e : n + (v - n) ≡ v = omega arith in
    subst (λ i. get_or xs i 0 ≡ get_or ys i 0) e (sym (get_or-drop n xs (v - n) 0) ∙ ap (λ l. get_or l (v - n) 0) d ∙ get_or-drop n ys (v - n) 0)

-- where no mark was set before, those that are set afterwards are of the selected nodes
selected_marked : {ns : List Node} {T : Test} {scratch scratch' marks' : List ℕ} {o : Outcome} (n : ℕ)
    → Selected SnippetCount ns T scratch (replicate n 0) o scratch' marks' → (v : ℕ) → Marked marks' v ↔ Selects ns T v
selected_marked {ns} {T} {marks' = marks'} n s v = go (dec_lt v (length ns))
  where
    at : (Selects ns T v × (get_or marks' v 0 ≡ 1)) ⊎ ((¬ Selects ns T v) × (get_or marks' v 0 ≡ 0)) → Marked marks' v ↔ Selects ns T v
    at (inl (h, e)) = (λ _. h, λ _. e)
    at (inr (f, e)) = (λ m. absurd (omega arith), λ h. absurd (f h))

    go : Dec (v < length ns) → Marked marks' v ↔ Selects ns T v
    go (yes l) = at (s.marked v l)
    go (no f) =
        let e = later (length ns) marks' (replicate n 0) s.later_marks v (omega arith) in
        (λ m. absurd (unmarked n v (sym e ∙ m)), λ h. absurd (f h.0))

module _ {input : List ℕ} {o : Outcome} {marks : List ℕ} (s : Session input o marks) where
  -- of an input whose rule and document are accepted: the selected nodes
  pub session_marked : length input ≤ program_input → (rule document : List ℕ) → Parts input rule document
      → (ns : List Node) (T : Test) → Accepted document rule program_words program_marks ns T → (v : ℕ) → Marked marks v ↔ Selects ns T v
  session_marked l rule document p ns T a v =
      selected_marked program_marks ((s.1.evaluated l rule document p).accepted ns T (rw (length-replicate {A = ℕ} program_words 0, length-replicate {A = ℕ} program_marks 0) a)) v

  -- of any other: none
  pub session_refused : length input ≤ program_input → (rule document : List ℕ) → Parts input rule document
      → (r : Refusal) → First (Ground document rule program_words program_marks) r → (v : ℕ) → ¬ Marked marks v
  session_refused l rule document p r f v m =
      let e = ((s.1.evaluated l rule document p).refused r (rw (length-replicate {A = ℕ} program_words 0, length-replicate {A = ℕ} program_marks 0) f)).same_marks in
      unmarked program_marks v (subst (λ t. Marked t v) e m)

  pub session_longer : program_input < length input → (v : ℕ) → ¬ Marked marks v
  session_longer l v m = unmarked program_marks v (subst (λ t. Marked t v) (s.1.longer l).same_marks m)
