-- From the start to the answers.
use Prim.Native.Nat.{ℕ, ◌+◌, ◌*◌, ◌≤◌, ◌<◌}
use mathlib.Core.Path.{◌≡◌, refl, sym, ap, ◌∙◌, subst}
use mathlib.Core.Logic.{inr, ◌↔◌}
use mathlib.Core.Bool.{Bool, true, false, false≢true}
use mathlib.Core.List.{List}
use native.Mathlib.Omega.{arith}
use lib.ListN.{length, get_or}
use Rattle.bits.specs.Sets.{bit, one}
use Rattle.xpath.specs.Syntax.{XPath}
use Rattle.xpath.specs.Tree.{Tree}
use Rattle.snippets.specs.Snippets.{Different, SettledBy}
use Rattle.layout.specs.Part.{ANSWER, pair_at}
use Rattle.layout.specs.Words.{word}
use Rattle.layout.proofs.Frames.{within_frame, within_then, same_then, frame_same}
use Rattle.machine.specs.declared.Machine.{Machine}
use Rattle.machine.proofs.Comparing.{second_few_lem}
use Rattle.loops.specs.Loops.{Stage}
use Rattle.loops.proofs.Sides.{parent_before}
use Rattle.powers.specs.Powers.{Founded}
use Rattle.settling.specs.Pairs.{Settles}
use Rattle.pairs.specs.Growing.{Ready, Framed, Started, Grown, Met, Everywhere}
use Rattle.pair_rounds.specs.Rounds.{Still}
use Rattle.settling.specs.Settled.{Answering, Marked, Settled}
use Rattle.settling.proofs.Settling.{settles_by}
use Rattle.pairs.proofs.Framing.{ready_kept}
use Rattle.pairs.proofs.Grows.{grown_then, ended_kept}
use Rattle.pairs.proofs.Seeding.{met_kept}
use Rattle.settling.proofs.Reading.{related_settles}

module _ {P R : XPath} {t : Tree} {m : Machine} {n : ℕ} {p : List ℕ} (stage : Stage P R t m n p) where
  pub ready_of : 176 * n ≤ length p → Ready n p
  ready_of room = record { few = stage.drawn.few; room = room; parents = parent_before stage }

-- ── The answers ──
one_true : (b : Bool) → (one b ≡ 1) ↔ (b ≡ true)
one_true true = (λ e. refl, λ e. refl)
one_true false = (λ e. absurd (let f : ⊥ = omega arith in f), λ e. absurd (false≢true e))

one_small : (b : Bool) → one b ≤ 1
one_small true = omega arith
one_small false = omega arith

-- p is the part at first, p₁ at the start, p₂ with what meets a snippet, q with all that comes to a pair, and q' with the answers
pub settled : {m : Machine} {n : ℕ} {p p₁ p₂ q q' : List ℕ} → Ready n p → Started m.last n n p p₁ → Grown n p₁ p₂ × Everywhere (Met n p₂) n
    → Grown n p₂ q × Still n q → Answering m.second n n q q' → Settled m n p q'
settled {m} {n} {p} {p₁} {p₂} {q} {q'} ready s (g, met) (h, still) a = record {
  same = same_then (frame_same (λ k h. h.1) (within_frame framed)) (frame_same (λ k h. inr h.0) a.kept);
  small = λ v h. subst (λ (x : ℕ). x ≤ 1) (sym (a.done v h)) (one_small (bit (get_or q (pair_at n v) 0) m.second));
  answers = λ P R t f v h. answers f v h;
}
  where
    all : Grown n p₁ q
    all = grown_then g h

    framed : Framed n p q
    framed = within_then s.framed all.framed

    begun : Ready n p₂
    begun = ready_kept (within_then s.framed g.framed) ready

    answers : {P R : XPath} {t : Tree} → Founded P R t m n 1 p → (v : ℕ) → v < n → (word q' n ANSWER v ≡ 1) ↔ Settles P R t (Marked t n p) v 0 m.second
    answers {P} {R} {t} f v inside =
        let found = related_settles f.stage f.loops f.powers framed (ended_kept m.last all s.ended) (λ y i l. met_kept begun h y i l (met y i l)) still (all.sound m.last s.held) v 0 m.second inside (omega arith) (second_few_lem f.stage.machine) in
        let told = one_true (bit (get_or q (pair_at n v + 0) 0) m.second) in
        let same : word q' n ANSWER v ≡ one (bit (get_or q (pair_at n v + 0) 0) m.second) = a.done v inside ∙ ap (λ (x : ℕ). one (bit (get_or q x 0) m.second)) (omega arith) in
        (λ e. found.0 (told.0 (sym same ∙ e)), λ z. same ∙ told.1 (found.1 z))

-- where the words have the snippets of power 0 of a set, the answers tell where these settle the comparison
pub answers_settle : {P R : XPath} {t : Tree} {m : Machine} {n : ℕ} {p p' : List ℕ} {S : ℕ → ℕ → ℕ → ℕ → Type 0} → Founded P R t m n 1 p
    → ((x y i j : ℕ) → Marked t n p x y i j ↔ S x y i j) → ((x y i j : ℕ) → S x y i j → Different P R i j) → Settled m n p p'
    → (v : ℕ) → v < n → (word p' n ANSWER v ≡ 1) ↔ SettledBy t P R S v
answers_settle {P} {R} {t} {m} {n} {p} f snippets apart s v h =
    let start = f.stage.machine.start in
    let told = s.answers P R t f v h in
    let rule = settles_by {S = Marked t n p} snippets apart v in (
      λ e. rule.0 (subst (λ (b : ℕ). Settles P R t (Marked t n p) v 0 b) start (told.0 e)),
      λ e. told.1 (subst (λ (b : ℕ). Settles P R t (Marked t n p) v 0 b) (sym start) (rule.1 e)),
    )
