-- A mark and a note stand in one word, and each stays where the other is written.
use Prim.Native.Nat.{ℕ, ◌+◌, ◌*◌, ◌/◌, ◌%◌, ◌<◌}
use mathlib.Core.Path.{◌≡◌, sym, ap, ◌∙◌, subst}
use mathlib.Core.List.{List, [], ◌∷◌}
use native.Mathlib.Decide.{ℕ_discrete}
use native.Mathlib.Omega.{arith}
use Rattle.layout.specs.Groups.{MARKED}
use Rattle.layout.specs.Table.{PARENT}
use Rattle.layout.specs.Words.{cell, word, Wrote}
use Rattle.layout.proofs.Frames.{within_put, before_within}
use Rattle.group_marks.specs.Groups.{IsMarked, IsNoted}
use Rattle.group_marks.specs.Steps.{Marking, Noting, Fork, Closed}

pub marking_put : {n v x : ℕ} {p p' : List ℕ} → v < n → x ≡ word p n MARKED v → Wrote ((cell n MARKED v, x / 2 * 2 + 1) ∷ []) p p' → Marking n v p p'
marking_put {n} {v} {x} {p} {p'} l e w =
    let h = w.here.0 in
    record {
      within = within_put (omega arith) (omega arith) l w;
      here = omega arith;
      other = λ u i f. ap (λ (k : ℕ). k % 2) (w.other (cell n MARKED u) (omega arith, tt));
      notes = λ u i a. notes u a (ℕ_discrete (u / 16) v);
    }
  where
    notes : (u : ℕ) → IsNoted p n u → Dec (u / 16 ≡ v) → IsNoted p' n u
    notes u a (yes j) =
        let h = w.here.0 in let b : word p n MARKED v / 2 ≡ 1 = subst (λ (k : ℕ). word p n MARKED k / 2 ≡ 1) j a in
        let c : word p' n MARKED v / 2 ≡ 1 = omega arith in
        subst (λ (k : ℕ). word p' n MARKED k / 2 ≡ 1) (sym j) c
    notes u a (no f) = ap (λ (k : ℕ). k / 2) (w.other (cell n MARKED (u / 16)) (omega arith, tt)) ∙ a

pub noting_put : {n v x : ℕ} {p p' : List ℕ} → v < n → x ≡ word p n MARKED (v / 16) → Wrote ((cell n MARKED (v / 16), x % 2 + 2) ∷ []) p p' → Noting n v p p'
noting_put {n} {v} {x} {p} {p'} l e w =
    let h = w.here.0 in
    record {
      within = within_put (omega arith) (omega arith) (omega arith) w;
      here = omega arith;
      marks = λ u i. marks u (ℕ_discrete u (v / 16));
      notes = λ u i a. notes u a (ℕ_discrete (u / 16) (v / 16));
    }
  where
    marks : (u : ℕ) → Dec (u ≡ v / 16) → word p' n MARKED u % 2 ≡ word p n MARKED u % 2
    marks u (yes j) =
        let h = w.here.0 in let c : word p' n MARKED (v / 16) % 2 ≡ word p n MARKED (v / 16) % 2 = omega arith in
        subst (λ (k : ℕ). word p' n MARKED k % 2 ≡ word p n MARKED k % 2) (sym j) c
    marks u (no f) = ap (λ (k : ℕ). k % 2) (w.other (cell n MARKED u) (omega arith, tt))

    notes : (u : ℕ) → IsNoted p n u → Dec (u / 16 ≡ v / 16) → IsNoted p' n u
    notes u a (yes j) = let h = w.here.0 in let c : word p' n MARKED (v / 16) / 2 ≡ 1 = omega arith in subst (λ (k : ℕ). word p' n MARKED k / 2 ≡ 1) (sym j) c
    notes u a (no f) = ap (λ (k : ℕ). k / 2) (w.other (cell n MARKED (u / 16)) (omega arith, tt)) ∙ a

-- ── A note changes no mark ──
module _ {n v : ℕ} {p p' : List ℕ} (h : Noting n v p p') where
  pub fork_note : {x a b : ℕ} → Fork n p' x a b → Fork n p x a b
  fork_note {a = a} {b = b} f =
      let i = f.one.0 in let j = f.two.0 in
      record {
        one = (i, sym (h.marks a i) ∙ f.one.1);
        two = (j, sym (h.marks b j) ∙ f.two.1);
        apart = f.apart;
        over = sym (before_within h.within PARENT a (omega arith) i) ∙ f.over;
        also = sym (before_within h.within PARENT b (omega arith) j) ∙ f.also;
      }

  pub closed_note : Closed n p → Closed n p'
  closed_note c = record { up = up; forked = λ x a b l f. h.notes x l (c.forked x a b l (fork_note f)) }
    where
      up : (u : ℕ) → u < n → IsMarked p' n u → word p' n PARENT u < n → IsMarked p' n (word p' n PARENT u)
      up u l a i =
          let e = before_within h.within PARENT u (omega arith) l in let j : word p n PARENT u < n = omega arith in
          subst (λ k. IsMarked p' n k) (sym e) (h.marks (word p n PARENT u) j ∙ c.up u l (sym (h.marks u l) ∙ a) j)
