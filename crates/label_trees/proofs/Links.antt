-- The links on the way of a search: they stand among the words that are in use, rise, and lead the same way wherever these words are the same.
use Prim.Native.Nat.{ℕ, zero, suc, ◌+◌, ◌*◌, ◌≤◌, ◌<◌}
use mathlib.Core.Path.{◌≡◌, refl, sym, ap, ◌∙◌, subst}
use mathlib.Core.Logic.{◌≢◌}
use mathlib.Core.List.{List}
use native.Mathlib.Nat.{mod-lt}
use native.Mathlib.Omega.{arith}
use lib.ListN.{get_or}
use Rattle.label_trees.specs.Trees.{digit, root_of, held, heads, link_of, Meets, Holds}

-- a search for l goes on behind each of the first d lines that it meets
abbrev pub Way : List ℕ → List ℕ → ℕ → Type 0
Way t l d = (e : ℕ) → e < d → 0 < get_or t (link_of t l e) 0

-- the link that is read next is no offset, and the line that it leads to is held; every line is a later one than that before it
pub record Reached (t l : List ℕ) (d : ℕ) : Type 0 where
  pub above : 0 < link_of t l d
  pub inside : link_of t l d < heads + 3 * held t
  pub apart : (k : ℕ) → link_of t l d ≢ heads + 3 * k
  pub within : get_or t (link_of t l d) 0 ≤ held t
  pub rises : 0 < get_or t (link_of t l d) 0 → d < get_or t (link_of t l d) 0

digit_two : (l : List ℕ) (b : ℕ) → digit l b < 2
digit_two l b = mod-lt _ (omega arith)

module _ {s t : List ℕ} (h : Holds s t) where
  -- a link of line q, counted from 1, leads to a later line
  link_later : (q i : ℕ) → 0 < q → q ≤ held t → i < 2
      → (get_or t (15 + 3 * q + i) 0 ≤ held t) × (0 < get_or t (15 + 3 * q + i) 0 → q < get_or t (15 + 3 * q + i) 0)
  link_later zero i p m two = absurd (omega arith)
  link_later (suc k) i p m two =
      let e : 18 + 3 * k + i ≡ 15 + 3 * suc k + i = omega arith in
      subst (λ (j : ℕ). (get_or t j 0 ≤ held t) × (0 < get_or t j 0 → suc k < get_or t j 0)) e
      (h.links k i (omega arith) two, h.rising k i (omega arith) two)

  pub reached : (l : List ℕ) (d : ℕ) → Way t l d → Reached t l d
  unfolding link_of
  reached l zero w =
      let m : root_of l < 16 = mod-lt _ (omega arith) in
      let r = h.roots (root_of l) m in
      record { above = omega arith; inside = omega arith; apart = λ k. omega arith; within = r; rises = λ p. p }
  reached l (suc d) w =
      let r : Reached t l d = reached l d (λ e b. w e (omega arith)) in
      let q : ℕ = get_or t (link_of t l d) 0 in
      let p : 0 < q = w d (omega arith) in
      let two = digit_two l d in
      let next = link_later q (digit l d) p r.within two in
      let m = r.within in
      let a = r.rises p in
      record { above = omega arith; inside = omega arith; apart = λ k. omega arith; within = next.0; rises = λ z. omega (arith, next.1 z) }

-- ── The same way ──
-- all words that a search may go by are the same: links of lines and roots that lead somewhere
abbrev pub Alike : List ℕ → List ℕ → Type 0
Alike t t' = (j : ℕ) → 0 < j → j < heads + 3 * held t → 0 < get_or t j 0 → get_or t' j 0 ≡ get_or t j 0

module _ {s t : List ℕ} (h : Holds s t) (t' : List ℕ) (same : Alike t t') (l : List ℕ) where
  word_same : (d : ℕ) → Way t l d → 0 < get_or t (link_of t l d) 0 → get_or t' (link_of t l d) 0 ≡ get_or t (link_of t l d) 0
  word_same d w p = let r = reached h l d w in same (link_of t l d) r.above r.inside p

  pub link_same : (d : ℕ) → Way t l d → link_of t' l d ≡ link_of t l d
  unfolding link_of
  link_same zero w = refl
  link_same (suc d) w =
      let v : Way t l d = λ e b. w e (omega arith) in
      ap (λ (x : ℕ). 15 + 3 * x + digit l d) (ap (λ (j : ℕ). get_or t' j 0) (link_same d v) ∙ word_same d v (w d (omega arith)))

  met_same : (d : ℕ) → Way t l d → 0 < get_or t (link_of t l d) 0 → get_or t' (link_of t' l d) 0 ≡ get_or t (link_of t l d) 0
  met_same d w p = ap (λ (j : ℕ). get_or t' j 0) (link_same d w) ∙ word_same d w p

  pub way_same : (d : ℕ) → Way t l d → Way t' l d
  way_same d w e b = let v : Way t l e = λ f c. w f (omega arith) in rw (met_same e v (w e b)) (w e b)

  pub meets_same : (q : ℕ) → 0 < q → Meets t l q → Meets t' l q
  meets_same q p m =
      record {
        steps = m.steps;
        here = met_same m.steps m.on (subst (λ (x : ℕ). 0 < x) (sym m.here) p) ∙ m.here;
        on = way_same m.steps m.on;
      }
