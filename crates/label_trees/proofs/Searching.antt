-- A search for a line among those that are held: the links go by the line's digits, and no line that was met is the same.
use Prim.Native.Nat.{ℕ, suc, ◌+◌, ◌*◌, ◌-◌, ◌≤◌, ◌<◌}
use mathlib.Core.Path.{◌≡◌, refl, sym, ap, ◌∙◌, subst}
use mathlib.Core.List.{List}
use native.Mathlib.Decide.{ℕ_discrete, dec_lt}
use native.Mathlib.Numerals.{add-one}
use native.Mathlib.Omega.{arith}
use borrow.Author.Count.{below_more}
use lib.ListN.{get_or}
use Rattle.label_trees.specs.Trees.{key_at, digit, root_of, held, heads, offset_at, link_of, Meets, Holds, IsHeld}
use Rattle.label_trees.proofs.Links.{Way, Reached, reached}

-- the offset of line q, counted from 1
abbrev pub offset_of : List ℕ → ℕ → ℕ
offset_of t q = get_or t (14 + 3 * q) 0

pub offset_of_lem : (t : List ℕ) (q : ℕ) → 0 < q → offset_of t q ≡ offset_at t (q - 1)
offset_of_lem t q l = ap (λ (j : ℕ). get_or t j 0) (omega arith)

-- when a search for the line at o has met n lines, link p is read
pub record Passed (s t : List ℕ) (o n p : ℕ) : Type 0 where
  pub link : p ≡ link_of t (key_at s o) n
  pub way : Way t (key_at s o) n
  pub others : (e : ℕ) → e < n → ¬ (key_at s (offset_of t (get_or t (link_of t (key_at s o) e) 0)) ≡ key_at s o)

-- the link is q, and digit b of the line decides behind line q; each line that is met is later than that before it, so there are not too many
pub record Searching (s t : List ℕ) (o p b q : ℕ) : Type 0 where
  pub steps : ℕ
  pub passed : Passed s t o steps p
  pub turn : b ≡ steps
  pub read : q ≡ get_or t p 0
  pub inside : p < heads + 3 * held t
  pub within : q ≤ held t
  pub rises : 0 < q → steps < q
  pub few : steps ≤ held t

module _ {s t : List ℕ} {o : ℕ} (h : Holds s t) where
  searching : {n p b : ℕ} → Passed s t o n p → b ≡ n → n ≤ held t → Searching s t o p b (get_or t p 0)
  searching {n} {p} {b} g e m =
      let r : Reached t (key_at s o) n = reached h (key_at s o) n g.way in
      let l = g.link in
      record {
        steps = n;
        passed = g;
        turn = e;
        read = refl;
        inside = rw l r.inside;
        within = rw l r.within;
        rises = rw l r.rises;
        few = m;
      }

  pub searching_start : (p : ℕ) → p ≡ 1 + root_of (key_at s o) → Searching s t o p 0 (get_or t p 0)
  unfolding link_of
  searching_start p e =
      let none : Passed s t o 0 p = record { link = e; way = λ d l. absurd (omega arith); others = λ d l. absurd (omega arith) } in
      searching none refl (omega arith)

  pub searching_step : {p b q : ℕ} → Searching s t o p b q → 0 < q → ¬ (key_at s (offset_of t q) ≡ key_at s o)
      → (p' : ℕ) → p' ≡ 15 + 3 * q + digit (key_at s o) b → Searching s t o p' (b + 1) (get_or t p' 0)
  unfolding link_of
  searching_step {p} {b} {q} g z d p' e =
      let l = key_at s o in
      let n = g.steps in
      let met : q ≡ get_or t (link_of t l n) 0 = g.read ∙ ap (λ (j : ℕ). get_or t j 0) g.passed.link in
      let next : Passed s t o (n + 1) p' =
      record {
        link = rw (add-one, ← met) (e ∙ ap (λ (x : ℕ). 15 + 3 * q + digit l x) g.turn);
        way = below_more (λ f. 0 < get_or t (link_of t l f) 0) n g.passed.way (rw (← met) z);
        others = below_more (λ f. ¬ (key_at s (offset_of t (get_or t (link_of t l f) 0)) ≡ l)) n g.passed.others (rw (← met) d);
      } in
      let r = g.rises z in
      searching next (omega arith) (omega arith)

  pub searching_end : {p b q : ℕ} → Searching s t o p b q → q ≡ 0 → ¬ IsHeld s t o
  searching_end {p} {b} {q} g z (k, m, e) = go (dec_lt i.steps g.steps) (ℕ_discrete i.steps g.steps)
    where
      l : List ℕ
      l = key_at s o

      i : Meets t l (suc k)
      i = subst (λ (a : List ℕ). Meets t a (suc k)) e (h.met k m)

      free : get_or t (link_of t l g.steps) 0 ≡ 0
      free = ap (λ (j : ℕ). get_or t j 0) (sym g.passed.link) ∙ sym g.read ∙ z

      go : Dec (i.steps < g.steps) → Dec (i.steps ≡ g.steps) → ⊥
      go (yes b) f =
          g.passed.others i.steps b
          (ap (λ (q : ℕ). key_at s (offset_of t q)) i.here ∙ ap (λ (j : ℕ). key_at s (get_or t j 0)) (omega arith) ∙ e)
      go (no b) (yes f) = omega (arith, free, i.here, ap (λ (d : ℕ). get_or t (link_of t l d) 0) f)
      go (no b) (no f) = omega (arith, free, i.on g.steps (omega arith))
