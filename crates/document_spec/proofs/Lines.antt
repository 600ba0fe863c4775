-- Lines: what a text begins with up to its first LF, and what is behind.
use Prim.Native.Nat.{ℕ, zero, suc, ◌-◌}
use mathlib.Core.Path.{◌≡◌, refl, sym, ap, ap₂, ◌∙◌}
use mathlib.Core.Logic.{◌≢◌, ◌↔◌}
use mathlib.Core.Bool.{Bool, true, false}
use mathlib.Core.List.{List, [], ◌∷◌, ◌++◌}
use native.Mathlib.Omega.{arith}
use lib.Dec.{eqb}
use borrow.Author.Tests.{ne_eqb}
use Rattle.lists.specs.Lists.{All}
use Rattle.document_spec.specs.Verdict.{first_line, behind_line, behind_lines, line}

-- a text is its first line and what is behind
pub first_behind : (s : List ℕ) → first_line s ++ behind_line s ≡ s
unfolding first_line behind_line
first_behind [] = refl
first_behind (b ∷ s) = go (eqb b 10) (first_behind s)
  where
    go : (t : Bool) → first_line s ++ behind_line s ≡ s
        → b ∷ (elim t [ true ↦ [] | false ↦ first_line s ] ++ elim t [ true ↦ s | false ↦ behind_line s ]) ≡ b ∷ s
    go true ih = refl
    go false ih = ap (λ (l : List ℕ). b ∷ l) ih

-- any byte but LF
abbrev pub Plain : ℕ → Type 0
Plain b = b ≢ 10

-- a whole line: no LF but the one that ends it
pub data Line : List ℕ → Type 0 where
  end : Line (10 ∷ [])
  then : {b : ℕ} {l : List ℕ} → Plain b → Line l → Line (b ∷ l)

pub line_from : (c : List ℕ) {l : List ℕ} → All Plain c → Line l → Line (c ++ l)
line_from [] h w = w
line_from (b ∷ c) h w = then h.0 (line_from c h.1 w)

-- only an empty text has an empty first line
no_line : (s : List ℕ) → first_line s ≡ [] → s ≡ []
unfolding first_line
no_line [] e = refl
no_line (b ∷ s) e = let z : ◌≡◌ {A = ℕ} 0 1 = cc in absurd (omega arith)

-- a whole line in front is the first line
pub line_first : {l : List ℕ} → Line l → (r : List ℕ) → first_line (l ++ r) ≡ l
unfolding first_line
line_first end r = refl
line_first (then {b} h w) r = rw (ne_eqb b 10 h) (ap (λ (l : List ℕ). b ∷ l) (line_first w r))

pub line_behind : {l : List ℕ} → Line l → (r : List ℕ) → behind_line (l ++ r) ≡ r
unfolding behind_line
line_behind end r = refl
line_behind (then {b} h w) r = rw (behind_line, ne_eqb b 10 h) (line_behind w r)

-- ── The lines behind a number of lines ──
pub behind_suc : (i : ℕ) (s : List ℕ) → behind_lines (suc i) s ≡ behind_line (behind_lines i s)
unfolding behind_lines
behind_suc zero s = refl
behind_suc (suc i) s = behind_suc i (behind_line s)

module _ (s : List ℕ) (k i : ℕ) (next : i ≡ suc k) where
  -- line i is the first one behind the k lines before it
  pub line_next : line s i ≡ first_line (behind_lines k s)
  unfolding line
  line_next = let e : i - 1 ≡ k = omega arith in ap (λ (j : ℕ). first_line (behind_lines j s)) e

  -- there is no line i exactly if nothing is behind these lines
  pub line_none : (line s i ≡ []) ↔ (behind_lines k s ≡ [])
  unfolding first_line
  line_none = (λ e. no_line (behind_lines k s) (sym line_next ∙ e), λ e. line_next ∙ ap first_line e)

  behind_next : behind_lines i s ≡ behind_line (behind_lines k s)
  behind_next = ap (λ j. behind_lines j s) next ∙ behind_suc k s

  pub line_split : (l : List ℕ) → line s i ≡ l → behind_lines k s ≡ l ++ behind_lines i s
  line_split l h = sym (first_behind (behind_lines k s)) ∙ ap₂ ◌++◌ (sym line_next ∙ h) (sym behind_next)

  -- a cursor behind k lines: if the whole line l is in front of it, l is line i, and the cursor goes on behind it
  pub line_here : {l : List ℕ} → Line l → (r : List ℕ) → behind_lines k s ≡ l ++ r → (line s i ≡ l) × (behind_lines i s ≡ r)
  line_here w r here = (line_next ∙ ap first_line here ∙ line_first w r, behind_next ∙ ap behind_line here ∙ line_behind w r)
