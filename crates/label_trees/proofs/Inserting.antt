-- The words of the next line are written, and the link that leads to it.
use Prim.Native.Nat.{ℕ, zero, suc, ◌+◌, ◌*◌, ◌≤◌, ◌<◌}
use mathlib.Core.Path.{◌≡◌, ap, ◌∙◌}
use mathlib.Core.Logic.{◌≢◌}
use mathlib.Core.List.{List}
use native.Mathlib.Omega.{arith}
use lib.ListN.{length, get_or, set, length-set}
use lib.Seq.{get_or-set_same, get_or-set_other}
use Rattle.label_trees.specs.Trees.{held, heads, Inserted}

-- where the words of the next line begin
abbrev at : List ℕ → ℕ
at t = heads + 3 * held t

-- t with the offset and the links of the next line
abbrev fresh : List ℕ → ℕ → List ℕ
fresh t o = set (set (set t (at t) o) (at t + 1) 0) (at t + 2) 0

-- and with x as the link p to it, and y as the number of lines
abbrev pub inserted_in : List ℕ → ℕ → ℕ → ℕ → ℕ → List ℕ
inserted_in t p o x y = set (set (fresh t o) p x) 0 y

module _ (t : List ℕ) (p o : ℕ) (room : heads + 3 * suc (held t) ≤ length t) (above : 0 < p) (inside : p < heads + 3 * held t) {x y : ℕ}
    (link : x ≡ suc (held t)) (count : y ≡ suc (held t)) where
  -- what stands in a word that is neither the number of lines nor link p
  past : (j : ℕ) → j ≢ 0 → j ≢ p → get_or (inserted_in t p o x y) j 0 ≡ get_or (fresh t o) j 0
  past j d e = get_or-set_other (set (fresh t o) p x) 0 j y 0 d ∙ get_or-set_other (fresh t o) p j x 0 e

  -- and in one that is no link of the next line either
  past_links : (j : ℕ) → j ≢ at t + 1 → j ≢ at t + 2 → get_or (fresh t o) j 0 ≡ get_or (set t (at t) o) j 0
  past_links j d e = get_or-set_other (set (set t (at t) o) (at t + 1) 0) (at t + 2) j 0 0 e ∙ get_or-set_other (set t (at t) o) (at t + 1) j 0 0 d

  no_links : (i : ℕ) → i < 2 → get_or (fresh t o) (at t + 1 + i) 0 ≡ 0
  no_links zero l =
      ap (λ (j : ℕ). get_or (fresh t o) j 0) (omega arith) ∙ get_or-set_other (set (set t (at t) o) (at t + 1) 0) (at t + 2) (at t + 1) 0 0 (omega arith)
      ∙ get_or-set_same (set t (at t) o) (at t + 1) 0 0 (rw length-set (omega arith))
  no_links (suc zero) l =
      ap (λ (j : ℕ). get_or (fresh t o) j 0) (omega arith) ∙ get_or-set_same (set (set t (at t) o) (at t + 1) 0) (at t + 2) 0 0 (simp length-set (omega arith))
  no_links (suc (suc i)) l = absurd (omega arith)

  pub inserted : Inserted t p o (inserted_in t p o x y)
  inserted =
      record {
        long = simp length-set;
        count = get_or-set_same (set (fresh t o) p x) 0 y 0 (simp length-set (omega arith)) ∙ count;
        link =
            get_or-set_other (set (fresh t o) p x) 0 p y 0 (omega arith) ∙ get_or-set_same (fresh t o) p x 0 (simp length-set (omega arith))
            ∙ link;
        offset = past (at t) (omega arith) (omega arith) ∙ past_links (at t) (omega arith) (omega arith) ∙ get_or-set_same t (at t) o 0 (omega arith);
        free = λ i l. past (18 + 3 * held t + i) (omega arith) (omega arith) ∙ ap (λ (j : ℕ). get_or (fresh t o) j 0) (omega arith) ∙ no_links i l;
        other = λ j d e l. past j d e ∙ past_links j (omega arith) (omega arith) ∙ get_or-set_other t (at t) j o 0 (omega arith);
      }
