-- The part of the scratch that is lent to an evaluator: what it holds, and what comes back of it.
use Prim.Native.Nat.{ℕ, ◌+◌, ◌-◌, ◌*◌, ◌≤◌, ◌<◌}
use native.Mathlib.Nat.{mul-le-mul_right, add-mul}
use native.Mathlib.Omega.{arith}
use mathlib.Core.Path.{◌≡◌, sym, ap, ◌∙◌, subst}
use mathlib.Core.List.{List, ◌++◌}
use lib.ListN.{length, get_or, take, drop, length-append, length-take, length-drop, get_or-append}
use lib.Seq.{length-take-le, get_or-take, get_or-drop, get_or-append-add}
use Rattle.limits.specs.Limits.{scratch_words}
use Rattle.layout.specs.Table.{COLUMNS}
use Rattle.layout.specs.Words.{word}
use Rattle.driver.specs.Tasks.{Apart}
use Rattle.driver.proofs.Frames.{scratch_room}

-- column c behind the table is column 16 + c of the scratch
pub behind_word : (n : ℕ) (t : List ℕ) (c v : ℕ) → word (drop (COLUMNS * n) t) n c v ≡ word t n (COLUMNS + c) v
behind_word n t c v = let m = add-mul COLUMNS c n in let e : COLUMNS * n + (c * n + v) ≡ (COLUMNS + c) * n + v = omega arith in get_or-drop (COLUMNS * n) t (c * n + v) 0 ∙ ap (λ i. get_or t i 0) e

module _ (n : ℕ) (t : List ℕ) (pos : 0 < n) (room : scratch_words n ≤ length t) where
  -- how many words are lent
  abbrev pub lent : ℕ
  lent = scratch_words n - COLUMNS * n

  abbrev pub part : List ℕ
  part = take lent (drop (COLUMNS * n) t)

  pub part_long : length part ≡ lent
  part_long = length-take-le lent (drop (COLUMNS * n) t) (subst (λ m. lent ≤ m) (sym (length-drop (COLUMNS * n) t)) (omega arith))

  -- the part begins behind the table
  pub part_word : (c v : ℕ) → c < 48 → v < n → word part n c v ≡ word t n (COLUMNS + c) v
  part_word c v h l =
      let r = scratch_room n pos in let k : c * n ≤ 47 * n = mul-le-mul_right n (omega arith) in
      get_or-take lent (drop (COLUMNS * n) t) (c * n + v) 0 (omega arith) ∙ behind_word n t c v

  module _ (p : List ℕ) (same : length p ≡ length part) where
    -- the scratch when the part comes back
    abbrev pub back : List ℕ
    back = take (COLUMNS * n) t ++ (p ++ drop lent (drop (COLUMNS * n) t))

    front_long : length (take (COLUMNS * n) t) ≡ COLUMNS * n
    front_long = let r = scratch_room n pos in length-take-le (COLUMNS * n) t (omega arith)

    back_long : length back ≡ length t
    back_long = let r = scratch_room n pos in simp (length-append, length-take, length-drop, same) (omega arith)

    behind_front : (j : ℕ) → get_or back (COLUMNS * n + j) 0 ≡ get_or (p ++ drop lent (drop (COLUMNS * n) t)) j 0
    behind_front j = subst (λ m. get_or back (m + j) 0 ≡ get_or (p ++ drop lent (drop (COLUMNS * n) t)) j 0) front_long (get_or-append-add (take (COLUMNS * n) t) (p ++ drop lent (drop (COLUMNS * n) t)) j 0)

    back_behind : (j : ℕ) → scratch_words n ≤ j → get_or back j 0 ≡ get_or t j 0
    back_behind j h =
        let r = scratch_room n pos in let e : COLUMNS * n + (lent + (j - scratch_words n)) ≡ j = omega arith in
        subst (λ m. get_or back m 0 ≡ get_or t m 0) e
        (behind_front (lent + (j - scratch_words n))
        ∙ ap (λ m. get_or (p ++ drop lent (drop (COLUMNS * n) t)) (m + (j - scratch_words n)) 0) (sym (same ∙ part_long))
        ∙ get_or-append-add p (drop lent (drop (COLUMNS * n) t)) (j - scratch_words n) 0
        ∙ get_or-drop lent (drop (COLUMNS * n) t) (j - scratch_words n) 0 ∙ get_or-drop (COLUMNS * n) t (lent + (j - scratch_words n)) 0)

    pub back_apart : Apart n t back
    back_apart =
        let r = scratch_room n pos in
        record {
          long = back_long;
          front = λ i h. get_or-append (take (COLUMNS * n) t) (p ++ drop lent (drop (COLUMNS * n) t)) 0 i (omega (arith, front_long)) ∙ get_or-take (COLUMNS * n) t i 0 h;
          behind = back_behind;
        }

    -- the first column of the part
    pub back_word : (v : ℕ) → v < n → word back n COLUMNS v ≡ word p n 0 v
    back_word v l = let r = scratch_room n pos in behind_front v ∙ get_or-append p (drop lent (drop (COLUMNS * n) t)) 0 v (omega (arith, same, part_long)) ∙ ap (λ i. get_or p i 0) (omega arith)
