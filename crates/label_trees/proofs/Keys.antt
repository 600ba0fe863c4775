-- Lines of the text: the bytes of the line at an offset, and when two are the same.
use Prim.Native.Nat.{ℕ, ◌+◌, ◌-◌, ◌*◌, ◌/◌, ◌%◌, ◌^◌, ◌≤◌, ◌<◌}
use mathlib.Core.Path.{◌≡◌, refl, sym, ap, ap₂, ◌∙◌, subst}
use mathlib.Core.Logic.{◌≢◌}
use mathlib.Core.Bool.{Bool, true, false, true≢false}
use mathlib.Core.List.{List, ◌++◌}
use native.Mathlib.Omega.{arith}
use lib.ListN.{length, get_or, take, drop, take-append-drop, length-append, length-drop, get_or-append}
use lib.Seq.{get_or-drop, get_or-take, length-take-le, ext_get_or}
use Rattle.std.specs.Prelude.{nat_eq}
use Rattle.std.specs.Cmp.Lexicographic.{pointwise}
use Rattle.std.specs.List.{between}
use Rattle.std.proofs.lemmas.List.{take_at}
use Rattle.std.proofs.lemmas.Slice.{between_to_end}
use Rattle.std.proofs.lemmas.Slice.Eq.{starts_is}
use Rattle.std.proofs.lemmas.Bool.Decides.{Decides-eqb}
use Rattle.lists.specs.Text.{bytes}
use Rattle.limits.proofs.Names.{name_some}
use Rattle.document_spec.specs.Verdict.{first_line, behind_line}
use Rattle.document_spec.proofs.Lines.{Line, first_behind, line_first}
use Rattle.document_spec.proofs.Spelling.{whole, name}
use Rattle.document_lines.specs.Nodes.{Told}
use Rattle.label_trees.specs.Trees.{key_at, digit, root_of, Stands}

-- ── What a test tells ──
module _ {A : Type 0} (b : Bool) where
  pub told_yes : b ≡ true → Told A b → A
  told_yes e h = subst (Told A) e h

  pub told_no : b ≡ false → Told A b → ¬ A
  told_no e h = subst (Told A) e h

-- ── The line at an offset ──
-- its bytes are those that stand there
key_byte : (s : List ℕ) (o i : ℕ) → i < length (key_at s o) → get_or (key_at s o) i 0 ≡ get_or s (o + i) 0
key_byte s o i h =
    sym (get_or-append (key_at s o) (behind_line (drop o s)) 0 i h) ∙ ap (λ (l : List ℕ). get_or l i 0) (first_behind (drop o s)) ∙ get_or-drop o s i 0

-- a label and its LF stand between two offsets: they are the line there
module _ (s : List ℕ) (from to : ℕ) (h : Stands s from to) where
  key_line : Line (h.label ++ bytes "\n")
  key_line = whole h.label (name h.label h.name)

  pub key_is : key_at s from ≡ h.label ++ bytes "\n"
  key_is = ap first_line h.here ∙ line_first key_line (drop to s)

  pub stands_length : from + length (key_at s from) ≡ to
  stands_length =
      let l = length h.label in
      let e : length s - from ≡ l + 1 + (length s - to) = sym (length-drop from s) ∙ ap length h.here ∙ simp (length-append, length-drop) in
      let k : length (key_at s from) ≡ l + 1 = ap length key_is ∙ length-append h.label (bytes "\n") in
      let i = h.inside in
      omega arith

  pub stands_byte : (i : ℕ) → from + i < to → get_or (key_at s from) i 0 ≡ get_or s (from + i) 0
  stands_byte i l = key_byte s from i (omega (arith, stands_length))

  -- a label has a byte
  pub stands_two : from + 2 ≤ to
  stands_two = omega (arith, stands_length, ap length key_is, length-append h.label (bytes "\n"), name_some h.label h.name)

  -- ── The same line at another offset ──
  module _ (o : ℕ) (le : o ≤ from) where
    pub key_same : ((i : ℕ) → i < to - from → get_or s (o + i) 0 ≡ get_or s (from + i) 0) → key_at s o ≡ key_at s from
    key_same same = ap first_line split ∙ rw key_is (line_first key_line (drop n (drop o s)))
      where
        n : ℕ
        n = to - from

        inside : n ≤ length (drop o s)
        inside = let i = h.inside in rw length-drop (omega arith)

        front : take n (drop o s) ≡ key_at s from
        front =
            ext_get_or 0 (take n (drop o s)) (key_at s from) (length-take-le n (drop o s) inside ∙ omega (arith, stands_length))
            (λ i l.
            let m : i < n = rw (length-take-le n (drop o s) inside) at l in
            get_or-take n (drop o s) i 0 m ∙ get_or-drop o s i 0 ∙ same i m ∙ sym (stands_byte i (omega (arith, m))))

        split : drop o s ≡ (h.label ++ bytes "\n") ++ drop n (drop o s)
        split = sym (take-append-drop n (drop o s)) ∙ ap (λ (l : List ℕ). l ++ drop n (drop o s)) (front ∙ key_is)

    pub key_other : (i : ℕ) → i < to - from → get_or s (o + i) 0 ≢ get_or s (from + i) 0 → ¬ (key_at s o ≡ key_at s from)
    key_other i l d e =
        d
        (sym (key_byte s o i (rw e (omega (arith, stands_length)))) ∙ ap (λ (k : List ℕ). get_or k i 0) e ∙ stands_byte i (omega arith))

  line_bytes : between from to s ≡ key_at s from
  line_bytes = ap (take (to - from)) h.here ∙ take_at (h.label ++ bytes "\n") (drop to s) (to - from) (omega (arith, stands_length, ap length key_is)) ∙ sym key_is

  -- what stands at o begins with the line, or does not
  pub line_told : (o : ℕ) (r : Bool) → r ≡ pointwise nat_eq (between from to s) (take (length (between from to s)) (between o (length s) s)) → Told (key_at s o ≡ key_at s from) r
  line_told o r e = go r refl
    where
      tells : (r ≡ true → drop o s ≡ key_at s from ++ drop (length (key_at s from)) (drop o s)) × ((x : List ℕ) → drop o s ≡ key_at s from ++ x → r ≡ true)
      tells = starts_is Decides-eqb (drop o s) (key_at s from) r
          (e ∙ ap₂ (λ (x y : List ℕ). pointwise nat_eq x (take (length x) y)) line_bytes (between_to_end s o (length s) (omega arith)))

      go : (b : Bool) → r ≡ b → Told (key_at s o ≡ key_at s from) b
      go true q = ap first_line (tells.0 q ∙ ap (λ (l : List ℕ). l ++ drop (length (key_at s from)) (drop o s)) key_is) ∙ line_first key_line (drop (length (key_at s from)) (drop o s)) ∙ sym key_is
      go false q = λ same. true≢false (sym (tells.1 (behind_line (drop o s)) (sym (first_behind (drop o s)) ∙ ap (λ (l : List ℕ). l ++ behind_line (drop o s)) same)) ∙ q)

  -- as many bytes at o are the line, or are not
  pub line_same : (o : ℕ) (r : Bool) → o ≤ from → r ≡ pointwise nat_eq (between from to s) (between o (o + (to - from)) s) → Told (key_at s o ≡ key_at s from) r
  line_same o r le e = line_told o r (e ∙ ap (pointwise nat_eq (between from to s)) same)
    where
      long : length (between from to s) ≡ to - from
      long = ap length line_bytes ∙ omega (arith, stands_length)

      same : between o (o + (to - from)) s ≡ take (length (between from to s)) (between o (length s) s)
      same = ap₂ take (omega arith ∙ sym long) (sym (between_to_end s o (length s) (omega arith)))

  -- ── The way of a search ──
  -- byte i of the line, at a place that is told from either end
  byte_at : (i j : ℕ) → i < length (key_at s from) → j ≡ from + i → get_or s j 0 ≡ get_or (key_at s from) i 0
  byte_at i j l e = rw e (sym (stands_byte i (omega (arith, stands_length))))

  pub root_is : (m j : ℕ) → m ≡ from + (to - from) / 2 → j ≡ to - 2 → (get_or s from 0 + get_or s m 0 + get_or s j 0) % 16 ≡ root_of (key_at s from)
  root_is m j e f =
      let l = stands_length in
      let two = stands_two in
      let n = length (key_at s from) in
      let half : from + (to - from) / 2 ≡ from + n / 2 = ap (λ (k : ℕ). from + k / 2) (omega arith) in
      ap₂ (λ (x y : ℕ). (x + y) % 16) (ap₂ ◌+◌ (byte_at 0 from (omega arith) (omega arith)) (byte_at (n / 2) m (omega arith) (e ∙ half))) (byte_at (n - 2) j (omega arith) (omega arith))

  pub digit_is : (b at : ℕ) → at ≡ from + (length (key_at s from) - (2 + b / 2 % 16)) → get_or s at 0 / 2 ^ (b % 2 + 2 * (b / 32 % 4)) % 2 ≡ digit (key_at s from) b
  digit_is b at e = let two = stands_two in let l = stands_length in ap (λ (x : ℕ). x / 2 ^ (b % 2 + 2 * (b / 32 % 4)) % 2) (byte_at (length (key_at s from) - (2 + b / 2 % 16)) at (omega arith) e)
