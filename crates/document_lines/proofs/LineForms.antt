-- The lines of a node as keys and runs of bytes.
use Prim.Native.Nat.{ℕ, suc, ◌+◌, ◌≤◌, ◌<◌}
use mathlib.Core.Path.{◌≡◌, refl, sym, ap, ◌∙◌, subst}
use mathlib.Core.Logic.{inl}
use mathlib.Core.List.{List, [], ◌∷◌, ◌++◌}
use lib.ListN.{length, get_or, drop, length-append, length-drop}
use lib.Seq.{drop-cons, get_or-drop}
use lib.Dec.{T}
use native.Mathlib.Numerals.{add-one}
use native.Mathlib.Omega.{arith}
use Rattle.limits.specs.Limits.{label_bytes, value_bytes}
use Rattle.lists.specs.Lists.{All}
use Rattle.lists.specs.Text.{bytes, Printable, Letter, NameByte}
use Rattle.limits.specs.Names.{Name}
use Rattle.lists.proofs.Lists.{all_imp}
use Rattle.document_spec.specs.Library.{Kind, element, attribute, text, Value, kind_line}
use Rattle.std.specs.Prelude.{Option, Some, None}
use Rattle.lexer.specs.declared.Class.TheVariants.{Label, Text}
use Rattle.lexer.specs.Reading.{Spans, Ended, in_class, Run, Behind}
use Rattle.lexer.proofs.Keys.{spans_join, behind_key, no_key}
use Rattle.lexer.proofs.Classes.{between_is, is_between_lem, name_byte, label_byte}
use Rattle.document_lines.specs.Nodes.{IsLabel, IsValue}

-- an answer for one form is an answer for any form of the same lines
pub ended_as : (F G : List ℕ → Type 0) → ((l : List ℕ) → F l → G l) → ((l : List ℕ) → G l → F l) → (s : List ℕ) (i : ℕ) (r : Option ℕ) → Ended F s i r → Ended G s i r
ended_as F G to from s i (Some j) (l, f, p) = (l, to l f, p)
ended_as F G to from s i None h = λ l r g e. h l r (from l g) e

-- ── Kinds ──
-- the byte that tells the kind
abbrev letter : Kind → ℕ
letter element = 101
letter attribute = 97
letter text = 116

kind_spelled : (k : Kind) → kind_line k ≡ bytes "kind=" ++ (letter k ∷ bytes "\n")
kind_spelled element = refl
kind_spelled attribute = refl
kind_spelled text = refl

pub no_letter : {b : ℕ} → ¬ (b ≡ 101) → ¬ (b ≡ 97) → ¬ (b ≡ 116) → (k : Kind) → ¬ (b ≡ letter k)
no_letter e a t element = e
no_letter e a t attribute = a
no_letter e a t text = t

pub kind_none : (s : List ℕ) (i : ℕ) → Ended (λ l. l ≡ bytes "kind=") s i None → (k : Kind) (r : List ℕ) → ¬ (drop i s ≡ kind_line k ++ r)
kind_none s i h k r e = no_key s (bytes "kind=") i h (letter k ∷ bytes "\n") r (rw kind_spelled at e)

-- at j stand a kind's letter and the LF that ends its line
pub record KindEnds (s : List ℕ) (j : ℕ) (k : Kind) : Type 0 where
  pub room : j + 2 ≤ length s
  pub named : get_or s j 0 ≡ letter k
  pub ended : get_or s (j + 1) 0 ≡ 10

two_bytes : (s : List ℕ) (j : ℕ) → j + 2 ≤ length s → drop j s ≡ get_or s j 0 ∷ get_or s (j + 1) 0 ∷ drop (j + 2) s
two_bytes s j h =
    let e : j + 2 ≡ suc (suc j) = omega arith in
    rw (e, add-one, drop-cons s j 0 (omega arith), drop-cons s (suc j) 0 (omega arith))

module _ {s : List ℕ} {i j : ℕ} (p : Spans s i (bytes "kind=") j) where
  -- behind its key a kind line ends so, and only a kind line does
  pub kind_ends : (k : Kind) (r : List ℕ) → drop i s ≡ kind_line k ++ r → KindEnds s j k
  kind_ends k r e =
      let q : drop j s ≡ letter k ∷ 10 ∷ r = behind_key s (bytes "kind=") i j p (letter k ∷ bytes "\n") r (rw kind_spelled at e) in
      let h : j + 2 ≤ length s = omega (arith, length-drop j s, ap length q) in
      record { room = h; named = cc (two_bytes s j h); ended = cc (two_bytes s j h) }

  pub kind_line_lem : (k : Kind) → KindEnds s j k → Spans s i (kind_line k) (j + 2)
  kind_line_lem k h = rw kind_spelled (spans_join p (record { inside = h.room; spelled = cc (two_bytes s j h.room) }))

-- ── Values ──
abbrev ValueRun : List ℕ → Type 0
ValueRun = Behind (bytes "value=") (Run Text value_bytes)

pub run_value : (l : List ℕ) → ValueRun l → IsValue l
unfolding Value
run_value l (x, f, e) = (f.field, (all_imp (λ b. T (in_class Text b)) Printable (λ b. between_is 0x20 0x7e b) f.field f.all, f.short), e ∙ ap (λ y. bytes "value=" ++ y) f.line)

pub value_run : (l : List ℕ) → IsValue l → ValueRun l
unfolding Value
value_run l (b, v, e) = (b ++ bytes "\n", record { field = b; all = all_imp Printable (λ b. T (in_class Text b)) (λ b. is_between_lem 0x20 0x7e b) b v.0; short = v.1; line = refl }, e)

-- ── Labels ──
abbrev LabelRun : List ℕ → Type 0
LabelRun = Behind (bytes "label=") (Run Label label_bytes)

label_run : (l : List ℕ) → IsLabel l → LabelRun l
unfolding Name
label_run l (a, n, e) = (a ++ bytes "\n", record { field = a; all = all_of a n; short = short a n; line = refl }, e)
  where
    all_of : (a : List ℕ) → Name a → All (λ b. T (in_class Label b)) a
    all_of [] n = absurd n
    all_of (b ∷ bs) n = (label_byte b (inl n.0), all_imp NameByte (λ b. T (in_class Label b)) label_byte bs n.1)

    short : (a : List ℕ) → Name a → length a ≤ label_bytes
    short [] n = absurd n
    short (b ∷ bs) n = n.2

module _ (s : List ℕ) (i : ℕ) where
  -- the byte behind the key of a label line
  first_of : (x r : List ℕ) → drop i s ≡ (bytes "label=" ++ x) ++ r → get_or s (i + 6) 0 ≡ get_or (x ++ r) 0 0
  first_of x r e = sym (get_or-drop i s 6 0) ∙ ap (λ (y : List ℕ). get_or y 6 0) e

  pub label_none : Ended LabelRun s i None → Ended IsLabel s i None
  label_none h l r f e = h l r (label_run l f) e

  pub label_unled : ¬ Letter (get_or s (i + 6) 0) → Ended IsLabel s i None
  unfolding Name
  label_unled h l r (a, n, q) e = go a n (first_of (a ++ bytes "\n") r (e ∙ ap (λ (y : List ℕ). y ++ r) q))
    where
      go : (a : List ℕ) → Name a → get_or s (i + 6) 0 ≡ get_or ((a ++ bytes "\n") ++ r) 0 0 → ⊥
      go [] n p = n
      go (b ∷ bs) n p = h (subst Letter (sym p) n.0)

  pub label_room : (j : ℕ) → i ≤ length s → Ended LabelRun s i (Some j) → i + 6 < length s
  label_room j r (l, (x, f, q), p) = omega (arith, length-drop i s, ap length p.spelled, length-append l (drop j s), ap length q, ap length f.line, length-append f.field (bytes "\n"))

  pub label_led : (j : ℕ) → Ended LabelRun s i (Some j) → Letter (get_or s (i + 6) 0) → Ended IsLabel s i (Some j)
  unfolding Name
  label_led j (l, (x, f, q), p) h = (l, (f.field, name f.field f.all f.short (first_of x (drop j s) (p.spelled ∙ ap (λ (y : List ℕ). y ++ drop j s) q) ∙ ap (λ (y : List ℕ). get_or (y ++ drop j s) 0 0) f.line), q ∙ ap (λ y. bytes "label=" ++ y) f.line), p)
    where
      name : (a : List ℕ) → All (λ b. T (in_class Label b)) a → length a ≤ label_bytes → get_or s (i + 6) 0 ≡ get_or ((a ++ bytes "\n") ++ drop j s) 0 0 → Name a
      name [] al n e = absurd (let w = subst Letter e h in omega arith)
      name (b ∷ bs) al n e = (subst Letter e h, all_imp (λ b. T (in_class Label b)) NameByte name_byte bs al.1, n)
