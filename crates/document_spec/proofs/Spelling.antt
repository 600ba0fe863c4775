-- The five kinds of spelled lines: each is a whole line, and says one thing only.
use Prim.Native.Nat.{ℕ}
use mathlib.Core.Path.{◌≡◌, refl, sym, ap, ◌∙◌}
use mathlib.Core.Logic.{inl, inr}
use mathlib.Core.Bool.{true, false}
use mathlib.Core.List.{List, [], ◌∷◌, ◌++◌, append_cancel_left, append_cancel_right}
use native.Mathlib.Omega.{arith}
use lib.ListN.{get_or}
use lib.Dec.{eqb}
use Rattle.lists.specs.Lists.{All}
use Rattle.lists.specs.Text.{bytes, Printable, Digit, NameByte, decimal}
use Rattle.limits.specs.Names.{Name}
use Rattle.document_spec.specs.Library.{Kind, element, attribute, text, Value, nodes_line, depth_line, kind_line, label_line, value_line}
use Rattle.lists.proofs.Lists.{all_imp}
use Rattle.lists.proofs.Numerals.{decimal_injective, decimal_digits_lem}
use Rattle.document_spec.proofs.Lines.{Plain, Line, end, line_from}

-- ── Whole lines ──
pub whole : (c : List ℕ) → All Plain c → Line (c ++ bytes "\n")
whole c h = line_from c h end

numeral : (n : ℕ) → Line (decimal n ++ bytes "\n")
numeral n = whole (decimal n) (all_imp Digit Plain (λ b h. omega arith) (decimal n) (decimal_digits_lem n))

name_byte : (b : ℕ) → NameByte b → Plain b
name_byte b (inl h) = omega arith
name_byte b (inr (inl h)) = omega arith
name_byte b (inr (inr h)) = omega arith

pub name : (a : List ℕ) → Name a → All Plain a
unfolding Name
name [] h = absurd h
name (b ∷ a) h = let l = h.0 in (omega arith, all_imp NameByte Plain name_byte a h.1)

pub nodes_line_lem : (n : ℕ) → Line (nodes_line n)
nodes_line_lem n = line_from (bytes "nodes=") (omega arith) (numeral n)

pub depth_line_lem : (d : ℕ) → Line (depth_line d)
depth_line_lem d = line_from (bytes "depth=") (omega arith) (numeral d)

pub kind_line_lem : (k : Kind) → Line (kind_line k)
kind_line_lem element = whole (bytes "kind=e") (omega arith)
kind_line_lem attribute = whole (bytes "kind=a") (omega arith)
kind_line_lem text = whole (bytes "kind=t") (omega arith)

pub label_line_lem : (a : List ℕ) → Name a → Line (label_line a)
label_line_lem a h = line_from (bytes "label=") (omega arith) (whole a (name a h))

pub value_line_lem : (b : List ℕ) → Value b → Line (value_line b)
unfolding Value
value_line_lem b h = line_from (bytes "value=") (omega arith) (whole b (all_imp Printable Plain (λ c p. omega arith) b h.0))

-- ── One thing only ──
pub between : (p a b q : List ℕ) → p ++ (a ++ q) ≡ p ++ (b ++ q) → a ≡ b
between p a b q e = append_cancel_right a b q (append_cancel_left p (a ++ q) (b ++ q) e)

pub nodes_injective : (m n : ℕ) → nodes_line m ≡ nodes_line n → m ≡ n
nodes_injective m n e = decimal_injective m n (between (bytes "nodes=") (decimal m) (decimal n) (bytes "\n") e)

pub depth_injective : (m n : ℕ) → depth_line m ≡ depth_line n → m ≡ n
depth_injective m n e = decimal_injective m n (between (bytes "depth=") (decimal m) (decimal n) (bytes "\n") e)

pub label_injective : (a b : List ℕ) → label_line a ≡ label_line b → a ≡ b
label_injective a b e = between (bytes "label=") a b (bytes "\n") e

pub value_injective : (a b : List ℕ) → value_line a ≡ value_line b → a ≡ b
value_injective a b e = between (bytes "value=") a b (bytes "\n") e

-- the sixth byte of a kind line tells the kind
abbrev pub kind_of : ℕ → Kind
kind_of b = elim (eqb b 101) [ true ↦ element | false ↦ elim (eqb b 97) [ true ↦ attribute | false ↦ text ] ]

pub kind_told : (k : Kind) → kind_of (get_or (kind_line k) 5 0) ≡ k
kind_told element = refl
kind_told attribute = refl
kind_told text = refl

pub kind_injective : (k j : Kind) → kind_line k ≡ kind_line j → k ≡ j
kind_injective k j e = sym (kind_told k) ∙ ap (λ l. kind_of (get_or l 5 0)) e ∙ kind_told j
