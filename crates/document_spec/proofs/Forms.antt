-- Each form is decidable: from a line one thing can be taken that it may say, and the line says it or nothing.
use Prim.Native.Nat.{ℕ, suc, ◌+◌, ◌-◌, ◌*◌, ◌<◌}
use mathlib.Core.Path.{◌≡◌, sym, ap, ◌∙◌, subst}
use mathlib.Core.Logic.Dec
use mathlib.Core.List.{List, ◌++◌, List-discrete}
use native.Mathlib.Omega.{arith}
use native.Mathlib.Decide.{ℕ_discrete, dec_le, dec_lt}
use lib.ListN.{length, get_or, take, drop, length-append}
use lib.Seq.{drop-append_seam, take_at}
use Rattle.lists.specs.Text.{bytes, decimal}
use Rattle.limits.specs.Names.{Name}
use Rattle.lists.specs.Numerals.{reading}
use Rattle.lists.proofs.Lists.{all_dec}
use Rattle.lists.proofs.Numerals.{reading_decimal}
use Rattle.lists.proofs.Search.{dec_printable}
use Rattle.limits.proofs.Names.{dec_name}
use Rattle.document_spec.specs.Library.{Kind, Value, kind_line}
use Rattle.document_spec.specs.Verdict.{line, CountIs}
use Rattle.document_spec.specs.Fields.{Field, depth, kind, label, value, Formed}
use Rattle.document_spec.proofs.Spelling.{kind_of, kind_told}

-- what has one candidate
only : {A : Type 0} (P : A → Type 0) (c : A) → ((a : A) → P a → a ≡ c) → Dec (P c) → Dec ((a : A) × P a)
only P c one (yes h) = yes (c, h)
only P c one (no h) = no (λ (a, p). h (subst P (one a p) p))

same : (a b : List ℕ) → Dec (a ≡ b)
same a b = List-discrete ℕ_discrete a b

-- what stands between p and the LF
inner : List ℕ → List ℕ → List ℕ
inner p l = take (length l - suc (length p)) (drop (length p) l)

inner_told : (p a l : List ℕ) → l ≡ p ++ (a ++ bytes "\n") → a ≡ inner p l
unfolding inner
inner_told p a l e =
    let long : length a ≡ length (p ++ (a ++ bytes "\n")) - suc (length p) = simp length-append (omega arith) in
    rw (e, drop-append_seam p (a ++ bytes "\n")) (sym (take_at a (bytes "\n") (length (p ++ (a ++ bytes "\n")) - suc (length p)) long))

dec_value : (b : List ℕ) → Dec (Value b)
unfolding Value
dec_value b = Dec.and (all_dec dec_printable b) (dec_le (length b) 255)

dec_numeral : (bound : ℕ) (p l : List ℕ) → Dec ((n : ℕ) × ((n < bound) × (l ≡ p ++ (decimal n ++ bytes "\n"))))
dec_numeral bound p l =
    let c = reading (inner p l) in
    only (λ n. (n < bound) × (l ≡ p ++ (decimal n ++ bytes "\n"))) c (λ n h. sym (reading_decimal n) ∙ ap reading (inner_told p (decimal n) l h.1))
    (Dec.and (dec_lt c bound) (same l (p ++ (decimal c ++ bytes "\n"))))

dec_quoted : (P : List ℕ → Type 0) → ((a : List ℕ) → Dec (P a)) → (p l : List ℕ) → Dec ((a : List ℕ) × (P a × (l ≡ p ++ (a ++ bytes "\n"))))
dec_quoted P d p l =
    let c = inner p l in
    only (λ a. P a × (l ≡ p ++ (a ++ bytes "\n"))) c (λ a h. inner_told p a l h.1) (Dec.and (d c) (same l (p ++ (c ++ bytes "\n"))))

dec_kind_line : (l : List ℕ) → Dec ((k : Kind) × (l ≡ kind_line k))
dec_kind_line l =
    let c = kind_of (get_or l 5 0) in
    only (λ k. l ≡ kind_line k) c (λ k e. sym (kind_told k) ∙ ap (λ l. kind_of (get_or l 5 0)) (sym e)) (same l (kind_line c))

module _ (s : List ℕ) where
  pub dec_count : Dec ((n : ℕ) × CountIs s n)
  dec_count = dec_numeral 100_000 (bytes "nodes=") (line s 1)

  pub dec_formed : (v : ℕ) (f : Field) → Dec (Formed s v f)
  dec_formed v depth = dec_numeral 10_000 (bytes "depth=") (line s (4 * v + 2))
  dec_formed v kind = dec_kind_line (line s (4 * v + 3))
  dec_formed v label = dec_quoted Name dec_name (bytes "label=") (line s (4 * v + 4))
  dec_formed v value = dec_quoted Value dec_value (bytes "value=") (line s (4 * v + 5))
