-- The number of a count and its path: what `rule_parts::counted` tells.
use Prim.Native.Nat.{ℕ, ◌+◌}
use mathlib.Core.Path.{◌≡◌, refl, sym, ap, ◌∙◌, subst}
use mathlib.Core.List.{List, ◌++◌}
use lib.ListN.{length, drop}
use Rattle.lists.specs.Text.{decimal}
use Rattle.lists.proofs.Numerals.{reading_decimal}
use Rattle.xpath.specs.Syntax.{XPath, at_least}
use Rattle.rule_spec.specs.Spelling.{spell_path}
use Rattle.rule_spec.proofs.Figures.{number_decimal}
use Rattle.rule_spec.proofs.Reading.{path_head}
use Rattle.rule_spec.proofs.Readers.{Complete}
use Rattle.tokens.specs.declared.Digits.{Digits}
use Rattle.tokens.specs.Numbers.{told, numbered}
use Rattle.tokens.proofs.Numbers.{numbered_is}
use Rattle.rule_parts.specs.Standing.{TestAt, PathAt}
use Rattle.rule_parts.specs.Middles.{Counted}
use Rattle.rule_parts.proofs.Inner.{count_inner}

-- no path goes on with a number
complete_path : (m : ℕ) (P : XPath) (r : List ℕ) → Complete m (spell_path P ++ r)
complete_path m P r = let (b, u, e, h) = path_head P in rw (e, h.2) refl

pub counted : (s : List ℕ) {i : ℕ} {f : Digits} → f ≡ numbered (i + 1) (drop (i + 1) s) → (n : ℕ) (P : XPath) (j : ℕ) → TestAt s (at_least n P) i j
    → Counted s n P j (record { nodes = f.value; path = f.next })
counted s {i} {f} e n P j a =
    let (few, mark, digits, path) = count_inner s a in
    let k = i + 1 + length (decimal n) in
    let ends = subst (Complete _) (sym path.spans.spelled) (complete_path _ P (drop j s)) in
    let known : f ≡ told n k =
    e ∙ ap (numbered (i + 1)) digits.spelled ∙ numbered_is (decimal n) (i + 1) (drop k s) (number_decimal n few) ends ∙ ap (λ m. told m k) (reading_decimal n) in
    record { told = ap (λ f. f.value) known; path = subst (λ k. PathAt s P k j) (sym (ap (λ f. f.next) known)) path }
