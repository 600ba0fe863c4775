-- The ranks that a sign compares tell it, also where they are drawn for a comparison.
use Prim.Native.Nat.{ℕ, ◌*◌, ◌≤◌, ◌<◌}
use native.Mathlib.Omega.{arith}
use native.Mathlib.Decide.{dec_lt}
use mathlib.Core.Path.{◌≡◌, sym, ◌∙◌, subst, subst₂}
use mathlib.Core.Logic.{◌↔◌}
use mathlib.Core.List.{List}
use lib.ListN.{length, drop}
use Rattle.xpath.specs.Syntax.{Op, eq, ne, lt, le, gt, ge}
use Rattle.xpath.specs.Meaning.{Rel}
use Rattle.xpath.proofs.Booleans.{trans, ¬-iff}
use Rattle.document_spec.specs.Library.{Node}
use Rattle.document_spec.specs.Binary.{compared_of, tree_of}
use Rattle.layout.specs.Table.{COLUMNS, RANK, AMOUNT}
use Rattle.layout.specs.Words.{word}
use Rattle.ranks.specs.Ranks.{Ranked}
use Rattle.numerals.specs.Keys.{no_key}
use Rattle.numerals.proofs.Keys.{below_by_keys, at_most_by_keys}
use Rattle.amounts.specs.Weighed.{key_at, Weighed}
use Rattle.amounts.proofs.Kept.{weighed_some}
use Rattle.machine.specs.Walks.{Signed}
use Rattle.machine.specs.Meaning.{RanksTell}
use Rattle.staging.specs.Signs.{ranks_of}
use Rattle.staging.specs.Drawing.{RanksCopied}
use Rattle.driver.proofs.Parts.{behind_word}

-- ── In the table ──
module _ (ns : List Node) (t : List ℕ) where
  -- the sign stands between the ranks of v and w that it compares exactly if it stands between their values
  abbrev Told : Op → ℕ → ℕ → Type 0
  Told o v w = Signed o (length ns) (word t (length ns) (ranks_of o) v) (word t (length ns) (ranks_of o) w) ↔ Rel o (compared_of ns v) (compared_of ns w)

  abbrev amount : ℕ → ℕ
  amount v = word t (length ns) AMOUNT v

-- text: each node has a rank
module _ {ns : List Node} {t : List ℕ} (ranked : Ranked ns t) (v w : ℕ) (l : v < length ns) (k : w < length ns) where
  equal_told : Told ns t eq v w
  equal_told = let (to, from) = ranked.same v w l k in (λ s. to s.2, λ r. (ranked.small v l, ranked.small w k, from r))

  unequal_told : Told ns t ne v w
  unequal_told = let (to, from) = ¬-iff (ranked.same v w l k) in (λ s. to s.2, λ r. (ranked.small v l, ranked.small w k, from r))

-- at most is not above
not_above : (a b c d : ℕ) → (a < b → c < d) → d ≤ c → b ≤ a
not_above a b c d f r = go (dec_lt a b)
  where
    go : Dec (a < b) → b ≤ a
    go (yes h) = let z = f h in absurd (omega arith)
    go (no h) = omega arith

-- amounts: a node has a rank exactly if its value is a numeral
module _ {ns : List Node} {t : List ℕ} (few : length ns ≤ 4096) (weighed : Weighed ns t) where
  -- a relation of ranks that is one of keys
  ranks_keys : (K : ℕ → ℕ → Type 0) (v w : ℕ) → v < length ns → w < length ns
      → (key_at ns v < no_key → key_at ns w < no_key → K (amount ns t v) (amount ns t w) ↔ K (key_at ns v) (key_at ns w))
      → ((amount ns t v < length ns) × (amount ns t w < length ns) × K (amount ns t v) (amount ns t w)) ↔ ((key_at ns v < no_key) × (key_at ns w < no_key) × K (key_at ns v) (key_at ns w))
  ranks_keys K v w l k f = (
    λ (h, i, r). let x = weighed_some (omega arith) weighed v l h in let y = weighed_some (omega arith) weighed w k i in (x, y, (f x y).0 r),
    λ (x, y, r). (weighed.small v l x, weighed.small w k y, (f x y).1 r),
  )

  less_told : (v w : ℕ) → v < length ns → w < length ns → Told ns t lt v w
  less_told v w l k = trans (ranks_keys (λ a b. a < b) v w l k (weighed.ordered v w l k)) (let (to, from) = below_by_keys (compared_of ns v) (compared_of ns w) in (from, to))

  at_most_told : (v w : ℕ) → v < length ns → w < length ns → Told ns t le v w
  at_most_told v w l k = trans
      (ranks_keys (λ a b. a ≤ b) v w l k
      (λ x y. (not_above (key_at ns w) (key_at ns v) (amount ns t w) (amount ns t v) (weighed.ordered w v k l y x).1, not_above (amount ns t w) (amount ns t v) (key_at ns w) (key_at ns v) (weighed.ordered w v k l y x).0)))
      (let (to, from) = at_most_by_keys (compared_of ns v) (compared_of ns w) in (from, to))

-- the two sides exchanged
turned : {A B C D : Type 0} → (A × B × C) ↔ D → (B × A × C) ↔ D
turned f = (λ (b, a, c). f.0 (a, b, c), λ d. let (a, b, c) = f.1 d in (b, a, c))

told : {ns : List Node} {t : List ℕ} → length ns ≤ 4096 → Ranked ns t → Weighed ns t → (o : Op) (v w : ℕ) → v < length ns → w < length ns → Told ns t o v w
told few ranked weighed eq v w l k = equal_told ranked v w l k
told few ranked weighed ne v w l k = unequal_told ranked v w l k
told few ranked weighed lt v w l k = less_told few weighed v w l k
told few ranked weighed le v w l k = at_most_told few weighed v w l k
told few ranked weighed gt v w l k = turned (less_told few weighed w v k l)
told few ranked weighed ge v w l k = turned (at_most_told few weighed w v k l)

-- ── Behind the table ──
pub ranks_tell : {ns : List Node} {n : ℕ} {t t' : List ℕ} → n ≤ 4096 → length ns ≡ n → Ranked ns t → Weighed ns t → (o : Op) → RanksCopied n (ranks_of o) t t'
    → RanksTell o (tree_of ns) n (drop (COLUMNS * n) t')
ranks_tell {ns} {n} {t} {t'} few size ranked weighed o copied v w l k =
    subst₂ (λ a b. Signed o n a b ↔ Rel o (compared_of ns v) (compared_of ns w)) (drawn v l) (drawn w k)
    (subst (λ m. Signed o m (word t m (ranks_of o) v) (word t m (ranks_of o) w) ↔ Rel o (compared_of ns v) (compared_of ns w)) size
    (told (omega arith) ranked weighed o v w (omega arith) (omega arith)))
  where
    drawn : (u : ℕ) → u < n → word t n (ranks_of o) u ≡ word (drop (COLUMNS * n) t') n RANK u
    drawn u h = sym (behind_word n t' RANK u ∙ copied.copied u h)
