-- The column that says where a value is in a relation to a constant.
use Prim.Native.Nat.{ℕ, ◌+◌, ◌*◌, ◌≤◌, ◌<◌}
use mathlib.Core.Path.{◌≡◌, refl, sym, subst}
use mathlib.Core.Logic.{◌↔◌}
use mathlib.Core.List.{List}
use lib.ListN.{length}
use native.Mathlib.Omega.{arith}
use native.Mathlib.Decide.{dec_lt}
use Rattle.lists.specs.Blanks.{trim}
use Rattle.xpath.specs.Syntax.{Op}
use Rattle.xpath.specs.Meaning.{Rel}
use Rattle.xpath.proofs.Booleans.{trans}
use Rattle.document_spec.specs.Library.{Node}
use Rattle.document_spec.specs.Binary.{compared_of}
use Rattle.document_lines.specs.declared.entries.Span.{Span}
use Rattle.blanks.specs.Trimmed.{between}
use Rattle.layout.specs.Part.{HIT}
use Rattle.layout.specs.Table.{COLUMNS, RANK, AMOUNT}
use Rattle.layout.specs.Words.{NONE, cell, word, Within}
use Rattle.numerals.specs.Keys.{no_key}
use Rattle.numerals.proofs.Keys.{key_most}
use Rattle.ranks.specs.Ranks.{Ranked}
use Rattle.amounts.specs.Weighed.{key_at, Weighed}
use Rattle.amounts.proofs.Kept.{weighed_some}
use Rattle.rule_parts.specs.declared.kinds.Operator.{Operator}
use Rattle.rule_parts.specs.Kinds.{operator}
use Rattle.constants.specs.declared.Place.{Place}
use Rattle.constants.specs.declared.Target.TheVariants.{Text, Amount}
use Rattle.std.specs.declared.cmp.Ordering.{Ordering}
use Rattle.constants.specs.Places.{Compares, against, Told, Placed}
use Rattle.amounts.proofs.Kept.{weighed_some}
use Rattle.staging.specs.Signs.{Stands, ByText}
use Rattle.staging.specs.Drawing.{Hit, HitsFilled, HitsCleared, Judged}
use Rattle.staging.proofs.Drawn.{Drawn, drawn_within}
use Rattle.staging.proofs.Links.{column_ends}
use Rattle.staging.proofs.Signs.{key, stands_text, stands_amount, amounts_both}

-- ── One node, whose rank r was read ──
pub hit_none : {n r w : ℕ} {p : Place} {o : Operator} → r ≡ w → n ≤ r → Hit n p o w 0
hit_none e l = record { none = λ k. refl; some = λ k. absurd (omega arith) }

pub hit_some : {n r w x : ℕ} (p : Place) {o : Operator} (c : Ordering) → r ≡ w → r < n → Told p r c → ((q : Op) → o ≡ operator q → (x ≡ 1) ↔ Stands q c) → Hit n p o w x
hit_some p c e l h f = record { none = λ k. absurd (omega arith); some = λ k. (c, subst (λ (i : ℕ). Told p i c) e h, f) }

-- ── The loops ──
abbrev pub Hits : List ℕ → ℕ → ℕ → Place → Operator → ℕ → ℕ → Type 0
Hits t n c p o v x = Hit n p o (word t n c v) x

-- the ranks stand in a column before this one
pub hits_same : {F : ℕ → ℕ → Type 0} {n m i c : ℕ} {t t' : List ℕ} {p : Place} {o : Operator} {v x : ℕ} → Drawn F ((COLUMNS + HIT) * n) m i t t' → c < COLUMNS → v < n
    → Hits t' n c p o v x → Hits t n c p o v x
hits_same {n = n} {c = c} {p = p} {o = o} {v = v} {x = x} d l r h = subst (λ (w : ℕ). Hit n p o w x) (d.frame.front (cell n c v) (let e = column_ends n l in omega arith)) h

pub hits_filled : {n c i : ℕ} {p : Place} {o : Operator} {t t' : List ℕ} → Drawn (Hits t n c p o) ((COLUMNS + HIT) * n) n i t t' → n ≤ i → HitsFilled n c p o t t'
hits_filled {n} d l = record { within = drawn_within n (COLUMNS + HIT) (COLUMNS + HIT + 1) refl (omega arith) d; done = λ v r. d.done v (omega arith) }

pub hits_cleared : {n i : ℕ} {t t' : List ℕ} → Drawn (λ v x. x ≡ 0) ((COLUMNS + HIT) * n) n i t t' → n ≤ i → HitsCleared n t t'
hits_cleared {n} d l = record { within = drawn_within n (COLUMNS + HIT) (COLUMNS + HIT + 1) refl (omega arith) d; done = λ v r. d.done v (omega arith) }

-- ── What the hits tell ──
-- 0 tells that A does not hold
zero_tells : {A : Type 0} {x : ℕ} → x ≡ 0 → ¬ A → (x ≡ 1) ↔ A
zero_tells e f = (λ z. absurd (omega arith), λ a. absurd (f a))

-- the constant k is bs without the blanks at its ends
module _ {ns : List Node} {n : ℕ} {t t' : List ℕ} (q : Op) (k bs : List ℕ) (cut : trim k ≡ bs) where
  judged : Within n (COLUMNS + HIT) (COLUMNS + HIT + 1) t t' → ((v : ℕ) → v < n → (word t' n (COLUMNS + HIT) v ≡ 1) ↔ Rel q (compared_of ns v) bs) → Judged ns n q k t t'
  judged w f = record { within = w; done = λ v l. subst (λ (c : List ℕ). (word t' n (COLUMNS + HIT) v ≡ 1) ↔ Rel q (compared_of ns v) c) (sym cut) (f v l) }

  pub judged_none : HitsCleared n t t' → ¬ ByText q → key bs ≡ no_key → Judged ns n q k t t'
  judged_none h f e = judged h.within (λ v l. zero_tells (h.done v l) (λ r. let z = (amounts_both q (compared_of ns v) bs f r).1 in absurd (omega arith)))

module _ {ns : List Node} {n : ℕ} {t t' : List ℕ} {p : Place} {o : Operator} (size : length ns ≡ n) (q : Op) (e : o ≡ operator q) (k rule : List ℕ) (c : Span) (cut : trim k ≡ between rule c) where
  pub judged_text : ByText q → Ranked ns t → Placed (against ns rule (Text c)) n (word t n RANK) p → HitsFilled n RANK p o t t' → Judged ns n q k t t'
  judged_text y g pl h = judged q k (between rule c) cut h.within tells
    where
      tells : (v : ℕ) → v < n → (word t' n (COLUMNS + HIT) v ≡ 1) ↔ Rel q (compared_of ns v) (between rule c)
      tells v l =
          let s = subst (λ (m : ℕ). (u : ℕ) → u < m → word t m RANK u < m) size g.small v l in let (d, r, f) = (h.done v l).some s in
          trans (f q e) (stands_text q (compared_of ns v) (between rule c) d y (pl.tells v d l s r))

  -- i is the key of the constant
  pub judged_amount : {i : ℕ} → i ≡ key (between rule c) → ¬ (i ≡ no_key) → ¬ ByText q → length ns ≤ NONE → Weighed ns t → Placed (against ns rule (Amount i)) n (word t n AMOUNT) p → HitsFilled n AMOUNT p o t t'
      → Judged ns n q k t t'
  judged_amount {i} b y f few g pl h = judged q k (between rule c) cut h.within (λ v l. tells v l (dec_lt (word t n AMOUNT v) n))
    where
      some : (v : ℕ) → v < n → word t n AMOUNT v < n → key_at ns v < no_key
      some = subst (λ (m : ℕ). (v : ℕ) → v < m → word t m AMOUNT v < m → key_at ns v < no_key) size (weighed_some few g)

      small : (v : ℕ) → v < n → key_at ns v < no_key → word t n AMOUNT v < n
      small = subst (λ (m : ℕ). (v : ℕ) → v < m → key_at ns v < no_key → word t m AMOUNT v < m) size g.small

      tells : (v : ℕ) → v < n → Dec (word t n AMOUNT v < n) → (word t' n (COLUMNS + HIT) v ≡ 1) ↔ Rel q (compared_of ns v) (between rule c)
      tells v l (yes s) =
          let m = key_most (between rule c) in let (d, r, u) = (h.done v l).some s in
          trans (u q e) (stands_amount q (compared_of ns v) (between rule c) d f (some v l s) (omega arith) (subst (λ (x : ℕ). Compares ◌<◌ (key_at ns v) x d) b (pl.tells v d l s r)))
      tells v l (no s) = zero_tells ((h.done v l).none (omega arith)) (λ r. s (small v l (amounts_both q (compared_of ns v) (between rule c) f r).0))
