-- The snippets that the values in a list of nodes yield: they are some of all snippets, they depend on the values alone and not on the list, and a list with each value yields all.
use Prim.Native.Nat.{ℕ, ◌+◌, ◌*◌, ◌^◌, ◌≤◌, ◌<◌}
use mathlib.Core.Path.{◌≡◌, refl, sym, subst}
use mathlib.Core.Logic.{◌⊎◌, inl, inr, ⊎_map, ⊎_elim, ◌↔◌}
use mathlib.Core.List.{List, [], ◌∷◌, ◌++◌}
use native.Mathlib.Omega.{arith}
use Rattle.lists.specs.Lists.{Occurs, Number}
use Rattle.lists.specs.Text.{binary_digits}
use Rattle.lists.proofs.Lists.{number_one, number_iff, occurs_left, occurs_right, occurs_append}
use Rattle.lists.proofs.Numerals.{binary_above}
use Rattle.xpath.specs.Syntax.{XPath, compare, eq, size}
use Rattle.xpath.specs.Tree.{Tree, WellFormed, Down}
use Rattle.xpath.specs.Meaning.{Holds}
use Rattle.snippets.specs.Snippets.{Different, Has, Yielded}
use Rattle.snippets.specs.Count.{Pair, in_path, comparisons, Counted}
use Rattle.snippets.specs.Direct.{Direct}
use Rattle.snippets.specs.Values.{ValueIn, EachValueOnce, DirectBy, YieldedBy, SettlesBy, IsSnippetBy, CountBy}
use Rattle.snippets.proofs.Settles.{sound, yielded_down, settles}
use Rattle.snippets.proofs.Direct.{yielded_iff}
use Rattle.snippets.proofs.Halves.{halved_none, halved_map, halved_or, halved_yielded, yielded_halved}
use Rattle.snippets.proofs.Counting.{settled_on, sized_of, counted_one, some_bound}

-- the first snippets of a value end at nodes that have it
value_had : {t : Tree} {P R : XPath} {d : List ℕ} {k x y p q : ℕ} → Direct t P R d k x y p q → (w : ℕ) × Has t d w
value_had (Direct.upper f lo hi xu uy c) = (f.inside.0, f.inside.1)
value_had (Direct.lower f lo hi xw wy c) = (f.inside.0, f.inside.1)

module _ {t : Tree} {P R : XPath} where
  -- ── Some of all snippets ──
  module _ (vs : List ℕ) where
    pub by_yielded : {k x y p q : ℕ} → YieldedBy t vs P R k x y p q → Yielded t P R k x y p q
    by_yielded z = halved_yielded (λ k x y p q (d, v, z). (yielded_iff t P R k x y p q).1 (inl (d, z))) z

    pub by_down : WellFormed t → {k x y p q : ℕ} → YieldedBy t vs P R k x y p q → Down t x y (2 ^ k)
    by_down wf z = yielded_down t P R wf (by_yielded z)

    pub by_different : {k x y p q : ℕ} → YieldedBy t vs P R k x y p q → Different P R p q
    by_different z = (sound t P R (by_yielded z)).0

    -- all of them, if the list has the value of every node
    pub every_yielded : ((v : ℕ) → v < t.size → ValueIn t vs (t.value v)) → (k x y p q : ℕ) → YieldedBy t vs P R k x y p q ↔ Yielded t P R k x y p q
    every_yielded every k x y p q = (by_yielded, yielded_halved (λ d k x y p q z. (d, value z, z)))
      where
        value : {d : List ℕ} {k x y p q : ℕ} → Direct t P R d k x y p q → ValueIn t vs d
        value z = let (w, h) = value_had z in subst (λ d. ValueIn t vs d) h.value (every w h.inside)

  -- ── Two lists ──
  -- more values yield more
  pub more_values : (vs ws : List ℕ) → ((d : List ℕ) → ValueIn t vs d → ValueIn t ws d) → {k x y p q : ℕ} → YieldedBy t vs P R k x y p q → YieldedBy t ws P R k x y p q
  more_values vs ws f z = halved_map (λ k x y p q (d, v, z). (d, f d v, z)) z

  -- neither order nor repetition matters
  pub same_values : (vs ws : List ℕ) → ((d : List ℕ) → ValueIn t vs d ↔ ValueIn t ws d) → (k x y p q : ℕ) → YieldedBy t vs P R k x y p q ↔ YieldedBy t ws P R k x y p q
  same_values vs ws same k x y p q = (more_values vs ws (λ d. (same d).0), more_values ws vs (λ d. (same d).1))

  -- two lists together yield what one of them yields: a snippet comes from the first snippet of one value
  pub joined_values : (vs ws : List ℕ) (k x y p q : ℕ) → YieldedBy t (vs ++ ws) P R k x y p q ↔ (YieldedBy t vs P R k x y p q ⊎ YieldedBy t ws P R k x y p q)
  joined_values vs ws k x y p q = (λ z. halved_or (halved_map (λ k x y p q. split k x y p q) z), ⊎_elim (more_values vs (vs ++ ws) left) (more_values ws (vs ++ ws) right))
    where
      left : (d : List ℕ) → ValueIn t vs d → ValueIn t (vs ++ ws) d
      left d (w, o, e) = (w, occurs_left w vs ws o, e)

      right : (d : List ℕ) → ValueIn t ws d → ValueIn t (vs ++ ws) d
      right d (w, o, e) = (w, occurs_right w vs ws o, e)

      split : (k x y p q : ℕ) → DirectBy t (vs ++ ws) P R k x y p q → DirectBy t vs P R k x y p q ⊎ DirectBy t ws P R k x y p q
      split k x y p q (d, (w, o, e), z) = ⊎_map (λ o. (d, (w, o, e), z)) (λ o. (d, (w, o, e), z)) (occurs_append w vs ws o)

  -- no value yields nothing
  pub no_values : {k x y p q : ℕ} → ¬ YieldedBy t [] P R k x y p q
  no_values z = halved_none (λ k x y p q (d, (w, o, e), z). o) z

  -- a list yields what its nodes yield, each alone
  pub one_by_one : (vs : List ℕ) (k x y p q : ℕ) → YieldedBy t vs P R k x y p q ↔ ((w : ℕ) × Occurs w vs × YieldedBy t (w ∷ []) P R k x y p q)
  one_by_one vs k x y p q = (there vs, λ (w, o, z). more_values (w ∷ []) vs (λ d (u, i, e). (u, ⊎_elim (λ i. subst (λ z. Occurs z vs) (sym i) o) (λ n. absurd n) i, e)) z)
    where
      there : (vs : List ℕ) → YieldedBy t vs P R k x y p q → (w : ℕ) × Occurs w vs × YieldedBy t (w ∷ []) P R k x y p q
      there [] z = absurd (no_values z)
      there (v ∷ vs) z = ⊎_elim (λ z. (v, inl refl, z)) (λ z. let (w, o, h) = there vs z in (w, inr o, h)) ((joined_values (v ∷ []) vs k x y p q).0 z)

  -- ── Each value once ──
  module _ (wf : WellFormed t) (vs : List ℕ) (each : EachValueOnce t vs) where
    -- the settling rule, read on what they yield, agrees with the definition
    pub every_settles : (v : ℕ) → v < t.size → SettlesBy t vs P R v ↔ Holds t (compare eq P R) v
    every_settles v r = let i = settles t wf P R v r in (
      λ s. i.0 (settled_on t P R (YieldedBy t vs P R 0) (Yielded t P R 0) (λ x y p q. (every_yielded vs each.every 0 x y p q).0) v s),
      λ h. settled_on t P R (Yielded t P R 0) (YieldedBy t vs P R 0) (λ x y p q. (every_yielded vs each.every 0 x y p q).1) v (i.1 h),
    )

    -- and their count is that of the comparison with all nested in it
    pub every_count : (n : ℕ) → CountBy t vs P R n → Counted t (comparisons (compare eq P R)) n
    every_count n (a, b, e, h, g) =
        (a, b, e, sized_of t wf c a (number_iff (λ s. every_yielded vs each.every s.power s.x s.y s.p s.q) h), g)
      where
        c : Pair
        c = record { first = P; second = R }

-- ── How many ──
pub count_by_one : (t : Tree) (vs : List ℕ) (P R : XPath) (n m : ℕ) → CountBy t vs P R n → CountBy t vs P R m → n ≡ m
count_by_one t vs P R n m (a, b, e, h, g) (a', b', e', h', g') =
    let i = number_one h h' in let j = counted_one t (in_path P ++ in_path R) b b' g g' in omega arith

pub number_by_bound : {t : Tree} → WellFormed t → (vs : List ℕ) (P R : XPath) → size P + size R ≤ 14
    → (n : ℕ) → Number (IsSnippetBy t vs (record { first = P; second = R })) n → n ≤ 128 * (t.size * binary_digits t.size)
number_by_bound {t} wf vs P R few n h =
    some_bound t wf (record { first = P; second = R }) (binary_digits t.size) few (binary_above t.size)
    (IsSnippetBy t vs (record { first = P; second = R })) (λ s z. by_yielded vs z) n h
