-- The grounds of a document by the line that they are on, and which of them is first.
use Prim.Native.Nat.{ℕ, ◌+◌, ◌*◌, ◌≤◌, ◌<◌}
use mathlib.Core.Path.{◌≡◌, refl, sym, subst}
use mathlib.Core.Logic.{◌⊎◌, inl, inr, ◌≢◌}
use mathlib.Core.List.{List, []}
use native.Mathlib.Omega.{arith}
use lib.ListN.{length}
use Rattle.limits.specs.Limits.{document_bytes, document_nodes}
use Rattle.refusals.specs.Refusals.{Refusal, document_length, line_form, node_count, tree_rule, duplicate_attribute, place, number, stage, Earlier, First}
use Rattle.document_spec.specs.Verdict.{line, CountIs, Malformed, Breaks, Duplicate, DocumentGround}
use Rattle.document_spec.proofs.Reading.{count_one}
use Rattle.document_spec.proofs.Fields.{offset_bounds, Unformed, count, field, extra, unformed, unruled, breaks_formed}
use Rattle.document_spec.proofs.Duplicates.{repeated, duplicate_line, duplicate_formed, duplicate_ruled}

-- a ground on line i
pub data Bad (s : List ℕ) : ℕ → Refusal → Type 0 where
  form : {i : ℕ} → Malformed s i → Bad s i (line_form i)
  few : (n : ℕ) → CountIs s n → (n ≡ 0) ⊎ (document_nodes < n) → Bad s 1 node_count
  rule : {i : ℕ} → Breaks s i → Bad s i (tree_rule i)
  again : {i : ℕ} → Duplicate s i → Bad s i (duplicate_attribute i)

-- a ground of a document is its length, or is on a line
pub data Ground (s : List ℕ) : Refusal → Type 0 where
  long : document_bytes < length s → Ground s document_length
  bad : {i : ℕ} {q : Refusal} → Bad s i q → Ground s q

-- what is not earlier in the written order
later : (a b : Refusal) → stage b ≤ stage a → (stage a ≡ stage b → (place b ≤ place a) × (place a ≡ place b → number b ≤ number a)) → ¬ Earlier a b
later a b s h (inl l) = omega arith
later a b s h (inr (e, inl l)) = let p = (h e).0 in omega arith
later a b s h (inr (e, inr (i, l))) = let p = (h e).1 i in omega arith

module _ (s : List ℕ) where
  pub ground : (q : Refusal) → DocumentGround s q → Ground s q
  ground q (DocumentGround.long h) = long h
  ground q (DocumentGround.malformed h) = bad (form h)
  ground q (DocumentGround.range {n = n} c h) = bad (few n c h)
  ground q (DocumentGround.breaks h) = bad (rule h)
  ground q (DocumentGround.duplicate h) = bad (again h)

  pub bad_ground : (i : ℕ) (q : Refusal) → Bad s i q → DocumentGround s q
  bad_ground i q (form h) = DocumentGround.malformed h
  bad_ground i q (few n c h) = DocumentGround.range c h
  bad_ground i q (rule h) = DocumentGround.breaks h
  bad_ground i q (again h) = DocumentGround.duplicate h

  bad_place : (i : ℕ) (q : Refusal) → Bad s i q → (stage q ≡ 2) × (place q ≡ i)
  bad_place i q (form h) = (refl, refl)
  bad_place i q (few n c h) = (refl, refl)
  bad_place i q (rule h) = (refl, refl)
  bad_place i q (again h) = (refl, refl)

  -- ── Two grounds on one line are of one number ──
  unruled_line : (i : ℕ) → Breaks s i → 1 < i
  unruled_line i h = let u = unruled s i h in let e = u.here in let o = offset_bounds u.field in omega arith

  again_line : (i : ℕ) → Duplicate s i → 1 < i
  again_line i h = let (w, e) = duplicate_line h in omega arith

  unformed_line : (i : ℕ) → Unformed s i → (1 ≤ i) × ((n : ℕ) → CountIs s n → 1 < i)
  unformed_line i (count h) = (omega arith, λ n c. absurd (h n c))
  unformed_line i (field m v f d l h) = let o = offset_bounds f in (omega arith, λ n c. omega arith)
  unformed_line i (extra m d h) = (omega arith, λ n c. omega arith)

  bad_number : (i j : ℕ) (p q : Refusal) → i ≡ j → Bad s i p → Bad s j q → number p ≡ number q
  bad_number i j p q e (form h) (form g) = refl
  bad_number i j p q e (form h) (few n c g) = let l = (unformed_line i (unformed s i h)).1 n c in absurd (omega arith)
  bad_number i j p q e (form h) (rule g) = absurd (breaks_formed s j g (subst (Malformed s) e h))
  bad_number i j p q e (form h) (again g) = absurd (duplicate_formed g (subst (Malformed s) e h))
  bad_number i j p q e (few n c h) (form g) = let l = (unformed_line j (unformed s j g)).1 n c in absurd (omega arith)
  bad_number i j p q e (few n c h) (few m d g) = refl
  bad_number i j p q e (few n c h) (rule g) = let l = unruled_line j g in absurd (omega arith)
  bad_number i j p q e (few n c h) (again g) = let l = again_line j g in absurd (omega arith)
  bad_number i j p q e (rule h) (form g) = absurd (breaks_formed s i h (subst (Malformed s) (sym e) g))
  bad_number i j p q e (rule h) (few n c g) = let l = unruled_line i h in absurd (omega arith)
  bad_number i j p q e (rule h) (rule g) = refl
  bad_number i j p q e (rule h) (again g) = absurd (duplicate_ruled g (subst (Breaks s) e h))
  bad_number i j p q e (again h) (form g) = absurd (duplicate_formed h (subst (Malformed s) (sym e) g))
  bad_number i j p q e (again h) (few n c g) = let l = again_line i h in absurd (omega arith)
  bad_number i j p q e (again h) (rule g) = absurd (duplicate_ruled h (subst (Breaks s) (sym e) g))
  bad_number i j p q e (again h) (again g) = refl

  -- a ground is on the first line, on a node's line or on a further line
  pub bad_within : (n : ℕ) → CountIs s n → (i : ℕ) (q : Refusal) → Bad s i q → (i ≤ 4 * n + 1) ⊎ (line s (4 * n + 2) ≢ [])
  bad_within n c i q (form h) = go i (unformed s i h)
    where
      go : (i : ℕ) → Unformed s i → (i ≤ 4 * n + 1) ⊎ (line s (4 * n + 2) ≢ [])
      go i (count h) = absurd (h n c)
      go i (field m v f d l h) = let e = count_one s m n d c in let o = offset_bounds f in inl (omega arith)
      go i (extra m d h) = inr (subst (λ n. line s (4 * n + 2) ≢ []) (count_one s m n d c) h)
  bad_within n c i q (few m d h) = inl (omega arith)
  bad_within n c i q (rule h) =
      let u = unruled s i h in
      let e = count_one s u.number n u.count c in
      let o = offset_bounds u.field in
      let l = u.inside in
      let p = u.here in
      inl (omega arith)
  bad_within n c i q (again h) = let (w, p, r) = repeated h in let e = count_one s r.number n r.count c in let l = r.inside in inl (omega arith)

  -- ── The first ground ──
  pub first_long : document_bytes < length s → First (DocumentGround s) document_length
  first_long h = record { applies = DocumentGround.long h; first = λ q g. go q (ground q g) }
    where
      go : (q : Refusal) → Ground s q → ¬ Earlier q document_length
      go q (long l) = later document_length document_length (omega arith) (omega arith)
      go q (bad {i} b) = let e = bad_place i q b in later q document_length (omega arith) (omega arith)

  -- a ground on a line before which no line has one
  pub first_line_lem : length s ≤ document_bytes → (i : ℕ) (q : Refusal) → Bad s i q → ((j : ℕ) (p : Refusal) → Bad s j p → i ≤ j) → First (DocumentGround s) q
  first_line_lem short i q b least = record { applies = bad_ground i q b; first = λ p g. go p (ground p g) }
    where
      go : (p : Refusal) → Ground s p → ¬ Earlier p q
      go p (long l) = absurd (omega arith)
      go p (bad {i = j} c) =
          let d = bad_place i q b in
          let e = bad_place j p c in
          let l = least j p c in
          later p q (omega arith) (λ _. (omega arith, λ h. let n = bad_number i j q p (omega arith) b c in omega arith))

  -- line 1 is not formed, or its N is 0 or too large
  first_count : length s ≤ document_bytes → (q : Refusal) → Bad s 1 q → First (DocumentGround s) q
  first_count short q b = first_line_lem short 1 q b from_one
    where
      from_one : (j : ℕ) (p : Refusal) → Bad s j p → 1 ≤ j
      from_one j p (form h) = (unformed_line j (unformed s j h)).0
      from_one j p (few n c h) = omega arith
      from_one j p (rule h) = let l = unruled_line j h in omega arith
      from_one j p (again h) = let l = again_line j h in omega arith

  pub first_uncounted : length s ≤ document_bytes → ((n : ℕ) → ¬ CountIs s n) → First (DocumentGround s) (line_form 1)
  first_uncounted short h = first_count short (line_form 1) (form (Malformed.count h))

  pub first_number : length s ≤ document_bytes → (n : ℕ) → CountIs s n → (n ≡ 0) ⊎ (document_nodes < n) → First (DocumentGround s) node_count
  first_number short n c h = first_count short node_count (few n c h)
