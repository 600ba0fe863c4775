-- The grounds on a node's lines, told for the four lines at once: a line is formed, and it keeps the tree rule of its field.
use Prim.Native.Nat.{ℕ, suc, ◌+◌, ◌*◌, ◌≤◌, ◌<◌}
use mathlib.Core.Path.{◌≡◌, refl, sym, ap, ◌∙◌, subst₂}
use mathlib.Core.Logic.{◌≢◌}
use mathlib.Core.List.{List, [], ◌∷◌}
use native.Mathlib.Omega.{arith}
use lib.ListN.{get_or}
use Rattle.document_spec.specs.Verdict.{line, CountIs, Malformed, Breaks}
use Rattle.document_spec.specs.Fields.{Field, depth, kind, label, value, offset, line_of, Formed, Ruled}
use Rattle.document_spec.proofs.Reading.{count_one}

-- ── Which line it is tells the node and the field ──
pub offset_bounds : (f : Field) → (2 ≤ offset f) × (offset f ≤ 5)
offset_bounds depth = omega arith
offset_bounds kind = omega arith
offset_bounds label = omega arith
offset_bounds value = omega arith

abbrev field_at : ℕ → Field
field_at i = get_or (depth ∷ depth ∷ depth ∷ kind ∷ label ∷ value ∷ []) i depth

field_told : (f : Field) → field_at (offset f) ≡ f
field_told depth = refl
field_told kind = refl
field_told label = refl
field_told value = refl

pub same_line : (P : ℕ → Field → Type 0) (v w : ℕ) (f g : Field) → line_of v f ≡ line_of w g → P v f → P w g
same_line P v w f g e h =
    let a = offset_bounds f in
    let b = offset_bounds g in
    let o : offset f ≡ offset g = omega arith in
    subst₂ P (omega arith) (sym (field_told f) ∙ ap field_at o ∙ field_told g) h

-- ── The grounds ──
-- number 2 on line i
pub data Unformed (s : List ℕ) : ℕ → Type 0 where
  count : ((n : ℕ) → ¬ CountIs s n) → Unformed s 1
  field : (n v : ℕ) (f : Field) → CountIs s n → v < n → ¬ Formed s v f → Unformed s (line_of v f)
  extra : (n : ℕ) → CountIs s n → line s (4 * n + 2) ≢ [] → Unformed s (4 * n + 2)

-- number 4 on line i
pub record Unruled (s : List ℕ) (i : ℕ) : Type 0 where
  pub number : ℕ
  pub node : ℕ
  pub field : Field
  pub count : CountIs s number
  pub inside : node < number
  pub here : i ≡ line_of node field
  pub formed : Formed s node field
  pub broken : ¬ Ruled s node field

module _ (s : List ℕ) where
  pub unformed : (i : ℕ) → Malformed s i → Unformed s i
  unformed i (Malformed.count h) = count h
  unformed i (Malformed.depth {n} v c l h) = field n v depth c l (λ (d, p). h d p)
  unformed i (Malformed.kind {n} v c l h) = field n v kind c l (λ (k, p). h k p)
  unformed i (Malformed.label {n} v c l h) = field n v label c l (λ (a, p). h a p)
  unformed i (Malformed.value {n} v c l h) = field n v value c l (λ (b, p). h b p)
  unformed i (Malformed.extra n c h) = extra n c h

  pub malformed : (n v : ℕ) (f : Field) → CountIs s n → v < n → ¬ Formed s v f → Malformed s (line_of v f)
  malformed n v depth c l h = Malformed.depth v c l (λ d p. h (d, p))
  malformed n v kind c l h = Malformed.kind v c l (λ k p. h (k, p))
  malformed n v label c l h = Malformed.label v c l (λ a p. h (a, p))
  malformed n v value c l h = Malformed.value v c l (λ b p. h (b, p))

  unruled_at : {n : ℕ} (v : ℕ) (f : Field) → CountIs s n → v < n → Formed s v f → ¬ Ruled s v f → Unruled s (line_of v f)
  unruled_at {n} v f c l p h = record { number = n; node = v; field = f; count = c; inside = l; here = refl; formed = p; broken = h }

  pub unruled : (i : ℕ) → Breaks s i → Unruled s i
  unruled i (Breaks.top {d} c l p h) = unruled_at 0 depth c l (d, p) (λ r. h (r d p))
  unruled i (Breaks.rooted {k} c l p h) = unruled_at 0 kind c l (k, p) (λ r. h (r k p))
  unruled i (Breaks.depth {v} {d} {d'} {k} c l p q p' h) = unruled_at (suc v) depth c l (d', p') (λ r. h (r d d' k p q p'))
  unruled i (Breaks.kind {v} {d} {d'} {k} {k'} c l p q p' q' h) = unruled_at (suc v) kind c l (k', q') (λ r. h (r d d' k k' p q p' q'))
  unruled i (Breaks.label {k} {a} v c l q p h) = unruled_at v label c l (a, p) (λ r. h (r k a q p))
  unruled i (Breaks.value {k} {b} v c l q p h) = unruled_at v value c l (b, p) (λ r. h (r k b q p))

  -- ── What a good line has not ──
  -- a node's line that has the form due there has no number 2
  pub formed_line : (n v : ℕ) (f : Field) → CountIs s n → v < n → Formed s v f → (i : ℕ) → i ≡ line_of v f → ¬ Malformed s i
  formed_line n v f c l p i e m = go i e (unformed i m)
    where
      go : (i : ℕ) → i ≡ line_of v f → Unformed s i → ⊥
      go i e (count h) = h n c
      go i e (field m w g d k h) = h (same_line (Formed s) v w f g (sym e) p)
      go i e (extra m d h) = let o = offset_bounds f in let z = count_one s m n d c in omega arith

  -- one that keeps the rule of its field has no number 4
  pub ruled_line : (v : ℕ) (f : Field) → Ruled s v f → (i : ℕ) → i ≡ line_of v f → ¬ Breaks s i
  ruled_line v f r i e b = let u = unruled i b in u.broken (same_line (Ruled s) v u.node f u.field (sym e ∙ u.here) r)

  -- a line that breaks a rule has the form due there
  pub breaks_formed : (i : ℕ) → Breaks s i → ¬ Malformed s i
  breaks_formed i b = let u = unruled i b in formed_line u.number u.node u.field u.count u.inside u.formed i u.here
