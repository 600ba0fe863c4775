-- Number 14: on which lines it stands, that these are good by 2 to 4, and that it is decidable.
use Prim.Native.Nat.{ℕ, suc, ◌+◌, ◌*◌, ◌≤◌, ◌<◌}
use mathlib.Core.Path.{◌≡◌, refl, subst}
use mathlib.Core.Logic.Dec
use mathlib.Core.Logic.{◌≢◌}
use mathlib.Core.List.{List, List-discrete}
use native.Mathlib.Omega.{arith}
use native.Mathlib.Decide.{ℕ_discrete, dec_le, dec_lt}
use Rattle.lists.proofs.Decide.{dec_implies}
use Rattle.lists.proofs.Search.{search_below}
use Rattle.document_spec.specs.Library.{attribute, Together, kind_line, label_line}
use Rattle.document_spec.specs.Verdict.{line, CountIs, KindIs, LabelIs, Malformed, Breaks, Duplicate}
use Rattle.document_spec.specs.Fields.{Field, label, offset, line_of, Formed, Ruled}
use Rattle.document_spec.proofs.Reading.{kind_one, label_one}
use Rattle.document_spec.proofs.Fields.{offset_bounds, formed_line, ruled_line}

-- ── Attributes that stand together ──
pub together_map : {A B : ℕ → Type 0} {u w : ℕ} → ((i : ℕ) → i ≤ w → A i → B i) → Together A u w → Together B u w
together_map f t = record { before = t.before; all = λ i h l. f i l (t.all i h l) }

all_below : (n : ℕ) (A : ℕ → Type 0) → ((i : ℕ) → Dec (A i)) → Dec ((i : ℕ) → i < n → A i)
all_below n A d = go (search_below n (λ i. ¬ A i) (λ i. Dec.not (d i)))
  where
    go : Dec ((i : ℕ) × (i < n) × (¬ A i)) → Dec ((i : ℕ) → i < n → A i)
    go (yes (i, l, f)) = no (λ h. f (h i l))
    go (no f) = yes (λ i l. (Dec.not-not (d i)).0 (λ g. f (i, l, g)))

dec_together : {A : ℕ → Type 0} → ((i : ℕ) → Dec (A i)) → (u w : ℕ) → Dec (Together A u w)
dec_together {A} d u w =
    go (dec_lt u w) (all_below (suc w) (λ i. u ≤ i → i ≤ w → A i) (λ i. dec_implies (dec_le u i) (dec_implies (dec_le i w) (d i))))
  where
    go : Dec (u < w) → Dec ((i : ℕ) → i < suc w → u ≤ i → i ≤ w → A i) → Dec (Together A u w)
    go (yes b) (yes f) = yes (record { before = b; all = λ i h l. f i (omega arith) h l })
    go (yes b) (no h) = no (λ t. h (λ i m. t.all i))
    go (no h) d = no (λ t. h t.before)

-- ── The later of two attributes of one element and one label ──
pub record Repeated (s : List ℕ) (w : ℕ) : Type 0 where
  pub number : ℕ
  pub node : ℕ
  pub name : List ℕ
  pub count : CountIs s number
  pub inside : w < number
  pub together : Together (λ i. KindIs s i attribute) node w
  pub there : LabelIs s node name
  pub here : LabelIs s w name

-- u is an earlier attribute of v's element, and its label line says a
abbrev Matches : List ℕ → ℕ → ℕ → List ℕ → Type 0
Matches s v u a = Together (λ i. KindIs s i attribute) u v × (line s (4 * u + 4) ≡ label_line a)

dec_matches : (s : List ℕ) (v u : ℕ) (a : List ℕ) → Dec (Matches s v u a)
dec_matches s v u a = Dec.and (dec_together (λ i. List-discrete ℕ_discrete _ (kind_line attribute)) u v) (List-discrete ℕ_discrete _ (label_line a))

-- the rule of a label line is about text
attribute_ruled : (s : List ℕ) (w : ℕ) → KindIs s w attribute → Ruled s w label
attribute_ruled s w h k a q p t = let e = kind_one s w k attribute q h in let z : ◌≡◌ {A = ℕ} 0 1 = cc in absurd (omega arith)

module _ {s : List ℕ} where
  -- number 14 is on its label line
  pub repeated : {i : ℕ} → Duplicate s i → (w : ℕ) × (i ≡ 4 * w + 4) × Repeated s w
  repeated (Duplicate.label {n} {u} {w} a c l t p q) =
      (w, refl, record { number = n; node = u; name = a; count = c; inside = l; together = t; there = p; here = q })

  pub duplicate_line : {i : ℕ} → Duplicate s i → (w : ℕ) × (i ≡ 4 * w + 4)
  duplicate_line d = let (w, e, r) = repeated d in (w, e)

  pub repeated_at : (v : ℕ) → Duplicate s (line_of v label) → Repeated s v
  repeated_at v d = let (w, e, r) = repeated d in let i : w ≡ v = omega arith in subst (Repeated s) i r

  -- it is on no other line of a node
  pub unrepeated : (v : ℕ) (f : Field) → offset f ≢ 4 → ¬ Duplicate s (line_of v f)
  unrepeated v f h d = let (w, e) = duplicate_line d in let o = offset_bounds f in h (omega arith)

  -- ── A line that has it has none of 2 and 4 ──
  pub duplicate_formed : {i : ℕ} → Duplicate s i → ¬ Malformed s i
  duplicate_formed {i} d =
      let (w, e, r) = repeated d in
      formed_line s r.number w label r.count r.inside (r.name, r.here) i e

  pub duplicate_ruled : {i : ℕ} → Duplicate s i → ¬ Breaks s i
  duplicate_ruled {i} d =
      let (w, e, r) = repeated d in
      let b = r.together.before in
      ruled_line s w label (attribute_ruled s w (r.together.all w (omega arith) (omega arith))) i e

  -- ── It is decidable on a label line that has its form ──
  pub dec_duplicate : {n : ℕ} (v : ℕ) → CountIs s n → v < n → Formed s v label → Dec (Duplicate s (line_of v label))
  dec_duplicate v c l (a, p) = go (search_below v (λ u. Matches s v u a) (λ u. dec_matches s v u a))
    where
      go : Dec ((u : ℕ) × (u < v) × Matches s v u a) → Dec (Duplicate s (line_of v label))
      go (yes (u, b, (t, e))) = yes (Duplicate.label a c l t (p.0, e) p)
      go (no h) = no (λ d.
          let r = repeated_at v d in
          let b = r.together.before in
          h (r.node, omega arith, subst (Matches s v r.node) (label_one s v r.name a r.here p) (r.together, r.there.1)))
