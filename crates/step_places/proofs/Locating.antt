-- The places of a path's steps from those of its parts.
use Prim.Native.Nat.{ℕ, ◌+◌, ◌<◌, ◌≤◌}
use native.Mathlib.Omega.{arith}
use Rattle.std.specs.Prelude.{Option, Some, None}
use mathlib.Core.Path.{◌≡◌, refl, sym, ap, subst, ◌∙◌}
use mathlib.Core.Logic.{◌⊎◌, inl, inr}
use mathlib.Core.List.{List, ◌++◌}
use lib.ListN.{length, get_or, set, length-append}
use lib.Seq.{get_or-set_same, get_or-set_other}
use Rattle.xpath.specs.Syntax.{XPath, one, Step, steps, size}
use Rattle.positions.specs.Positions.{Numbered}
use Rattle.positions.proofs.Runs.{num_in, num_split}
use Rattle.rule_spec.specs.Spelling.{spell_path}
use Rattle.rule_parts.specs.Standing.{PathAt}
use Rattle.rule_parts.specs.Kinds.{path_kind}
use Rattle.rule_parts.specs.declared.kinds.PathKind.{PathKind}
use Rattle.rule_parts.specs.declared.kinds.PathKind.TheVariants.{Empty, Star}
use Rattle.rule_parts.proofs.Inner.{star_inner}
use Rattle.path_sets.specs.Paths.{SecondAt}
use Rattle.path_sets.proofs.Shapes.{Steps, Pairs, shaped, stepped, paired}
use Rattle.step_places.specs.declared.Spot.{Spot}
use Rattle.step_places.specs.Places.{Located, Locates, Places}

-- ── Where a path ends, and the places of two paths ──
-- where the path ends, and the number behind it
pub spot_ends : {s : List ℕ} {at b : ℕ} {f g : List ℕ} {p : Spot} → Locates s at b f g p
    → (P : XPath) (j : ℕ) → PathAt s P at j → b + size P ≤ 16 → (p.next ≡ j) × (p.count ≡ b + size P)
spot_ends h P j a l = let r = h P j a l in (r.next, r.count)

-- of two paths, what the first wrote is below the numbers of the second
both_placed : {s : List ℕ} {A B : XPath} {b m j : ℕ} {f g h : List ℕ} {p q : Spot} → Located s A b f g m p → Located s B (b + size A) g h j q
    → (i : ℕ) (t : Step) → Numbered b (steps A ++ steps B) i t → (k : ℕ) × PathAt s (one t) (get_or h i 0) k
both_placed {s} {A} {B} {b} {h = h} u v i t o = go (num_split (steps A) (steps B) b i t o)
  where
    go : Numbered b (steps A) i t ⊎ Numbered (b + size A) (steps B) i t → (k : ℕ) × PathAt s (one t) (get_or h i 0) k
    go (inl n) =
        let (k, x) = u.places i t n in let r = num_in (steps A) b i t n in
        (k, subst (λ d. PathAt s (one t) d k) (sym (v.kept i (omega arith))) x)
    go (inr n) = v.places i t n

-- ── What is told of the paths of a comparison ──
module _ (s : List ℕ) (at : ℕ) {behind : Option ℕ} {e f : List ℕ} {p : Spot} (one-path : Locates s at 1 e f p) where
  pub places_told : {b : ℕ} {g : List ℕ} {q : Spot} → behind ≡ Some b → Locates s b p.count f g q → Places s at behind g
  places_told {g = g} {q} there other_path P R a =
      let l = a.few in let u = one-path P a.end a.first (omega arith) in let n = u.count in
      let (k, x) = subst (SecondAt s R) there a.second in
      both_placed u (subst (λ d. Located s R d f g k q) n (other_path R k x (omega arith)))

  pub alone_told : behind ≡ None → Places s at behind f
  alone_told none P R a i t o = go (num_split (steps P) (steps R) 1 i t o)
    where
      go : Numbered 1 (steps P) i t ⊎ Numbered (1 + size P) (steps R) i t → (k : ℕ) × PathAt s (one t) (get_or f i 0) k
      go (inl n) = let l = a.few in (one-path P a.end a.first (omega arith)).places i t n
      go (inr n) = absurd (subst (λ X. Numbered (1 + size P) (steps X) i t) (subst (SecondAt s R) none a.second) n)

-- ── A path's places by its kind ──
module _ (s : List ℕ) {at : ℕ} {k : PathKind} (kind : (P : XPath) (j : ℕ) → PathAt s P at j → k ≡ path_kind P) {b : ℕ} where
  retold : {P X : XPath} {f g : List ℕ} {j : ℕ} {r : Spot} → P ≡ X → (PathAt s X at j → b + size X ≤ 16 → Located s X b f g j r)
      → PathAt s P at j → b + size P ≤ 16 → Located s P b f g j r
  retold {f = f} {g = g} {j = j} {r = r} w t = subst (λ X. PathAt s X at j → b + size X ≤ 16 → Located s X b f g j r) (sym w) t

  pub empty_places : (f : List ℕ) → k ≡ Empty → Locates s at b f f (record { count = b; next = at + 1 })
  unfolding spell_path
  empty_places f e P j a l =
      retold (shaped e P (kind P j a)) (λ a l. record { places = λ i t h. absurd h; kept = λ i h. refl; count = omega arith; next = sym a.spans.ends }) a l

  pub star_places : {f g : List ℕ} {r : Spot} → k ≡ Star → Locates s (at + 1) b f g r → Locates s at b f g r
  star_places e part P j a l =
      let (A, w) = shaped e P (kind P j a) in
      retold w (λ a l. let u = part A j (star_inner s a) l in record { places = u.places; kept = u.kept; count = u.count; next = u.next }) a l

  pub pair_places : {f g h : List ℕ} {p q : Spot} → Pairs k → Locates s (at + 1) b f g p → Locates s p.next p.count g h q → Locates s at b f h q
  pair_places {f} {g} {h} {p} {q} e first_part second-part P j a l =
      let (A, B, w) = paired e P (kind P j a) in let (m, x, y) = w.inner s a in
      let z = ap length w.numbered in let n = length-append (steps A) (steps B) in
      let u = first_part A m x (omega arith) in let c = u.count in
      let v = subst (λ d. Located s B d g h j q) c (second-part B j (subst (λ i. PathAt s B i j) (sym u.next) y) (omega arith)) in
      let d = v.count in record {
        places = λ i t o. both_placed u v i t (subst (λ ts. Numbered b ts i t) w.numbered o);
        kept = λ i o. v.kept i (omega arith) ∙ u.kept i o;
        count = omega arith;
        next = v.next;
      }

  pub step_places_lem : {f : List ℕ} {m : ℕ} → Steps k → 16 ≤ length f → ((P : XPath) (j : ℕ) → PathAt s P at j → m ≡ j)
      → Locates s at b f (set f b at) (record { count = b + 1; next = m })
  step_places_lem {f} {m} e long skipped P j a l =
      let (t, w) = stepped e P (kind P j a) in
      retold w (λ x l. record {
        places = λ i u o. go t x (omega arith) i u o;
        kept = λ i o. get_or-set_other f b i at 0 (λ z. omega arith);
        count = refl;
        next = skipped P j a;
      }) a l
    where
      go : (t : Step) → PathAt s (one t) at j → b < length f → (i : ℕ) (u : Step) → ((i ≡ b) × (t ≡ u)) ⊎ ⊥ → (k : ℕ) × PathAt s (one u) (get_or (set f b at) i 0) k
      go t x r i u (inr o) = absurd o
      go t x r i u (inl (e, z)) =
          let d : get_or (set f b at) i 0 ≡ at = ap (λ (n : ℕ). get_or (set f b at) n 0) e ∙ get_or-set_same f b at 0 r in
          (j, subst (λ d. PathAt s (one u) d j) (sym d) (subst (λ (t : Step). PathAt s (one t) at j) z x))
