-- What a tally tells of the parts of a rule: the first test too many, and the first comparison or count of too many steps.
use Prim.Native.Nat.{ℕ, zero, suc, ◌≤◌, ◌<◌, min}
use native.Mathlib.Omega.{arith, min_cases}
use native.Mathlib.Nat.{le_refl}
use mathlib.Core.Path.{◌≡◌, refl, sym, ap, ◌∙◌, subst}
use mathlib.Core.Logic.{◌⊎◌, inl, inr, ◌≢◌, ⊎_elim, ⊎_map}
use mathlib.Core.Bool.{Bool, true, false}
use mathlib.Core.List.{List, [], ◌∷◌}
use lib.ListN.{drop}
use lib.Dec.{leb}
use borrow.Author.Tests.{ne_eqb, leb-true, leb-false}
use Rattle.limits.specs.Limits.{comparison_steps}
use Rattle.lists.specs.Lists.{All, Occurs}
use Rattle.rule_spec.specs.Parts.{Part, Sort, tests}
use Rattle.rule_spec.specs.Verdict.{Heavy}
use Rattle.rule_spec.specs.Bytes.{choose}
use Rattle.tokens.specs.declared.read.Tally.{Tally}
use Rattle.tokens.specs.Tallies.{nowhere, tally, crowds, begins, begun, heavier, weighed, noted, tallied}

-- ── Tests ──
abbrev pub first_or : ℕ → List Part → ℕ
first_or n [] = n
first_or n (p ∷ ps) = p.offset

-- once there is a test too many, the later ones do not count
crowded_stays : (ps : List Part) (c h : ℕ) → c ≢ nowhere → (tallied (tally 0 c h) ps).crowded ≡ c
unfolding tallied noted begun weighed
crowded_stays [] c h n = refl
crowded_stays (p ∷ ps) c h n = go p.sort (λ m. crowded_stays ps c m n)
  where
    still : ((m : ℕ) → (tallied (tally 0 c m) ps).crowded ≡ c) → (m : ℕ) → (tallied (tally 0 (crowds c p.offset) m) ps).crowded ≡ c
    still ih m = ap (λ b. (tallied (tally 0 (choose b p.offset c) m) ps).crowded) (ne_eqb c nowhere n) ∙ ih m

    go : (x : Sort) → ((m : ℕ) → (tallied (tally 0 c m) ps).crowded ≡ c) → (tallied (noted (tally 0 c h) p.offset x) ps).crowded ≡ c
    go Sort.test ih = still ih h
    go (Sort.stepped m) ih = still ih (heavier h p.offset m)
    go Sort.path ih = ih h

pub crowded_is : (ps : List Part) (l h : ℕ) → All (λ p. p.offset < nowhere) ps → (tallied (tally l nowhere h) ps).crowded ≡ first_or nowhere (drop l (tests ps))
unfolding tallied noted begun weighed tests
crowded_is [] zero h a = refl
crowded_is [] (suc l) h a = refl
crowded_is (p ∷ ps) l h a = go p.sort l (λ m k. crowded_is ps m k a.1)
  where
    now : p.offset ≢ nowhere
    now e = let i = a.0 in omega arith

    go : (x : Sort) (l : ℕ) → ((m k : ℕ) → (tallied (tally m nowhere k) ps).crowded ≡ first_or nowhere (drop m (tests ps)))
        → (tallied (noted (tally l nowhere h) p.offset x) ps).crowded
        ≡ first_or nowhere (drop l (elim x [ Sort.test ↦ p ∷ tests ps | Sort.stepped m ↦ p ∷ tests ps | Sort.path ↦ tests ps ]))
    go Sort.test zero ih = crowded_stays ps p.offset h now
    go Sort.test (suc l) ih = ih l h
    go (Sort.stepped m) zero ih = crowded_stays ps p.offset (heavier h p.offset m) now
    go (Sort.stepped m) (suc l) ih = ih l (heavier h p.offset m)
    go Sort.path l ih = ih l h

pub test_occurs : (p : Part) (ps : List Part) → Occurs p (tests ps) → Occurs p ps
unfolding tests
test_occurs p [] o = o
test_occurs p (q ∷ ps) o = go q.sort (test_occurs p ps) o
  where
    go : (x : Sort) → (Occurs p (tests ps) → Occurs p ps) → Occurs p (elim x [ Sort.test ↦ q ∷ tests ps | Sort.stepped m ↦ q ∷ tests ps | Sort.path ↦ tests ps ])
        → Occurs p (q ∷ ps)
    go Sort.test ih o = ⊎_map (λ e. e) ih o
    go (Sort.stepped m) ih o = ⊎_map (λ e. e) ih o
    go Sort.path ih o = inr (ih o)

-- ── Steps ──
-- m is the least of h and of the places of comparisons and counts of too many steps
pub record Lowest (h : ℕ) (ps : List Part) (m : ℕ) : Type 0 where
  pub below : m ≤ h
  pub first : (p : Part) → Occurs p ps → Heavy p → m ≤ p.offset
  pub found : (m ≡ h) ⊎ ((p : Part) × Occurs p ps × Heavy p × (p.offset ≡ m))

lowest_then : {h m k : ℕ} {p : Part} {ps : List Part} → Lowest h (p ∷ []) m → Lowest m ps k → Lowest h (p ∷ ps) k
lowest_then {h} {m} {k} {p} {ps} a b = record { below = let i = a.below in let j = b.below in omega arith; first = first; found = found b.found a.found }
  where
    first : (q : Part) → Occurs q (p ∷ ps) → Heavy q → k ≤ q.offset
    first q (inl e) w = let i = a.first q (inl e) w in let j = b.below in omega arith
    first q (inr o) w = b.first q o w

    found : (k ≡ m) ⊎ ((q : Part) × Occurs q ps × Heavy q × (q.offset ≡ k)) → (m ≡ h) ⊎ ((q : Part) × Occurs q (p ∷ []) × Heavy q × (q.offset ≡ m))
        → (k ≡ h) ⊎ ((q : Part) × Occurs q (p ∷ ps) × Heavy q × (q.offset ≡ k))
    found (inl e) (inl f) = inl (e ∙ f)
    found (inl e) (inr (q, inl o, w, f)) = inr (q, inl o, w, f ∙ sym e)
    found (inl e) (inr (q, inr o, w, f)) = absurd o
    found (inr (q, o, w, f)) x = inr (q, inr o, w, f)

module _ (p : Part) where
  light : (h : ℕ) → ¬ Heavy p → Lowest h (p ∷ []) h
  light h n = record { below = le_refl h; first = λ q o w. absurd (n (subst Heavy (⊎_elim (λ e. e) (λ o. absurd o) o) w)); found = inl refl }

  heavy : (h : ℕ) → Heavy p → Lowest h (p ∷ []) (min h p.offset)
  heavy h w = record {
    below = omega arith;
    first = λ q o v. let e = ⊎_elim (λ e. ap (λ (r : Part). r.offset) e) (λ o. absurd o) o in omega arith;
    found = min_cases h p.offset _ (λ l e. inl e) (λ l e. inr (p, inl refl, w, sym e));
  }

  begun_heavy : (t : Tally) (o : ℕ) → (begun t o).heavy ≡ t.heavy
  unfolding begun
  begun_heavy t o = go t.left
    where
      go : (l : ℕ) → (begins l t.crowded t.heavy o).heavy ≡ t.heavy
      go zero = refl
      go (suc l) = refl

  lowest_one : (t : Tally) → Lowest t.heavy (p ∷ []) (noted t p.offset p.sort).heavy
  unfolding noted weighed
  lowest_one t = go p.sort refl
    where
      weigh : (m : ℕ) → p.sort ≡ Sort.stepped m → (b : Bool) → leb m comparison_steps ≡ b → Lowest t.heavy (p ∷ []) (choose b t.heavy (min t.heavy p.offset))
      weigh m e true l = light t.heavy (λ (k, f, w). let i : m ≡ k = cc in let j = leb-true m comparison_steps l in omega arith)
      weigh m e false l = heavy t.heavy (m, e, leb-false m comparison_steps l)

      go : (x : Sort) → p.sort ≡ x → Lowest t.heavy (p ∷ []) (noted t p.offset x).heavy
      go Sort.test e =
          subst (Lowest t.heavy (p ∷ [])) (sym (begun_heavy t p.offset)) (light t.heavy (λ (k, f, w). let z : ◌≡◌ {A = ℕ} 0 1 = cc in omega arith))
      go (Sort.stepped m) e =
          subst (λ h. Lowest t.heavy (p ∷ []) (heavier h p.offset m)) (sym (begun_heavy t p.offset)) (weigh m e (leb m comparison_steps) refl)
      go Sort.path e = light t.heavy (λ (k, f, w). let z : ◌≡◌ {A = ℕ} 0 1 = cc in omega arith)

pub heavy_lowest : (ps : List Part) (t : Tally) → Lowest t.heavy ps (tallied t ps).heavy
unfolding tallied
heavy_lowest [] t = record { below = le_refl _; first = λ p o. absurd o; found = inl refl }
heavy_lowest (p ∷ ps) t = lowest_then (lowest_one p t) (heavy_lowest ps (noted t p.offset p.sort))
