-- The automaton of two paths from the scans of both, and their square from what follows in each.
use Prim.Native.Nat.{ℕ, suc, ◌+◌, ◌-◌, ◌<◌, ◌≤◌}
use native.Mathlib.Omega.{arith}
use Rattle.std.specs.Prelude.{Option, Some, None}
use mathlib.Core.Path.{◌≡◌, sym, subst}
use mathlib.Core.Bool.{Bool, true, false}
use mathlib.Core.Logic.{◌⊎◌, inl, inr, ◌↔◌}
use mathlib.Core.List.{List}
use lib.ListN.{replicate}
use Rattle.bits.specs.Sets.{bit, is, or, and}
use Rattle.xpath.specs.Syntax.{XPath, empty, size}
use Rattle.positions.specs.Positions.{Follows, second}
use Rattle.positions.specs.Glushkov.{Nullable, Begins, Next}
use Rattle.positions.proofs.Chains.{RightAfter, follows_iff, last_iff}
use Rattle.path_sets.specs.declared.sets.Scan.{Scan}
use Rattle.path_sets.specs.Scanned.{Sets, Scans}
use Rattle.path_sets.specs.Paths.{SecondAt, PathsAt, TwoPaths}
use Rattle.path_sets.proofs.Truth.{tells_or, tells_and, tells_more, through}
use Rattle.path_sets.proofs.SetLaws.{single_tells}
use Rattle.automaton.specs.declared.automaton.Automaton.{Automaton}
use Rattle.automaton.specs.Following.{Related, Relates}
use Rattle.automaton.specs.Compared.{Ended, Started, FollowSquare, Sums, Tells, TellsFollow}
use Rattle.automaton.proofs.Relations.{Joined, joined_tells, clear_tells}

-- ── The start n of a path: w is the set of n alone ──
module _ (P : XPath) (b n : ℕ) (p : Scan) (w : ℕ) (one : (i : ℕ) → bit w i ≡ or (is i n) (bit 0 i)) (h : Sets P b p) where
  -- d is w where the path may be empty
  pub ended : (d r : ℕ) → ((i : ℕ) → bit d i ≡ and p.null (bit w i)) → ((i : ℕ) → bit r i ≡ or (bit d i) (bit p.last i)) → Ended P b n r
  ended d r where-null both = record { told = λ i. tells_or (bit d i) (bit p.last i) (begins_last i) (h.last i) _ (both i) }
    where
      begins_last : (i : ℕ) → (bit d i ≡ true) ↔ ((i ≡ n) × Nullable P)
      begins_last i = let t = tells_and p.null (bit w i) h.null (single_tells w n one i) _ (where-null i) in (λ e. ((t.0 e).1, (t.0 e).0), λ z. t.1 (z.1, z.0))

  pub started : (f g : List (List Bool)) → Joined w p.first f g → Started P b n f g
  started f g join = record { told = joined_tells w p.first f g (single_tells w n one) h.first join }

-- ── The automaton ──
pub sums : {p q : Scan} {u v w : ℕ} → ((P : XPath) (b : ℕ) → Sets P b p → Ended P b 0 u) → ((P : XPath) (b : ℕ) → Sets P b q → Ended P b q.count v)
    → ((i : ℕ) → bit w i ≡ or (bit u i) (bit v i)) → Sums p q (record { last = w; middle = p.count - 1; count = q.count - 1 })
sums {q = q} {u = u} {v = v} one two both P R x y =
    let n = x.count in let m = y.count in
    let e : q.count ≡ second P R = omega arith in
    let z = subst (λ d. Ended R (suc (size P)) d v) e (two R (suc (size P)) y) in record {
      last = λ i. through (tells_or (bit u i) (bit v i) ((one P 1 x).told i) (z.told i) _ (both i)) (last_iff P R i);
      middle = omega arith;
      count = omega arith;
    }

-- the numbers of both paths and both starts are positions
abbrev pub Small : Scan → Scan → Type 0
Small p q = (0 < p.count) × (0 < q.count) × (q.count < 16)

-- ── The square ──
-- what a path and its start add to a relation in which X was
beside : {E F G A B X : Type 0} → E ↔ X → F ↔ (E ⊎ A) → G ↔ (F ⊎ B) → G ↔ (X ⊎ (B ⊎ A))
beside {E} {F} {G} {A} {B} {X} e f g = (λ z. to ((tells_more f g).0 z), from)
  where
    to : E ⊎ (A ⊎ B) → X ⊎ (B ⊎ A)
    to (inl x) = inl (e.0 x)
    to (inr (inl a)) = inr (inr a)
    to (inr (inr b)) = inr (inl b)

    from : X ⊎ (B ⊎ A) → G
    from (inl x) = g.1 (inl (f.1 (inl (e.1 x))))
    from (inr (inl b)) = g.1 (inr b)
    from (inr (inr a)) = g.1 (inl (f.1 (inr a)))

-- what follows in the first path
abbrev First : XPath → ℕ → ℕ → Type 0
First P i j = ((i ≡ 0) × Begins P 1 j) ⊎ Next P 1 i j

-- nothing follows in an empty path
first_iff : (P : XPath) (i j : ℕ) → Follows P empty i j ↔ First P i j
first_iff P i j = (λ h. to ((follows_iff P empty i j).0 h), λ h. (follows_iff P empty i j).1 (inl h))
  where
    to : RightAfter P empty i j → First P i j
    to (inl h) = h
    to (inr (inl (e, h))) = absurd h
    to (inr (inr h)) = absurd h

-- ── The paths at the offsets ──
-- q is the scan of the second path, whatever it is
abbrev pub SecondScans : List ℕ → Option ℕ → ℕ → Scan → Type 0
SecondScans s behind b q = (R : XPath) → SecondAt s R behind → b + size R ≤ 16 → Sets R b q

module _ (s : List ℕ) (behind : Option ℕ) {n : ℕ} {q : Scan} where
  pub second_stands : {b : ℕ} {r : Scan} → behind ≡ Some b → q ≡ r → Scans s b n r → SecondScans s behind n q
  second_stands there e scans R x l = let (k, y) = subst (SecondAt s R) there x in subst (Sets R n) (sym e) (scans R k y l).sets

  pub second_empty : {r : Scan} → behind ≡ None → q ≡ r → Sets empty n r → SecondScans s behind n q
  second_empty none e sets R x l = subst (λ X. Sets X n q) (sym (subst (SecondAt s R) none x)) (subst (Sets empty n) (sym e) sets)

-- what follows in the first path
abbrev pub FollowsFirst : List ℕ → ℕ → Option ℕ → List (List Bool) → Type 0
FollowsFirst s at behind f = (P R : XPath) → PathsAt s at behind P R → FollowSquare P empty f

module _ (s : List ℕ) (at : ℕ) {behind : Option ℕ} where
  module _ {p : Scan} (one : Scans s at 1 p) where
    pub first_follow : {e f g : List (List Bool)} → e ≡ replicate 16 (replicate 16 false) → Relates s at 1 e f → ((P : XPath) (b : ℕ) → Sets P b p → Started P b 0 f g)
        → FollowsFirst s at behind g
    first_follow {e} clear follow start P R a =
        let l = a.few in let x = (one P a.end a.first (omega arith)).sets in record {
          follow = λ i k c d. through
              (alone (beside (λ h. absurd (clear_tells e clear i k c d h), λ z. absurd z) ((follow P a.end a.first (omega arith)).told i k c d) ((start P 1 x).told i k c d)))
              (first_iff P i k);
        }
      where
        alone : {G X : Type 0} → G ↔ (⊥ ⊎ X) → G ↔ X
        alone {G} {X} g = (λ z. to (g.0 z), λ x. g.1 (inr x))
          where
            to : ⊥ ⊎ X → X
            to (inl z) = absurd z
            to (inr x) = x

    module _ {q : Scan} (two : SecondScans s behind p.count q) where
      -- both paths as they are numbered
      both_sets : (P R : XPath) → PathsAt s at behind P R → Sets P 1 p × Sets R (suc (size P)) q
      both_sets P R a =
          let l = a.few in let x = (one P a.end a.first (omega arith)).sets in let n = x.count in
          let e : p.count ≡ suc (size P) = omega arith in
          (x, subst (λ d. Sets R d q) e (two R a.second (omega arith)))

      pub two_small : TwoPaths s at behind → Small p q
      two_small (P, R, a) = let l = a.few in let (x, y) = both_sets P R a in let n = x.count in let m = y.count in (omega arith, omega arith, omega arith)

      pub two_told : {r : Automaton} → Sums p q r → Tells s at behind r
      two_told sum P R a = let (x, y) = both_sets P R a in sum P R x y

      pub two_follow : {b : ℕ} {f g h : List (List Bool)} → behind ≡ Some b → FollowsFirst s at behind f → Relates s b p.count f g
          → ((P : XPath) (b : ℕ) → Sets P b q → Started P b q.count g h)
          → TellsFollow s at behind h
      two_follow {f = f} {g} {h} there first follow start P R a =
          let (x, y) = both_sets P R a in let n = x.count in let m = y.count in let l = a.few in
          let (k, z) = subst (SecondAt s R) there a.second in
          let c₁ : p.count ≡ suc (size P) = omega arith in
          let e : q.count ≡ second P R = omega arith in
          let u = subst (λ d. Related R d f g) c₁ (follow R k z (omega arith)) in
          let v = subst (λ d. Started R (suc (size P)) d g h) e (start R (suc (size P)) y) in record {
            follow = λ i m c d. through (beside (through ((first P R a).follow i m c d) ((first_iff P i m).1, (first_iff P i m).0)) (u.told i m c d) (v.told i m c d)) (follows_iff P R i m);
          }

  -- an empty second path adds nothing
  pub alone_follow : {f : List (List Bool)} → behind ≡ None → FollowsFirst s at behind f → TellsFollow s at behind f
  alone_follow {f} none first P R a = subst (λ X. FollowSquare P X f) (sym (subst (SecondAt s R) none a.second)) (first P R a)
