-- Matrices that are closed hold every chain from a node back to it.
use Prim.Native.Nat.{ℕ, zero, suc, ◌<◌}
use mathlib.Core.Path.{◌≡◌, refl, sym, ◌∙◌, subst}
use mathlib.Core.Bool.{Bool, true, false}
use mathlib.Core.List.{List}
use native.Mathlib.Omega.{arith}
use Rattle.xpath.specs.Syntax.{XPath, Step, to_left, to_right, from_left, from_right, stay}
use Rattle.xpath.specs.Tree.{Tree, Child, Under}
use Rattle.xpath.proofs.Trees.{child_after, under_refl}
use Rattle.positions.specs.Positions.{Follows, Comes}
use Rattle.snippets.proofs.Edges.{step_down, step_up, count, comes_few, not_under, enters, leaves}
use Rattle.matrices.specs.Matrices.{Related}
use Rattle.machine.specs.declared.Machine.{Machine}
use Rattle.machine.specs.Meaning.{IsStep}
use Rattle.machine.proofs.Walking.{child_inside, step_few}
use Rattle.layout.specs.Part.{loop_at}
use Rattle.loops.specs.Loops.{Stage}
use Rattle.loops.specs.Closed.{Closed}
use Rattle.loops.proofs.Sides.{goes_down, goes_up, goes_stay, child_side}

-- ── Chains, and what a matrix relates ──
module _ {P R : XPath} {t : Tree} {m : Machine} {n : ℕ} {p : List ℕ} (stage : Stage P R t m n p) (closed : Closed m n p) where
  abbrev C : ℕ → ℕ → ℕ → ℕ → Type 0
  C i v j w = Comes P R t i v j w

  abbrev L : ℕ → ℕ → ℕ → Type 0
  L v i j = Related p (loop_at n v) i j

  few : (j : ℕ) (s : Step) → IsStep P R j s → j < 16
  few j s a = step_few stage.formed stage.machine stage.drawn j s a

  inside : {side : Bool} {v u : ℕ} → Child t side v u → u < n
  inside c = child_inside stage.formed stage.machine stage.drawn c

  -- ── Chains that begin with an edge and take it back ──
  -- the matrices hold every chain of less than f steps from a node back to it
  abbrev Hold : ℕ → Type 0
  Hold f = (i v j w : ℕ) → v < n → i < 16 → j < 16 → v ≡ w → (c : C i v j w) → count P R t c < f → L v i j

  -- a chain that begins with a step down to u takes the edge back up
  over_child : (f : ℕ) → Hold f → (side : Bool) (i v j u k w : ℕ) → v < n → i < 16 → k < 16 → v ≡ w
      → Child t side v u → Follows P R i j → IsStep P R j (step_down side) → (c : C j u k w) → count P R t c < f → L v i k
  over_child f hold side i v j u k w r l q e child a b c h =
      let (z, o) = leaves P R t stage.formed child c (under_refl t stage.formed u) (subst (λ x. ¬ Under t u x) e (not_under P R t stage.formed child)) in
      let lj = few j (step_down side) b in
      let lfrom = comes_few P R t stage.machine.few z.before lj in
      let lto = few z.to (step_up side) z.numbered in
      let (pu, on) = child_side stage side v u child in
      let there = closed.upwards side u i z.to child.inner (inside child) on l lto (record {
        first = j;
        last = z.from;
        first_few = lj;
        last_few = lfrom;
        leave = (goes_down stage side i j l lj).1 (a, b);
        within = hold j u z.from u (inside child) lj lfrom refl z.before (omega arith);
        back = (goes_up stage side z.from z.to lfrom lto).1 (z.follows, z.numbered);
      }) in
      closed.transitive v i z.to k r l lto q (subst (λ x. L x i z.to) pu there) (hold z.to v k w r lto q e z.after (omega arith))

  -- a chain that begins with the step up to u takes the edge back down
  over_parent : (f : ℕ) → Hold f → (side : Bool) (i v j u k w : ℕ) → v < n → i < 16 → k < 16 → v ≡ w
      → Child t side u v → Follows P R i j → IsStep P R j (step_up side) → (c : C j u k w) → count P R t c < f → L v i k
  over_parent f hold side i v j u k w r l q e child a b c h =
      let (z, o) = enters P R t stage.formed child c (not_under P R t stage.formed child) (subst (λ x. Under t v x) e (under_refl t stage.formed v)) in
      let lj = few j (step_up side) b in
      let lfrom = comes_few P R t stage.machine.few z.before lj in
      let lto = few z.to (step_down side) z.numbered in
      let (pv, on) = child_side stage side u v child in
      let low = child_after stage.formed child in
      let there = closed.downwards side v i z.to child.inner r on l lto (record {
        first = j;
        last = z.from;
        first_few = lj;
        last_few = lfrom;
        leave = (goes_up stage side i j l lj).1 (a, b);
        within = subst (λ x. L x j z.from) (sym pv) (hold j u z.from u (omega arith) lj lfrom refl z.before (omega arith));
        back = (goes_down stage side z.from z.to lfrom lto).1 (z.follows, z.numbered);
      }) in
      closed.transitive v i z.to k r l lto q there (hold z.to v k w r lto q e z.after (omega arith))

  -- ── Every chain ──
  holds : (f : ℕ) → Hold f
  holds zero i v j w r l q e c h = absurd (omega arith)
  holds (suc f) i v j w r l q e Comes.here h = closed.reflexive v i r l
  holds (suc f) i v k w r l q e (Comes.on {j = j} {u = u} to_left a b c d) h = over_child f (holds f) true i v j u k w r l q e c a b d (omega arith)
  holds (suc f) i v k w r l q e (Comes.on {j = j} {u = u} to_right a b c d) h = over_child f (holds f) false i v j u k w r l q e c a b d (omega arith)
  holds (suc f) i v k w r l q e (Comes.on {j = j} {u = u} from_left a b c d) h = over_parent f (holds f) true i v j u k w r l q e c a b d (omega arith)
  holds (suc f) i v k w r l q e (Comes.on {j = j} {u = u} from_right a b c d) h = over_parent f (holds f) false i v j u k w r l q e c a b d (omega arith)
  holds (suc f) i v k w r l q e (Comes.on {j = j} {u = u} (stay T) a b (s, x) d) h =
      let lj = few j (stay T) b in
      closed.transitive v i j k r l lj q
      (closed.bracket v i j r l lj ((goes_stay stage v i j r l lj).1 (a, (T, b, x))))
      (subst (λ y. L y j k) (sym s) (holds f j u k w (omega arith) lj q (sym s ∙ e) d (omega arith)))

  pub closed_comes : (v i j : ℕ) → v < n → i < 16 → j < 16 → Comes P R t i v j v → Related p (loop_at n v) i j
  closed_comes v i j r l q c = holds (suc (count P R t c)) i v j v r l q refl c (omega arith)
