-- The matrix of a node at the start.
use Prim.Native.Nat.{ℕ, ◌<◌}
use mathlib.Core.Path.{◌≡◌, sym, subst}
use mathlib.Core.Logic.{◌↔◌}
use mathlib.Core.List.{List}
use Rattle.layout.specs.Part.{STAYS, loop_at}
use Rattle.layout.specs.Words.{word}
use Rattle.layout.proofs.Frames.{frame_then}
use Rattle.matrices.specs.Matrices.{Related, Redrawn, Drawing}
use Rattle.closures.specs.Closures.{Chain}
use Rattle.closures.proofs.Chains.{chain_map}
use Rattle.machine.specs.declared.Machine.{Machine}
use Rattle.detours.specs.Detours.{Goes}
use Rattle.detours.specs.Visits.{Steps, Begun}

-- the steps that stay, drawn and closed
pub begun : (m : Machine) (n v : ℕ) {p q q' : List ℕ} {at w : ℕ} → at ≡ loop_at n v → w ≡ word p n STAYS v → Drawing (Steps m.rows w) at 16 p q
    → Redrawn at q q' × ((i j : ℕ) → i < 16 → j < 16 → Related q' at i j ↔ Chain (λ i j. Related q at i j) i j) → Begun m n v p q'
begun m n v {p} {q} {q'} {at} {w} e f d (only, closure) = record {
  only = subst (λ (x : ℕ). Redrawn x p q') e (frame_then d.frame only);
  closed = λ i j h l. subst (λ (x : ℕ). Related q' x i j ↔ Chain (Goes m (word p n STAYS v)) i j) e (to i j h l, from i j h l);
}
  where
    to : (i j : ℕ) → i < 16 → j < 16 → Related q' at i j → Chain (Goes m (word p n STAYS v)) i j
    to i j h l r = chain_map (λ a b x y s. let (g, o) = (d.done a b x y).0 s in subst (λ (z : ℕ). Goes m z a b) f (record { follows = g; step = o })) h ((closure i j h l).0 r)

    from : (i j : ℕ) → i < 16 → j < 16 → Chain (Goes m (word p n STAYS v)) i j → Related q' at i j
    from i j h l c =
        (closure i j h l).1 (chain_map (λ a b x y g. let s : Goes m w a b = subst (λ (z : ℕ). Goes m z a b) (sym f) g in (d.done a b x y).1 (s.follows, s.step)) h c)
