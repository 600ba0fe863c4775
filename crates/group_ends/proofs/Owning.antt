-- The positions that end at a node itself.
use Prim.Native.Nat.{ℕ, ◌<◌}
use mathlib.Core.Path.{◌≡◌, sym, ◌∙◌, subst}
use mathlib.Core.Logic.{◌≢◌}
use mathlib.Core.Bool.{false≢true}
use mathlib.Core.List.{List}
use Rattle.bits.proofs.SetLaws.{bit_none}
use Rattle.xpath.specs.Syntax.{XPath}
use Rattle.xpath.specs.Tree.{Tree}
use Rattle.snippets.specs.Ways.{Own}
use Rattle.snippets.proofs.Edges.{comes_few}
use Rattle.layout.specs.Part.{loop_at}
use Rattle.layout.specs.Table.{RANK}
use Rattle.layout.specs.Words.{word}
use Rattle.machine.specs.declared.Machine.{Machine}
use Rattle.matrices.specs.Matrices.{Exactly, Before}
use Rattle.powers.specs.Powers.{Ready}
use Rattle.group_marks.specs.Groups.{Ranks}

module _ (P R : XPath) (t : Tree) (d : List ℕ) {m : Machine} {n r v : ℕ} {p : List ℕ} (ready : Ready P R t m n p) (ranks : Ranks t d n r p) (node : v < n) where
  -- of a node of the group
  pub own_here : (w at : ℕ) → word p n RANK v ≡ r → at ≡ loop_at n v → Exactly w (Before p at m.last) → Exactly w (Own t P R d v)
  own_here w at e place asked i l = (
    λ x. let (j, q, a, c) = (before i l).0 x in (record { inside = subst (λ (z : ℕ). v < z) (sym ready.stage.drawn.size) node; value = (ranks v node).0 e }, (j, (ready.stage.machine.last j).0 a, (ready.loops v i j node l q).0 c)),
    λ (h, (j, a, c)). let q = comes_few P R t ready.stage.machine.few c l in (before i l).1 (j, q, (ready.stage.machine.last j).1 a, (ready.loops v i j node l q).1 c),
  )
    where
      before : Exactly w (Before p (loop_at n v) m.last)
      before = subst (λ (z : ℕ). Exactly w (Before p z m.last)) place asked

  -- of another
  pub own_none : word p n RANK v ≢ r → Exactly 0 (Own t P R d v)
  own_none f i l = (λ x. absurd (false≢true (sym (bit_none i) ∙ x)), λ (h, e). absurd (f ((ranks v node).1 h.value)))
