-- What ends outside of the part of the tree under a child of a skeleton node.
use Prim.Native.Nat.{ℕ, ◌<◌}
use mathlib.Core.Path.{◌≡◌, sym, subst}
use mathlib.Core.Logic.{◌≢◌, ◌⊎◌, inl, inr}
use mathlib.Core.Bool.{Bool, true, false, not}
use mathlib.Core.List.{List}
use native.Mathlib.Omega.{arith}
use Rattle.bits.specs.Sets.{bit, or}
use Rattle.xpath.specs.Syntax.{XPath}
use Rattle.xpath.specs.Tree.{Tree, Child, WellFormed, Under}
use Rattle.snippets.specs.Snippets.{Skeleton, Edge}
use Rattle.snippets.specs.Ways.{Out, Above, Own, FromChild}
use Rattle.snippets.proofs.Ways.{out_iff}
use Rattle.layout.specs.Groups.{LEFTIN, RIGHTIN, ABOVE}
use Rattle.layout.specs.Table.{LEFT}
use Rattle.layout.specs.Words.{word}
use Rattle.machine.specs.declared.Machine.{Machine}
use Rattle.matrices.proofs.Members.{union_iff}
use Rattle.matrices.specs.Matrices.{Exactly}
use Rattle.powers.specs.Powers.{Ready}
use Rattle.group_marks.specs.Groups.{Ranks, Group}
use Rattle.group_ends.specs.Ends.{inward, Sides}
use Rattle.group_ends.specs.Steps.{Outside}
use Rattle.group_ends.proofs.Ascending.{on_left, on_right}

-- above, at the node, and on the other side
out_exactly : {P R : XPath} {t : Tree} {d : List ℕ} (wf : WellFormed t) {side : Bool} {x c y l : ℕ} (a o f s w : ℕ) → Child t side x c → Under t c y → Edge t d x y l
    → Exactly a (Above t P R d x) → Exactly o (Own t P R d x) → Exactly f (FromChild t P R d (not side) x)
    → ((i : ℕ) → bit s i ≡ or (bit o i) (bit f i)) → ((i : ℕ) → bit w i ≡ or (bit a i) (bit s i)) → Exactly w (Out t P R d x y)
out_exactly {P} {R} {t} {d} wf {side} {x} {c} {y} {l} a o f s w child under e above own from one two i h =
    (λ z. (out_iff t P R d wf side x c y l i child under e).1 (to ((union_iff a s w two i).0 z)), λ z. (union_iff a s w two i).1 (back ((out_iff t P R d wf side x c y l i child under e).0 z)))
  where
    here : (bit o i ≡ true) ⊎ (bit f i ≡ true) → Above t P R d x i ⊎ (Own t P R d x i ⊎ FromChild t P R d (not side) x i)
    here (inl z) = inr (inl ((own i h).0 z))
    here (inr z) = inr (inr ((from i h).0 z))

    to : (bit a i ≡ true) ⊎ (bit s i ≡ true) → Above t P R d x i ⊎ (Own t P R d x i ⊎ FromChild t P R d (not side) x i)
    to (inl z) = inl ((above i h).0 z)
    to (inr z) = here ((union_iff o f s one i).0 z)

    back : Above t P R d x i ⊎ (Own t P R d x i ⊎ FromChild t P R d (not side) x i) → (bit a i ≡ true) ⊎ (bit s i ≡ true)
    back (inl z) = inl ((above i h).1 z)
    back (inr (inl z)) = inr ((union_iff o f s one i).1 (inl ((own i h).1 z)))
    back (inr (inr z)) = inr ((union_iff o f s one i).1 (inr ((from i h).1 z)))

-- what comes from a side, when all nodes have handed up
side_found : {P R : XPath} {t : Tree} {d : List ℕ} {x : ℕ} (n : ℕ) (p : List ℕ) → Sides P R t d n p 0 → Skeleton t d x → (side : Bool) → Exactly (word p n (inward side) x) (FromChild t P R d side x)
side_found n p s k side i h = (λ e. ((s side _ k i h).0 e).0, λ f. (s side _ k i h).1 (f, omega arith))

pub outside_found : {m : Machine} {n r x c : ℕ} {p : List ℕ} (a o f s w : ℕ) → x < n → a ≡ word p n ABOVE x
    → ((P R : XPath) (t : Tree) (d : List ℕ) → Ready P R t m n p → Ranks t d n r p → Exactly o (Own t P R d x))
    → ((word p n LEFT x ≡ c) × (f ≡ word p n RIGHTIN x)) ⊎ ((word p n LEFT x ≢ c) × (f ≡ word p n LEFTIN x))
    → ((i : ℕ) → bit s i ≡ or (bit o i) (bit f i)) → ((i : ℕ) → bit w i ≡ or (bit a i) (bit s i)) → Outside m n r x c w p
outside_found {m} {n} {r} {x} {c} {p} a o f s w node same own beside one two = record {
  found = λ P R t d ready group sides above side y l child under e.
      out_exactly ready.stage.formed a o f s w child under e (subst (λ (z : ℕ). Exactly z (Above t P R d x)) (sym same) above) (own P R t d ready group.ranks)
      (go P R t d group sides e.top side child beside) one two;
}
  where
    go : (P R : XPath) (t : Tree) (d : List ℕ) → Group t d n r p → Sides P R t d n p 0 → Skeleton t d x → (side : Bool) → Child t side x c
        → ((word p n LEFT x ≡ c) × (f ≡ word p n RIGHTIN x)) ⊎ ((word p n LEFT x ≢ c) × (f ≡ word p n LEFTIN x)) → Exactly f (FromChild t P R d (not side) x)
    go P R t d group sides k side child (inl (h, e)) =
        subst (λ z. Exactly f (FromChild t P R d (not z) x)) (sym (on_left group node child h)) (subst (λ (z : ℕ). Exactly z (FromChild t P R d false x)) (sym e) (side_found n p sides k false))
    go P R t d group sides k side child (inr (h, e)) =
        subst (λ z. Exactly f (FromChild t P R d (not z) x)) (sym (on_right group node child h)) (subst (λ (z : ℕ). Exactly z (FromChild t P R d true x)) (sym e) (side_found n p sides k true))
