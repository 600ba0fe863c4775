-- A walk of the machine over the links is a chain of following positions over the tree.
use Prim.Native.Nat.{ℕ, ◌<◌}
use mathlib.Core.Path.{◌≡◌, ◌∙◌, subst}
use mathlib.Core.Logic.{◌⊎◌, inl, inr, ◌↔◌}
use mathlib.Core.Bool.{Bool, true, false}
use mathlib.Core.List.{List, ◌++◌}
use lib.ListN.{length-append}
use native.Mathlib.Omega.{arith}
use Rattle.xpath.specs.Syntax.{XPath, Step, to_left, to_right, from_left, from_right, stay, steps}
use Rattle.xpath.specs.Tree.{Tree, Child, WellFormed}
use Rattle.xpath.specs.Meaning.{Moves}
use Rattle.xpath.proofs.Trees.{child_after, one_child}
use Rattle.positions.specs.Positions.{Comes, Ends}
use Rattle.positions.proofs.Runs.{num_in}
use Rattle.layout.specs.Table.{PARENT, column}
use Rattle.layout.specs.Words.{NONE, word}
use Rattle.table.specs.Links.{Points}
use Rattle.machine.specs.declared.Machine.{Machine}
use Rattle.machine.specs.Walks.{Leads, Walk, Stops}
use Rattle.machine.specs.Meaning.{IsStep, IsMachine, Drawn}

-- ── A walk stays on the nodes ──
module _ {m : Machine} {n : ℕ} {p : List ℕ} where
  leads_inside : {v j u : ℕ} → v < n → Leads m n p v j u → u < n
  leads_inside r (Leads.left b e q) = q
  leads_inside r (Leads.right b e q) = q
  leads_inside r (Leads.from_left b e q f) = q
  leads_inside r (Leads.from_right b e q f) = q
  leads_inside r (Leads.stays b e) = omega arith

  pub walk_inside : {i v j w : ℕ} → v < n → Walk m n p i v j w → w < n
  walk_inside r Walk.here = r
  walk_inside r (Walk.on l b s h) = walk_inside (leads_inside r s) h

module _ {P R : XPath} {t : Tree} {n : ℕ} {p : List ℕ} {m : Machine} (wf : WellFormed t) (machine : IsMachine P R m) (drawn : Drawn P R t n p) where
  -- ── Links ──
  pub child_inside : {side : Bool} {v u : ℕ} → Child t side v u → u < n
  child_inside c = omega arith

  -- a link holds the child on its side
  pub link_child : (side : Bool) (v u : ℕ) → v < n → u < n → (word p n (column side) v ≡ u) ↔ Child t side v u
  link_child side v u r q = (to (drawn.children side v r), from (drawn.children side v r))
    where
      to : Points (Child t side v) (word p n (column side) v) → word p n (column side) v ≡ u → Child t side v u
      to (inl c) e = subst (λ x. Child t side v x) e c
      to (inr (none, f)) e = absurd (omega arith)

      from : Points (Child t side v) (word p n (column side) v) → Child t side v u → word p n (column side) v ≡ u
      from (inl c) k = one_child wf side c k
      from (inr (none, f)) k = absurd (f u k)

  parent_inside : {side : Bool} {v u : ℕ} → Child t side u v → u < n
  parent_inside c = let h = child_after wf c in omega arith

  pub parent_word : {side : Bool} (v u : ℕ) → Child t side u v → word p n PARENT v ≡ u
  parent_word v u c = go (drawn.parents v (child_inside c))
    where
      go : ((v ≡ 0) × (word p n PARENT v ≡ NONE)) ⊎ ((0 < v) × (word p n PARENT v ≡ t.parent v)) → word p n PARENT v ≡ u
      go (inl (e, none)) = absurd (omega arith)
      go (inr (h, e)) = e ∙ c.above

  -- ── Steps ──
  -- a step's number is a position of a row
  pub step_few : (j : ℕ) (s : Step) → IsStep P R j s → j < 16
  step_few j s a = let h = num_in (steps P ++ steps R) 1 j s a in omega (arith, length-append (steps P) (steps R))

  -- the words lead from v to u by j where step j moves from v to u
  leads_moves : (v j u : ℕ) → j < 16 → v < n → Leads m n p v j u → (s : Step) × IsStep P R j s × Moves t s v u
  leads_moves v j u l r (Leads.left b e q) = (to_left, (machine.left j l).0 b, (link_child true v u r q).0 e)
  leads_moves v j u l r (Leads.right b e q) = (to_right, (machine.right j l).0 b, (link_child false v u r q).0 e)
  leads_moves v j u l r (Leads.from_left b e q f) = (from_left, (machine.from_left j l).0 b, (link_child true u v q r).0 f)
  leads_moves v j u l r (Leads.from_right b e q f) = (from_right, (machine.from_right j l).0 b, (link_child false u v q r).0 f)
  leads_moves v j u l r (Leads.stays b e) = let (T, a, h) = (drawn.tests v j r l).0 b in (stay T, a, (e, h))

  moves_leads : (s : Step) (v j u : ℕ) → j < 16 → v < n → IsStep P R j s → Moves t s v u → Leads m n p v j u
  moves_leads to_left v j u l r a c = let q = child_inside c in Leads.left ((machine.left j l).1 a) ((link_child true v u r q).1 c) q
  moves_leads to_right v j u l r a c = let q = child_inside c in Leads.right ((machine.right j l).1 a) ((link_child false v u r q).1 c) q
  moves_leads from_left v j u l r a c =
      let q = parent_inside c in Leads.from_left ((machine.from_left j l).1 a) (parent_word v u c) q ((link_child true u v q r).1 c)
  moves_leads from_right v j u l r a c =
      let q = parent_inside c in Leads.from_right ((machine.from_right j l).1 a) (parent_word v u c) q ((link_child false u v q r).1 c)
  moves_leads (stay T) v j u l r a (e, h) = Leads.stays ((drawn.tests v j r l).1 (T, a, h)) e

  -- ── Walks ──
  to_comes : (i v j w : ℕ) → i < 16 → v < n → Walk m n p i v j w → Comes P R t i v j w
  to_comes i v j w l r Walk.here = Comes.here
  to_comes i v k w l r (Walk.on {j = j} {u = u} q b s h) =
      let (x, a, c) = leads_moves v j u q r s in
      Comes.on x ((machine.rows i j l q).0 b) a c (to_comes j u k w q (leads_inside r s) h)

  from_comes : (i v j w : ℕ) → i < 16 → v < n → Comes P R t i v j w → Walk m n p i v j w
  from_comes i v j w l r Comes.here = Walk.here
  from_comes i v k w l r (Comes.on {j = j} {u = u} x f a c h) =
      let q = step_few j x a in let s = moves_leads x v j u q r a c in
      Walk.on q ((machine.rows i j l q).1 f) s (from_comes j u k w q (leads_inside r s) h)

  -- a machine's walk is a chain of the paths; only the way back needs the tree to be well-formed
  pub walk_comes : (i v j w : ℕ) → i < 16 → v < n → Walk m n p i v j w ↔ Comes P R t i v j w
  walk_comes i v j w l r = (to_comes i v j w l r, from_comes i v j w l r)

  -- it stops where a chain ends
  pub stops_ends : (i v w : ℕ) → i < 16 → v < n → Stops m n p i v w ↔ Ends P R t i v w
  stops_ends i v w l r = (to, from)
    where
      to : Stops m n p i v w → Ends P R t i v w
      to (j, a, h) = (j, (machine.last j).0 a, to_comes i v j w l r h)

      from : Ends P R t i v w → Stops m n p i v w
      from (j, a, h) = (j, (machine.last j).1 a, from_comes i v j w l r h)
