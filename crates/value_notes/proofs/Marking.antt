-- The columns of the texts and of the values: what is told of a node is told from its own entry and from the nodes behind it.
use Prim.Native.Nat.{ℕ, suc, ◌-◌, ◌≤◌, ◌<◌}
use mathlib.Core.Path.{◌≡◌, sym, ap, ◌∙◌, subst, subst₂}
use mathlib.Core.Logic.{◌⊎◌, ◌≢◌, inl, inr}
use mathlib.Core.Bool.{Bool, true, false}
use mathlib.Core.List.{List, [], ◌∷◌}
use lib.ListN.{get_or}
use native.Mathlib.Omega.{arith}
use native.Mathlib.Decide.{ℕ_discrete}
use Rattle.limits.specs.Limits.{word_values}
use Rattle.xpath.specs.Tree.{Child}
use Rattle.lists.specs.Lists.{All}
use Rattle.document_spec.specs.Library.{Node}
use Rattle.document_spec.specs.Binary.{tree_of}
use Rattle.document_spec.specs.Verdict.{Accepts}
use Rattle.document_spec.specs.Intervals.{End}
use Rattle.document_spec.proofs.Intervals.{end_of}
use Rattle.layout.specs.Ranking.{FIRST_TEXT, LAST_TEXT}
use Rattle.layout.specs.Values.{LOW, HIGH, LENGTH, BLANKS, NEXT}
use Rattle.layout.specs.Table.{LEFT, RIGHT, column}
use Rattle.layout.specs.Words.{NONE, cell, word, Wrote}
use Rattle.layout.proofs.Cells.{wrote_then}
use Rattle.layout.proofs.Frames.{within_none, within_then, within_more}
use Rattle.table.specs.Links.{Points}
use Rattle.table.specs.Tabled.{Tabled, Worked}
use Rattle.table.proofs.Trees.{tree_size, tree_linked, tree_small}
use Rattle.table.proofs.Worked.{worked_tree}
use Rattle.texts.specs.Texts.{Bounds, Extent, Content}
use Rattle.value_notes.specs.Values.{Inner, Next}
use Rattle.value_notes.specs.Notes.{note_at, noted, Valued, Marked, Seen, Noted}
use Rattle.value_notes.specs.declared.notes.Note.{Note}
use Rattle.value_notes.proofs.Extents.{node_in, left_extent, right_extent}
use Rattle.texts.proofs.Bounds.{bounds_small}
use Rattle.value_notes.proofs.Columns.{note_same, note_written, noted_confined}
use Rattle.value_notes.proofs.Nexts.{next_none}

-- ── The children ──
module _ {s : List ℕ} {n v : ℕ} {t : List ℕ} (h : Tabled s n t) (l : v < n) (ns : List Node) (a : Accepts s ns) where
  -- a child's word points to it
  child_is : (side : Bool) {x : ℕ} → x ≡ word t n (column side) v → Points (Child (tree_of ns) side v) x
  child_is side e =
      let m = tree_size h ns a in
      subst (λ x. Points (Child (tree_of ns) side v) x) (ap (λ (k : ℕ). word t k (column side) v) m ∙ sym e) ((tree_linked h ns a).children side v (node_in h ns a l))

  -- its word is a node or no node
  pub child_word : (side : Bool) {x : ℕ} → x ≡ word t n (column side) v → (x < n) ⊎ (x ≡ NONE)
  child_word side {x} e = go (child_is side e)
    where
      go : Points (Child (tree_of ns) side v) x → (x < n) ⊎ (x ≡ NONE)
      go (inl c) = inl (subst (λ (k : ℕ). x < k) (tree_size h ns a) c.inside)
      go (inr k) = inr k.0

  -- what is inside a node: what is under its left child
  pub inner_of : {x f g : ℕ} → x ≡ word t n LEFT v → ((b c : ℕ) → suc v ≤ b → Extent ns x b c → Bounds ns b c f g) → Inner ns v f g
  inner_of p k =
      let (m, c, x) = left_extent a.legal (node_in h ns a l) (child_is true p) in
      record { end = m; content = c; bounds = k (suc v) m (omega arith) x }

  -- what is under it: itself, what is inside it, and what is under its right child
  pub under_node : {y e m : ℕ} → y ≡ word t n RIGHT v → Content ns v m → End ns v e → (suc v ≤ m) × (m ≤ e) × (e ≤ NONE) × Extent ns y m e
  under_node q c k =
      let (j, y) = right_extent a.legal (node_in h ns a l) (child_is false q) c k in
      let f = tree_small a in let o = k.within in
      (c.behind, j, omega arith, y)

-- ── The loop ──
-- the columns are behind the tree's own
pub noted_worked : {n : ℕ} {t t' : List ℕ} → Noted n t t' → Worked n t t'
noted_worked q = within_more (omega arith) (omega arith) q

-- the columns are filled from node v on, x is the first text from there on, and nothing else has changed
pub record Filling (s : List ℕ) (n v x : ℕ) (t₀ t : List ℕ) : Type 0 where
  pub within : v ≤ n
  pub marked : Marked s n v t
  pub noted : Noted n t₀ t
  pub next : (ns : List Node) → Accepts s ns → Next ns v x
  pub small : x < word_values

pub filling_none : {s : List ℕ} {n : ℕ} {t : List ℕ} → Tabled s n t → Filling s n n NONE t t
filling_none {n} {t} h =
    record {
      within = omega arith;
      marked = record { tabled = h; told = λ ns a v i l e d. absurd (omega arith); valued = λ ns a v i l. absurd (omega arith); next = λ ns a v i l. absurd (omega arith) };
      noted = within_none t;
      next = λ ns a. let e = tree_size h ns a in next_none ns (omega arith);
      small = omega arith;
    }

-- one node more, from the last to the first
pub filling_step : {s : List ℕ} {n v x y : ℕ} {t₀ t t' : List ℕ} → Filling s n v x t₀ t
    → Marked s n (v - 1) t' → Noted n t t' → ((ns : List Node) → Accepts s ns → Next ns (v - 1) y) → y < word_values → Filling s n (v - 1) y t₀ t'
filling_step g h q k r = let w = g.within in record { within = omega arith; marked = h; noted = within_then g.noted q; next = k; small = r }

-- ── A node ──
-- what is written for it in front of its note
abbrev ahead : ℕ → ℕ → ℕ → ℕ → ℕ → List (ℕ × ℕ)
ahead n v f l y = (cell n NEXT v, y) ∷ (cell n LAST_TEXT v, l) ∷ (cell n FIRST_TEXT v, f) ∷ []

pub ahead_wrote : (n v f l y : ℕ) {t t₁ t₂ t₃ : List ℕ} → v < n
    → Wrote ((cell n FIRST_TEXT v, f) ∷ []) t t₁ → Wrote ((cell n LAST_TEXT v, l) ∷ []) t₁ t₂ → Wrote ((cell n NEXT v, y) ∷ []) t₂ t₃ → Wrote (ahead n v f l y) t t₃
ahead_wrote n v f l y r p q z = wrote_then (wrote_then p (omega arith) q) (omega arith) z

ahead_confined : (n v f l y : ℕ) {t t' : List ℕ} → v < n → Wrote (ahead n v f l y) t t' → Noted n t t'
ahead_confined n v f l y r w = record { long = w.long; front = λ k h. w.other k (omega arith); behind = λ k h. w.other k (omega arith) }

pub marked_step : (n v f l y : ℕ) (x : Note) {s : List ℕ} {t t₁ t₂ : List ℕ} → Marked s n (suc v) t → v < n
    → ((ns : List Node) → Accepts s ns → Seen s ns v f l x) → ((ns : List Node) → Accepts s ns → Next ns (suc v) y)
    → Wrote (ahead n v f l y) t t₁ → Wrote (noted n v x) t₁ t₂ → Marked s n v t₂ × Noted n t t₂
marked_step n v f l y x {s} {t} {t₁} {t₂} h r g m p w = (
  record {
    tabled = worked_tree h.tabled (noted_worked kept);
    told = λ ns a u i j e d. texts ns a u i j e d (ℕ_discrete u v);
    valued = λ ns a u i j. value ns a u i j (ℕ_discrete u v);
    next = λ ns a u i j. next ns a u i j (ℕ_discrete u v);
  },
  kept,
)
  where
    kept : Noted n t t₂
    kept = within_then (ahead_confined n v f l y r p) (noted_confined n v x r w)

    same : (i : ℕ) → All (λ z. i ≢ z.0) (ahead n v f l y) → All (λ z. i ≢ z.0) (noted n v x) → get_or t i 0 ≡ get_or t₂ i 0
    same i a b = sym (w.other i b ∙ p.other i a)

    texts : (ns : List Node) → Accepts s ns → (u : ℕ) → v ≤ u → u < n → (e : ℕ) → End ns u e → Dec (u ≡ v) → Bounds ns u e (word t₂ n FIRST_TEXT u) (word t₂ n LAST_TEXT u)
    texts ns a u i j e d (yes z) =
        subst (λ x. Bounds ns x e (word t₂ n FIRST_TEXT x) (word t₂ n LAST_TEXT x)) (sym z)
        (subst₂ (λ x y. Bounds ns v e x y)
        (sym (w.other (cell n FIRST_TEXT v) (omega arith) ∙ p.here.1.1.0))
        (sym (w.other (cell n LAST_TEXT v) (omega arith) ∙ p.here.1.0)) ((g ns a).texts e (subst (λ x. End ns x e) z d)))
    texts ns a u i j e d (no z) =
        subst₂ (λ x y. Bounds ns u e x y)
        (same (cell n FIRST_TEXT u) (omega arith) (omega arith))
        (same (cell n LAST_TEXT u) (omega arith) (omega arith))
        (h.told ns a u (omega arith) j e d)

    value : (ns : List Node) → Accepts s ns → (u : ℕ) → v ≤ u → u < n → Dec (u ≡ v) → Valued s ns u (note_at t₂ n u)
    value ns a u i j (yes z) = subst (λ y. Valued s ns y (note_at t₂ n y)) (sym z) (subst (λ y. Valued s ns v y) (sym (note_written n v x w)) (g ns a).value)
    value ns a u i j (no z) =
        subst (λ y. Valued s ns u y)
        (note_same t t₂ n u
        (same (cell n LOW u) (omega arith) (omega arith))
        (same (cell n HIGH u) (omega arith) (omega arith))
        (same (cell n LENGTH u) (omega arith) (omega arith))
        (same (cell n BLANKS u) (omega arith) (omega arith)))
        (h.valued ns a u (omega arith) j)

    next : (ns : List Node) → Accepts s ns → (u : ℕ) → v ≤ u → u < n → Dec (u ≡ v) → Next ns (suc u) (word t₂ n NEXT u)
    next ns a u i j (yes z) =
        subst (λ x. Next ns (suc x) (word t₂ n NEXT x)) (sym z)
        (subst (λ x. Next ns (suc v) x) (sym (w.other (cell n NEXT v) (omega arith) ∙ p.here.0)) (m ns a))
    next ns a u i j (no z) = subst (λ x. Next ns (suc u) x) (same (cell n NEXT u) (omega arith) (omega arith)) (h.next ns a u (omega arith) j)

-- it fits in a word
pub told_small : {s : List ℕ} {n v f l : ℕ} {x : Note} {t : List ℕ} → Tabled s n t → v < n
    → ((ns : List Node) → Accepts s ns → Seen s ns v f l x) → (f ≤ NONE) × (l ≤ NONE)
told_small {v} h r g =
    let ns = h.nodes in let size = h.size in let few = h.accepts.legal.few in
    let (e, d) = end_of ns v (omega arith) in let w = d.within in
    bounds_small ns {b = e} (omega arith) ((g ns h.accepts).texts e d)
