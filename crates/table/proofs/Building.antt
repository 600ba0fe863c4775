-- The loop of the build: its invariant, and what a step of it asks and gives.
use Prim.Native.Nat.{ℕ, zero, suc, ◌*◌, ◌≤◌, ◌<◌}
use mathlib.Core.Path.{◌≡◌, sym, ◌∙◌, subst, subst₂}
use mathlib.Core.List.{List}
use lib.ListN.{length}
use lib.Dec.{ltb}
use native.Mathlib.Omega.{arith}
use Rattle.document_spec.specs.Library.{Node}
use Rattle.document_spec.specs.Verdict.{Accepts}
use Rattle.document_spec.proofs.Accepted.{accepts_one}
use Rattle.document_lines.specs.declared.entries.Entry.{Entry}
use Rattle.document_lines.specs.Entries.{Start, Stands, IsEntry}
use Rattle.layout.specs.Table.{COLUMNS, LAST, Room}
use Rattle.layout.specs.Words.{NONE, word, Wrote, Kept}
use Rattle.layout.proofs.Frames.{frame_none, frame_then}
use Rattle.table.specs.Writes.{entered, hung, parent_by}
use Rattle.table.specs.Links.{Built}
use Rattle.table.proofs.Cells.{hung_kept}
use Rattle.table.proofs.Upto.{Upto, upto_root, above_below, last_below, shallow_by, upto_step, upto_all}

-- r is the entry of the node whose lines stand at an offset
abbrev pub Reads : List ℕ → ℕ → Entry → Type 0
Reads s at r = (ns : List Node) (v : ℕ) → Stands s ns v at → IsEntry s ns v r

-- the document has n nodes, those below v are entered, and nothing behind the table was written
pub record Building (s : List ℕ) (n v at d : ℕ) (t₀ t : List ℕ) : Type 0 where
  pub nodes : List Node
  pub accepts : Accepts s nodes
  pub size : length nodes ≡ n
  pub some : 0 < v
  pub inside : v ≤ n
  pub room : Room n t
  pub kept : Kept (COLUMNS * n) t₀ t
  pub upto : Upto s nodes n v at d t

-- ── The first node ──
module _ {s : List ℕ} {ns : List Node} {at : ℕ} (a : Accepts s ns) (first : Start s ns at) where
  pub first_stands : Stands s ns 0 at
  first_stands = record { accepts = a; node = a.legal.some; start = first }

  pub building_root : {n : ℕ} {t t' : List ℕ} {r : Entry} → length ns ≡ n → Room n t → Reads s at r
      → Wrote (entered n 0 at 0 NONE) t t' → Building s n 1 r.next 0 t' t'
  building_root {n} {t} {t'} {r} size room entry w =
      record {
        nodes = ns;
        accepts = a;
        size = size;
        some = omega arith;
        inside = let l = a.legal.some in omega arith;
        room = let l = w.long in omega arith;
        kept = frame_none t';
        upto = upto_root a size at r.next t t' first (entry ns 0 first_stands).behind w;
      }

-- ── The node v ──
pub stands : {s : List ℕ} {n v at b : ℕ} {t₀ t : List ℕ} (h : Building s n v at b t₀ t) → v < n → Stands s h.nodes v at
stands h r = record { accepts = h.accepts; node = let e = h.size in omega arith; start = h.upto.start }

-- offsets and numbers of nodes are small, and the last node of v's depth stands before v
pub step_asks : {s : List ℕ} {n v at b : ℕ} {t₀ t : List ℕ} {r : Entry} → Building s n v at b t₀ t → v < n → Reads s at r
    → (0 < v) × (v < n) × (n < 65_536) × Room n t × (at < 65_536 * 65_536) × (r.depth < n) × (r.depth ≤ b → word t n LAST r.depth < v)
step_asks {v = zero} h l entry = let z = h.some in absurd (omega arith)
step_asks {n} {v = suc v} {at} {b} {t} {r} h l entry =
    let e = entry h.nodes (suc v) (stands h l) in let few = h.accepts.legal.few in let size = h.size in
    let i = h.upto.start.inside in let short = h.accepts.short in (
      omega arith,
      l,
      omega arith,
      h.room,
      omega arith,
      shallow_by h.accepts h.size v at r.depth b t l e.depth h.upto,
      last_below h.accepts h.size v at r.depth b t l e.depth h.upto,
    )

pub building_step : {s : List ℕ} {n v at b : ℕ} {t₀ t t' : List ℕ} {r : Entry} → Building s n v at b t₀ t → v < n → Reads s at r
    → Wrote (hung n v at r.depth (ltb b r.depth) (parent_by t n v r.depth (ltb b r.depth))) t t'
    → Building s n (suc v) r.next r.depth t₀ t'
building_step {v = zero} h l entry w = let z = h.some in absurd (omega arith)
building_step {n} {v = suc v} {at} {b} {t} {t'} {r} h l entry w =
    let e = entry h.nodes (suc v) (stands h l) in let d = r.depth in
    let u : parent_by t n (suc v) d (ltb b d) < n = let k = above_below h.accepts h.size v at d b t l e.depth h.upto in omega arith in
    record {
      nodes = h.nodes;
      accepts = h.accepts;
      size = h.size;
      some = omega arith;
      inside = l;
      room = let k = w.long in let q = h.room in omega arith;
      kept = frame_then h.kept (hung_kept n (suc v) at d (parent_by t n (suc v) d (ltb b d)) l (step_asks h l entry).5 (ltb b d) u w);
      upto = upto_step h.accepts h.size v at d b t l e.depth h.upto r.next t' e.behind w;
    }

-- ── Behind the last node ──
pub building_all : {s : List ℕ} {n v at b : ℕ} {t₀ t₁ t : List ℕ} → Kept (COLUMNS * n) t₀ t₁ → Building s n v at b t₁ t → n ≤ v
    → (ns : List Node) → Accepts s ns → Built s ns t₀ t
building_all {s} {n} {v} {at} {b} {t₀} {t} k h r ns a =
    let same = accepts_one s h.nodes ns h.accepts a in
    let end : v ≡ n = let l = h.inside in omega arith in
    subst (λ ms. Built s ms t₀ t) same
    (record {
      linked = upto_all (subst₂ (λ m i. Upto s h.nodes m i at b t) (sym h.size) (end ∙ sym h.size) h.upto);
      kept = subst (λ m. Kept (COLUMNS * m) t₀ t) (sym h.size) (frame_then k h.kept);
    })
