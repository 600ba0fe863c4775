-- A library is legal if each node fits, each is rightly placed behind the one before it, and the attributes of each element have different labels.
use Prim.Native.Nat.{ℕ, zero, suc, ◌≤◌, ◌<◌}
use mathlib.Core.Path.{◌≡◌}
use mathlib.Core.Logic.{◌≢◌}
use mathlib.Core.List.{List, [], ◌∷◌}
use native.Mathlib.Omega.{arith}
use lib.ListN.{length}
use Rattle.limits.specs.Limits.{document_nodes}
use Rattle.lists.specs.Lists.{All}
use Rattle.limits.specs.Names.{Name}
use Rattle.document_spec.specs.Library.{Node, element, attribute, at, Value, DepthBehind, KindBehind, LabelRule, ValueRule, DifferentLabels, Legal}

pub record Fits (x : Node) : Type 0 where
  pub name : Name x.label
  pub bound : Value x.value
  pub labelled : LabelRule x.kind x.label
  pub empty : ValueRule x.kind x.value

pub record Behind (x y : Node) : Type 0 where
  pub depth : DepthBehind x.depth x.kind y.depth
  pub kind : KindBehind x.depth x.kind y.depth y.kind

abbrev pub Chain : Node → List Node → Type 0
Chain x [] = Unit {0}
Chain x (y ∷ ns) = Behind x y × Chain y ns

all_at : (ns : List Node) → All Fits ns → (v : ℕ) → v < length ns → Fits (at ns v)
all_at [] h v l = absurd (omega arith)
all_at (x ∷ ns) h zero l = h.0
all_at (x ∷ ns) h (suc v) l = all_at ns h.1 v (omega arith)

chain_at : (x : Node) (ns : List Node) → Chain x ns → (v : ℕ) → suc v < length (x ∷ ns) → Behind (at (x ∷ ns) v) (at (x ∷ ns) (suc v))
chain_at x [] h v l = absurd (omega arith)
chain_at x (y ∷ ns) h zero l = h.0
chain_at x (y ∷ ns) h (suc v) l = chain_at y ns h.1 v (omega arith)

-- where no attribute is right behind another, no two are of one element
pub distinct_alone : (ns : List Node) → ((v : ℕ) → suc v < length ns → (at ns v).kind ≡ attribute → (at ns (suc v)).kind ≢ attribute) → DifferentLabels ns
distinct_alone ns h u w l t = let b = t.before in absurd (h u (omega arith) (t.all u (omega arith) (omega arith)) (t.all (suc u) (omega arith) (omega arith)))

pub legal_chain : (x : Node) (ns : List Node) → length (x ∷ ns) ≤ document_nodes → x.depth ≡ 0 → x.kind ≡ element
    → All Fits (x ∷ ns) → Chain x ns → DifferentLabels (x ∷ ns) → Legal (x ∷ ns)
legal_chain x ns l d k f c u = record {
  some = omega arith;
  few = l;
  names = λ v i. (all_at (x ∷ ns) f v i).name;
  values = λ v i. (all_at (x ∷ ns) f v i).bound;
  top = d;
  rooted = k;
  depths = λ v i. (chain_at x ns c v i).depth;
  kinds = λ v i. (chain_at x ns c v i).kind;
  labelled = λ v i. (all_at (x ∷ ns) f v i).labelled;
  empties = λ v i. (all_at (x ∷ ns) f v i).empty;
  distinct = u;
}
