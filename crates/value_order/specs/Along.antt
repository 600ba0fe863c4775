-- A cursor that moves over the bytes of a value, and two cursors side by side. The second may be over another byte string, a constant's.
use Rattle.std.specs.Prelude.{ℕ, ◌+◌, ◌≤◌, ◌<◌, ◌≡◌, List, [], ◌++◌}
use Rattle.std.proofs.Math.Seq.{slice}
use Rattle.document_spec.specs.Library.{Node}
use Rattle.values.specs.declared.Reading.{Reading}
use Rattle.values.specs.Comes.{Comes, weight}
use Rattle.std.specs.declared.cmp.Ordering.{Ordering}
use Rattle.string_order.specs.Ordered.{Ordered}
use Rattle.std.specs.declared.ops.ControlFlow.{ControlFlow}
use Rattle.std.specs.declared.ops.ControlFlow.TheVariants.{Break, Continue}

-- ── One cursor ──
-- c has the bytes bs to come, and one of them at hand if there is one
pub record Ready (s : List ℕ) (ns : List Node) (c : Reading) (bs : List ℕ) : Type 0 where
  pub comes : Comes s ns c bs
  pub empty : c.to ≤ c.from → bs ≡ []

-- of the bytes bs that c has to come the first k are passed, and r has the others to come
pub record Moved (s : List ℕ) (ns : List Node) (c : Reading) (k : ℕ) (bs : List ℕ) (r : Reading) : Type 0 where
  pub rest : List ℕ
  pub whole : bs ≡ slice c.from (c.from + k) s ++ rest
  pub comes : Comes s ns r rest
  pub lighter : weight s r + k ≡ weight s c
  pub node : r.node ≡ c.node
  pub last : r.last ≡ c.last

-- ── Two cursors ──
-- bs and cs compare as xs and ys do
abbrev pub Decides : List ℕ → List ℕ → List ℕ → List ℕ → Type 0
Decides bs cs xs ys = (o : Ordering) → Ordered xs ys o → Ordered bs cs o

-- what x and y have to come decides how bs and cs compare
pub record Along (s c : List ℕ) (ns : List Node) (bs cs : List ℕ) (x y : Reading) : Type 0 where
  pub left : List ℕ
  pub right : List ℕ
  pub left_comes : Comes s ns x left
  pub right_comes : Comes c ns y right
  pub decides : Decides bs cs left right

-- the next k bytes are at hand at both, and are the same
pub record Shared (s : List ℕ) (x : Reading) (c : List ℕ) (y : Reading) (k : ℕ) : Type 0 where
  pub some : 0 < k
  pub left : x.from + k ≤ x.to
  pub right : y.from + k ≤ y.to
  pub same : slice x.from (x.from + k) s ≡ slice y.from (y.from + k) c

-- what is at hand decides, or so many bytes are the same
abbrev pub Looked : List ℕ → Reading → List ℕ → Reading → ControlFlow Ordering ℕ → Type 0
Looked s x c y (Break o) = (ns : List Node) (bs cs : List ℕ) → Ready s ns x bs → Ready c ns y cs → Ordered bs cs o
Looked s x c y (Continue k) = Shared s x c y k
