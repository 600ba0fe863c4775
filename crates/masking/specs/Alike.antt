-- Two well-formed trees of one shape and with the same labels, whose values no sign tells apart: what `Masked` supposes of two libraries, said of their trees, and of constants c with C c.
use Rattle.std.specs.Prelude.{ℕ, ◌<◌, ◌≡◌, List}
use Rattle.lists.specs.Blanks.{trim}
use Rattle.lists.specs.Lists.{Occurs}
use Rattle.xpath.specs.Tree.{Tree, WellFormed}
use Rattle.masking.specs.Masking.{SameSigns}

pub record Alike (C : List ℕ → Type 0) (t t' : Tree) : Type 0 where
  pub formed : WellFormed t
  pub formed' : WellFormed t'
  pub size : t.size ≡ t'.size
  pub parent : (v : ℕ) → v < t.size → t.parent v ≡ t'.parent v
  pub is_left : (v : ℕ) → v < t.size → t.is_left v ≡ t'.is_left v
  pub label : (v : ℕ) → v < t.size → t.label v ≡ t'.label v
  pub values : (v w : ℕ) → v < t.size → w < t.size → SameSigns (t.value v) (t.value w) (t'.value v) (t'.value w)
  pub against : (v : ℕ) → v < t.size → (c : List ℕ) → C c → SameSigns (t.value v) (trim c) (t'.value v) (trim c)

-- all of these constants are C
abbrev pub Within : (List ℕ → Type 0) → List (List ℕ) → Type 0
Within C cs = (c : List ℕ) → Occurs c cs → C c
