-- The attributes of an element, by the depths of the nodes: 02, (d).
use Rattle.std.specs.Prelude.{ℕ, suc, ◌<◌, ◌≡◌, List, length}
use Rattle.document_spec.specs.Library.{Node, element, attribute, at}

-- v is an attribute and a child of the element e: one deeper, and no node in between is as shallow as e
pub record AttributeOf (ns : List Node) (e v : ℕ) : Type 0 where
  pub before : e < v
  pub inside : v < length ns
  pub kind : (at ns v).kind ≡ attribute
  pub owner : (at ns e).kind ≡ element
  pub depth : (at ns v).depth ≡ suc (at ns e).depth
  pub between : (u : ℕ) → e < u → u < v → (at ns e).depth < (at ns u).depth
