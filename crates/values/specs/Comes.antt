-- What is still to come of a compared value from a cursor on.
use Rattle.std.specs.Prelude.{ℕ, ◌+◌, ◌-◌, ◌*◌, ◌≤◌, ◌<◌, ◌≡◌, ◌⊎◌, List, [], ◌++◌, length}
use Rattle.std.proofs.Math.Seq.{slice}
use Rattle.document_spec.specs.Library.{Node}
use Rattle.document_spec.specs.Binary.{compared_of}
use Rattle.layout.specs.Words.{NONE}
use Rattle.value_notes.specs.Values.{up_to, Speaks, Several}
use Rattle.values.specs.declared.Reading.{Reading}

-- the bytes at hand
abbrev pub at_hand : List ℕ → Reading → List ℕ
at_hand s r = slice r.from r.to s

-- and then what comes behind the text of `node` up to that of `last`
pub record Goes (s : List ℕ) (ns : List Node) (r : Reading) (bs : List ℕ) : Type 0 where
  pub order : r.node < r.last
  pub inside : r.last < length ns
  pub ends : Speaks ns r.last
  pub whole : at_hand s r ++ up_to ns r.node r.last ≡ bs

-- the bytes bs are still to come: those at hand, and no text behind them or some
pub record Comes (s : List ℕ) (ns : List Node) (r : Reading) (bs : List ℕ) : Type 0 where
  pub within : r.to ≤ length s
  pub rest : ((r.node ≡ r.last) × (at_hand s r ≡ bs)) ⊎ Goes s ns r bs

-- r is at the beginning of the compared value of node v, and tells by its nodes whether that lies in one span
pub record Opens (s : List ℕ) (ns : List Node) (v : ℕ) (r : Reading) : Type 0 where
  pub comes : Comes s ns r (compared_of ns v)
  pub order : r.from ≤ r.to
  pub alone : r.last ≤ r.node → r.node ≡ NONE
  pub several : r.node < r.last → Several ns v r.node r.last

-- what falls with every byte read and every text passed
abbrev pub weight : List ℕ → Reading → ℕ
weight s r = (r.to - r.from) + (length s + 1) * (r.last - r.node)

-- r has the same bytes to come as c, and one of them at hand, further on
pub record Further (s : List ℕ) (ns : List Node) (c : Reading) (bs : List ℕ) (r : Reading) : Type 0 where
  pub comes : Comes s ns r bs
  pub some : r.from < r.to
  pub lighter : weight s r < weight s c

-- r has the same bytes to come as c, and one of them at hand if there is one
pub record Filled (s : List ℕ) (ns : List Node) (c : Reading) (bs : List ℕ) (r : Reading) : Type 0 where
  pub comes : Comes s ns r bs
  pub lighter : weight s r ≤ weight s c
  pub empty : r.to ≤ r.from → bs ≡ []
