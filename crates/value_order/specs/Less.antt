-- Comparison as a test: a smaller string, and a node with a smaller value.
use Rattle.std.specs.Prelude.{ℕ, Bool, List}
use Rattle.string_order.specs.Bytes.{lessb}
use Rattle.document_spec.specs.Library.{Node}
use Rattle.document_spec.specs.Binary.{compared_of}

-- bs is smaller than cs
unfoldable pub is_less : List ℕ → List ℕ → Bool
is_less bs cs = lessb bs cs

-- node w has a smaller value than node v
abbrev pub is_smaller : List Node → ℕ → ℕ → Bool
is_smaller ns v w = is_less (compared_of ns w) (compared_of ns v)
