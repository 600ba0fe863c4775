-- What a comparison of two strings answers, and how far two strings agree.
use Rattle.std.specs.Prelude.{ℕ, ◌≤◌, ◌<◌, ◌≡◌, ◌≢◌, List, length, get_or, take}
use Rattle.string_order.specs.Bytes as Bytes
use Rattle.std.specs.declared.cmp.Ordering.{Ordering}
use Rattle.std.specs.declared.cmp.Ordering.TheVariants.{Less, Equal, Greater}

abbrev pub Ordered : List ℕ → List ℕ → Ordering → Type 0
Ordered bs cs Less = Bytes.Less bs cs
Ordered bs cs Equal = bs ≡ cs
Ordered bs cs Greater = Bytes.Less cs bs

-- the first k bytes of both are the same
abbrev pub Common : List ℕ → List ℕ → ℕ → Type 0
Common x y k = (m : ℕ) → m < k → get_or x m 0 ≡ get_or y m 0

-- the bytes that are looked at together
abbrev pub block : ℕ
block = 16

-- of two strings of one length, at least the first k bytes are the same
pub record Begins (x y : List ℕ) (k : ℕ) : Type 0 where
  pub within : k ≤ length x
  pub common : Common x y k

-- of two strings of one length the first k bytes are the same, and the next one, if there is one, is not
pub record Agrees (x y : List ℕ) (k : ℕ) : Type 0 where
  pub within : k ≤ length x
  pub same : take k x ≡ take k y
  pub differ : k < length x → get_or x k 0 ≢ get_or y k 0
