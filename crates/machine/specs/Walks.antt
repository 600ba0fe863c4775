-- Walks of a machine over the links in a part: what `Comes` and `Ends` say of a comparison, said of words.
use Rattle.std.specs.Prelude.{ℕ, ◌≤◌, ◌<◌, ◌≡◌, ◌≢◌, true, List, get_or}
use Rattle.lists.specs.Lists.{AtLeast}
use Rattle.limits.specs.Limits.{positions}
use Rattle.bits.specs.Sets.{bit}
use Rattle.xpath.specs.Syntax.{Op, eq, ne, lt, le, gt, ge}
use Rattle.layout.specs.Part.{STAYS, HIT}
use Rattle.layout.specs.Table.{LEFT, RIGHT, PARENT, RANK}
use Rattle.layout.specs.Words.{word}
use Rattle.machine.specs.declared.Machine.{Machine}

-- the six signs between ranks
abbrev pub Compares : Op → ℕ → ℕ → Type 0
Compares eq a b = a ≡ b
Compares ne a b = a ≢ b
Compares lt a b = a < b
Compares le a b = a ≤ b
Compares gt a b = b < a
Compares ge a b = b ≤ a

-- a sign between two words: both are ranks of the n nodes, and the sign stands between them; a word that is not below n is no rank
abbrev pub Signed : Op → ℕ → ℕ → ℕ → Type 0
Signed o n a b = (a < n) × (b < n) × Compares o a b

module _ (m : Machine) (n : ℕ) (p : List ℕ) where
  -- step j leads from v to u
  pub data Leads (v j u : ℕ) : Type 0 where
    left : bit m.left j ≡ true → word p n LEFT v ≡ u → u < n → Leads v j u
    right : bit m.right j ≡ true → word p n RIGHT v ≡ u → u < n → Leads v j u
    from_left : bit m.leftup j ≡ true → word p n PARENT v ≡ u → u < n → word p n LEFT u ≡ v → Leads v j u
    from_right : bit m.rightup j ≡ true → word p n PARENT v ≡ u → u < n → word p n RIGHT u ≡ v → Leads v j u
    stays : bit (word p n STAYS v) j ≡ true → v ≡ u → Leads v j u

  -- i at v comes to j at w
  pub data Walk : ℕ → ℕ → ℕ → ℕ → Type 0 where
    here : {i v : ℕ} → Walk i v i v
    on : {i v j u k w : ℕ} → j < positions → bit (get_or m.rows i 0) j ≡ true → Leads v j u → Walk j u k w → Walk i v k w

  -- i at v ends at w
  abbrev pub Stops : ℕ → ℕ → ℕ → Type 0
  Stops i v w = (j : ℕ) × (bit m.last j ≡ true) × Walk i v j w

  -- the comparison of the two paths at v, by ranks
  abbrev pub Meets : Op → ℕ → Type 0
  Meets o v = (w u : ℕ) × (w < n) × (u < n) × Stops 0 v w × Stops m.second v u × Signed o n (word p n RANK w) (word p n RANK u)

  -- the comparison of the first path with a constant at v
  abbrev pub Hits : ℕ → Type 0
  Hits v = (w : ℕ) × (w < n) × Stops 0 v w × (word p n HIT w ≡ 1)

  -- the first path ends at k different nodes or more from v
  abbrev pub Several : ℕ → ℕ → Type 0
  Several k v = AtLeast k (λ w. (w < n) × Stops 0 v w)
