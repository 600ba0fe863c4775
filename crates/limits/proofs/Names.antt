-- Names: whether a byte string is one can be decided, and none is empty.
use Prim.Native.Nat.{ℕ, ◌≤◌, ◌<◌}
use mathlib.Core.Logic.Dec
use mathlib.Core.List.{List, [], ◌∷◌}
use lib.ListN.{length}
use native.Mathlib.Decide.{dec_le, map_dec}
use native.Mathlib.Omega.{arith}
use Rattle.lists.specs.Lists.{All}
use Rattle.lists.specs.Text.{Letter, NameByte}
use Rattle.lists.proofs.Lists.{all_dec}
use Rattle.lists.proofs.Search.{dec_between, dec_name_byte}
use Rattle.limits.specs.Limits.{label_bytes}
use Rattle.limits.specs.Names.{Name}

pub dec_name : (s : List ℕ) → Dec (Name s)
unfolding Name
dec_name [] = no (λ h. h)
dec_name (b ∷ bs) =
    map_dec {A = Letter b × (All NameByte bs × (length (b ∷ bs) ≤ label_bytes))} (λ h. (h.0, h.1.0, h.1.1)) (λ h. (h.0, (h.1, h.2)))
    (Dec.and (dec_between 97 122 b) (Dec.and (all_dec dec_name_byte bs) (dec_le (length (b ∷ bs)) label_bytes)))

pub name_some : (a : List ℕ) → Name a → 0 < length a
unfolding Name
name_some [] h = absurd h
name_some (b ∷ a) h = omega arith
