-- Sets of positions as numbers: position j belongs to w where binary digit j of w is 1. 01: a set of positions is one 16-bit word.
use Rattle.std.specs.Prelude.{Bool, true, false, ℕ, zero, suc, ◌+◌, ◌/◌, ◌%◌, ◌^◌, eqb}

abbrev pub or : Bool → Bool → Bool
or true b = true
or false b = b

abbrev pub and : Bool → Bool → Bool
and true b = b
and false b = false

abbrev pub is : ℕ → ℕ → Bool
is i j = eqb i j

-- digit j of w is 1
unfoldable pub bit : ℕ → ℕ → Bool
bit w j = eqb (w / 2 ^ j % 2) 1

-- 1 for a member and 0 for none
abbrev pub one : Bool → ℕ
one true = 1
one false = 0

-- how many of the positions below n belong to w
unfoldable pub size : ℕ → ℕ → ℕ
size zero w = 0
size (suc n) w = size n w + one (bit w n)
