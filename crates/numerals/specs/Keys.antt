-- Keys: numbers that are in the order of amounts, so that code compares numbers.
--   bias    the key of 0
--   NO-KEY  stands for no amount, above all keys
--   key_of   the key of an amount, if there is one
use Rattle.std.specs.Prelude.{ℕ, ◌+◌, ◌-◌, ◌^◌}
use Rattle.std.proofs.Math.Option.{Option, none, some}
use Rattle.limits.specs.Limits.{numeral_digits, numeral_decimals}
use Rattle.xpath.specs.Amounts.{Amount}

-- no numeral has so many ten-thousandths
abbrev pub bias : ℕ
bias = 10 ^ (numeral_digits + numeral_decimals)

abbrev pub no_key : ℕ
no_key = bias + bias

abbrev pub key_of : Option Amount → ℕ
key_of none = no_key
key_of (some a) = bias + a.above - a.below
