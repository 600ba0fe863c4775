-- Tests that compute, joined.
use Rattle.std.specs.Prelude.{Bool, true, false}

abbrev pub both : Bool → Bool → Bool
both true b = b
both false b = false

abbrev pub either : Bool → Bool → Bool
either true b = true
either false b = b
