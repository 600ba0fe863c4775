-- A scan: what the bytes of a numeral so far have made, and what the bytes to come make of it.
use Rattle.std.specs.Prelude.{ℕ, suc, ◌+◌, ◌-◌, ◌*◌, ◌≡◌, List}
use Rattle.std.specs.Prelude.{Some, None}
use Rattle.std.specs.Prelude.{Option as Possibly}
use Rattle.std.proofs.Math.Option.{Option, none}
use Rattle.xpath.specs.Amounts.{Amount}
use Rattle.xpath.specs.Reading.{whole_from, decimals_from, with_sign, amount_of}
use Rattle.numerals.specs.declared.scan.Scan.{Scan}
use Rattle.numerals.specs.declared.scan.Part.{Part}
use Rattle.numerals.specs.declared.scan.Part.TheVariants.{Start, Whole, Decimals}

-- the amount that the bytes to come complete, by the part of the numeral that the scan is in
abbrev pub resumed : Part → Scan → List ℕ → Option Amount
resumed Start c bs = amount_of bs
resumed Whole c bs = with_sign c.minus (whole_from c.count c.number bs)
resumed Decimals c bs = with_sign c.minus (decimals_from c.count c.number bs)

abbrev pub resume : Scan → List ℕ → Option Amount
resume c bs = resumed c.part c bs

-- where there is no scan any more, none
abbrev pub resume_if : Possibly Scan → List ℕ → Option Amount
resume_if None bs = none
resume_if (Some c) bs = resume c bs

-- the number, with one digit more
abbrev pub digit_more : Scan → ℕ → ℕ
digit_more c b = c.number * 10 + (b - 48)

-- with one digit more, in a part of the numeral
pub record Further (p : Part) (c : Scan) (b : ℕ) (r : Scan) : Type 0 where
  pub part : r.part ≡ p
  pub minus : r.minus ≡ c.minus
  pub count : r.count ≡ suc c.count
  pub number : r.number ≡ digit_more c b
