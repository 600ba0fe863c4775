-- `numerals::scan_key` meets its contract.
use mathlib.Core.Path.{sym, ap, ◌∙◌}
use mathlib.Core.List.{[]}
use native.Mathlib.Omega.{arith}
use Rattle.xpath.specs.Reading.{whole_from, decimals_from, amount_of}
use Rattle.numerals.specs.Keys.{key_of}
use Rattle.numerals.specs.Scans.{resumed}
use Rattle.numerals.proofs.Scans.{number_whole, part_fits}
use Rattle.numerals.proofs.scan_key.Goals as goal

pub key_at_end-requires : goal.key_at_end-requires
key_at_end-requires c =
    let f = part_fits c.args.c c.in-Whole.is in
    (omega arith, number_whole _ _ f.1 f.0)

pub key_at_end-requires-in-Decimals : goal.key_at_end-requires-in-Decimals
key_at_end-requires-in-Decimals c =
    part_fits c.args.c c.in-Decimals.is

pub returns-in-Start : goal.returns-in-Start
unfolding amount_of
returns-in-Start c = sym (ap (λ p. key_of (resumed p c.args.c [])) c.in-Start.is)

pub returns-in-Whole : goal.returns-in-Whole
unfolding whole_from
returns-in-Whole c = c.key_at_end.ensures ∙ sym (ap (λ p. key_of (resumed p c.args.c [])) c.in-Whole.is)

pub returns-in-Decimals : goal.returns-in-Decimals
unfolding decimals_from
returns-in-Decimals c = c.key_at_end-in-Decimals.ensures ∙ sym (ap (λ p. key_of (resumed p c.args.c [])) c.in-Decimals.is)
