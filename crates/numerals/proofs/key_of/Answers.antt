-- `numerals::key_of` meets its contract.
use mathlib.Core.Path.{ap, ◌∙◌}
use lib.Seq.{slice}
use Rattle.numerals.specs.Keys.{key_of}
use Rattle.numerals.proofs.Scans.{scanned}
use Rattle.numerals.proofs.key_of.Goals as goal

pub returns : goal.returns
returns c =
    let a = c.args in
    c.key.ensures ∙ ap key_of (scanned (slice a.from a.to a.s.now) c.begin.result c.scan_bytes.result c.begin.ensures c.scan_bytes.ensures)
