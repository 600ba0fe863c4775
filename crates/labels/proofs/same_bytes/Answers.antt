-- `labels::same_bytes` meets its contract.
use Rattle.std.proofs.lemmas.Bool.Decides.{Decides-eqb}
use Rattle.std.proofs.lemmas.Slice.Eq.{slice_eq-Decides}
use Rattle.labels.proofs.Spans.{span_taken}
use Rattle.labels.proofs.same_bytes.Goals as goal

pub returns : goal.returns
returns c =
    let x = c.args in let p = c.requires in
    rw (← span_taken x.from x.to x.s.now p.0, ← span_taken x.start x.end x.rule.now p.2) (slice_eq-Decides Decides-eqb _ _ _ c.eq.ensures)
