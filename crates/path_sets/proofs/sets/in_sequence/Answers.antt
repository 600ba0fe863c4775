-- `path_sets::sets::in_sequence` meets its contract.
use Rattle.std.proofs.Common.{rules}
use mathlib.Core.Path.{refl, ap, ◌∙◌}
use Rattle.bits.specs.Sets.{bit, or}
use Rattle.path_sets.proofs.SetLaws.{seq_sets}
use Rattle.path_sets.proofs.sets.in_sequence.Goals as goal

pub returns : goal.returns
returns c =
    let p = c.args.p in let q = c.args.q in (
      λ P Q b h g. seq_sets P Q b _ _ _ h g refl (search rules)
          (λ i. c.union.ensures i ∙ ap (or (bit p.first i)) (c.given.ensures i))
          (λ i. c.union-2.ensures i ∙ ap (or (bit q.last i)) (c.given-2.ensures i)),
      refl,
    )
