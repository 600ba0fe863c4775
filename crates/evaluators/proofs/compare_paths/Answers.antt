-- `evaluators::compare_paths` meets its contract.
use mathlib.Core.Path.{sym, subst}
use Rattle.evaluators.specs.Evaluators.{Compared}
use Rattle.evaluators.proofs.compare_paths.Goals as goal

pub returns-in-Plain : goal.returns-in-Plain
returns-in-Plain c P R t q posed h =
    let x = c.args in let r = c.by_walks in
    subst (λ e. Compared e t q P R x.n x.p.now r.new.p r.result) (sym c.in-Plain.is) (r.ensures P R t q posed h)

pub returns-in-Snippets : goal.returns-in-Snippets
returns-in-Snippets c P R t q posed h =
    let x = c.args in let r = c.by_snippets in
    subst (λ e. Compared e t q P R x.n x.p.now r.new.p r.result) (sym c.in-Snippets.is) (r.ensures P R t q posed h)
