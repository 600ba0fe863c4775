-- `counting::several_at` meets its contract.
use Rattle.rank_sets.proofs.Steady.{steady_then}
use Rattle.counting.proofs.several_at.Goals as goal

pub returns : goal.returns
returns c =
    let s = c.search-trail.ensures in let f = c.forget.ensures in
    (record { steady = steady_then s.steady f.steady; clean = f.clean }, s.told)
