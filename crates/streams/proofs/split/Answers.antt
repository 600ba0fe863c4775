-- `streams::split` meets its contract.
use Rattle.std.proofs.Common.{rules, ◌≡◌, ◌<◌, length, ℕ, get_or}
use Rattle.streams.specs.Input.{lf}
use Rattle.streams.proofs.Splitting.{split_first, split_all}
use Rattle.streams.proofs.split.Goals as goal

pub returns-in-Some : goal.returns-in-Some
returns-in-Some c =
    let s = c.args.input.now in
    let found : (c.in-Some.i < length s) × (get_or s c.in-Some.i 0 ≡ lf) × ((k : ℕ) → k < c.in-Some.i → get_or s k 0 ≡ lf → ⊥) = search rules in
    split_first s c.in-Some.i found.0 found.1 found.2

pub returns-in-None : goal.returns-in-None
returns-in-None c =
    let s = c.args.input.now in
    let none : (k : ℕ) → k < length s → get_or s k 0 ≡ lf → ⊥ = search rules in
    split_all s none
