-- `tokens::name` meets its contract.
use native.Mathlib.Omega.{arith}
use mathlib.Core.Path.{refl}
use mathlib.Core.Logic.{⊎_elim}
use Rattle.rule_spec.specs.Machine.{rest}
use Rattle.tokens.proofs.Places.{at_end_lem, stuck_end}
use Rattle.tokens.proofs.Names.{name_back, name_stuck}
use Rattle.tokens.proofs.name.Goals as goal
use Rattle.tokens.proofs.name.Goals.{then-at-s-via-then-at-s, then-at-s-via-else-at-s+then-not-is_ascii_lowercase}

pub returns-then-at-s : goal.returns-then-at-s
unfolding rest
returns-then-at-s c =
    elim c.then-at-s.branch [
      | then-at-s-via-then-at-s w ↦ stuck_end c.args.s.now (at_end_lem _ w.if-at-s.true) (λ st. refl)
      | then-at-s-via-else-at-s+then-not-is_ascii_lowercase w ↦
          name_stuck c.args.s.now (omega arith) (λ h. ⊎_elim (λ l. omega arith) (λ l. omega arith) w.if-not-is_ascii_lowercase.ensures.cases)
    ]

pub returns : goal.returns
returns c =
    let h = c.if-not-is_ascii_lowercase.ensures.cases in
    name_back c.args.s.now (omega arith) h.0 h.1 c.name_end.ensures (omega arith)
