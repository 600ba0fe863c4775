-- `settling::settle` meets its contract.
use Rattle.pairs.proofs.Framing.{ready_kept}
use Rattle.settling.proofs.Finding.{ready_of, settled}
use Rattle.machine.proofs.Comparing.{second_few_lem}
use Rattle.settling.proofs.settle.Goals as goal

pub start-requires : goal.start-requires
start-requires c = ready_of c.requires.0.3 c.requires.1

pub seed-requires : goal.seed-requires
seed-requires c = ready_kept c.start.ensures.framed (ready_of c.requires.0.3 c.requires.1)

pub spread-requires : goal.spread-requires
spread-requires c = ready_kept c.seed.ensures.0.framed (ready_kept c.start.ensures.framed (ready_of c.requires.0.3 c.requires.1))

pub answer-requires : goal.answer-requires
answer-requires c = (ready_kept c.spread.ensures.0.framed (ready_kept c.seed.ensures.0.framed (ready_kept c.start.ensures.framed (ready_of c.requires.0.3 c.requires.1))), second_few_lem c.requires.0.3.machine)

pub returns : goal.returns
returns c = settled (ready_of c.requires.0.3 c.requires.1) c.start.ensures c.seed.ensures c.spread.ensures c.answer.ensures
