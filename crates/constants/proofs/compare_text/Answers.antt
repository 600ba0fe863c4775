-- `constants::compare_text` meets its contract.
use Rattle.document_spec.specs.Binary.{compared_of}
use Rattle.constants.proofs.compare_text.Goals as goal

pub compare_constant-requires : goal.compare_constant-requires
compare_constant-requires c =
    let h = c.requires.0 in let ns = h.tabled.nodes in let a = h.tabled.accepts in
    ((ns, compared_of ns c.args.v, h, a, (c.value_of-x.ensures c.args.s.now ns h a).comes), c.requires.2, c.requires.3)

pub returns : goal.returns
returns c =
    λ ns a. c.compare_constant.ensures ns (compared_of ns c.args.v) a (c.value_of-x.ensures c.args.s.now ns c.requires.0 a).comes
