-- `test_bits::notes::with_bit` meets its contract.
use Prim.Native.Nat.{ℕ}
use mathlib.Core.Path.{sym, ap, ◌∙◌}
use mathlib.Core.Bool.{Bool}
use lib.Bits.{bit_xor}
use Rattle.bits.specs.Sets.{bit, is}
use Rattle.bits.proofs.SetLaws.{shifted_one}
use Rattle.document_spec.specs.Binary.{pick}
use Rattle.test_bits.proofs.Words.{told_true, told_false}
use Rattle.test_bits.proofs.notes.with_bit.Goals as goal

pub returns-then-b : goal.returns-then-b
returns-then-b c i =
    let x = c.args in
    told_true x.w c.insert-filled.result x.j c.insert-filled.ensures i
    ∙ ap (λ (b : Bool). pick (is i x.j) b (bit x.w i)) (sym c.if-b.true)

pub returns-else-b : goal.returns-else-b
returns-else-b c i =
    let x = c.args in let r = c.insert-filled.result in
    ap (λ (m : ℕ). bit (bit_xor r m) i) (shifted_one x.j c.requires)
    ∙ told_false x.w r x.j c.insert-filled.ensures i
    ∙ ap (λ (b : Bool). pick (is i x.j) b (bit x.w i)) (sym c.if-b.false)
