-- Where a walk ends: the words of two sets that meet.
use Prim.Native.Nat.{ℕ, ◌<◌}
use mathlib.Core.Path.{◌≡◌, sym, ap, ◌∙◌}
use mathlib.Core.Logic.{◌↔◌}
use mathlib.Core.Bool.{true, not, false≢true}
use mathlib.Core.List.{List}
use native.Mathlib.Omega.{arith}
use lib.Count.{count_trailing_zeros}
use lib.Dec.{eqb}
use borrow.Author.Tests.{eqb-false, ne_eqb, not-true}
use Rattle.bits.specs.Sets.{bit, and}
use Rattle.bits.proofs.SetLaws.{bit_none}
use Rattle.layout.specs.Part.{SEEN}
use Rattle.layout.specs.Words.{word}
use Rattle.matrices.proofs.Members.{and_both, and_parts, lowest}
use Rattle.rank_sets.specs.Ends.{Ended}

module _ (n last w x : ℕ) (p : List ℕ) (fits : x < 65536) (h : (i : ℕ) → bit x i ≡ and (bit (word p n SEEN w) i) (bit last i)) where
  -- x is what the two sets have in common
  pub meets_ended : (not (eqb x 0) ≡ true) ↔ Ended n last p w
  meets_ended = (some, λ g. ap not (ne_eqb x 0 (λ e. false≢true (sym (bit_none g.position) ∙ ap (λ (y : ℕ). bit y g.position) (sym e) ∙ h g.position ∙ and_both _ _ g.seen g.among))))
    where
      some : not (eqb x 0) ≡ true → Ended n last p w
      some e =
          let f = eqb-false x 0 (not-true (eqb x 0) e) in
          let l = and_parts _ _ (sym (h (count_trailing_zeros 16 x)) ∙ (lowest 16 x (omega arith) fits).1) in
          record { position = count_trailing_zeros 16 x; among = l.1; seen = l.0 }

-- the same words say the same
pub ended_same : {n last w : ℕ} {p p' : List ℕ} → word p' n SEEN w ≡ word p n SEEN w → Ended n last p w → Ended n last p' w
ended_same e g = record { position = g.position; among = g.among; seen = ap (λ (x : ℕ). bit x g.position) e ∙ g.seen }
