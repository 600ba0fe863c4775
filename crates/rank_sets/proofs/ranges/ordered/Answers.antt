-- `rank_sets::ranges::ordered` meets its contract.
use mathlib.Core.Path.{◌≡◌, sym, subst}
use mathlib.Core.Logic.{◌↔◌, inl, inr, ⊎_elim}
use mathlib.Core.Bool.{true, false}
use lib.Dec.{ltb}
use Rattle.rule_spec.proofs.Bytes.{lt_iff}
use Rattle.rank_sets.specs.Ranges.{Across}
use Rattle.rank_sets.proofs.Telling.{tells_no}
use Rattle.std.proofs.lemmas.Bool.{iff_false}
use Rattle.rank_sets.proofs.ranges.ordered.Goals as goal

-- ── What is returned for each operator ──
pub returns-in-Equal : goal.returns-in-Equal
returns-in-Equal c =
    let x = c.args in
    subst (λ o. (false ≡ true) ↔ Across o x.a x.b) (sym c.in-Equal.is) (tells_no (λ h. h))

pub returns-then-under : goal.returns-then-under
returns-then-under c =
    let x = c.args in
    subst (λ o. (c.under.result ≡ true) ↔ Across o x.a x.b) (sym c.in-Unequal.is) ((λ e. inl (c.under.ensures.0 e), λ h. c.if-under.true))

pub returns-else-under : goal.returns-else-under
returns-else-under c =
    let x = c.args in
    subst (λ o. (c.under-else-under.result ≡ true) ↔ Across o x.a x.b) (sym c.in-Unequal.is)
    (λ e. inr (c.under-else-under.ensures.0 e), λ h. c.under-else-under.ensures.1 (⊎_elim (λ l. absurd (iff_false c.under.ensures c.if-under.false l)) (λ l. l) h))

pub returns-in-Less : goal.returns-in-Less
returns-in-Less c =
    let x = c.args in
    subst (λ o. (c.under-in-Less.result ≡ true) ↔ Across o x.a x.b) (sym c.in-Less.is) c.under-in-Less.ensures

pub returns-in-LessEqual : goal.returns-in-LessEqual
returns-in-LessEqual c =
    let x = c.args in
    subst (λ o. (ltb x.a.least x.b.above ≡ true) ↔ Across o x.a x.b) (sym c.in-LessEqual.is) (lt_iff x.a.least x.b.above)

pub returns-in-Greater : goal.returns-in-Greater
returns-in-Greater c =
    let x = c.args in
    subst (λ o. (c.under-in-Greater.result ≡ true) ↔ Across o x.a x.b) (sym c.in-Greater.is) c.under-in-Greater.ensures

pub returns-in-GreaterEqual : goal.returns-in-GreaterEqual
returns-in-GreaterEqual c =
    let x = c.args in
    subst (λ o. (ltb x.b.least x.a.above ≡ true) ↔ Across o x.a x.b) (sym c.in-GreaterEqual.is) (lt_iff x.b.least x.a.above)
