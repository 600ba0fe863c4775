-- The verdict of the check is what the definition of its answer says.
use Rattle.std.specs.Prelude.{Result, Ok, Err}
use Prim.Native.Nat.{ℕ}
use mathlib.Core.Path.{refl, ap, subst}
use mathlib.Core.List.{List}
use lib.ListN.{length}
use Rattle.refusals.specs.Refusals.{Refusal, document_length, line_form, node_count, tree_rule, duplicate_attribute, number, place, First}
use Rattle.refusals.proofs.Refusals.{first_one}
use Rattle.document_spec.specs.Library.{Node}
use Rattle.document_spec.specs.Verdict.{DocumentGround, Accepts, Checked}
use Rattle.document_spec.proofs.Accepted.{accepts_one}
use Rattle.document_spec.proofs.Verdict.{accepted_unrefused}
use Rattle.document.specs.declared.Refusal as Document
use Rattle.document.specs.declared.Refusal.TheVariants.{Length, Form, Count, Tree, Duplicate}
use Rattle.document.specs.Check.{Judged}
use Rattle.verdicts.specs.Answers.{answer_of}

module _ (s : List ℕ) where
  refused_so : (r : Refusal) → First (DocumentGround s) r → Checked s (number r) (place r) 0
  refused_so r f = record {
    refused = λ q g. let e = first_one (DocumentGround s) r q f g in (ap number e, ap place e, refl);
    accepted = λ ns a. absurd (accepted_unrefused s ns a r f.applies);
  }

  accepted_so : (ns : List Node) → Accepts s ns → Checked s 0 0 (length ns)
  accepted_so ns a = record {
    refused = λ r f. absurd (accepted_unrefused s ns a r f.applies);
    accepted = λ ms b. (refl, refl, ap length (accepts_one s ns ms a b));
  }

  pub checked_by : (v : Result ℕ Document.Refusal) → Judged s v → Checked s (answer_of v).number (answer_of v).place (answer_of v).nodes
  checked_by (Ok n) (ns, a, e) = subst (λ n. Checked s 0 0 n) e (accepted_so ns a)
  checked_by (Err Length) f = refused_so document_length f
  checked_by (Err (Form line)) f = refused_so (line_form line) f
  checked_by (Err Count) f = refused_so node_count f
  checked_by (Err (Tree line)) f = refused_so (tree_rule line) f
  checked_by (Err (Duplicate line)) f = refused_so (duplicate_attribute line) f
