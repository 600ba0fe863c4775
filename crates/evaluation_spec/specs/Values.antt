-- The contract of an evaluation of one equality by a list of its values: 02, (k). A list of nodes stands for the values of these nodes.
use Rattle.std.specs.Prelude.{ℕ, ◌≤◌, ◌<◌, ◌≡◌, ◌⊎◌, ◌≢◌, List, length, get_or, take, drop, replicate}
use Rattle.limits.specs.Limits.{scratch_words}
use Rattle.lists.specs.Lists.{All, Occurs, Number}
use Rattle.refusals.specs.Refusals.{Refusal, other_comparison, no_such_node, First}
use Rattle.xpath.specs.Syntax.{Test, eq, compare, XPath}
use Rattle.snippets.specs.Values.{SettlesBy, CountBy}
use Rattle.document_spec.specs.Library.{Node}
use Rattle.document_spec.specs.Binary.{tree_of}
use Rattle.document_spec.specs.Verdict as Document
use Rattle.rule_spec.specs.Verdict as Rule
use Rattle.evaluation_spec.specs.Buffers.{Ground, Accepted}
use Rattle.evaluation_spec.specs.Evaluation.{Outcome, Refused}

-- the grounds that an evaluation does not have: the rule is no equality between two paths, or a node of the list is none
pub data ListGround (document rule values : List ℕ) : Refusal → Type 0 where
  no_equality : {T : Test} → Rule.Accepts rule T → ((P R : XPath) → T ≢ compare eq P R) → ListGround document rule values other_comparison
  no_node : {ns : List Node} {w : ℕ} → Document.Accepts document ns → Occurs w values → length ns ≤ w → ListGround document rule values no_such_node

module _ (document rule values : List ℕ) (words marks : ℕ) where
  abbrev pub ValuesGround : Refusal → Type 0
  ValuesGround r = Ground document rule words marks r ⊎ ListGround document rule values r

  -- the call is accepted: the rule reads as (P=R), and the list has nodes alone, each any number of times
  pub record ValuesAccepted (ns : List Node) (P R : XPath) : Type 0 where
    pub call : Accepted document rule words marks ns (compare eq P R)
    pub nodes : All (λ w. w < length ns) values

-- the values in the list settle the equality at v
abbrev pub Settled : List ℕ → List Node → XPath → XPath → ℕ → Type 0
Settled values ns P R v = (v < length ns) × SettlesBy (tree_of ns) values P R v

-- after an accepted call: what the values in the list yield is counted, and what it settles is marked
pub record ValuesSelected (values : List ℕ) (ns : List Node) (P R : XPath) (scratch marks : List ℕ) (o : Outcome) (scratch' marks' : List ℕ) : Type 0 where
  pub number : o.number ≡ 0
  pub place : o.place ≡ 0
  pub selected : Number (Settled values ns P R) o.selected
  pub snippets : CountBy (tree_of ns) values P R o.snippets
  -- the first N marks are 0 or 1, and later ones unchanged
  pub marked : (v : ℕ) → v < length ns → (Settled values ns P R v × (get_or marks' v 0 ≡ 1)) ⊎ ((¬ Settled values ns P R v) × (get_or marks' v 0 ≡ 0))
  pub later_marks : drop (length ns) marks' ≡ drop (length ns) marks
  pub as_many_marks : length marks' ≡ length marks
  -- the first words are 0, and later ones unchanged
  pub cleared : take (scratch_words (length ns)) scratch' ≡ replicate (scratch_words (length ns)) 0
  pub later_words : drop (scratch_words (length ns)) scratch' ≡ drop (scratch_words (length ns)) scratch

-- refused on the first ground in the written order, or accepted
pub record ValuesEvaluation (document rule values scratch marks : List ℕ) (o : Outcome) (scratch' marks' : List ℕ) : Type 0 where
  pub refused : (r : Refusal) → First (ValuesGround document rule values (length scratch) (length marks)) r → Refused r scratch marks o scratch' marks'
  pub accepted : (ns : List Node) (P R : XPath) → ValuesAccepted document rule values (length scratch) (length marks) ns P R
      → ValuesSelected values ns P R scratch marks o scratch' marks'
