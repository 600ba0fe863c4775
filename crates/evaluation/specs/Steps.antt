-- What the steps of an accepted call leave, whichever way its rule is settled.
use Rattle.std.specs.Prelude.{ℕ, ◌≡◌, List, length, take, drop, replicate}
use Rattle.limits.specs.Limits.{scratch_words}
use Rattle.document_spec.specs.Library.{Node}
use Rattle.document_spec.specs.Verdict.{Accepts}
use Rattle.layout.specs.Words.{Kept}
use Rattle.marking.specs.Marking.{Marked}
use Rattle.driver.specs.Tasks.{Scene}

-- all that the tests of a rule find of the document stands in the scratch
abbrev pub Readied : List ℕ → ℕ → List ℕ → List ℕ → Type 0
Readied document n t t' = (ns : List Node) → Accepts document ns → length ns ≡ n → Scene document ns n t' × Kept (scratch_words n) t t'

-- the nodes that bit 0 tells are marked, k of them, and the scratch is cleared
pub record Finished (n : ℕ) (t marks : List ℕ) (k : ℕ) (t' marks' : List ℕ) : Type 0 where
  pub marked : Marked n t marks marks' k
  pub cleared : take (scratch_words n) t' ≡ replicate (scratch_words n) 0
  pub later : drop (scratch_words n) t' ≡ drop (scratch_words n) t
