-- The lines of a document that are good so far: what a check knows that goes over the lines.
use Rattle.std.specs.Prelude.{ℕ, ◌+◌, ◌*◌, ◌≤◌, ◌<◌, List, length}
use Rattle.limits.specs.Limits.{document_bytes, document_nodes}
use Rattle.document_spec.specs.Verdict.{CountIs, Duplicate}
use Rattle.document_spec.specs.Fields.{Field, line_of, Formed, Ruled}

-- the length and N are good, and so are the first k lines
pub record Good (s : List ℕ) (n k : ℕ) : Type 0 where
  pub short : length s ≤ document_bytes
  pub count : CountIs s n
  pub some : 0 < n
  pub few : n ≤ document_nodes
  pub within : k ≤ 4 * n + 1
  pub lines : (v : ℕ) (f : Field) → line_of v f ≤ k → Formed s v f × Ruled s v f
  -- and none of them repeats a label
  pub fresh : (i : ℕ) → i ≤ k → ¬ Duplicate s i
