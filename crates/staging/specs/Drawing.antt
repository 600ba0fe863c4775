-- What is copied to the front of a comparison's part before it is lent. Column c of the part is column COLUMNS + c of the scratch.
use Rattle.std.specs.Prelude.{ℕ, ◌+◌, ◌≤◌, ◌<◌, ◌≡◌, ◌↔◌, List, get_or}
use Rattle.limits.specs.Limits.{positions}
use Rattle.lists.specs.Blanks.{trim}
use Rattle.bits.specs.Sets.{bit, and}
use Rattle.xpath.specs.Syntax.{Op}
use Rattle.xpath.specs.Meaning.{Rel}
use Rattle.document_spec.specs.Library.{Node}
use Rattle.document_spec.specs.Binary.{compared_of}
use Rattle.layout.specs.Part.{STAYS, HIT}
use Rattle.layout.specs.Table.{COLUMNS, LEFT, PARENT, RANK}
use Rattle.layout.specs.Words.{word, Frame, Within}
use Rattle.test_bits.specs.Columns.{held}
use Rattle.rule_parts.specs.declared.kinds.Operator.{Operator}
use Rattle.rule_parts.specs.Kinds.{operator}
use Rattle.std.specs.declared.cmp.Ordering.{Ordering}
use Rattle.constants.specs.declared.Place.{Place}
use Rattle.constants.specs.Places.{Told}
use Rattle.staging.specs.Signs.{Stands}

-- the words from one offset on stand again from another on
pub record Repeated (from to size : ℕ) (t t' : List ℕ) : Type 0 where
  pub frame : Frame to (to + size) t t'
  pub again : (k : ℕ) → k < size → get_or t' (to + k) 0 ≡ get_or t (from + k) 0

-- the links stand in the part too
pub record Copied (n : ℕ) (t t' : List ℕ) : Type 0 where
  pub within : Within n (COLUMNS + LEFT) (COLUMNS + PARENT + 1) t t'
  pub copied : (c v : ℕ) → LEFT ≤ c → c ≤ PARENT → v < n → word t' n (COLUMNS + c) v ≡ word t n c v

-- the words of column c of the table are the ranks of the part
pub record RanksCopied (n c : ℕ) (t t' : List ℕ) : Type 0 where
  pub within : Within n (COLUMNS + RANK) (COLUMNS + RANK + 1) t t'
  pub copied : (v : ℕ) → v < n → word t' n (COLUMNS + RANK) v ≡ word t n c v

-- the positions in a set whose test, by its number, holds
pub record Stayed (n brackets : ℕ) (numbers : List ℕ) (t t' : List ℕ) : Type 0 where
  pub within : Within n (COLUMNS + STAYS) (COLUMNS + STAYS + 1) t t'
  pub done : (v j : ℕ) → v < n → j < positions → bit (word t' n (COLUMNS + STAYS) v) j ≡ and (bit brackets j) (held t n (get_or numbers j 0) v)

-- x is 1 exactly if the sign o stands for what the place p tells of the rank r; where r is no rank, it is 0
pub record Hit (n : ℕ) (p : Place) (o : Operator) (r x : ℕ) : Type 0 where
  pub none : n ≤ r → x ≡ 0
  pub some : r < n → (c : Ordering) × Told p r c × ((q : Op) → o ≡ operator q → (x ≡ 1) ↔ Stands q c)

-- for each node by its rank in column c
pub record HitsFilled (n c : ℕ) (p : Place) (o : Operator) (t t' : List ℕ) : Type 0 where
  pub within : Within n (COLUMNS + HIT) (COLUMNS + HIT + 1) t t'
  pub done : (v : ℕ) → v < n → Hit n p o (word t n c v) (word t' n (COLUMNS + HIT) v)

pub record HitsCleared (n : ℕ) (t t' : List ℕ) : Type 0 where
  pub within : Within n (COLUMNS + HIT) (COLUMNS + HIT + 1) t t'
  pub done : (v : ℕ) → v < n → word t' n (COLUMNS + HIT) v ≡ 0

-- where the value is in the relation o to the constant c
pub record Judged (ns : List Node) (n : ℕ) (o : Op) (c : List ℕ) (t t' : List ℕ) : Type 0 where
  pub within : Within n (COLUMNS + HIT) (COLUMNS + HIT + 1) t t'
  pub done : (v : ℕ) → v < n → (word t' n (COLUMNS + HIT) v ≡ 1) ↔ Rel o (compared_of ns v) (trim c)
