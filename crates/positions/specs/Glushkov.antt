-- Which steps may begin, follow and end the words of a path, told by its form (Glushkov). The steps are numbered from b.
use Rattle.std.specs.Prelude.{ℕ, ◌+◌, ◌≡◌, ◌⊎◌}
use Rattle.xpath.specs.Syntax.{XPath, empty, one, seq, union, star, size}

-- the empty word is a word
abbrev pub Nullable : XPath → Type 0
Nullable empty = Unit {0}
Nullable (one s) = ⊥
Nullable (seq P Q) = Nullable P × Nullable Q
Nullable (union P Q) = Nullable P ⊎ Nullable Q
Nullable (star P) = Unit {0}

-- step j begins a word
abbrev pub Begins : XPath → ℕ → ℕ → Type 0
Begins empty b j = ⊥
Begins (one s) b j = j ≡ b
Begins (seq P Q) b j = Begins P b j ⊎ (Nullable P × Begins Q (b + size P) j)
Begins (union P Q) b j = Begins P b j ⊎ Begins Q (b + size P) j
Begins (star P) b j = Begins P b j

-- step i ends a word
abbrev pub Stops : XPath → ℕ → ℕ → Type 0
Stops empty b i = ⊥
Stops (one s) b i = i ≡ b
Stops (seq P Q) b i = Stops Q (b + size P) i ⊎ (Nullable Q × Stops P b i)
Stops (union P Q) b i = Stops P b i ⊎ Stops Q (b + size P) i
Stops (star P) b i = Stops P b i

-- some word has j right after i
abbrev pub Next : XPath → ℕ → ℕ → ℕ → Type 0
Next empty b i j = ⊥
Next (one s) b i j = ⊥
Next (seq P Q) b i j = Next P b i j ⊎ Next Q (b + size P) i j ⊎ (Stops P b i × Begins Q (b + size P) j)
Next (union P Q) b i j = Next P b i j ⊎ Next Q (b + size P) i j
Next (star P) b i j = Next P b i j ⊎ (Stops P b i × Begins P b j)
