-- Ranks of amounts: numbers of the nodes that are in the order of the amounts of their compared values.
use Rattle.std.specs.Prelude.{ℕ, ◌<◌, ◌≡◌, ◌↔◌, List, length}
use Rattle.xpath.specs.Reading.{amount_of}
use Rattle.document_spec.specs.Library.{Node}
use Rattle.document_spec.specs.Binary.{compared_of}
use Rattle.layout.specs.Table.{AMOUNT}
use Rattle.layout.specs.Words.{NONE, word}
use Rattle.numerals.specs.Keys.{no_key, key_of}

-- the key of the amount of node v
abbrev pub key_at : List Node → ℕ → ℕ
key_at ns v = key_of (amount_of (compared_of ns v))

-- a node whose value is no numeral has no rank
pub record Weighed (ns : List Node) (t : List ℕ) : Type 0 where
  pub none : (v : ℕ) → v < length ns → key_at ns v ≡ no_key → word t (length ns) AMOUNT v ≡ NONE
  pub small : (v : ℕ) → v < length ns → key_at ns v < no_key → word t (length ns) AMOUNT v < length ns
  pub ordered : (v w : ℕ) → v < length ns → w < length ns → key_at ns v < no_key → key_at ns w < no_key
      → (word t (length ns) AMOUNT v < word t (length ns) AMOUNT w) ↔ (key_at ns v < key_at ns w)
  pub same : (v w : ℕ) → v < length ns → w < length ns → key_at ns v < no_key → key_at ns w < no_key
      → (word t (length ns) AMOUNT v ≡ word t (length ns) AMOUNT w) ↔ (key_at ns v ≡ key_at ns w)
