-- Zero or more times a relation.
use Prim.Native.Nat.{ℕ, ◌<◌}
use Rattle.closures.specs.Closures.{Chain}

pub chain_one : {A : ℕ → ℕ → Type 0} {i j : ℕ} → j < 16 → A i j → Chain A i j
chain_one h a = Chain.more h a Chain.none

pub chain_then : {A : ℕ → ℕ → Type 0} {i j k : ℕ} → Chain A i j → Chain A j k → Chain A i k
chain_then Chain.none c = c
chain_then (Chain.more h a b) c = Chain.more h a (chain_then b c)

pub chain_map : {A B : ℕ → ℕ → Type 0} {i j : ℕ} → ((a b : ℕ) → a < 16 → b < 16 → A a b → B a b) → i < 16 → Chain A i j → Chain B i j
chain_map f h Chain.none = Chain.none
chain_map {i = i} f h (Chain.more {j = j} l a c) = Chain.more l (f i j h l a) (chain_map f l c)
