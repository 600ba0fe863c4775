-- The loop that notes the keys of all nodes.
use Prim.Native.Nat.{ℕ, suc, ◌≤◌, ◌<◌}
use mathlib.Core.Path.{◌≡◌, sym, ◌∙◌, subst}
use mathlib.Core.List.{List}
use native.Mathlib.Omega.{arith}
use native.Mathlib.Decide.{ℕ_discrete}
use Rattle.document_spec.specs.Library.{Node}
use Rattle.document_spec.specs.Binary.{compared_of}
use Rattle.document_spec.specs.Verdict.{Accepts}
use Rattle.layout.specs.Words.{Wrote}
use Rattle.layout.proofs.Frames.{within_none, within_then}
use Rattle.value_notes.specs.Notes.{Annotated}
use Rattle.numerals.specs.Keys.{no_key}
use Rattle.numerals.proofs.Keys.{key_most}
use Rattle.amounts.specs.Weighed.{key_at}
use Rattle.amounts.specs.Keys.{key_in, keyed}
use Rattle.amounts.specs.Steps.{Keyed}
use Rattle.amounts.proofs.Words.{key_written, key_other, keyed_within}

-- what is read fits in three words
pub key_fits : {s : List ℕ} {n : ℕ} (v : ℕ) {k : ℕ} {t : List ℕ} → Annotated s n t → ((ns : List Node) → Accepts s ns → k ≡ key_at ns v) → k ≤ no_key
key_fits v h f = let ns = h.tabled.nodes in let e = f ns h.tabled.accepts in let m = key_most (compared_of ns v) in omega arith

pub keyed_none : (s : List ℕ) (n : ℕ) (t : List ℕ) → Keyed s n 0 t t
keyed_none s n t = record { inside = omega arith; within = within_none t; keyed = λ ns a v l. absurd (omega arith) }

pub keyed_step : {s : List ℕ} {n m : ℕ} {t₀ t t' : List ℕ} (k : ℕ) → Keyed s n m t₀ t → m < n → ((ns : List Node) → Accepts s ns → k ≡ key_at ns m)
    → Wrote (keyed n m k) t t' → Keyed s n (suc m) t₀ t'
keyed_step {s} {n} {m} {t₀} {t} {t'} k g r f w =
    record { inside = r; within = within_then g.within (keyed_within n m k w r); keyed = λ ns a v l. go ns a v l (ℕ_discrete v m) }
  where
    go : (ns : List Node) → Accepts s ns → (v : ℕ) → v < suc m → Dec (v ≡ m) → key_in t' n v ≡ key_at ns v
    go ns a v l (yes e) = subst (λ u. key_in t' n u ≡ key_at ns u) (sym e) (key_written n m k w ∙ f ns a)
    go ns a v l (no d) = key_other n m k w v (omega arith) r d ∙ g.keyed ns a v (omega arith)

pub keyed_all : {s : List ℕ} {n m : ℕ} {t t' : List ℕ} → Keyed s n m t t' → n ≤ m → Keyed s n n t t'
keyed_all {s} {n} {m} {t} {t'} g l = let i = g.inside in let e : m ≡ n = omega arith in subst (λ k. Keyed s n k t t') e g
