-- The notes in their columns: what is written is what is read again.
use Prim.Native.Nat.{ℕ, ◌<◌}
use mathlib.Core.Path.{◌≡◌, ap₂, ◌∙◌}
use mathlib.Core.List.{List, [], ◌∷◌}
use native.Mathlib.Omega.{arith}
use Rattle.layout.specs.Values.{LOW, HIGH, LENGTH, BLANKS}
use Rattle.layout.specs.Words.{cell, word, Wrote}
use Rattle.layout.proofs.Cells.{wrote_then}
use Rattle.value_notes.specs.Notes.{note_at, noted, Noted}
use Rattle.value_notes.specs.declared.notes.Note.{Note}

pub note_of : {a a' b b' k k' l l' : ℕ} → a ≡ a' → b ≡ b' → k ≡ k' → l ≡ l'
    → ◌≡◌ {A = Note} (record { low = a; high = b; length = k; blanks = l }) (record { low = a'; high = b'; length = k'; blanks = l' })
note_of {a} {a'} {b} {b'} {k} {k'} {l} {l'} p q r z =
    ap₂ (λ x y. record { low = x; high = y; length = k; blanks = l }) p q
    ∙ ap₂ (λ x y. record { low = a'; high = b'; length = x; blanks = y }) r z

-- the words are the same, and so is the note
pub note_same : (t t' : List ℕ) (n v : ℕ)
    → word t n LOW v ≡ word t' n LOW v → word t n HIGH v ≡ word t' n HIGH v → word t n LENGTH v ≡ word t' n LENGTH v → word t n BLANKS v ≡ word t' n BLANKS v
    → note_at t n v ≡ note_at t' n v
note_same t t' n v p q r z = note_of p q r z

-- one word after the other
pub noted_wrote : (n v : ℕ) (x : Note) {t t₁ t₂ t₃ t₄ : List ℕ} → v < n
    → Wrote ((cell n LOW v, x.low) ∷ []) t t₁ → Wrote ((cell n HIGH v, x.high) ∷ []) t₁ t₂
    → Wrote ((cell n LENGTH v, x.length) ∷ []) t₂ t₃ → Wrote ((cell n BLANKS v, x.blanks) ∷ []) t₃ t₄ → Wrote (noted n v x) t t₄
noted_wrote n v x r p q a k = wrote_then (wrote_then (wrote_then p (omega arith) q) (omega arith) a) (omega arith) k

pub note_written : (n v : ℕ) (x : Note) {t t' : List ℕ} → Wrote (noted n v x) t t' → note_at t' n v ≡ x
note_written n v x w = let h = w.here in note_of h.1.1.1.0 h.1.1.0 h.1.0 h.0

pub noted_confined : (n v : ℕ) (x : Note) {t t' : List ℕ} → v < n → Wrote (noted n v x) t t' → Noted n t t'
noted_confined n v x r w = record { long = w.long; front = λ k h. w.other k (omega arith); behind = λ k h. w.other k (omega arith) }
