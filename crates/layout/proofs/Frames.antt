-- Laws of what may have changed: words from one up to another, columns, and any words.
use Prim.Native.Nat.{ℕ, suc, ◌*◌, ◌≤◌, ◌<◌}
use mathlib.Core.Path.{◌≡◌, refl, sym, ◌∙◌}
use mathlib.Core.Logic.{◌⊎◌, inl, inr}
use mathlib.Core.List.{List, [], ◌∷◌}
use lib.ListN.{get_or, set, length-set}
use lib.Seq.{get_or-set_other}
use native.Mathlib.Nat.{mul-le-mul_right}
use native.Mathlib.Omega.{arith}
use Rattle.layout.specs.Words.{cell, word, Wrote, Frame, Within, Same}
use Rattle.layout.specs.Table.{Room}

-- ── Words from one up to another ──
pub frame_none : {a b : ℕ} (t : List ℕ) → Frame a b t t
frame_none t = record { long = refl; front = λ k h. refl; behind = λ k h. refl }

pub frame_then : {a b : ℕ} {t t₁ t₂ : List ℕ} → Frame a b t t₁ → Frame a b t₁ t₂ → Frame a b t t₂
frame_then g h = record { long = h.long ∙ g.long; front = λ k r. h.front k r ∙ g.front k r; behind = λ k r. h.behind k r ∙ g.behind k r }

pub frame_back : {a b : ℕ} {t t' : List ℕ} → Frame a b t t' → Frame a b t' t
frame_back h = record { long = sym h.long; front = λ k r. sym (h.front k r); behind = λ k r. sym (h.behind k r) }

pub frame_wider : {a b c d : ℕ} {t t' : List ℕ} → a ≤ c → d ≤ b → Frame c d t t' → Frame a b t t'
frame_wider l r h = record { long = h.long; front = λ k q. h.front k (omega arith); behind = λ k q. h.behind k (omega arith) }

-- one word
pub set_frame : (t : List ℕ) (k x : ℕ) → Frame k (suc k) t (set t k x)
set_frame t k x = record { long = length-set t k x; front = λ l h. get_or-set_other t k l x 0 (omega arith); behind = λ l h. get_or-set_other t k l x 0 (omega arith) }

pub wrote_frame : {k x : ℕ} {t t' : List ℕ} → Wrote ((k, x) ∷ []) t t' → Frame k (suc k) t t'
wrote_frame w = record { long = w.long; front = λ l h. w.other l (omega arith, tt); behind = λ l h. w.other l (omega arith, tt) }

-- ── Columns ──
pub within_frame : {n c d : ℕ} {t t' : List ℕ} → Within n c d t t' → Frame (c * n) (d * n) t t'
within_frame h = record { long = h.long; front = h.front; behind = h.behind }

pub frame_within : (n c d : ℕ) {t t' : List ℕ} → Frame (c * n) (d * n) t t' → Within n c d t t'
frame_within n c d h = record { long = h.long; front = h.front; behind = h.behind }

pub within_none : {n c d : ℕ} (t : List ℕ) → Within n c d t t
within_none {n} {c} {d} t = frame_within n c d (frame_none t)

pub within_then : {n c d : ℕ} {t t₁ t₂ : List ℕ} → Within n c d t t₁ → Within n c d t₁ t₂ → Within n c d t t₂
within_then {n} {c} {d} g h = frame_within n c d (frame_then (within_frame g) (within_frame h))

pub within_back : {n c d : ℕ} {t t' : List ℕ} → Within n c d t t' → Within n c d t' t
within_back {n} {c} {d} h = frame_within n c d (frame_back (within_frame h))

-- fewer columns are within more
pub within_more : {n c d a b : ℕ} {t t' : List ℕ} → a ≤ c → d ≤ b → Within n c d t t' → Within n a b t t'
within_more {n} {c} {d} {a} {b} l r h = frame_within n a b (frame_wider (mul-le-mul_right n l) (mul-le-mul_right n r) (within_frame h))

-- one word of one of the columns
pub within_put : {n c d a v x : ℕ} {t t' : List ℕ} → c ≤ a → a < d → v < n → Wrote ((cell n a v, x) ∷ []) t t' → Within n c d t t'
within_put {n} {c} {d} {a} {v} l r q w =
    let x : c * n ≤ a * n = mul-le-mul_right n l in let y : suc a * n ≤ d * n = mul-le-mul_right n r in
    frame_within n c d (frame_wider (omega arith) (omega arith) (wrote_frame w))

-- the columns before them
pub before_within : {n c d : ℕ} {t t' : List ℕ} → Within n c d t t' → (a v : ℕ) → a < c → v < n → word t' n a v ≡ word t n a v
before_within {n} {c} h a v l r = let y : suc a * n ≤ c * n = mul-le-mul_right n l in h.front (cell n a v) (omega arith)

pub room_within : {n c d : ℕ} {t t' : List ℕ} → Within n c d t t' → Room n t → Room n t'
room_within h r = let l = h.long in omega arith

-- ── Any words ──
pub same_none : {K : ℕ → Type 0} (t : List ℕ) → Same K t t
same_none t = record { long = refl; same = λ k h. refl }

pub same_then : {K : ℕ → Type 0} {t t₁ t₂ : List ℕ} → Same K t t₁ → Same K t₁ t₂ → Same K t t₂
same_then g h = record { long = h.long ∙ g.long; same = λ k r. h.same k r ∙ g.same k r }

pub same_back : {K : ℕ → Type 0} {t t' : List ℕ} → Same K t t' → Same K t' t
same_back h = record { long = sym h.long; same = λ k r. sym (h.same k r) }

-- fewer words are the same
pub same_wider : {K L : ℕ → Type 0} {t t' : List ℕ} → ((k : ℕ) → K k → L k) → Same L t t' → Same K t t'
same_wider f h = record { long = h.long; same = λ k r. h.same k (f k r) }

-- what lies outside a frame is the same
pub frame_same : {K : ℕ → Type 0} {a b : ℕ} {t t' : List ℕ} → ((k : ℕ) → K k → (k < a) ⊎ (b ≤ k)) → Frame a b t t' → Same K t t'
frame_same {K} {a} {b} {t} {t'} f h = record { long = h.long; same = λ k r. go k (f k r) }
  where
    go : (k : ℕ) → (k < a) ⊎ (b ≤ k) → get_or t' k 0 ≡ get_or t k 0
    go k (inl l) = h.front k l
    go k (inr l) = h.behind k l
