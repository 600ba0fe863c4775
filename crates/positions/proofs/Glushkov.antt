-- The words of a path are told by which steps may begin, follow and end them (Glushkov).
use Prim.Native.Nat.{ℕ, ◌+◌, ◌≤◌, ◌<◌}
use mathlib.Core.Path.{◌≡◌, refl, sym, ap, subst}
use mathlib.Core.Logic.{inl, inr, ◌↔◌}
use mathlib.Core.List.{List, [], ◌∷◌, ◌++◌, append_assoc, append-nil}
use lib.ListN.{length, length-append}
use native.Mathlib.Omega.{arith}
use Rattle.xpath.specs.Syntax.{XPath, empty, one, seq, union, star, steps, size}
use Rattle.positions.specs.Positions.{Word, Several, none, more}
use Rattle.positions.specs.Glushkov.{Nullable, Begins, Stops, Next}

-- i ∷ ws goes by F and stops in L
abbrev pub Local : (ℕ → ℕ → Type 0) → (ℕ → Type 0) → ℕ → List ℕ → Type 0
Local F L i [] = L i
Local F L i (j ∷ ws) = F i j × Local F L j ws

abbrev pub LocalWord : XPath → ℕ → List ℕ → Type 0
LocalWord P b [] = Nullable P
LocalWord P b (i ∷ ws) = Begins P b i × Local (Next P b) (Stops P b) i ws

-- ── Ranges ──
abbrev pub In : XPath → ℕ → ℕ → Type 0
In P b i = (b ≤ i) × (i < b + size P)

in_left : (P Q : XPath) (b i : ℕ) → In P b i → (b ≤ i) × (i < b + length (steps P ++ steps Q))
in_left P Q b i h = omega (arith, length-append (steps P) (steps Q))

in_right : (P Q : XPath) (b i : ℕ) → In Q (b + size P) i → (b ≤ i) × (i < b + length (steps P ++ steps Q))
in_right P Q b i h = omega (arith, length-append (steps P) (steps Q))

pub begins_in : (P : XPath) (b j : ℕ) → Begins P b j → In P b j
begins_in empty b j h = absurd h
begins_in (one s) b j h = omega arith
begins_in (seq P Q) b j (inl h) = in_left P Q b j (begins_in P b j h)
begins_in (seq P Q) b j (inr h) = in_right P Q b j (begins_in Q (b + size P) j h.1)
begins_in (union P Q) b j (inl h) = in_left P Q b j (begins_in P b j h)
begins_in (union P Q) b j (inr h) = in_right P Q b j (begins_in Q (b + size P) j h)
begins_in (star P) b j h = begins_in P b j h

pub stops_in : (P : XPath) (b j : ℕ) → Stops P b j → In P b j
stops_in empty b j h = absurd h
stops_in (one s) b j h = omega arith
stops_in (seq P Q) b j (inl h) = in_right P Q b j (stops_in Q (b + size P) j h)
stops_in (seq P Q) b j (inr h) = in_left P Q b j (stops_in P b j h.1)
stops_in (union P Q) b j (inl h) = in_left P Q b j (stops_in P b j h)
stops_in (union P Q) b j (inr h) = in_right P Q b j (stops_in Q (b + size P) j h)
stops_in (star P) b j h = stops_in P b j h

pub next_in : (P : XPath) (b i j : ℕ) → Next P b i j → In P b i × In P b j
next_in empty b i j h = absurd h
next_in (one s) b i j h = absurd h
next_in (seq P Q) b i j (inl h) = let r = next_in P b i j h in (in_left P Q b i r.0, in_left P Q b j r.1)
next_in (seq P Q) b i j (inr (inl h)) = let r = next_in Q (b + size P) i j h in (in_right P Q b i r.0, in_right P Q b j r.1)
next_in (seq P Q) b i j (inr (inr h)) = (in_left P Q b i (stops_in P b i h.0), in_right P Q b j (begins_in Q (b + size P) j h.1))
next_in (union P Q) b i j (inl h) = let r = next_in P b i j h in (in_left P Q b i r.0, in_left P Q b j r.1)
next_in (union P Q) b i j (inr h) = let r = next_in Q (b + size P) i j h in (in_right P Q b i r.0, in_right P Q b j r.1)
next_in (star P) b i j (inl h) = next_in P b i j h
next_in (star P) b i j (inr h) = (stops_in P b i h.0, begins_in P b j h.1)

-- no number is in both halves
apart : (P Q : XPath) (b i : ℕ) → In P b i → In Q (b + size P) i → ⊥
apart P Q b i h g = omega arith

-- ── A word is local ──
local_then : {F F' : ℕ → ℕ → Type 0} {L : ℕ → Type 0} (L' : ℕ → Type 0) (w : List ℕ) → ((i j : ℕ) → F i j → F' i j) → ((k : ℕ) → L k → Local F' L' k w)
    → (u : List ℕ) (i : ℕ) → Local F L i u → Local F' L' i (u ++ w)
local_then L' w f e [] i h = e i h
local_then L' w f e (j ∷ u) i h = (f i j h.0, local_then L' w f e u j h.1)

local_map : {F F' : ℕ → ℕ → Type 0} {L L' : ℕ → Type 0} → ((i j : ℕ) → F i j → F' i j) → ((k : ℕ) → L k → L' k)
    → (u : List ℕ) (i : ℕ) → Local F L i u → Local F' L' i u
local_map f e [] i h = e i h
local_map f e (j ∷ u) i h = (f i j h.0, local_map f e u j h.1)

seq_local : (P Q : XPath) (b : ℕ) (u w : List ℕ) → LocalWord P b u → LocalWord Q (b + size P) w → LocalWord (seq P Q) b (u ++ w)
seq_local P Q b [] [] h g = (h, g)
seq_local P Q b [] (j ∷ w) h g = (inr (h, g.0), local_map (λ i j n. inr (inl n)) (λ k s. inl s) w j g.1)
seq_local P Q b (i ∷ u) [] h g = (inl h.0, local_then (Stops (seq P Q) b) [] (λ i j n. inl n) (λ k s. inr (g, s)) u i h.1)
seq_local P Q b (i ∷ u) (j ∷ w) h g =
    (inl h.0, local_then (Stops (seq P Q) b) (j ∷ w) (λ i j n. inl n) (λ k s. (inr (inr (s, g.0)), local_map (λ i j n. inr (inl n)) (λ k s. inl s) w j g.1)) u i h.1)

star_local : (P : XPath) (b : ℕ) (u w : List ℕ) → LocalWord P b u → LocalWord (star P) b w → LocalWord (star P) b (u ++ w)
star_local P b [] w h g = g
star_local P b (i ∷ u) [] h g = (h.0, local_then (Stops P b) [] (λ i j n. inl n) (λ k s. s) u i h.1)
star_local P b (i ∷ u) (j ∷ w) h g = (h.0, local_then (Stops P b) (j ∷ w) (λ i j n. inl n) (λ k s. (inr (s, g.0), g.1)) u i h.1)

union_left : (P Q : XPath) (b : ℕ) (ws : List ℕ) → LocalWord P b ws → LocalWord (union P Q) b ws
union_left P Q b [] h = inl h
union_left P Q b (i ∷ ws) h = (inl h.0, local_map (λ i j n. inl n) (λ k s. inl s) ws i h.1)

union_right : (P Q : XPath) (b : ℕ) (ws : List ℕ) → LocalWord Q (b + size P) ws → LocalWord (union P Q) b ws
union_right P Q b [] h = inr h
union_right P Q b (i ∷ ws) h = (inr h.0, local_map (λ i j n. inr n) (λ k s. inr s) ws i h.1)

pub word_local : (P : XPath) (b : ℕ) (ws : List ℕ) → Word P b ws → LocalWord P b ws
word_local empty b ws h = subst (λ l. LocalWord empty b l) (sym h) tt
word_local (one s) b ws h = subst (λ l. LocalWord (one s) b l) (sym h) (refl, refl)
word_local (seq P Q) b ws h =
    subst (λ l. LocalWord (seq P Q) b l) (sym h.2) (seq_local P Q b h.0 h.1 (word_local P b h.0 h.3) (word_local Q (b + size P) h.1 h.4))
word_local (union P Q) b ws (inl h) = union_left P Q b ws (word_local P b ws h)
word_local (union P Q) b ws (inr h) = union_right P Q b ws (word_local Q (b + size P) ws h)
word_local (star P) b ws h = go (λ u k. word_local P b u k) ws h
  where
    go : ((u : List ℕ) → Word P b u → LocalWord P b u) → (ws : List ℕ) → Several (λ u. Word P b u) ws → LocalWord (star P) b ws
    go ih ws none = tt
    go ih ws (more {u = u} {w = w} k r) = star_local P b u w (ih u k) (go ih w r)

-- ── What is local is a word ──
pub null_word : (P : XPath) (b : ℕ) → Nullable P → Word P b []
null_word empty b h = refl
null_word (one s) b h = absurd h
null_word (seq P Q) b h = ([], [], refl, null_word P b h.0, null_word Q (b + size P) h.1)
null_word (union P Q) b (inl h) = inl (null_word P b h)
null_word (union P Q) b (inr h) = inr (null_word Q (b + size P) h)
null_word (star P) b h = none

seq_right : (P Q : XPath) (b : ℕ) (ws : List ℕ) (i : ℕ) → In Q (b + size P) i → Local (Next (seq P Q) b) (Stops (seq P Q) b) i ws
    → Local (Next Q (b + size P)) (Stops Q (b + size P)) i ws
seq_right P Q b [] i r (inl s) = s
seq_right P Q b [] i r (inr s) = absurd (apart P Q b i (stops_in P b i s.1) r)
seq_right P Q b (j ∷ ws) i r (inl n, h) = absurd (apart P Q b i (next_in P b i j n).0 r)
seq_right P Q b (j ∷ ws) i r (inr (inl n), h) = (n, seq_right P Q b ws j (next_in Q (b + size P) i j n).1 h)
seq_right P Q b (j ∷ ws) i r (inr (inr n), h) = absurd (apart P Q b i (stops_in P b i n.0) r)

seq_split : (P Q : XPath) (b : ℕ) (ws : List ℕ) (i : ℕ) → In P b i → Local (Next (seq P Q) b) (Stops (seq P Q) b) i ws
    → (u w : List ℕ) × (ws ≡ u ++ w) × Local (Next P b) (Stops P b) i u × LocalWord Q (b + size P) w
seq_split P Q b [] i r (inl s) = absurd (apart P Q b i r (stops_in Q (b + size P) i s))
seq_split P Q b [] i r (inr s) = ([], [], refl, s.1, s.0)
seq_split P Q b (j ∷ ws) i r (inl n, h) =
    let (u, w, e, l, g) = seq_split P Q b ws j (next_in P b i j n).1 h in
    (j ∷ u, w, ap (λ (x : List ℕ). j ∷ x) e, (n, l), g)
seq_split P Q b (j ∷ ws) i r (inr (inl n), h) = absurd (apart P Q b i r (next_in Q (b + size P) i j n).0)
seq_split P Q b (j ∷ ws) i r (inr (inr n), h) =
    ([], j ∷ ws, refl, n.0, (n.1, seq_right P Q b ws j (begins_in Q (b + size P) j n.1) h))

only_left : (P Q : XPath) (b : ℕ) (ws : List ℕ) (i : ℕ) → In P b i → Local (Next (union P Q) b) (Stops (union P Q) b) i ws → Local (Next P b) (Stops P b) i ws
only_left P Q b [] i r (inl s) = s
only_left P Q b [] i r (inr s) = absurd (apart P Q b i r (stops_in Q (b + size P) i s))
only_left P Q b (j ∷ ws) i r (inl n, h) = (n, only_left P Q b ws j (next_in P b i j n).1 h)
only_left P Q b (j ∷ ws) i r (inr n, h) = absurd (apart P Q b i r (next_in Q (b + size P) i j n).0)

only_right : (P Q : XPath) (b : ℕ) (ws : List ℕ) (i : ℕ) → In Q (b + size P) i → Local (Next (union P Q) b) (Stops (union P Q) b) i ws
    → Local (Next Q (b + size P)) (Stops Q (b + size P)) i ws
only_right P Q b [] i r (inl s) = absurd (apart P Q b i (stops_in P b i s) r)
only_right P Q b [] i r (inr s) = s
only_right P Q b (j ∷ ws) i r (inl n, h) = absurd (apart P Q b i (next_in P b i j n).0 r)
only_right P Q b (j ∷ ws) i r (inr n, h) = (n, only_right P Q b ws j (next_in Q (b + size P) i j n).1 h)

star_split : (P : XPath) (b : ℕ) → ((u : List ℕ) → LocalWord P b u → Word P b u) → (ws : List ℕ) (i : ℕ) → Local (Next (star P) b) (Stops P b) i ws
    → (u w : List ℕ) × (ws ≡ u ++ w) × Local (Next P b) (Stops P b) i u × Several (λ x. Word P b x) w
star_split P b ih [] i h = ([], [], refl, h, none)
star_split P b ih (j ∷ ws) i (inl n, h) =
    let (u, w, e, l, g) = star_split P b ih ws j h in
    (j ∷ u, w, ap (λ (x : List ℕ). j ∷ x) e, (n, l), g)
star_split P b ih (j ∷ ws) i (inr n, h) =
    let (u, w, e, l, g) = star_split P b ih ws j h in
    ([], j ∷ ws, refl, n.0, rw e (more (ih (j ∷ u) (n.1, l)) g))

pub local_word : (P : XPath) (b : ℕ) (ws : List ℕ) → LocalWord P b ws → Word P b ws
local_word empty b [] h = refl
local_word empty b (i ∷ ws) (h, g) = absurd h
local_word (one s) b [] h = absurd h
local_word (one s) b (i ∷ []) (h, g) = ap (λ (x : ℕ). x ∷ []) h
local_word (one s) b (i ∷ j ∷ ws) (h, (n, g)) = absurd n
local_word (seq P Q) b [] h = null_word (seq P Q) b h
local_word (seq P Q) b (i ∷ ws) (inl h, g) =
    let (u, w, e, l, k) = seq_split P Q b ws i (begins_in P b i h) g in
    (i ∷ u, w, ap (λ (x : List ℕ). i ∷ x) e, local_word P b (i ∷ u) (h, l), local_word Q (b + size P) w k)
local_word (seq P Q) b (i ∷ ws) (inr h, g) =
    ([], i ∷ ws, refl, null_word P b h.0, local_word Q (b + size P) (i ∷ ws) (h.1, seq_right P Q b ws i (begins_in Q (b + size P) i h.1) g))
local_word (union P Q) b [] h = null_word (union P Q) b h
local_word (union P Q) b (i ∷ ws) (inl h, g) = inl (local_word P b (i ∷ ws) (h, only_left P Q b ws i (begins_in P b i h) g))
local_word (union P Q) b (i ∷ ws) (inr h, g) = inr (local_word Q (b + size P) (i ∷ ws) (h, only_right P Q b ws i (begins_in Q (b + size P) i h) g))
local_word (star P) b [] h = none
local_word (star P) b (i ∷ ws) (h, g) =
    let (u, w, e, l, k) = star_split P b (λ u x. local_word P b u x) ws i g in
    rw e (more (local_word P b (i ∷ u) (h, l)) k)

-- The local-language theorem
pub word_iff_local : (P : XPath) (b : ℕ) (ws : List ℕ) → Word P b ws ↔ LocalWord P b ws
word_iff_local P b ws = (word_local P b ws, local_word P b ws)

-- ── Every path has a word, and a word for whatever begins, stops and follows ──
pub some_word : (P : XPath) (b : ℕ) → (ws : List ℕ) × Word P b ws
some_word empty b = ([], refl)
some_word (one s) b = (b ∷ [], refl)
some_word (seq P Q) b = let (u, h) = some_word P b in let (w, g) = some_word Q (b + size P) in (u ++ w, (u, w, refl, h, g))
some_word (union P Q) b = let (u, h) = some_word P b in (u, inl h)
some_word (star P) b = ([], none)

alone : (W : List ℕ → Type 0) (u : List ℕ) → W u → Several W u
alone W u h = let r : Several W (u ++ []) = more h none in rw append-nil at r

pub begins_word : (P : XPath) (b j : ℕ) → Begins P b j → (w : List ℕ) × Word P b (j ∷ w)
begins_word empty b j h = absurd h
begins_word (one s) b j h = ([], ap (λ (x : ℕ). x ∷ []) h)
begins_word (seq P Q) b j (inl h) =
    let (w, g) = begins_word P b j h in let (v, k) = some_word Q (b + size P) in
    (w ++ v, (j ∷ w, v, refl, g, k))
begins_word (seq P Q) b j (inr h) = let (w, g) = begins_word Q (b + size P) j h.1 in (w, ([], j ∷ w, refl, null_word P b h.0, g))
begins_word (union P Q) b j (inl h) = let (w, g) = begins_word P b j h in (w, inl g)
begins_word (union P Q) b j (inr h) = let (w, g) = begins_word Q (b + size P) j h in (w, inr g)
begins_word (star P) b j h = let (w, g) = begins_word P b j h in (w, alone (λ u. Word P b u) (j ∷ w) g)

pub stops_word : (P : XPath) (b i : ℕ) → Stops P b i → (u : List ℕ) × Word P b (u ++ i ∷ [])
stops_word empty b i h = absurd h
stops_word (one s) b i h = ([], ap (λ (x : ℕ). x ∷ []) h)
stops_word (seq P Q) b i (inl h) =
    let (u, g) = stops_word Q (b + size P) i h in let (v, k) = some_word P b in
    (v ++ u, (v, u ++ i ∷ [], append_assoc v u (i ∷ []), k, g))
stops_word (seq P Q) b i (inr h) =
    let (u, g) = stops_word P b i h.1 in
    (u, (u ++ i ∷ [], [], sym (append-nil (u ++ i ∷ [])), g, null_word Q (b + size P) h.0))
stops_word (union P Q) b i (inl h) = let (u, g) = stops_word P b i h in (u, inl g)
stops_word (union P Q) b i (inr h) = let (u, g) = stops_word Q (b + size P) i h in (u, inr g)
stops_word (star P) b i h = let (u, g) = stops_word P b i h in (u, alone (λ x. Word P b x) (u ++ i ∷ []) g)

pub next_word : (P : XPath) (b i j : ℕ) → Next P b i j → (u w : List ℕ) × Word P b (u ++ i ∷ j ∷ w)
next_word empty b i j h = absurd h
next_word (one s) b i j h = absurd h
next_word (seq P Q) b i j (inl h) =
    let (u, w, g) = next_word P b i j h in let (v, k) = some_word Q (b + size P) in
    (u, w ++ v, (u ++ i ∷ j ∷ w, v, sym (append_assoc u (i ∷ j ∷ w) v), g, k))
next_word (seq P Q) b i j (inr (inl h)) =
    let (u, w, g) = next_word Q (b + size P) i j h in let (v, k) = some_word P b in
    (v ++ u, w, (v, u ++ i ∷ j ∷ w, append_assoc v u (i ∷ j ∷ w), k, g))
next_word (seq P Q) b i j (inr (inr h)) =
    let (u, g) = stops_word P b i h.0 in let (w, k) = begins_word Q (b + size P) j h.1 in
    (u, w, (u ++ i ∷ [], j ∷ w, sym (append_assoc u (i ∷ []) (j ∷ w)), g, k))
next_word (union P Q) b i j (inl h) = let (u, w, g) = next_word P b i j h in (u, w, inl g)
next_word (union P Q) b i j (inr h) = let (u, w, g) = next_word Q (b + size P) i j h in (u, w, inr g)
next_word (star P) b i j (inl h) = let (u, w, g) = next_word P b i j h in (u, w, alone (λ x. Word P b x) (u ++ i ∷ j ∷ w) g)
next_word (star P) b i j (inr h) =
    let (u, g) = stops_word P b i h.0 in let (w, k) = begins_word P b j h.1 in
    let r : Several (λ x. Word P b x) (u ++ i ∷ [] ++ j ∷ w) = more g (alone (λ x. Word P b x) (j ∷ w) k) in
    (u, w, rw append_assoc at r)

-- ── and back: what stands in a word follows ──
local_at : (F : ℕ → ℕ → Type 0) (L : ℕ → Type 0) (u w : List ℕ) (k i : ℕ) → Local F L k (u ++ i ∷ w) → Local F L i w
local_at F L [] w k i h = h.1
local_at F L (x ∷ u) w k i h = local_at F L u w x i h.1

word_at : (P : XPath) (b : ℕ) (u w : List ℕ) (i : ℕ) → LocalWord P b (u ++ i ∷ w) → Local (Next P b) (Stops P b) i w
word_at P b [] w i h = h.1
word_at P b (k ∷ u) w i h = local_at (Next P b) (Stops P b) u w k i h.1

pub next_iff : (P : XPath) (b i j : ℕ) → Next P b i j ↔ ((u w : List ℕ) × Word P b (u ++ i ∷ j ∷ w))
next_iff P b i j = (next_word P b i j, λ h. (word_at P b h.0 (j ∷ h.1) i (word_local P b _ h.2)).0)

pub stops_iff : (P : XPath) (b i : ℕ) → Stops P b i ↔ ((u : List ℕ) × Word P b (u ++ i ∷ []))
stops_iff P b i = (stops_word P b i, λ h. word_at P b h.0 [] i (word_local P b _ h.1))

pub begins_iff : (P : XPath) (b j : ℕ) → Begins P b j ↔ ((w : List ℕ) × Word P b (j ∷ w))
begins_iff P b j = (begins_word P b j, λ h. (word_local P b _ h.1).0)

pub null_iff : (P : XPath) (b : ℕ) → Nullable P ↔ Word P b []
null_iff P b = (null_word P b, word_local P b [])
