-- Digital search trees over lines of a text. A search for a line goes by the line itself: three of its bytes choose a root, and its binary digits a link of each line that is met.
use Rattle.std.specs.Prelude.{ℕ, zero, suc, ◌+◌, ◌*◌, ◌-◌, ◌/◌, ◌%◌, ◌^◌, ◌≤◌, ◌<◌, ◌≡◌, ◌≢◌, List, ◌++◌, length, get_or, drop, Option, Some, None, Result, Ok, Err}
use Rattle.lists.specs.Text.{bytes}
use Rattle.limits.specs.Limits.{document_nodes, label_bytes}
use Rattle.limits.specs.Names.{Name}
use Rattle.document_spec.specs.Verdict.{first_line}
use Rattle.label_trees.specs.declared.NotAdded.{NotAdded}
use Rattle.label_trees.specs.declared.NotAdded.TheVariants.{Twice, Full}

-- ── Lines ──
-- the line from an offset on, with its LF
abbrev pub key_at : List ℕ → ℕ → List ℕ
key_at s o = first_line (drop o s)

-- a label and its LF stand from an offset up to another
pub record Stands (s : List ℕ) (from to : ℕ) : Type 0 where
  pub label : List ℕ
  pub name : Name label
  pub here : drop from s ≡ (label ++ bytes "\n") ++ drop to s
  pub inside : to ≤ length s

-- the binary digits of a line in the order in which a search goes by them: the lowest two of each byte, from the last before the LF back to the first, then the next two of each; where the line has fewer bytes than a label can have, the first stands for those
abbrev pub digit : List ℕ → ℕ → ℕ
digit l b = get_or l (length l - (2 + b / 2 % label_bytes)) 0 / 2 ^ (b % 2 + 2 * (b / (2 * label_bytes) % 4)) % 2

-- ── Words: the number of lines, 16 roots, and for each line its offset and two links ──
abbrev pub root_count : ℕ
root_count = 2 ^ 4

-- the first and the middle byte of a line and the last before its LF choose its root
abbrev pub root_of : List ℕ → ℕ
root_of l = (get_or l 0 0 + get_or l (length l / 2) 0 + get_or l (length l - 2) 0) % root_count

abbrev pub heads : ℕ
heads = 1 + root_count

abbrev pub max_words : ℕ
max_words = heads + 3 * document_nodes

abbrev pub held : List ℕ → ℕ
held t = get_or t 0 0

abbrev pub offset_at : List ℕ → ℕ → ℕ
offset_at t k = get_or t (heads + 3 * k) 0

-- the lines that are held begin before an offset, or there
abbrev pub Below : List ℕ → ℕ → Type 0
Below t i = (k : ℕ) → k < held t → offset_at t k ≤ i

-- ── Searches ──
-- the link that a search for the line l reads when it has met d lines; the links of line q, counted from 1, stand behind its offset at heads + 3 × (q - 1)
unfoldable pub link_of : List ℕ → List ℕ → ℕ → ℕ
link_of t l zero = 1 + root_of l
link_of t l (suc d) = heads - 2 + 3 * get_or t (link_of t l d) 0 + digit l d

-- a search for the line l meets line q, counted from 1
pub record Meets (t l : List ℕ) (q : ℕ) : Type 0 where
  pub steps : ℕ
  pub here : get_or t (link_of t l steps) 0 ≡ q
  pub on : (d : ℕ) → d < steps → 0 < get_or t (link_of t l d) 0

-- the words hold lines of s: links lead to later lines, and a search for a line that is held meets it
pub record Holds (s t : List ℕ) : Type 0 where
  pub room : heads + 3 * held t ≤ length t
  pub roots : (r : ℕ) → r < root_count → get_or t (1 + r) 0 ≤ held t
  pub links : (k i : ℕ) → k < held t → i < 2 → get_or t (heads + 1 + 3 * k + i) 0 ≤ held t
  pub rising : (k i : ℕ) → k < held t → i < 2 → 0 < get_or t (heads + 1 + 3 * k + i) 0 → suc k < get_or t (heads + 1 + 3 * k + i) 0
  pub met : (k : ℕ) → k < held t → Meets t (key_at s (offset_at t k)) (suc k)

-- the line at an offset is held
abbrev pub IsHeld : (s t : List ℕ) → ℕ → Type 0
IsHeld s t o = (k : ℕ) × (k < held t) × (key_at s (offset_at t k) ≡ key_at s o)

-- a search for the line at an offset ends at the free link p, or meets the line
abbrev pub Placed : (s t : List ℕ) → ℕ → Option ℕ → Type 0
Placed s t o (Some p) = (¬ IsHeld s t o) × ((d : ℕ) × (p ≡ link_of t (key_at s o) d) × (get_or t p 0 ≡ 0) × ((e : ℕ) → e < d → 0 < get_or t (link_of t (key_at s o) e) 0))
Placed s t o None = IsHeld s t o

-- ── One line more ──
-- the next line begins at o, has no links, and is where link p leads; the words before it are else as they were
pub record Inserted (t : List ℕ) (p o : ℕ) (t' : List ℕ) : Type 0 where
  pub long : length t' ≡ length t
  pub count : held t' ≡ suc (held t)
  pub link : get_or t' p 0 ≡ suc (held t)
  pub offset : offset_at t' (held t) ≡ o
  pub free : (i : ℕ) → i < 2 → get_or t' (heads + 1 + 3 * held t + i) 0 ≡ 0
  pub other : (j : ℕ) → j ≢ 0 → j ≢ p → j < heads + 3 * held t → get_or t' j 0 ≡ get_or t j 0

pub record Grown (s t : List ℕ) (o : ℕ) (t' : List ℕ) : Type 0 where
  pub long : length t' ≡ length t
  pub fresh : ¬ IsHeld s t o
  pub holds : Holds s t'
  pub more : held t' ≡ suc (held t)
  pub old : (k : ℕ) → k < held t → offset_at t' k ≡ offset_at t k
  pub new : offset_at t' (held t) ≡ o

abbrev pub Adds : (s t : List ℕ) → ℕ → List ℕ → Result (Unit {0}) NotAdded → Type 0
Adds s t o t' (Ok u) = Grown s t o t'
Adds s t o t' (Err Twice) = (t' ≡ t) × IsHeld s t o
Adds s t o t' (Err Full) = (t' ≡ t) × (length t < heads + 3 * suc (held t))

-- ── More words ──
-- what was held in t is held in u'
pub record Copied (t u u' : List ℕ) : Type 0 where
  pub long : length u' ≡ length u
  pub same : held u' ≡ held t
  pub offsets : (k : ℕ) → heads + 3 * k < length t → offset_at u' k ≡ offset_at t k
  pub holds : (s : List ℕ) → Holds s t → Holds s u'
