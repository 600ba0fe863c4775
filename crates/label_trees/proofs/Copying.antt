-- The same words among more: what was held is held.
use Prim.Native.Nat.{ℕ, suc, ◌+◌, ◌*◌, ◌≤◌, ◌<◌}
use mathlib.Core.Path.{◌≡◌}
use mathlib.Core.List.{List, ◌++◌}
use native.Mathlib.Omega.{arith}
use lib.ListN.{length, get_or, drop, length-append, length-drop, get_or-append}
use Rattle.label_trees.specs.Trees.{key_at, held, heads, offset_at, Holds, Copied}
use Rattle.label_trees.proofs.Links.{meets_same}

-- only the words that are in use say what is held
holds_same : (s t u : List ℕ) → heads + 3 * held t ≤ length u → ((j : ℕ) → j < heads + 3 * held t → get_or u j 0 ≡ get_or t j 0) → Holds s t → Holds s u
holds_same s t u room same h =
    let n : held u ≡ held t = same 0 (omega arith) in
    record {
      room = rw n room;
      roots = λ r b. rw (n, same (1 + r) (omega arith)) (h.roots r b);
      links = λ k i b two. rw (n, same (18 + 3 * k + i) (omega arith)) (h.links k i (omega arith) two);
      rising = λ k i b two. rw (same (18 + 3 * k + i) (omega arith)) (h.rising k i (omega arith) two);
      met = λ k b.
          rw (same (heads + 3 * k) (omega arith))
          (meets_same h u (λ j p l z. same j l) (key_at s (offset_at t k)) (suc k) (omega arith) (h.met k (omega arith)));
    }

pub copied : (t u u' : List ℕ) → heads ≤ length t → length t ≤ length u → length u' ≡ length u → ((j : ℕ) → j < length t → get_or u' j 0 ≡ get_or t j 0) → Copied t u u'
copied t u u' some more long same =
    record {
      long = long;
      same = same 0 (omega arith);
      offsets = λ k b. same (heads + 3 * k) b;
      holds = λ s h. let r = h.room in holds_same s t u' (omega arith) (λ j b. same j (omega arith)) h;
    }

-- words in front of more words
pub copied_front : (t u : List ℕ) → heads ≤ length t → length t ≤ length u → Copied t u (t ++ drop (length t) u)
copied_front t u some more =
    copied t u (t ++ drop (length t) u) some more (omega (arith, length-append t (drop (length t) u), length-drop (length t) u))
    (λ j l. get_or-append t (drop (length t) u) 0 j l)
