-- What stays when a part of the scratch is written.
use Prim.Native.Nat.{ℕ, zero, suc, ◌+◌, ◌-◌, ◌*◌, ◌/◌, ◌%◌, ◌^◌, ◌≤◌, ◌<◌}
use native.Mathlib.Nat.{mul-le-mul_right, mul-le-mul, mul_comm}
use native.Mathlib.Omega.{arith}
use mathlib.Core.Path.{◌≡◌, ap}
use mathlib.Core.List.{List}
use lib.ListN.{length, get_or}
use Rattle.lists.specs.Text.{binary_digits}
use Rattle.lists.proofs.Numerals.{binary_above}
use Rattle.limits.specs.Limits.{scratch_words}
use Rattle.bits.specs.Sets.{bit}
use Rattle.document_spec.specs.Library.{Node}
use Rattle.layout.specs.Table.{AMOUNT, COLUMNS, RANK, TESTS}
use Rattle.layout.specs.Words.{word, Within}
use Rattle.layout.proofs.Frames.{frame_wider, within_frame}
use Rattle.table.proofs.Linked.{linked_same}
use Rattle.value_notes.proofs.Annotated.{annotated_same}
use Rattle.ranks.proofs.Kept.{ranked_same}
use Rattle.amounts.proofs.Kept.{weighed_same}
use Rattle.test_bits.specs.Columns.{held}
use Rattle.driver.specs.Tasks.{Scene, Apart}

-- the scratch's own words are at least 192 for each node
pub scratch_room : (n : ℕ) → 0 < n → 192 * n ≤ scratch_words n
unfolding scratch_words
scratch_room n h =
    let b = digits (binary_digits n) (binary_above n) in
    let e = mul_comm n 192 in
    let l : n * 192 ≤ n * (64 * binary_digits n + 128) = mul-le-mul {n₂ = n} (omega arith) (omega arith) in omega arith
  where
    digits : (b : ℕ) → n < 2 ^ b → 1 ≤ b
    digits zero l = absurd (omega arith)
    digits (suc b) l = omega arith

-- ── Apart ──
pub within_apart : {n c d : ℕ} {t t' : List ℕ} → 0 < n → COLUMNS ≤ c → d ≤ 192 → Within n c d t t' → Apart n t t'
within_apart {n} {c} {d} pos low high w =
    let r = scratch_room n pos in
    let b : d * n ≤ 192 * n = mul-le-mul_right n high in
    frame_wider (mul-le-mul_right n low) (omega arith) (within_frame w)

-- ── What the table says ──
pub word_apart : {n : ℕ} {t t' : List ℕ} → Apart n t t' → (c v : ℕ) → c < COLUMNS → v < n → word t' n c v ≡ word t n c v
word_apart {n} a c v h l = let k : c * n ≤ 15 * n = mul-le-mul_right n (omega arith) in a.front (c * n + v) (omega arith)

pub held_apart : {n : ℕ} {t t' : List ℕ} → Apart n t t' → (k v : ℕ) → k < 64 → v < n → held t' n k v ≡ held t n k v
held_apart a k v h l = ap (λ w. bit w (k % 16)) (word_apart a (TESTS + k / 16) v (omega arith) l)

-- the tree, the notes of the values and the ranks of both kinds are told by the columns before those of the tests
pub scene_same : {s : List ℕ} {ns : List Node} {n : ℕ} {t t' : List ℕ} → Scene s ns n t → length t' ≡ length t
    → ((i : ℕ) → i < TESTS * n → get_or t' i 0 ≡ get_or t i 0) → Scene s ns n t'
scene_same {s} {ns} {n} {t} {t'} c long same =
    let e = c.size in let room = c.room in
    record {
      library = c.library;
      size = e;
      linked = linked_same c.linked (λ k l. same k (omega arith));
      annotated = annotated_same c.annotated long (λ k v h d l. let m : k * n ≤ (AMOUNT - 1) * n = mul-le-mul_right n (omega arith) in same (k * n + v) (omega arith));
      ranked = ranked_same (λ v l. same (RANK * length ns + v) (omega arith)) c.ranked;
      weighed = weighed_same (λ v l. same (AMOUNT * length ns + v) (omega arith)) c.weighed;
      room = omega arith;
    }
