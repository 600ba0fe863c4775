-- What the evaluators of the snippet evaluation tell of a comparison.
use Prim.Native.Nat.{ℕ, zero, suc, ◌+◌, ◌*◌, ◌^◌, ◌≤◌, ◌<◌}
use native.Mathlib.Nat.{add-mul, mul-le-mul_right}
use native.Mathlib.Omega.{arith}
use mathlib.Core.Path.{◌≡◌, refl, sym, ◌∙◌, subst}
use mathlib.Core.Logic.{◌≢◌}
use mathlib.Core.List.{List}
use lib.ListN.{take}
use Rattle.lists.specs.Lists.{All}
use Rattle.lists.specs.Text.{binary_digits}
use Rattle.lists.proofs.Numerals.{binary_above, binary_short}
use Rattle.xpath.specs.Syntax.{Op, eq, XPath, compare}
use Rattle.xpath.specs.Tree.{Tree}
use Rattle.snippets.specs.Values.{EachValueOnce}
use Rattle.snippets.proofs.Counting.{sized_of}
use Rattle.layout.specs.Table.{Room, SmallRanks}
use Rattle.layout.proofs.Frames.{within_then, within_back, within_more, room_within}
use Rattle.machine.specs.declared.Machine.{Machine}
use Rattle.machine.specs.Walks.{Meets}
use Rattle.machine.specs.Shape.{Shape}
use Rattle.machine.proofs.Comparing.{meets_holds, ranks_small}
use Rattle.machine.proofs.Shape.{drawn_shape, shape_within, drawn_within, ranks_within}
use Rattle.test_numbers.proofs.Counted.{counted_pair, counted_no_pair, own_unequal}
use Rattle.loops.specs.Loops.{Stage}
use Rattle.plain.specs.Plain.{Answered}
use Rattle.powers.specs.Blocks.{BlockRoom}
use Rattle.levels.specs.Levels.{Levelled}
use Rattle.buckets.specs.Buckets.{Buckets, Bucketed}
use Rattle.buckets.proofs.Least.{buckets_within}
use Rattle.group_order.specs.Groups.{Listed}
use Rattle.group_ends.specs.Ends.{Enough}
use Rattle.equalities.specs.Equalities.{Evaluated}
use Rattle.evaluators.specs.declared.Evaluator.TheVariants.{Snippets}
use Rattle.evaluators.specs.Evaluators.{PartRoom, Posed, Compared, ComparedBy}
use Rattle.evaluators.specs.Powered.{Powered}
use Rattle.evaluators.proofs.Staging.{drawn_some, answered_as}

some_digit : (r d : ℕ) → 0 < r → r < 2 ^ d → 0 < d
some_digit r zero l h = absurd (omega arith)
some_digit r (suc d) l h = omega arith

-- r levels have no more digits than n nodes
digits_fit : (r n : ℕ) → 0 < r → r ≤ n → binary_digits r ≤ binary_digits n
digits_fit r n some few = let h = binary_above n in binary_short r (binary_digits n) (omega arith) (some_digit n (binary_digits n) (omega arith) h)

-- ── Before the snippets ──
pub part_room : (n : ℕ) (p : List ℕ) → PartRoom n p → Room n p
part_room n p room = let e = add-mul 112 (64 * binary_digits n) n in omega arith

-- as many powers of two as binary digits of the number of levels
pub powered : {t : Tree} {n b l : ℕ} {p p₁ p₂ : List ℕ} → Shape t n p → PartRoom n p → Levelled n p p₁ l → b ≡ binary_digits l → Bucketed n p₁ p₂ → Powered n b p p₂
powered {t} {n} {b} {l} {p} {p₁} {p₂} shape room h e g =
    let few = shape.few in let some = h.some in let less = h.few in let long = h.within.long in let later = g.within.long in
    let above = binary_above l in
    let fits : (112 + 64 * binary_digits l) * n ≤ (112 + 64 * binary_digits n) * n = mul-le-mul_right n (let f = digits_fit l n some less in omega arith) in
    subst (λ d. Powered n d p p₂) (sym e) (record {
      within = within_then (within_more (omega arith) (omega arith) h.within) (within_more (omega arith) (omega arith) g.within);
      some = some_digit l (binary_digits l) some above;
      enough = λ u s x y k w. let f = h.ways u (shape_within (omega arith) (within_back h.within) (shape_within (omega arith) (within_back g.within) s)) x y k w in omega arith;
      room = record { few = few; low = binary_short l 13 (omega arith) (omega arith); room = omega arith };
      buckets = g.buckets;
    })

-- the list of the groups changes nothing of it
pub powered_listed : {n b c : ℕ} {p p₁ p₂ list : List ℕ} → Powered n b p p₁ → Listed n p₁ p₂ list c → Powered n b p p₂
powered_listed h g = let long = g.within.long in record {
  within = within_then h.within (within_more (omega arith) (omega arith) g.within);
  some = h.some;
  enough = λ u s. h.enough u (shape_within (omega arith) (within_back g.within) s);
  room = let r = h.room in record { few = r.few; low = r.low; room = omega arith };
  buckets = buckets_within (omega arith) g.within h.buckets;
}

-- ── An equality ──
module _ {P R : XPath} {t : Tree} {m : Machine} {n : ℕ} {p : List ℕ} (posed : Posed eq P R t m n p) where
  pub posed_shape : Shape t n p
  posed_shape = drawn_shape posed.formed posed.drawn

  module _ {b : ℕ} {p₁ : List ℕ} (h : Powered n b p p₁) where
    stage : Stage P R t m n p₁
    stage = record { formed = posed.formed; machine = posed.machine; drawn = drawn_within (omega arith) h.within posed.drawn; ranks = ranks_within eq t (omega arith) h.within posed.ranks }

    -- what the list of the groups asks
    pub groups_asked : PartRoom n p → Buckets n p₁ × SmallRanks n p₁ × Room n p₁ × (n ≤ 4096)
    groups_asked room = (h.buckets, ranks_small t p₁ stage.ranks, room_within h.within (part_room n p room), h.room.few)

    -- it has nodes alone
    pub groups_nodes : {p₂ list : List ℕ} {c : ℕ} → Listed n p₁ p₂ list c → All (λ w. w < n) (take c list)
    groups_nodes {list = list} {c} g = subst (λ k. All (λ w. w < k) (take c list)) posed.drawn.size (g.largest t posed.drawn.size stage.ranks).groups.nodes

    -- and each value once
    pub groups_once : {p₂ list : List ℕ} {c : ℕ} → Listed n p₁ p₂ list c → EachValueOnce t (take c list)
    groups_once g = (g.largest t posed.drawn.size stage.ranks).groups

    -- what the comparison asks
    pub equal_asked : ((A B : XPath) × (u : Tree) × Stage A B u m n p₁) × ((u : Tree) → Shape u n p₁ → Enough u b) × (0 < n) × (0 < b) × BlockRoom n b p₁ × Buckets n p₁
    equal_asked = ((P, R, t, stage), h.enough, drawn_some posed.formed posed.drawn, h.some, h.room, h.buckets)

    -- by the values in a list
    module _ {vs p' : List ℕ} {r : ℕ} (x : Evaluated vs m n p₁ p' r) where
      pub values_compared : ComparedBy vs t P R n p p' r
      values_compared = let (number, answers) = x.found P R t stage in record { answered = record { long = x.long ∙ h.within.long; answers = answers }; count = number }

      pub equal_compared : EachValueOnce t vs → Compared Snippets t eq P R n p p' r
      equal_compared once =
          let (number, answers) = x.whole P R t stage once in
          record {
            answered = record { long = x.long ∙ h.within.long; answers = answers };
            adds = counted_pair t (compare eq P R) P R r refl (sized_of t posed.formed (record { first = P; second = R }) r number);
          }

-- and the other signs have none
pub other_compared : {q : Op} {P R : XPath} {t : Tree} {m : Machine} {n : ℕ} {p p' : List ℕ} → Posed q P R t m n p → q ≢ eq → Answered n (Meets m n p q) p p' → Compared Snippets t q P R n p p' 0
other_compared {q} {P} {R} {t} posed d a = record {
  answered = answered_as (meets_holds posed.formed posed.machine posed.drawn q posed.ranks) a;
  adds = counted_no_pair t (compare q P R) (own_unequal q P R d);
}
