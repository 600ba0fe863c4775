-- How a cursor moves in the bytes that it has at hand, and what two cursors side by side tell.
use Prim.Native.Nat.{ℕ, ◌+◌, ◌≤◌, ◌<◌}
use mathlib.Core.Path.{◌≡◌, refl, sym, ap, ◌∙◌, subst₂}
use mathlib.Core.Logic.{◌⊎◌, inl, inr}
use mathlib.Core.List.{List, [], ◌∷◌, ◌++◌, append_assoc}
use lib.ListN.{get_or}
use lib.Seq.{slice}
use native.Mathlib.Omega.{arith}
use Rattle.string_order.specs.Bytes as Bytes
use Rattle.document_spec.specs.Library.{Node}
use Rattle.blanks.proofs.Slices.{slice_join}
use Rattle.values.specs.declared.Reading.{Reading}
use Rattle.value_notes.specs.Values.{up_to}
use Rattle.values.specs.Comes.{at_hand, Goes, Comes, Filled}
use Rattle.values.proofs.Texts.{first_of}
use Rattle.std.specs.declared.cmp.Ordering.{Ordering}
use Rattle.string_order.specs.Ordered.{Ordered}
use Rattle.string_order.proofs.Comparison.{prefix_less, behind_common}
use Rattle.value_order.specs.Along.{Ready, Moved, Decides, Along, Shared, Looked}
use Rattle.std.specs.declared.ops.ControlFlow.TheVariants.{Break}

-- ── One cursor ──
abbrev further : Reading → ℕ → Reading
further c k = record { from = c.from + k; to = c.to; node = c.node; last = c.last }

module _ {s : List ℕ} {ns : List Node} {c : Reading} {bs : List ℕ} (h : Comes s ns c bs) where
  -- the first bytes of those at hand
  pub moved : (k : ℕ) → c.from + k ≤ c.to → Moved s ns c k bs (further c k)
  moved k i = go h.rest
    where
      now : List ℕ
      now = slice c.from (c.from + k) s

      then : List ℕ
      then = slice (c.from + k) c.to s

      parts : at_hand s c ≡ now ++ then
      parts = let w = h.within in slice_join s c.from (c.from + k) c.to (omega arith) i (omega arith)

      go : ((c.node ≡ c.last) × (at_hand s c ≡ bs)) ⊎ Goes s ns c bs → Moved s ns c k bs (further c k)
      go (inl (e, b)) = record {
        rest = then;
        whole = sym b ∙ parts;
        comes = record { within = h.within; rest = inl (e, refl) };
        lighter = omega arith;
        node = refl;
        last = refl;
      }
      go (inr g) = record {
        rest = then ++ up_to ns c.node c.last;
        whole = sym g.whole ∙ ap (λ l. l ++ up_to ns c.node c.last) parts ∙ append_assoc now then (up_to ns c.node c.last);
        comes = record { within = h.within; rest = inr (record { order = g.order; inside = g.inside; ends = g.ends; whole = refl }) };
        lighter = omega arith;
        node = refl;
        last = refl;
      }

  -- the next byte
  pub comes_first : c.from < c.to → (us : List ℕ) × (bs ≡ get_or s c.from 0 ∷ us)
  comes_first i = go h.rest
    where
      first : at_hand s c ≡ get_or s c.from 0 ∷ slice (c.from + 1) c.to s
      first = first_of s c.from c.to i h.within

      go : ((c.node ≡ c.last) × (at_hand s c ≡ bs)) ⊎ Goes s ns c bs → (us : List ℕ) × (bs ≡ get_or s c.from 0 ∷ us)
      go (inl (e, b)) = (slice (c.from + 1) c.to s, sym b ∙ first)
      go (inr g) = (slice (c.from + 1) c.to s ++ up_to ns c.node c.last, sym g.whole ∙ ap (λ l. l ++ up_to ns c.node c.last) first)

pub ready_filled : {s : List ℕ} {ns : List Node} {c r : Reading} {bs : List ℕ} → Filled s ns c bs r → Ready s ns r bs
ready_filled h = record { comes = h.comes; empty = h.empty }

-- ── Two cursors ──
-- the same bytes in front decide nothing
pub decides_behind : {xs ys : List ℕ} (ps qs us vs : List ℕ) → ps ≡ qs → xs ≡ ps ++ us → ys ≡ qs ++ vs → Decides xs ys us vs
decides_behind ps qs us vs e f g o h =
    subst₂ (λ (x y : List ℕ). Ordered x y o) (sym f) (ap (λ (l : List ℕ). l ++ vs) e ∙ sym g) (behind_common ps us vs o h)

module _ {s c : List ℕ} {ns : List Node} {bs cs : List ℕ} where
  pub along_none : {x y : Reading} → Comes s ns x bs → Comes c ns y cs → Along s c ns bs cs x y
  along_none h k = record { left = bs; right = cs; left_comes = h; right_comes = k; decides = λ o z. z }

  pub along_then : {x y x' y' : Reading} (h : Along s c ns bs cs x y) → Along s c ns h.left h.right x' y' → Along s c ns bs cs x' y'
  along_then h k = record {
    left = k.left;
    right = k.right;
    left_comes = k.left_comes;
    right_comes = k.right_comes;
    decides = λ o z. h.decides o (k.decides o z);
  }

  module _ {x y : Reading} (h : Comes s ns x bs) (g : Comes c ns y cs) where
    -- ── What is at hand ──
    -- the first value is at its end, and the second is not
    pub ended_less : bs ≡ [] → y.from < y.to → Bytes.Less bs cs
    ended_less e i = prefix_less e (comes_first g i).1

    -- the first bytes that are not the same decide
    pub bytes_decide : (k : ℕ) (o : Ordering) → x.from + k < x.to → y.from + k < y.to → slice x.from (x.from + k) s ≡ slice y.from (y.from + k) c
        → ((us vs : List ℕ) → Ordered (get_or s (x.from + k) 0 ∷ us) (get_or c (y.from + k) 0 ∷ vs) o) → Ordered bs cs o
    bytes_decide k o i j e f =
        let p = moved h k (omega arith) in let q = moved g k (omega arith) in
        let (us, a) = comes_first p.comes i in let (vs, b) = comes_first q.comes j in
        decides_behind (slice x.from (x.from + k) s) (slice y.from (y.from + k) c) p.rest q.rest e p.whole q.whole o
        (subst₂ (λ (l r : List ℕ). Ordered l r o) (sym a) (sym b) (f us vs))

-- ── Where both have a byte at hand, or are at their ends ──
pub record Facing (s c : List ℕ) (ns : List Node) (bs cs : List ℕ) (x y : Reading) : Type 0 where
  pub left : List ℕ
  pub right : List ℕ
  pub left_ready : Ready s ns x left
  pub right_ready : Ready c ns y right
  pub decides : Decides bs cs left right

module _ {s c : List ℕ} {ns : List Node} {bs cs : List ℕ} {x y : Reading} (h : Facing s c ns bs cs x y) where
  pub facing_decided : (o : Ordering) → Looked s x c y (Break o) → Ordered bs cs o
  facing_decided o z = h.decides o (z ns h.left h.right h.left_ready h.right_ready)

  pub facing_moved : {k : ℕ} {x' y' : Reading} → Shared s x c y k → Moved s ns x k h.left x' → Moved c ns y k h.right y' → Along s c ns bs cs x' y'
  facing_moved {k} z p q = record {
    left = p.rest;
    right = q.rest;
    left_comes = p.comes;
    right_comes = q.comes;
    decides = λ o w.
        h.decides o
        (decides_behind (slice x.from (x.from + k) s) (slice y.from (y.from + k) c) p.rest q.rest z.same p.whole q.whole o w);
  }
