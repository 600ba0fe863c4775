-- The loop that marks the nodes one by one.
use Prim.Native.Nat.{ℕ, ◌+◌, ◌-◌, ◌≤◌, ◌<◌}
use mathlib.Core.Path.{◌≡◌, refl, sym, ap, ◌∙◌, subst}
use mathlib.Core.Logic.{◌⊎◌, inl, inr}
use mathlib.Core.Bool.{Bool, true, false, false≢true}
use mathlib.Core.List.{List, [], ◌∷◌, ◌++◌}
use lib.ListN.{length, get_or, set, drop, length-set, length-append, length-drop, get_or-append}
use lib.Seq.{get_or-set_same, get_or-set_other}
use Rattle.std.proofs.lemmas.List.{get_or-append_right, get_or-drop}
use native.Mathlib.Omega.{arith}
use mir.Val.{bool_byte}
use native.Mathlib.Decide.{ℕ_discrete}
use Rattle.lists.specs.Lists.{Number, Occurs}
use Rattle.bits.specs.Sets.{one}
use Rattle.test_bits.specs.Columns.{held}
use Rattle.marking.specs.Marking.{Marked}

-- ── How many numbers below i pass a test ──
abbrev Passing : (ℕ → Bool) → ℕ → ℕ → Type 0
Passing b i v = (v < i) × (b v ≡ true)

passing_none : (b : ℕ → Bool) → Number (Passing b 0) 0
passing_none b = record { list = []; all = λ v h. let l = h.0 in absurd (omega arith); only = λ v o. absurd o; distinct = tt; long = refl }

passing_step : (b : ℕ → Bool) (i c : ℕ) → Number (Passing b i) c → Number (Passing b (i + 1)) (c + one (b i))
passing_step b i c h = go (b i) refl
  where
    earlier : (v : ℕ) → Passing b (i + 1) v → Dec (v ≡ i) → (v ≡ i) ⊎ Passing b i v
    earlier v p (yes e) = inl e
    earlier v p (no f) = let l = p.0 in inr (omega arith, p.1)

    go : (t : Bool) → b i ≡ t → Number (Passing b (i + 1)) (c + one t)
    go true e = record {
      list = i ∷ h.list;
      all = λ v p. every v (earlier v p (ℕ_discrete v i));
      only = only;
      distinct = ((λ o. let l = (h.only i o).0 in omega arith), h.distinct);
      long = let l = h.long in omega arith;
    }
      where
        every : (v : ℕ) → (v ≡ i) ⊎ Passing b i v → Occurs v (i ∷ h.list)
        every v (inl q) = inl q
        every v (inr p) = inr (h.all v p)

        only : (v : ℕ) → Occurs v (i ∷ h.list) → Passing b (i + 1) v
        only v (inl q) = (omega arith, ap b q ∙ e)
        only v (inr o) = let p = h.only v o in let l = p.0 in (omega arith, p.1)
    go false e = record {
      list = h.list;
      all = λ v p. every v (earlier v p (ℕ_discrete v i)) p;
      only = λ v o. let p = h.only v o in let l = p.0 in (omega arith, p.1);
      distinct = h.distinct;
      long = let l = h.long in omega arith;
    }
      where
        every : (v : ℕ) → (v ≡ i) ⊎ Passing b i v → Passing b (i + 1) v → Occurs v h.list
        every v (inl q) p = absurd (false≢true (sym e ∙ sym (ap b q) ∙ p.1))
        every v (inr p) q = h.all v p

-- a truth value as a byte
pub byte_one : (b : Bool) → bool_byte b ≡ one b
byte_one true = refl
byte_one false = refl

pub byte_small : (b : Bool) → bool_byte b ≤ 1
byte_small true = omega arith
byte_small false = omega arith

one_small : (b : Bool) → one b ≤ 1
one_small true = omega arith
one_small false = omega arith

-- ── The loop ──
-- the first i of n nodes are marked, and c of them hold
pub record Marking (n i c : ℕ) (t marks : List ℕ) : Type 0 where
  pub inside : i ≤ n
  pub few : c ≤ i
  pub long : length marks ≡ n
  pub marked : (v : ℕ) → v < i → get_or marks v 0 ≡ one (held t n 0 v)
  pub count : Number (Passing (λ v. held t n 0 v) i) c

pub marking_none : (n : ℕ) (t marks : List ℕ) → length marks ≡ n → Marking n 0 0 t marks
marking_none n t marks e = record {
  inside = omega arith;
  few = omega arith;
  long = e;
  marked = λ v l. absurd (omega arith);
  count = passing_none (λ v. held t n 0 v);
}

pub marking_step : {n i c x y : ℕ} {t marks : List ℕ} → Marking n i c t marks → i < n → x ≡ one (held t n 0 i) → y ≡ one (held t n 0 i)
    → Marking n (i + 1) (c + y) t (set marks i x)
marking_step {n} {i} {c} {x} {y} {t} {marks} m l e f =
    let few = m.few in let small = one_small (held t n 0 i) in
    record {
      inside = omega arith;
      few = omega arith;
      long = length-set marks i x ∙ m.long;
      marked = λ v h. here v h (ℕ_discrete v i);
      count = rw f (passing_step (λ v. held t n 0 v) i c m.count);
    }
  where
    here : (v : ℕ) → v < i + 1 → Dec (v ≡ i) → get_or (set marks i x) v 0 ≡ one (held t n 0 v)
    here v h (yes o) = let long = m.long in rw o (get_or-set_same marks i x 0 (omega arith) ∙ e)
    here v h (no o) = get_or-set_other marks i v x 0 o ∙ m.marked v (omega arith)

-- the marks that the loop went over are the first n, and all behind them are as before
pub marking_all : {n i c : ℕ} {t before marks : List ℕ} → n ≤ length before → Marking n i c t marks → n ≤ i → Marked n t before (marks ++ drop n before) c
marking_all {n} {i} {c} {t} {before} {marks} room m l =
    let h = m.inside in
    let long = m.long in
    let e : i ≡ n = omega arith in
    record {
      marked = λ v r. get_or-append marks (drop n before) 0 v (omega arith) ∙ m.marked v (omega arith);
      kept = record {
        long = simp (length-append, length-drop) (omega arith);
        front = λ k r. absurd (omega arith);
        behind = λ k r. behind k r;
      };
      count = subst (λ j. Number (Passing (λ v. held t n 0 v) j) c) e m.count;
    }
  where
    behind : (k : ℕ) → n ≤ k → get_or (marks ++ drop n before) k 0 ≡ get_or before k 0
    behind k r =
        let long = m.long in
        let o : n + (k - n) ≡ k = omega arith in
        get_or-append_right marks (drop n before) n k 0 long r ∙ get_or-drop n before (k - n) 0 ∙ ap (λ j. get_or before j 0) o
