-- The tests of a rule in some order: none twice, inner ones first.
use Prim.Native.Nat.{ℕ, suc, ◌+◌, ◌-◌, ◌≤◌, ◌<◌}
use native.Mathlib.Decide.{ℕ_discrete}
use native.Mathlib.Omega.{arith}
use mathlib.Core.Path.{◌≡◌, refl, sym, ap, ◌∙◌, subst}
use mathlib.Core.Logic.{◌↔◌}
use mathlib.Core.List.{List}
use lib.ListN.{length, get_or, take, drop, set, take-append-drop}
use lib.Seq.{length-take-le, get_or-take, get_or-set_same, get_or-set_other}
use Rattle.lists.specs.Lists.{All, Occurs, Distinct}
use Rattle.lists.proofs.Lists.{all_append, all_occurs, at_least_below}
use Rattle.lists.proofs.Indices.{at_all, occurs_at, at_occurs, distinct_at}
use Rattle.xpath.specs.Syntax.{Test}
use Rattle.test_numbers.specs.Tests.{tests_of}
use Rattle.test_numbers.specs.Orders.{Inside, InnerFirst, EachTest, Falling}
use Rattle.test_numbers.proofs.Following.{inside_number}

-- ── Any such list ──
module _ {T : Test} {ks : List ℕ} (h : InnerFirst T ks) where
  -- there are no more of them than the rule has tests
  pub order_short : length ks ≤ length (tests_of T)
  order_short = at_least_below (λ a l. l) (ks, refl, h.once, h.numbers)

  pub order_numbers : (j : ℕ) → All (λ k. k < length (tests_of T)) (take j ks)
  order_numbers j = ((all_append (λ k. k < length (tests_of T)) (take j ks) (drop j ks)).0 (subst (All (λ k. k < length (tests_of T))) (sym (take-append-drop j ks)) h.numbers)).0

  pub order_number : (j : ℕ) → j < length ks → get_or ks j 0 < length (tests_of T)
  order_number j l = at_all 0 (λ k. k < length (tests_of T)) ks h.numbers j l

  -- a test inside the one that is due stands before it
  pub order_inner : (j : ℕ) → j < length ks → (i : ℕ) → Inside T (get_or ks j 0) i → Occurs i (take j ks)
  order_inner j l i b =
      let (m, r, e) = h.inner j i l b in let z = length-take-le j ks (omega arith) in
      subst (λ k. Occurs k (take j ks)) (get_or-take j ks m 0 r ∙ e) (occurs_at 0 (take j ks) m (omega arith))

-- ── From the last test to the first ──
module _ (ks : List ℕ) {n : ℕ} (room : n ≤ length ks) (falling : Falling n ks) (m : ℕ) (some : m ≤ n) where
  falling_long : length (take m ks) ≡ m
  falling_long = length-take-le m ks (omega arith)

  falling_entry : (i : ℕ) → i < m → get_or (take m ks) i 0 ≡ n - suc i
  falling_entry i l = get_or-take m ks i 0 l ∙ falling i (omega arith)

  -- the first m are the numbers below n but for the lowest
  pub falling_occurs : (k : ℕ) → Occurs k (take m ks) ↔ ((n - m ≤ k) × (k < n))
  falling_occurs k = (
    (λ o. let (i, l, e) = at_occurs 0 k (take m ks) o in let z = falling_long in let f = falling_entry i (omega arith) in (omega arith, omega arith)),
    λ (a, b).
        let z = falling_long in let f = falling_entry (n - suc k) (omega arith) in let e : n - suc (n - suc k) ≡ k = omega arith in
        subst (λ j. Occurs j (take m ks)) (f ∙ e) (occurs_at 0 (take m ks) (n - suc k) (omega arith)),
  )

  pub falling_once : Distinct (take m ks)
  falling_once = distinct_at 0 (take m ks) (λ i j h l e. let z = falling_long in let f = falling_entry i (omega arith) in let g = falling_entry j (omega arith) in omega arith)

  -- the last of them may be left out
  pub falling_first : (T : Test) → n ≡ length (tests_of T) → InnerFirst T (take m ks)
  falling_first T count = record {
    numbers = (all_occurs (λ k. k < length (tests_of T)) (take m ks)).1 (λ k o. let (a, b) = (falling_occurs k).0 o in omega arith);
    once = falling_once;
    inner = λ j i l b.
        let z = falling_long in let f = falling_entry j (omega arith) in let c = inside_number T (get_or (take m ks) j 0) (omega arith) i b in let (g, h) = b in
        (n - suc i, omega arith, falling_entry (n - suc i) (omega arith) ∙ omega arith);
  }

pub falling_each : (T : Test) (ks : List ℕ) {n : ℕ} → n ≤ length ks → Falling n ks → n ≡ length (tests_of T) → EachTest T (take n ks)
falling_each T ks {n} room falling count k l = (falling_occurs ks room falling n (omega arith) k).1 (omega arith, omega arith)

-- written one by one: those before place i are there
pub falling_step : (n i k : ℕ) (ks : List ℕ) → i < length ks → i + suc k ≡ n → ((j : ℕ) → j < i → get_or ks j 0 ≡ n - suc j)
    → (j : ℕ) → j < suc i → get_or (set ks i k) j 0 ≡ n - suc j
falling_step n i k ks l e h j b = go (ℕ_discrete j i)
  where
    go : Dec (j ≡ i) → get_or (set ks i k) j 0 ≡ n - suc j
    go (yes q) = ap (λ m. get_or (set ks i k) m 0) q ∙ get_or-set_same ks i k 0 l ∙ omega arith
    go (no f) = get_or-set_other ks i j k 0 f ∙ h j (omega arith)
