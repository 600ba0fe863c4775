-- A comparison of ranks where two walks stop is the comparison of two paths.
use Prim.Native.Nat.{ℕ, ◌≤◌, ◌<◌}
use mathlib.Core.Path.{◌≡◌, refl, sym, subst}
use mathlib.Core.Logic.{◌⊎◌, inl, inr, ◌↔◌}
use mathlib.Core.List.{List}
use native.Mathlib.Omega.{arith}
use native.Mathlib.Nat.{eq-or-lt_of_le}
use Rattle.lists.proofs.Lists.{at_least_iff}
use Rattle.xpath.specs.Syntax.{Op, eq, lt, le, compare, compare_to, at_least, XPath, empty}
use Rattle.xpath.specs.Tree.{Tree, WellFormed}
use Rattle.xpath.specs.Meaning.{Reaches, Holds}
use Rattle.xpath.proofs.Booleans.{trans}
use Rattle.positions.specs.Positions.{second}
use Rattle.positions.proofs.Chains.{first_ends, second_ends}
use Rattle.layout.specs.Table.{RANK, SmallRanks}
use Rattle.layout.specs.Words.{word}
use Rattle.machine.specs.declared.Machine.{Machine}
use Rattle.machine.specs.Walks.{Compares, Stops, Meets, Hits, Several}
use Rattle.machine.specs.Meaning.{IsMachine, Drawn, RanksTell, Judges}
use Rattle.machine.proofs.Walking.{walk_inside, stops_ends}

-- ── Ranks ──
-- a rank is at most another if it is the same or less
pub at_most : (a b : ℕ) → Compares le a b ↔ (Compares eq a b ⊎ Compares lt a b)
at_most a b = (eq-or-lt_of_le, from)
  where
    from : (a ≡ b) ⊎ (a < b) → a ≤ b
    from (inl e) = omega arith
    from (inr k) = omega arith

module _ (t : Tree) {n : ℕ} (p : List ℕ) (tell : RanksTell eq t n p) where
  -- ranks that tell equal values are ranks of all nodes, since a value is equal to itself
  pub ranks_small : SmallRanks n p
  ranks_small v r = ((tell v v r r).1 refl).0

  -- and are the same exactly where the values are
  pub ranks_same : (v w : ℕ) → v < n → w < n → (word p n RANK v ≡ word p n RANK w) ↔ (t.value v ≡ t.value w)
  ranks_same v w r q = (λ e. (tell v w r q).0 (ranks_small v r, ranks_small w q, e), λ e. ((tell v w r q).1 e).2)

-- ── Comparisons ──
module _ {P R : XPath} {t : Tree} {n : ℕ} {p : List ℕ} {m : Machine} (wf : WellFormed t) (machine : IsMachine P R m) (drawn : Drawn P R t n p) where
  -- each start stops where its path reaches
  first_stops : (v w : ℕ) → v < n → Stops m n p 0 v w ↔ Reaches t P v w
  first_stops v w r = let f = first_ends P R t v w in trans (stops_ends wf machine drawn 0 v w (omega arith) r) (f.1, f.0)

  second_stops : (v w : ℕ) → v < n → Stops m n p m.second v w ↔ Reaches t R v w
  second_stops v w r =
      let f = second_ends P R t v w in
      let h : Stops m n p (second P R) v w ↔ Reaches t R v w = trans (stops_ends wf machine drawn (second P R) v w (omega arith) r) (f.1, f.0) in
      subst (λ i. Stops m n p i v w ↔ Reaches t R v w) (sym machine.start) h

  -- the comparison of two paths
  pub meets_holds : (o : Op) → RanksTell o t n p → (v : ℕ) → v < n → Meets m n p o v ↔ Holds t (compare o P R) v
  meets_holds o tell v r = (to, from)
    where
      to : Meets m n p o v → Holds t (compare o P R) v
      to (w, u, a, b, x, y, c) = (w, u, (first_stops v w r).0 x, (second_stops v u r).0 y, (tell w u a b).0 c)

      from : Holds t (compare o P R) v → Meets m n p o v
      from (w, u, f, g, c) =
          let x = (first_stops v w r).1 f in let y = (second_stops v u r).1 g in
          let a = walk_inside r x.2 in let b = walk_inside r y.2 in
          (w, u, a, b, x, y, (tell w u a b).1 c)

-- the second start is a position
pub second_few_lem : {P R : XPath} {m : Machine} → IsMachine P R m → m.second < 16
second_few_lem machine = let e = machine.start in let l = machine.few in omega arith

-- the comparison of a path with a constant, whose second path is empty
pub hits_holds : {P : XPath} {t : Tree} {n : ℕ} {p : List ℕ} {m : Machine} → WellFormed t → IsMachine P empty m → Drawn P empty t n p
    → (o : Op) (c : List ℕ) → Judges o c t n p → (v : ℕ) → v < n → Hits m n p v ↔ Holds t (compare_to o P c) v
hits_holds {P} {t} {n} {p} {m} wf machine drawn o c judges v r = (to, from)
  where
    to : Hits m n p v → Holds t (compare_to o P c) v
    to (w, a, x, h) = (w, (first_stops wf machine drawn v w r).0 x, (judges w a).0 h)

    from : Holds t (compare_to o P c) v → Hits m n p v
    from (w, f, h) =
        let x = (first_stops wf machine drawn v w r).1 f in let a = walk_inside r x.2 in
        (w, a, x, (judges w a).1 h)

-- the count of the nodes that a path reaches, whose second path is empty too
pub several_holds : {P : XPath} {t : Tree} {n : ℕ} {p : List ℕ} {m : Machine} → WellFormed t → IsMachine P empty m → Drawn P empty t n p
    → (k v : ℕ) → v < n → Several m n p k v ↔ Holds t (at_least k P) v
several_holds {P} {t} {n} {p} {m} wf machine drawn k v r = at_least_iff (λ w. (λ (a, x). (first_stops wf machine drawn v w r).0 x, λ f. let x = (first_stops wf machine drawn v w r).1 f in (walk_inside r x.2, x)))
