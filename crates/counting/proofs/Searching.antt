-- The walk of a count: the list of a walk, and beside it the nodes that are found.
use Prim.Native.Nat.{ℕ, ◌+◌, ◌≤◌, ◌<◌}
use mathlib.Core.Path.{◌≡◌, sym, ◌∙◌, subst}
use mathlib.Core.Logic.{◌⊎◌, inl, inr, ⊎_map}
use mathlib.Core.Bool.{true, false}
use mathlib.Core.List.{List}
use native.Mathlib.Omega.{arith}
use Rattle.lists.proofs.Lists.{at_least_number, at_least_imp}
use Rattle.bits.specs.Sets.{bit, or, is}
use Rattle.layout.specs.Part.{FOUND, NODES}
use Rattle.layout.specs.Words.{word}
use Rattle.machine.specs.declared.Machine.{Machine}
use Rattle.machine.specs.Walks.{Stops}
use Rattle.reach.specs.Work.{Seen, Added, At, After}
use Rattle.reach.proofs.Reaching.{Working, working_start, working_step, working_untouched, working_seen}
use Rattle.rank_sets.proofs.Steady.{steady_then}
use Rattle.rank_sets.proofs.Telling.{tells_yes, tells_no}
use Rattle.plain.proofs.Steady.{steady_spared}
use Rattle.plain.proofs.Walks.{stops_same}
use Rattle.plain.proofs.Compared.{member_below}
use Rattle.counting.specs.Counting.{IsFound, Find, Clean, Walked, Searched}
use Rattle.counting.proofs.Finding.{EndsBelow, Finding, finding_none, finding_added, finding_step, find_untouched, find_spared}

-- ── The loop ──
-- the first h of the len entries are looked at and done, and fewer nodes are found than the k that are asked for
pub record Searching (m : Machine) (n v k h len count : ℕ) (p₀ p : List ℕ) : Type 0 where
  pub working : Working m n FOUND 0 v h len p₀ p
  pub finding : Finding n m.last h count p
  pub fewer : count < k

pub searching_start : {m : Machine} {n v k len : ℕ} {p p₀ : List ℕ} → Clean n p → v < n → 0 < k → (w : ℕ) → ((j : ℕ) → bit w j ≡ or (is j 0) (bit 0 j))
    → Added (At v w) n NODES 0 len p p₀ → Searching m n v k 0 len 0 p₀ p₀
searching_start {m} c inside some w single g =
    record {
      working = working_start (omega arith) inside c.work w single g;
      finding = finding_added c.work (omega arith) g (finding_none m.last c);
      fewer = some;
    }

-- entry h is looked at, and not done yet
pub record Looked (m : Machine) (n v h len count : ℕ) (p₀ p : List ℕ) : Type 0 where
  pub working : Working m n FOUND 0 v h len p₀ p
  pub finding : Finding n m.last (h + 1) count p

pub searching_looked : {m : Machine} {n v k h len count count' : ℕ} {p₀ p p' : List ℕ} → Searching m n v k h len count p₀ p → h < len
    → Find n m.last h count count' p p' → Looked m n v h len count' p₀ p'
searching_looked {n = n} {h = h} {p = p} s l f =
    let w = s.working.work in let inside = w.nodes h l in
    record {
      working = working_untouched s.working (find_untouched inside f) (find_spared inside f);
      finding = finding_step inside (λ k r. w.nodes k (omega arith)) s.finding f;
    }

pub searching_step : {m : Machine} {n v k h len len' count : ℕ} {p₀ p p' : List ℕ} → Looked m n v h len count p₀ p → h < len → count < k
    → Added (After m n p h) n NODES len len' p p' → Searching m n v k (h + 1) len' count p₀ p'
searching_step f l fewer g =
    record {
      working = working_step (omega arith) f.working l g;
      finding = finding_added f.working.work (omega arith) g f.finding;
      fewer = fewer;
    }

-- ── What is found ──
module _ {m : Machine} {n v h len c count : ℕ} {p₀ p : List ℕ} (w : Working m n FOUND 0 v h len p₀ p) (g : Finding n m.last c count p) where
  -- a found node is one where the path ends
  found_stops : c ≤ len → (x : ℕ) → x < n → IsFound p n x → Stops m n p₀ 0 v x
  found_stops l x r i = go (g.sound x r)
    where
      go : (word p n FOUND x ≡ 0) ⊎ (IsFound p n x × EndsBelow p n m.last c x) → Stops m n p₀ 0 v x
      go (inl z) = let q : ◌≡◌ {A = ℕ} 0 1 = sym z ∙ i in absurd (omega arith)
      go (inr (_, (k, b, q, (j, a, e, t)))) = (j, t, w.sound x j r a (subst (λ (y : ℕ). Seen p n y j) q (w.work.told k j (omega arith) a e)))

  -- and behind the last entry each of these is found
  stops_found : m.last < 65536 → len ≤ h → len ≤ c → (x : ℕ) → x < n → Stops m n p₀ 0 v x → IsFound p n x
  stops_found fits end all x r (j, b, s) =
      let a = member_below fits b in let (k, l, q, e) = w.work.listed x j r a ((working_seen w end x j r a).1 s) in
      subst (λ (y : ℕ). IsFound p n y) q (g.complete k (omega arith) (j, a, e, b))

  -- a node that is found has an entry
  found_walked : c ≤ len → Walked n len p
  found_walked l = record { work = w.work; listed = λ x r. ⊎_map (λ z. z) (λ (_, (k, b, q, _)). (k, omega arith, q)) (g.sound x r) }

-- ── The answer ──
-- p is the part before the walk, and p₀ the part where its start is entered
module _ {m : Machine} {n v k h len len₀ count : ℕ} {R : ℕ → ℕ → Type 0} {p p₀ p' : List ℕ} (start : Added R n NODES 0 len₀ p p₀) where
  pub searching_enough : Looked m n v h len count p₀ p' → h < len → k ≤ count → Searched m n v k (record { enough = true; len = len }) p p'
  searching_enough s l enough =
      let w = s.working in let g = s.finding in let b = steady_spared start.spared in
      record {
        steady = steady_then b (steady_spared w.spared);
        walked = found_walked w g (omega arith);
        told = tells_yes (at_least_imp (λ x (r, i). (r, (stops_same b.held w.node).1 (found_stops w g (omega arith) x r i))) ((at_least_number g.number).1 enough));
      }

  pub searching_all : m.last < 65536 → Searching m n v k h len count p₀ p' → len ≤ h → Searched m n v k (record { enough = false; len = len }) p p'
  searching_all fits s end =
      let w = s.working in let g = s.finding in let b = steady_spared start.spared in let i = w.inside in let few = s.fewer in
      record {
        steady = steady_then b (steady_spared w.spared);
        walked = found_walked w g (omega arith);
        told = tells_no (λ a.
            let l = (at_least_number g.number).0 (at_least_imp (λ x (r, t). (r, stops_found w g fits end (omega arith) x r ((stops_same b.held w.node).0 t))) a) in
            absurd (omega arith));
      }
