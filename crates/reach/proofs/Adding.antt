-- Laws of additions to the work list.
use Prim.Native.Nat.{ℕ, suc, ◌*◌, ◌≤◌, ◌<◌}
use mathlib.Core.Path.{◌≡◌, refl, ◌∙◌}
use mathlib.Core.Logic.{◌⊎◌, inl, inr, ⊎_elim, ⊎_map, ◌↔◌}
use mathlib.Core.List.{List}
use lib.ListN.{get_or}
use native.Mathlib.Nat.{mul-le-mul_right}
use native.Mathlib.Omega.{arith}
use Rattle.layout.specs.Part.{SEEN, Space}
use Rattle.layout.proofs.Frames.{same_none, same_then, same_wider}
use Rattle.reach.specs.Work.{Seen, Work, Spared, Added}

-- ── What stays as it was ──
pub spared_none : (n d : ℕ) (p : List ℕ) → Spared n d p p
spared_none n d p = record { same = same_none p }

pub spared_then : {n d : ℕ} {p q r : List ℕ} → Spared n d p q → Spared n d q r → Spared n d p r
spared_then f g = record { same = same_then f.same g.same }

-- fewer columns are spared too
pub spared_fewer : {n c d : ℕ} {p q : List ℕ} → c ≤ d → Spared n d p q → Spared n c p q
spared_fewer {n} {c} {d} l f =
    let x : c * n ≤ d * n = mul-le-mul_right n l in
    record { same = same_wider (λ k. ⊎_map (λ h. h) (λ (r, h). (r, omega arith))) f.same }

module _ {n d : ℕ} {p q : List ℕ} (s : Spared n d p q) where
  pub spared_front : (k : ℕ) → k < SEEN * n → get_or q k 0 ≡ get_or p k 0
  spared_front k h = s.same.same k (inl h)

  pub spared_aside : (k : ℕ) → suc SEEN * n ≤ k → k < d * n → get_or q k 0 ≡ get_or p k 0
  spared_aside k l h = s.same.same k (inr (l, h))

pub spared_space : {n d : ℕ} {p q : List ℕ} → Spared n d p q → Space n p → Space n q
spared_space f s = let e = f.same.long in let r = s.room in record { some = s.some; few = s.few; room = omega arith }

-- ── Additions ──
-- what is seen already
pub added_same : {R : ℕ → ℕ → Type 0} {n d len : ℕ} {p : List ℕ} → Work n len p → ((u j : ℕ) → u < n → j < 16 → R u j → Seen p n u j) → Added R n d len len p p
added_same {n} {d} {p = p} work known =
    record {
      work = work;
      spared = spared_none n d p;
      more = omega arith;
      nodes = λ k h. refl;
      sets = λ k h. refl;
      seen = λ u j h l. (inl, ⊎_elim (λ s. s) (known u j h l));
    }

module _ {R S : ℕ → ℕ → Type 0} {n d a b : ℕ} {p q : List ℕ} where
  pub added_then : {c : ℕ} {r : List ℕ} → Added R n d a b p q → Added S n d b c q r → Added (λ u j. R u j ⊎ S u j) n d a c p r
  added_then f g =
      let x = f.more in let y = g.more in
      record {
        work = g.work;
        spared = spared_then f.spared g.spared;
        more = omega arith;
        nodes = λ k h. g.nodes k (omega arith) ∙ f.nodes k h;
        sets = λ k h. g.sets k (omega arith) ∙ f.sets k h;
        seen = λ u j h l.
            let x = f.seen u j h l in let y = g.seen u j h l in (
              λ s. ⊎_elim (λ t. ⊎_map (λ s. s) inl (x.0 t)) (λ z. inr (inr z)) (y.0 s),
              ⊎_elim (λ s. y.1 (inl (x.1 (inl s)))) (⊎_elim (λ z. y.1 (inl (x.1 (inr z)))) (λ z. y.1 (inr z))),
            );
      }

  -- the same positions, said otherwise: those of R were seen or are in S, and those of S are seen
  pub added_into : ((u j : ℕ) → u < n → j < 16 → R u j → Seen p n u j ⊎ S u j) → ((u j : ℕ) → u < n → j < 16 → S u j → Seen q n u j)
      → Added R n d a b p q → Added S n d a b p q
  added_into to from g =
      record {
        work = g.work;
        spared = g.spared;
        more = g.more;
        nodes = g.nodes;
        sets = g.sets;
        seen = λ u j h l. (λ s. ⊎_elim inl (to u j h l) ((g.seen u j h l).0 s), ⊎_elim (λ s. (g.seen u j h l).1 (inl s)) (from u j h l));
      }

  pub added_as : ((u j : ℕ) → u < n → j < 16 → R u j ↔ S u j) → Added R n d a b p q → Added S n d a b p q
  added_as same g = added_into (λ u j h l r. inr ((same u j h l).0 r)) (λ u j h l s. (g.seen u j h l).1 (inr ((same u j h l).1 s))) g
