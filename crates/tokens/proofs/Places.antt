-- What stands at an offset, and what the machine does there.
use Prim.Native.Nat.{ℕ, suc, ◌<◌}
use native.Mathlib.Omega.{arith}
use mathlib.Core.Path.{◌≡◌, refl, sym, ap, ◌∙◌, subst}
use mathlib.Core.Bool.{Bool, true, false}
use mathlib.Core.Option.{none, some}
use mathlib.Core.List.{List, [], ◌∷◌, head-eq_of_cons-eq}
use lib.ListN.{length, get_or, drop, length-drop}
use lib.Seq.{drop-cons, drop-length}
use lib.Dec.{eqb}
use borrow.Author.Tests.{eqb-true, eqb-false}
use Rattle.xpath.specs.Syntax.{Test}
use Rattle.rule_spec.specs.Machine.{Symbol, Stack, Value, move, rest, over, Answer, stopped, close, Key}
use Rattle.rule_spec.specs.Readers.{Returns}
use Rattle.rule_spec.proofs.Comes.{ends_as, stops_here}
use Rattle.rule_spec.proofs.Readers.{end_fails}
use Rattle.tokens.specs.Readers.{Lacks, Stands, Stood, Halts, StuckAt, Turns}

module _ (s : List ℕ) where
  pub stands_at : {i b : ℕ} → i < length s → get_or s i 0 ≡ b → Stands s i b
  stands_at {i} h e = record { inside = h; here = drop-cons s i 0 h ∙ ap (λ c. c ∷ drop (suc i) s) e }

  pub at_end_lem : {i : ℕ} → i ≡ length s → drop i s ≡ []
  at_end_lem e = ap (λ i. drop i s) e ∙ drop-length s

  pub stands_cons : {i b : ℕ} {w : List ℕ} → drop i s ≡ b ∷ w → Stands s i b
  stands_cons {i} e =
      let l = length-drop i s in let n = ap length e in
      let h : i < length s = omega arith in
      stands_at h (head-eq_of_cons-eq (sym (drop-cons s i 0 h) ∙ e))

  pub lacks_end : (b : ℕ) {i : ℕ} → i ≡ length s → Lacks b (drop i s)
  lacks_end b e = subst (Lacks b) (sym (at_end_lem e)) tt

  pub stood_at : (i b : ℕ) → i < length s → Stood s i b (eqb (get_or s i 0) b)
  stood_at i b h = go (eqb (get_or s i 0) b) refl
    where
      go : (x : Bool) → eqb (get_or s i 0) b ≡ x → Stood s i b x
      go true e = stands_at h (eqb-true _ _ e)
      go false e = subst (Lacks b) (sym (drop-cons s i 0 h)) (eqb-false _ _ e)

  -- ── Where the machine stops ──
  pub stuck_end : {x : Symbol} {i : ℕ} → drop i s ≡ [] → ((st : Stack) → rest (x ∷ st) ≡ none) → StuckAt s i x i
  stuck_end e r = record { seen = []; shallow = tt; ends = ends_as close stopped refl (sym e) (end_fails r) }

  pub stuck_at : {x : Symbol} {i b : ℕ} → Stands s i b → ((st : Stack) → move (x ∷ st) b ≡ none) → StuckAt s i x i
  stuck_at {x} {i} {b} h e = record { seen = []; shallow = tt; ends = ends_as close stopped refl (sym h.here) (stops_here close stopped x b none e) }

  -- ── Where it goes on for another symbol ──
  pub turns_here : {x : Symbol} {i : ℕ} → Turns s x x (λ v. v) i i
  turns_here = record { turns = λ st f ks. refl }

  pub turns_then : {x y z : Symbol} {g : Value y → Value x} {h : Value z → Value y} {i j k : ℕ} → Turns s x y g i j → Turns s y z h j k → Turns s x z (λ v. g (h v)) i k
  turns_then {g = g} c d = record { turns = λ st f ks. c.turns st f ks ∙ d.turns st (λ t. f (g t.0, t.1)) ks }

  pub turns_byte : (x y : Symbol) (g : Value y → Value x) {i b : ℕ} → Stands s i b
      → ((st : Stack) → move (x ∷ st) b ≡ some (record { after = y ∷ st; build = λ t. (g t.0, t.1); begins = none })) → Turns s x y g i (suc i)
  unfolding over
  turns_byte x y g {i} {b} h e = record { turns = λ st f ks. rw (h.here, e st) refl }

  pub turns_halts : {x y : Symbol} {g : Value y → Value x} {i j : ℕ} (E : List Key → Answer Test → Type 0) → Turns s x y g i j → Halts s E y j → Halts s E x i
  turns_halts {g = g} E c h = record {
    seen = h.seen;
    shallow = h.shallow;
    ends = record { ends = λ st f ks. subst (E _) (sym (c.turns st f ks)) (h.ends.ends st (λ t. f (g t.0, t.1)) ks) };
  }

  pub turns_returns : {x y : Symbol} {g : Value y → Value x} {i j k : ℕ} {v : Value y} {ks : List Key} → Turns s x y g i j → Returns y v ks j (drop j s) k (drop k s)
      → Returns x (g v) ks i (drop i s) k (drop k s)
  turns_returns {g = g} c d = record { comes = λ st f ks. c.turns st f ks ∙ d.comes st (λ t. f (g t.0, t.1)) ks }
