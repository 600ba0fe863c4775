-- A rule is accepted, as one test, exactly if no ground refuses it.
use Prim.Native.Nat.{ℕ, suc, ◌≤◌, ◌<◌}
use native.Mathlib.Omega.{arith}
use mathlib.Core.Path.{◌≡◌, ap, ◌∙◌, subst}
use mathlib.Core.Logic.{◌↔◌}
use mathlib.Core.List.{List, ◌∷◌}
use lib.ListN.{length, length-append}
use lib.Dec.{lit≤}
use Rattle.limits.specs.Limits.{rule_bytes, rule_nesting, rule_tests}
use Rattle.lists.specs.Lists.{Occurs}
use Rattle.refusals.specs.Refusals.{Refusal, rule_length, unreadable, nesting, tests, steps}
use Rattle.xpath.specs.Syntax.{Test}
use Rattle.rule_spec.specs.Parts as Parts
use Rattle.rule_spec.specs.Parts.{Part, parts}
use Rattle.rule_spec.specs.Verdict.{Reads, RuleGround, Accepts}
use Rattle.rule_spec.specs.Machine.{Answer, read, stopped, Key}
use Rattle.rule_spec.proofs.Machine.{answer, rule_start}
use Rattle.rule_spec.proofs.Seen.{part_read, read_part}
use Rattle.rule_spec.proofs.Nesting.{climb_test}
use Rattle.rule_spec.proofs.Grounds.{reads_one, Known, known, unread_at, unread_settles, deep_exists, tests_exist, steps_exist}

module _ (s : List ℕ) where
  pub accepts_one : {T U : Test} → Accepts s T → Accepts s U → T ≡ U
  accepts_one a b = reads_one s a.reads b.reads

  pub accepted_unrefused : {T : Test} → Accepts s T → (r : Refusal) → ¬ RuleGround s r
  accepted_unrefused a r (RuleGround.long g) = let h = a.short in omega arith
  accepted_unrefused a r (RuleGround.unread g) = g.unread _ a.reads
  accepted_unrefused a r (RuleGround.deep g) =
      let (q, i, e) = part_read s a.reads g.part g.is_part in
      let h = a.shallow q i in
      let d = ap (λ (k : Key). k.1) e in
      let f = g.deep in
      omega arith
  accepted_unrefused a r (RuleGround.crowded g) =
      let e = ap (λ U. length (Parts.tests (parts U))) (reads_one s a.reads g.reads) ∙ ap length g.split in
      let l = length-append g.before (g.part ∷ g.after) in
      let h = a.few in
      let f = g.full in
      omega arith
  accepted_unrefused a r (RuleGround.heavy g) =
      a.light g.part (subst (λ U. Occurs g.part (parts U)) (reads_one s g.reads a.reads) g.among) g.heavy

  -- what no ground refuses reads, within the limits
  at_most : (m n : ℕ) → ¬ (m < n) → n ≤ m
  at_most m n f = omega arith

  module _ (f : (r : Refusal) → ¬ RuleGround s r) where
    shallow : {T : Test} → Reads s T → (p : Part) → Occurs p (parts T) → p.nesting ≤ rule_nesting
    unfolding parts
    shallow {T} k p o = at_most rule_nesting p.nesting (λ h.
        let (q, a, e) = (climb_test T 0 1).climbs p o (suc rule_nesting) (lit≤ tt) h in
        let (i, d) = deep_exists s q (read_part s k q a) e in
        f (nesting i) (RuleGround.deep d))

    reading : (a : Answer Test) → Known s a → (T : Test) × Reads s T
    unfolding unread_at
    reading (read T ks) k = (T, k)
    reading (stopped ks o) k = absurd (f (unreadable o) (RuleGround.unread (unread_settles s (stopped ks o) k).0))

    pub unrefused_accepted : (T : Test) × Accepts s T
    unrefused_accepted =
        let (T, k) = reading (answer rule_start s) (known s) in (
          T,
          record {
            reads = k;
            short = at_most rule_bytes (length s) (λ h. f rule_length (RuleGround.long h));
            shallow = shallow k;
            few = at_most rule_tests (length (Parts.tests (parts T))) (λ h. let (o, m) = tests_exist s k h in f (tests o) (RuleGround.crowded m));
            light = λ p a h. let (o, m) = steps_exist s k p a h in f (steps o) (RuleGround.heavy m);
          },
        )

  pub rule_accepts : ((r : Refusal) → ¬ RuleGround s r) ↔ ((T : Test) × Accepts s T)
  rule_accepts = (unrefused_accepted, λ a. accepted_unrefused a.1)
