-- For a reader that goes along a rule as the machine does: what it may conclude where it is done, where it stops, and where a part is too deep.
use Prim.Native.Nat.{ℕ, zero, suc, ◌+◌, ◌≤◌}
use native.Mathlib.Omega.{arith}
use native.Mathlib.Nat.{le_refl}
use mathlib.Core.Path.{◌≡◌, refl, sym, ap, ◌∙◌, subst}
use mathlib.Core.Logic.{inl, ◌≢◌}
use mathlib.Core.Bool.{false}
use mathlib.Core.Option.{none}
use mathlib.Core.List.{List, [], ◌∷◌, ◌++◌, append-nil}
use lib.ListN.{length}
use Rattle.limits.specs.Limits.{rule_nesting}
use Rattle.lists.specs.Lists.{All}
use Rattle.lists.specs.Numerals.{reading}
use Rattle.lists.proofs.Lists.{all_occurs, all_append, all_imp, occurs_left, occurs_right}
use Rattle.xpath.specs.Syntax.{Test}
use Rattle.rule_spec.specs.Verdict.{Reads, Unreadable, TooDeep}
use Rattle.rule_spec.specs.Readers.{Returns, Ends, Stop, Meet, Unnamed}
use Rattle.rule_spec.specs.Machine.{Symbol, Stack, test, tail, number, figures, goes_on, move, rest, State, state, over, stopped, closing, close, Key}
use Rattle.rule_spec.proofs.Machine.{answer, rule_start}
use Rattle.rule_spec.proofs.Begins.{answer_reads}
use Rattle.rule_spec.proofs.Comes.{Leaves, leaves_byte, leaves_comes}
use Rattle.rule_spec.proofs.Figures.{Number}
use Rattle.rule_spec.proofs.Reading.{number_stops, take_number}
use Rattle.rule_spec.proofs.Unique.{leaves_end, pops_unnamed}
use Rattle.rule_spec.proofs.Runs.{grows_last, seen_of, answer_seen}
use Rattle.rule_spec.proofs.Grounds.{known, Known, unread_at, unread_settles, start, depth, Deep, deep_iff}
use Rattle.rule_spec.proofs.Least.{Least}
use Rattle.rule_spec.proofs.Seen.{furthest}

-- ── What a reader of x does from offset o, where w is left of the rule ──
-- it returns (specs/Readers), it fails at j, or it meets the part k; and the parts new have begun
abbrev pub Fails : Symbol → List Key → ℕ → List ℕ → ℕ → Type 0
Fails x new o w j = Ends {R = Test} close stopped (Stop {R = Test} close stopped j) x new o w

abbrev pub Meets : Symbol → List Key → ℕ → List ℕ → Key → Type 0
Meets x new o w k = Ends {R = Test} close stopped (Meet {R = Test} close stopped k) x new o w

-- ── The end of a name, of a number, and of the text ──
-- a name ends where no byte of a name follows, and where it is full
pub name_ends : (i o : ℕ) (w : List ℕ) → Unnamed w → Returns (tail i) [] [] o w o w
name_ends i o w h = leaves_comes close stopped (pops_unnamed w h i) o

pub name_full : (o : ℕ) (w : List ℕ) → Returns (tail zero) [] [] o w o w
unfolding move
name_full o [] = name_ends zero o [] tt
name_full o (b ∷ w) = leaves_comes close stopped (leaves_byte close stopped (tail zero) [] b w (λ st. refl)) o

-- a number ends where no digit follows that goes on with it
abbrev pub Complete : ℕ → List ℕ → Type 0
Complete m [] = Unit {0}
Complete m (b ∷ w) = goes_on m b ≡ false

leaves_complete : (m : ℕ) (w : List ℕ) → Complete m w → Leaves {R = Test} close stopped (figures m) [] w
unfolding rest
leaves_complete m [] h = leaves_end (figures m) [] (λ st. refl)
leaves_complete m (b ∷ w) h = number_stops close stopped m b w h

pub number_ends : (m o : ℕ) (w : List ℕ) → Complete m w → Returns (figures m) [] [] o w o w
number_ends m o w h = leaves_comes close stopped (leaves_complete m w h) o

-- all of a number at once
pub number_returns : (bs : List ℕ) (o : ℕ) (r : List ℕ) → Number bs → Complete (reading bs) r → Returns number bs [] o (bs ++ r) (o + length bs) r
number_returns bs o r l h = (take_number close stopped bs l).takes o r (leaves_complete (reading bs) r h)

pub end_fails : {x : Symbol} {o : ℕ} → ((st : Stack) → rest (x ∷ st) ≡ none) → Fails x [] o [] o
unfolding over
end_fails {x} {o} e = record { ends = λ st f ks. ap (closing (state (x ∷ st) f ks o)) (e st) ∙ ap (λ ls. stopped ls o) (sym (append-nil ks)) }

-- ── The whole rule ──
-- the parts that are still to come lie behind
pub answer_grows : {R : Type 0} (w : List ℕ) (t : State R) → (more : List Key) × (seen_of (answer t w) ≡ t.seen ++ more) × All (λ k. t.here ≤ k.0) more
answer_grows w t =
    let g = grows_last w t in
    (g.more, answer_seen w t ∙ g.added, all_imp _ (λ k. t.here ≤ k.0) (λ k h. h.0) g.more g.between)

-- not too deep before o
abbrev Late : ℕ → Key → Type 0
Late o k = Deep k → o ≤ start k

module _ (s : List ℕ) where
  -- what the machine answers to a rule on which it comes to the end, comes back before the end, stops, or meets a part too deep
  stopped_unreadable : {ks : List Key} {o : ℕ} → answer rule_start s ≡ stopped ks o → Unreadable s o
  unfolding unread_at
  stopped_unreadable {ks} {o} e = (unread_settles s (stopped ks o) (subst (Known s) e (known s))).0

  pub rule_reads : {T : Test} {new : List Key} {j : ℕ} → Returns (test 1) T new 0 s j [] → Reads s T
  unfolding over rest
  rule_reads c = answer_reads s (c.comes [] (λ t. t.0) [])

  pub rule_goes_on : {T : Test} {new : List Key} {j b : ℕ} {r : List ℕ} → Returns (test 1) T new 0 s j (b ∷ r) → Unreadable s j
  unfolding over move
  rule_goes_on c = stopped_unreadable (c.comes [] (λ t. t.0) [])

  pub rule_stops : {new : List Key} {j : ℕ} → Fails (test 1) new 0 s j → Unreadable s j
  rule_stops c = stopped_unreadable (c.ends [] (λ t. t.0) [])

  -- t is where the machine has just begun the first part at nesting 33
  begun_deep : (t : State Test) (w : List ℕ) (o : ℕ) (ks : List Key) → answer rule_start s ≡ answer t w → t.seen ≡ ks ++ (o, suc rule_nesting) ∷ []
      → t.here ≡ suc o → All (λ k. depth k ≢ suc rule_nesting) ks → TooDeep s o
  begun_deep t w o ks e d h n =
      let (more, g, l) = answer_grows w t in
      let here : List Key = ks ++ (o, suc rule_nesting) ∷ [] in
      let all : (furthest s).seen ≡ here ++ more = sym (answer_seen s rule_start) ∙ ap seen_of e ∙ g ∙ ap (λ z. z ++ more) d in
      let early = (all_append (Late o) ks ((o, suc rule_nesting) ∷ [])).1 (all_imp _ (Late o) (λ k f x. absurd (f x)) ks n, ((λ x. le_refl o), tt)) in
      let late = all_imp _ (Late o) (λ k b x. omega arith) more l in
      (deep_iff s o).0 (subst (λ z. Least start Deep z o) (sym all) (record {
        one = (o, suc rule_nesting);
        among = occurs_left _ here more (occurs_right _ ks _ (inl refl));
        fits = refl;
        here = refl;
        first = (all_occurs (Late o) (here ++ more)).0 ((all_append (Late o) here more).1 (early, late));
      }))

  pub rule_deep : {new : List Key} {o : ℕ} → Meets (test 1) new 0 s (o, suc rule_nesting) → All (λ k. depth k ≢ suc rule_nesting) new → TooDeep s o
  rule_deep {new} {o} c n = let (t, r, e, d, h) = c.ends [] (λ t. t.0) [] in begun_deep t r o new e d h n
