-- The readers of a comparison behind its first path conclude as the machine does: a sign, and a path with the closing bracket.
use Rattle.std.specs.Prelude.{Result, Ok, Err}
use Prim.Native.Nat.{ℕ}
use native.Mathlib.Omega.{arith}
use mathlib.Core.Path.{◌≡◌, refl, sym, ap, ◌∙◌, subst, subst₂}
use mathlib.Core.Logic.{inl}
use mathlib.Core.List.{List, [], ◌∷◌, ◌++◌, append-nil, append_assoc}
use lib.ListN.{drop, length-append}
use borrow.Author.Tests.{ne_eqb}
use Rattle.lists.proofs.Lists.{all_append}
use Rattle.xpath.specs.Syntax.{Op, Test}
use Rattle.rule_spec.specs.Spelling.{spell_path}
use Rattle.rule_spec.specs.Parts.{path_parts}
use Rattle.rule_spec.specs.Machine.{path, byte, signed, operand, Stack, Values, rest, over, Answer, stopped, close, Key}
use Rattle.rule_spec.specs.Readers.{goes, keys}
use Rattle.rule_spec.proofs.Reading.{as_path}
use Rattle.tokens.specs.declared.read.Tally.{Tally}
use Rattle.tokens.specs.declared.read.Behind.{Behind}
use Rattle.tokens.specs.declared.read.Refusal.{Refusal}
use Rattle.tokens.specs.Tallies.{tallied}
use Rattle.tokens.specs.Readers.{parts_of, Lacks, Back, Halts, Reading, Signs}
use Rattle.tokens.proofs.Joins.{back_as}
use Rattle.tokens.proofs.Places.{turns_halts, turns_returns}

module _ (s : List ℕ) (i n : ℕ) where
  -- ── Behind a sign ──
  module _ {o : Op} {j : ℕ} (h : Signs s o i j) where
    signed_back : {k : ℕ} {t : Tally} {m l : ℕ} {u : Tally} → Back s (operand n) j k t m l u → Back s (signed n) i k t m l u
    signed_back c =
        let a₁ = h.long in let a₂ = c.forth in let a₃ = c.long in
        back_as s (o, c.value) (parts_of (operand n) c.value j) (ap (λ a. parts_of (operand n) c.value a) (sym h.long))
        (omega arith) c.inside (omega arith) c.shallow (turns_returns s (h.turns n) c.returns) c.steps c.few c.kept

    pub signed_reads : (k : ℕ) (t : Tally) (r : Result Behind Refusal) → Reading s (operand n) j k t r → Reading s (signed n) i k t r
    signed_reads k t (Ok b) d = signed_back d
    signed_reads k t (Err e) d = turns_halts s _ (h.turns n) d

  -- ── A path and the bracket ──
  module _ (no : Lacks 34 (drop i s)) where
    as_path_here : (st : Stack) (f : Values (operand n ∷ st) → Test) (ks : List Key)
        → goes {R = Test} close stopped (operand n ∷ st) f ks i (drop i s) ≡ goes {R = Test} close stopped (path n ∷ byte 41 ∷ st) (λ t. f (inl t.0, t.1.1)) ks i (drop i s)
    unfolding over rest
    as_path_here st f ks = go (drop i s) no
      where
        go : (w : List ℕ) → Lacks 34 w
            → goes {R = Test} close stopped (operand n ∷ st) f ks i w ≡ goes {R = Test} close stopped (path n ∷ byte 41 ∷ st) (λ t. f (inl t.0, t.1.1)) ks i w
        go [] l = refl
        go (b ∷ w) l = as_path close stopped n b w (ne_eqb b 34 l) st f ks i

    pub operand_halts : (E : List Key → Answer Test → Type 0) → Halts s E (path n) i → Halts s E (operand n) i
    operand_halts E h = record {
      seen = h.seen;
      shallow = h.shallow;
      ends = record { ends = λ st f ks. subst (E _) (sym (as_path_here st f ks)) (h.ends.ends (byte 41 ∷ st) (λ t. f (inl t.0, t.1.1)) ks) };
    }

    module _ {k : ℕ} {t : Tally} {j l : ℕ} {u : Tally} (c : Back s (path n) i k t j l u) where
      abbrev inside : List Key
      inside = keys (path_parts c.value i n)

      path_read : (st : Stack) (f : Values (operand n ∷ st) → Test) (ks : List Key)
          → goes {R = Test} close stopped (operand n ∷ st) f ks i (drop i s) ≡ goes {R = Test} close stopped (byte 41 ∷ st) (λ t. f (inl c.value, t.1)) (ks ++ inside) j (drop j s)
      path_read st f ks = as_path_here st f ks ∙ c.returns.comes (byte 41 ∷ st) (λ t. f (inl t.0, t.1.1)) ks

      bracket_halts : (E : List Key → Answer Test → Type 0) → Halts s E (byte 41) j → Halts s E (operand n) i
      bracket_halts E h = record {
        seen = inside ++ h.seen;
        shallow = (all_append _ inside h.seen).1 (c.shallow, h.shallow);
        ends = record {
          ends = λ st f ks. subst₂ E (append_assoc ks inside h.seen) (sym (path_read st f ks)) (h.ends.ends st (λ t. f (inl c.value, t.1)) (ks ++ inside));
        };
      }

      bracket_back : {m x : ℕ} {v : Tally} → Back s (byte 41) j l u m x v → Back s (operand n) i k t m x v
      unfolding tallied
      bracket_back {m} d =
          let a₁ = c.forth in let a₂ = c.long in let a₃ = c.steps in
          let b₁ = d.forth in let b₂ = d.long in let b₃ = d.steps in
          let w = length-append (spell_path c.value) (41 ∷ []) in
          record {
            value = inl c.value;
            forth = omega arith;
            inside = d.inside;
            long = omega arith;
            shallow = c.shallow;
            returns = record {
              comes = λ st f ks.
                  path_read st f ks ∙ d.returns.comes st (λ t. f (inl c.value, t.1)) (ks ++ inside)
                  ∙ ap (λ ls. goes {R = Test} close stopped st (λ t. f (inl c.value, t)) ls m (drop m s)) (append-nil (ks ++ inside));
            };
            steps = omega arith;
            few = d.few;
            kept = d.kept ∙ c.kept;
          }

      pub operand_reads : (r : Result Behind Refusal) → Reading s (byte 41) j l u r → Reading s (operand n) i k t r
      operand_reads (Ok b) d = bracket_back d
      operand_reads (Err e) d = bracket_halts _ d
