-- From a symbol on top of any stack the machine comes back to the stack, with a value and the parts begun, or stops on the way.
use Prim.Native.Nat.{ℕ, suc}
use mathlib.Core.Path.{◌≡◌, refl, sym, ap, ◌∙◌, subst, subst₂}
use mathlib.Core.Option.{Option, none, some, map}
use mathlib.Core.List.{List, [], ◌∷◌, ◌++◌, append-nil, append_assoc}
use Rattle.rule_spec.specs.Readers.{goes, Comes, Ends, Stop, Meet}
use Rattle.rule_spec.specs.Machine.{Symbol, Stack, Value, Values, Move, pass, move, State, state, advance, over, note, Key}

-- ── Moves that pass, and parts that begin ──
-- what stands in place of st, or behind what is left empty, reads as it would alone
pub passes : {R : Type 0} (st st' : Stack) (h : Values st' → Values st) (f : Values st → R) (ks : List Key) (o : ℕ) (x : Option (Move st'))
    → map (advance (state st f ks o)) (map (pass h) x) ≡ map (advance (state st' (λ v. f (h v)) ks o)) x
passes st st' h f ks o none = refl
passes st st' h f ks o (some m) = refl

-- the part that begins at a byte, if one does
abbrev pub fresh : ℕ → Option ℕ → List Key
fresh o none = []
fresh o (some n) = (o, n) ∷ []

noted : (ks : List Key) (o : ℕ) (m : Option ℕ) → note ks o m ≡ ks ++ fresh o m
noted ks o none = sym (append-nil ks)
noted ks o (some n) = refl

-- ── The same told with equal parts and places ──
module _ {R X : Type 0} (end : State R → X) (stop : List Key → ℕ → X) where
  pub comes_as : {x : Symbol} {v : Value x} {new new' : List Key} {o : ℕ} {w w' : List ℕ} {j j' : ℕ} {r : List ℕ} → new ≡ new' → w ≡ w' → j ≡ j'
      → Comes end stop x v new o w j r → Comes end stop x v new' o w' j' r
  comes_as {x} {v} {new} {new'} {o} {w} {w'} {j} {j'} {r} p q e c =
      subst (λ z. Comes end stop x v z o w' j' r) p (subst (λ z. Comes end stop x v new o z j' r) q (subst (λ z. Comes end stop x v new o w z r) e c))

  pub ends_as : {E : List Key → X → Type 0} {x : Symbol} {new new' : List Key} {o : ℕ} {w w' : List ℕ} → new ≡ new' → w ≡ w' → Ends end stop E x new o w → Ends end stop E x new' o w'
  ends_as {E} {x} {new} {new'} {o} {w} {w'} p q c = subst₂ (λ ls z. Ends end stop E x ls o z) p q c

  -- ── What is left empty ──
  -- before r the machine leaves x with the value v, and goes on with what stands below it
  abbrev pub Leaves : (x : Symbol) → Value x → List ℕ → Type 0
  Leaves x v r = (st : Stack) (f : Values (x ∷ st) → R) (ks : List Key) (o : ℕ) → goes end stop (x ∷ st) f ks o r ≡ goes end stop st (λ t. f (v, t)) ks o r

  pub leaves_byte : (x : Symbol) (v : Value x) (b : ℕ) (w : List ℕ) → ((st : Stack) → move (x ∷ st) b ≡ map (pass (λ t. (v, t))) (move st b)) → Leaves x v (b ∷ w)
  unfolding over
  leaves_byte x v b w e st f ks o = rw (e st, passes (x ∷ st) st (λ t. (v, t)) f ks o (move st b))

  pub leaves_comes : {x : Symbol} {v : Value x} {r : List ℕ} → Leaves x v r → (o : ℕ) → Comes end stop x v [] o r o r
  leaves_comes {x} {v} {r} l o = record { comes = λ st f ks. l st f ks o ∙ ap (λ ls. goes end stop st (λ t. f (v, t)) ls o r) (sym (append-nil ks)) }

  -- ── One byte ──
  -- one byte of x, behind which the symbols of front are due
  module _ (x : Symbol) (b : ℕ) (m : Option ℕ) where
    byte_read : (front : Stack → Stack) (g : (st : Stack) → Values (front st) → Values (x ∷ st))
        → ((st : Stack) → move (x ∷ st) b ≡ some (record { after = front st; build = g st; begins = m }))
        → (o : ℕ) (w : List ℕ) (st : Stack) (f : Values (x ∷ st) → R) (ks : List Key)
        → goes end stop (x ∷ st) f ks o (b ∷ w) ≡ goes end stop (front st) (λ t. f (g st t)) (ks ++ fresh o m) (suc o) w
    unfolding over
    byte_read front g e o w st f ks = rw (e st) (ap (λ ls. goes end stop (front st) (λ t. f (g st t)) ls (suc o) w) (noted ks o m))

    pub stops_here : {o : ℕ} {w : List ℕ} → ((st : Stack) → move (x ∷ st) b ≡ none) → Ends end stop (Stop end stop o) x [] o (b ∷ w)
    unfolding over
    stops_here {o} e = record { ends = λ st f ks. rw (e st) (ap (λ ls. stop ls o) (sym (append-nil ks))) }

    -- a part that begins is met, whatever is due behind its first byte
    pub meets_here : {n o : ℕ} {w : List ℕ} (front : Stack → Stack) (g : (st : Stack) → Values (front st) → Values (x ∷ st))
        → ((st : Stack) → move (x ∷ st) b ≡ some (record { after = front st; build = g st; begins = m })) → m ≡ some n → Ends end stop (Meet end stop (o, n)) x [] o (b ∷ w)
    meets_here {n} {o} {w} front g e d = record {
      ends = λ st f ks.
          let seen = ap (λ z. ks ++ fresh o z) d ∙ ap (λ ls. ls ++ (o, n) ∷ []) (sym (append-nil ks)) in
          (state (front st) (λ t. f (g st t)) (ks ++ fresh o m) (suc o), w, byte_read front g e o w st f ks, seen, refl);
    }

    pub comes_none : {o : ℕ} {w : List ℕ} (v : Value x) → ((st : Stack) → move (x ∷ st) b ≡ some (record { after = st; build = λ t. (v, t); begins = m }))
        → Comes end stop x v (fresh o m) o (b ∷ w) (suc o) w
    comes_none {o} {w} v e = record { comes = byte_read (λ st. st) (λ st t. (v, t)) e o w }

    -- ── One symbol behind the byte ──
    module _ (y : Symbol) (h : Value y → Value x)
        (e : (st : Stack) → move (x ∷ st) b ≡ some (record { after = y ∷ st; build = λ t. (h t.0, t.1); begins = m })) where
      pub comes_one : {o : ℕ} {w : List ℕ} {v : Value y} {new : List Key} {j : ℕ} {r : List ℕ} → Comes end stop y v new (suc o) w j r → Comes end stop x (h v) (fresh o m ++ new) o (b ∷ w) j r
      comes_one {o} {w} {v} {new} {j} {r} c = record {
        comes = λ st f ks.
            byte_read (λ st. y ∷ st) (λ st t. (h t.0, t.1)) e o w st f ks ∙ c.comes st (λ t. f (h t.0, t.1)) (ks ++ fresh o m)
            ∙ ap (λ ls. goes end stop st (λ t. f (h v, t)) ls j r) (append_assoc ks (fresh o m) new);
      }

      pub ends_one : {E : List Key → X → Type 0} {o : ℕ} {w : List ℕ} {new : List Key} → Ends end stop E y new (suc o) w → Ends end stop E x (fresh o m ++ new) o (b ∷ w)
      ends_one {E} {o} {w} {new} c = record {
        ends = λ st f ks.
            subst₂ E (append_assoc ks (fresh o m) new) (sym (byte_read (λ st. y ∷ st) (λ st t. (h t.0, t.1)) e o w st f ks))
            (c.ends st (λ t. f (h t.0, t.1)) (ks ++ fresh o m));
      }

    -- ── Two symbols behind the byte ──
    module _ (y z : Symbol) (h : Value y → Value z → Value x)
        (e : (st : Stack) → move (x ∷ st) b ≡ some (record { after = y ∷ z ∷ st; build = λ t. (h t.0 t.1.0, t.1.1); begins = m })) where
      first_read : (o : ℕ) (w : List ℕ) (st : Stack) (f : Values (x ∷ st) → R) (ks : List Key)
          → goes end stop (x ∷ st) f ks o (b ∷ w) ≡ goes end stop (y ∷ z ∷ st) (λ t. f (h t.0 t.1.0, t.1.1)) (ks ++ fresh o m) (suc o) w
      first_read = byte_read (λ st. y ∷ z ∷ st) (λ st t. (h t.0 t.1.0, t.1.1)) e

      pub comes_two : {o : ℕ} {w : List ℕ} {v : Value y} {u : Value z} {new more : List Key} {i j : ℕ} {q r : List ℕ} → Comes end stop y v new (suc o) w i q → Comes end stop z u more i q j r
          → Comes end stop x (h v u) (fresh o m ++ (new ++ more)) o (b ∷ w) j r
      comes_two {o} {w} {v} {u} {new} {more} {i} {j} {q} {r} c d = record {
        comes = λ st f ks.
            first_read o w st f ks ∙ c.comes (z ∷ st) (λ t. f (h t.0 t.1.0, t.1.1)) (ks ++ fresh o m)
            ∙ d.comes st (λ t. f (h v t.0, t.1)) ((ks ++ fresh o m) ++ new)
            ∙ ap (λ ls. goes end stop st (λ t. f (h v u, t)) ls j r) (simp append_assoc);
      }

      pub ends_first : {E : List Key → X → Type 0} {o : ℕ} {w : List ℕ} {new : List Key} → Ends end stop E y new (suc o) w → Ends end stop E x (fresh o m ++ new) o (b ∷ w)
      ends_first {E} {o} {w} {new} c = record {
        ends = λ st f ks.
            subst₂ E (append_assoc ks (fresh o m) new) (sym (first_read o w st f ks)) (c.ends (z ∷ st) (λ t. f (h t.0 t.1.0, t.1.1)) (ks ++ fresh o m));
      }

      pub ends_second : {E : List Key → X → Type 0} {o : ℕ} {w : List ℕ} {v : Value y} {new more : List Key} {i : ℕ} {q : List ℕ}
          → Comes end stop y v new (suc o) w i q → Ends end stop E z more i q → Ends end stop E x (fresh o m ++ (new ++ more)) o (b ∷ w)
      ends_second {E} {o} {w} {v} {new} {more} c d = record {
        ends = λ st f ks.
            subst₂ E (simp append_assoc) (sym (first_read o w st f ks ∙ c.comes (z ∷ st) (λ t. f (h t.0 t.1.0, t.1.1)) (ks ++ fresh o m)))
            (d.ends st (λ t. f (h v t.0, t.1)) ((ks ++ fresh o m) ++ new));
      }
