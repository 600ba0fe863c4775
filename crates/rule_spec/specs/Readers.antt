-- What a reader comes to that goes along a rule as the machine does.
use Rattle.std.specs.Prelude.{ℕ, suc, ◌≡◌, List, [], ◌∷◌, ◌++◌, map}
use Rattle.std.proofs.Common.{inl, inr}
use Rattle.lists.specs.Text.{bytes, NameByte}
use Rattle.xpath.specs.Syntax.{Test}
use Rattle.rule_spec.specs.Spelling.{spell_path}
use Rattle.rule_spec.specs.Parts.{Part}
use Rattle.rule_spec.specs.Machine.{Symbol, Stack, Operand, Value, Values, State, state, over, stopped, close, Key}

-- a part by its offset and nesting, which the machine knows when the part begins
abbrev pub key : Part → Key
key p = (p.offset, p.nesting)

abbrev pub keys : List Part → List Key
keys ps = map key ps

-- a comparison from behind its sign to its closing bracket
abbrev pub spell_operand : Operand → List ℕ
spell_operand (inl P) = spell_path P ++ bytes ")"
spell_operand (inr c) = bytes "\"" ++ (c ++ bytes "\")")

-- a text that does not begin with a byte of names
abbrev pub Unnamed : List ℕ → Type 0
Unnamed [] = Unit {0}
Unnamed (b ∷ r) = ¬ NameByte b

-- from a symbol on top of any stack the machine comes back to the stack, with a value and the parts begun, or stops on the way
module _ {R X : Type 0} (end : State R → X) (stop : List Key → ℕ → X) where
  abbrev pub goes : (st : Stack) → (Values st → R) → List Key → ℕ → List ℕ → X
  goes st f ks o w = over end stop (state st f ks o) w

  pub record Comes (x : Symbol) (v : Value x) (new : List Key) (o : ℕ) (w : List ℕ) (j : ℕ) (r : List ℕ) : Type 0 where
    pub comes : (st : Stack) (f : Values (x ∷ st) → R) (ks : List Key) → goes (x ∷ st) f ks o w ≡ goes st (λ t. f (v, t)) (ks ++ new) j r

  -- the run ends in a way E, which is told by the parts begun: it stops at an offset, or meets a part
  pub record Ends (E : List Key → X → Type 0) (x : Symbol) (new : List Key) (o : ℕ) (w : List ℕ) : Type 0 where
    pub ends : (st : Stack) (f : Values (x ∷ st) → R) (ks : List Key) → E (ks ++ new) (goes (x ∷ st) f ks o w)

  abbrev pub Stop : ℕ → List Key → X → Type 0
  Stop j ks a = a ≡ stop ks j

  abbrev pub Meet : Key → List Key → X → Type 0
  Meet k ks a = (t : State R) × (r : List ℕ) × (a ≡ over end stop t r) × (t.seen ≡ ks ++ k ∷ []) × (t.here ≡ suc k.0)

-- a reader of x from offset o, where w is left of the rule, returns at j, where r is left, with the value v; and the parts new have begun
abbrev pub Returns : (x : Symbol) → Value x → List Key → ℕ → List ℕ → ℕ → List ℕ → Type 0
Returns x v new o w j r = Comes {R = Test} close stopped x v new o w j r
