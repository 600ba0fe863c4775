-- A spelling is read in one way: where two spellings begin a text, they are one.
use Prim.Native.Nat.{ℕ, ◌+◌}
use mathlib.Core.Path.{◌≡◌, refl, sym, ap, ◌∙◌, subst}
use mathlib.Core.Logic.{◌⊎◌, inl, inr}
use mathlib.Core.Bool.{false}
use mathlib.Core.Option.{Option, none, some, map}
use mathlib.Core.List.{List, [], ◌∷◌, ◌++◌, append-nil}
use lib.ListN.{length}
use Rattle.lists.specs.Text.{NameByte}
use Rattle.xpath.specs.Syntax.{Test, XPath}
use Rattle.rule_spec.specs.Spelling.{spell_test, spell_path, LegalTest, LegalPath}
use Rattle.rule_spec.specs.Parts.{Part, parts, test_parts}
use Rattle.rule_spec.specs.Readers.{Unnamed, keys}
use Rattle.rule_spec.specs.Bytes.{is_name_byte}
use Rattle.rule_spec.specs.Machine.{Symbol, Stack, test, path, tail, Value, Values, move, rest, state, over, Answer, read, stopped, closing, close}
use Rattle.rule_spec.proofs.Bytes.{is_false, nameByte_iff}
use Rattle.rule_spec.proofs.Comes.{Leaves}
use Rattle.rule_spec.proofs.Machine.{read_inj, read_not_stopped, answer, rule_start}
use Rattle.rule_spec.proofs.Reading.{Pops, Any, pops_byte, Takes, recast, take_test, take_path}

-- ── What ends a name ──
pub not_name : (b : ℕ) → ¬ NameByte b → is_name_byte b ≡ false
not_name b = is_false (is_name_byte b) (nameByte_iff b)

-- what may be left is left at the end
pub leaves_end : {R : Type 0} (x : Symbol) (v : Value x) → ((st : Stack) → rest (x ∷ st) ≡ map (λ t. (v, t)) (rest st)) → Leaves {R = R} close stopped x v []
unfolding over
leaves_end {R} x v e st f ks o = rw (e st) (go (rest st))
  where
    go : (y : Option (Values st)) → closing (state (x ∷ st) f ks o) (map (λ t. (v, t)) y) ≡ closing (state st (λ t. f (v, t)) ks o) y
    go none = refl
    go (some t) = refl

-- the end, or a byte that no name has, ends a name
pub pops_end : {R : Type 0} → Pops {R = R} close stopped []
unfolding rest
pops_end i = leaves_end (tail i) [] (λ st. refl)

pub pops_unnamed : {R : Type 0} (r : List ℕ) → Unnamed r → Pops {R = R} close stopped r
pops_unnamed [] h = pops_end
pops_unnamed (b ∷ r) h = pops_byte close stopped b r (not_name b h)

-- ── Two beginnings of a text ──
-- of two beginnings of a text, one goes on as the other's rest does
abbrev Parted : List ℕ → List ℕ → List ℕ → List ℕ → Type 0
Parted a b r s = (x : List ℕ) × (((b ≡ a ++ x) × (r ≡ x ++ s)) ⊎ ((a ≡ b ++ x) × (s ≡ x ++ r)))

parted : (a b r s : List ℕ) → a ++ r ≡ b ++ s → Parted a b r s
parted [] b r s e = (b, inl (refl, e))
parted (c ∷ a) [] r s e = (c ∷ a, inr (refl, sym e))
parted (c ∷ a) (d ∷ b) r s e = go (cc) (parted a b r s (cc))
  where
    go : c ≡ d → Parted a b r s → Parted (c ∷ a) (d ∷ b) r s
    go h (x, inl (p, q)) = (x, inl (cc, q))
    go h (x, inr (p, q)) = (x, inr (cc, q))

unnamed_front : (x s : List ℕ) → Unnamed (x ++ s) → Unnamed x
unnamed_front [] s h = tt
unnamed_front (b ∷ x) s h = h

-- ── One symbol alone ──
-- x alone is read from a text, with Ok behind it
module _ (x : Symbol) (Ok : List ℕ → Type 0) (end : Ok []) (front : (z s : List ℕ) → Ok (z ++ s) → Ok z) where
  abbrev Alone : Value x → List ℕ → (ℕ → List Part) → Type 0
  Alone v w p = Takes {R = Value x} close stopped Ok x v w p

  abbrev alone : List ℕ → Answer (Value x)
  alone w = answer (state (x ∷ []) (λ t. t.0) [] 0) w

  module _ {v : Value x} {w : List ℕ} {p : ℕ → List Part} (l : Alone v w p) where
    whole : alone w ≡ read v (keys (p 0))
    unfolding over rest
    whole = ap alone (sym (append-nil w)) ∙ (l.takes 0 [] end).comes [] (λ t. t.0) []

    longer : (b : ℕ) (z : List ℕ) → Ok (b ∷ z) → alone (w ++ b ∷ z) ≡ stopped (keys (p 0)) (0 + length w)
    unfolding over move
    longer b z h = (l.takes 0 (b ∷ z) h).comes [] (λ t. t.0) []

  prefix_one : {v u : Value x} {w w' : List ℕ} {p p' : ℕ → List Part} → Alone v w p → Alone u w' p' → (z : List ℕ) → Ok z → w' ≡ w ++ z → (v ≡ u) × (z ≡ [])
  prefix_one {w = w} l k [] h e = ((read_inj (sym (whole l) ∙ ap alone (sym (e ∙ append-nil w)) ∙ whole k)).0, refl)
  prefix_one l k (b ∷ z) h e = absurd (read_not_stopped (sym (whole k) ∙ ap alone e ∙ longer l b z h))

  read_one : {v u : Value x} {w w' : List ℕ} {p p' : ℕ → List Part} → Alone v w p → Alone u w' p' → (r s : List ℕ) → Ok r → Ok s → w ++ r ≡ w' ++ s → (v ≡ u) × (r ≡ s)
  read_one {v} {u} {w} {w'} l k r s h g e = go (parted w w' r s e)
    where
      go : Parted w w' r s → (v ≡ u) × (r ≡ s)
      go (z, inl (p, q)) = let (a, b) = prefix_one l k z (front z s (subst Ok q h)) p in (a, q ∙ ap (λ y. y ++ s) b)
      go (z, inr (p, q)) = let (a, b) = prefix_one k l z (front z r (subst Ok q g)) p in (sym a, sym (q ∙ ap (λ y. y ++ r) b))

-- ── Tests, paths and rules ──
test_alone : (T : Test) → LegalTest T → Alone (test 1) Unnamed tt unnamed_front T (spell_test T) (λ o. test_parts T o 1)
test_alone T l = recast close stopped pops_unnamed (λ o. refl) (take_test close stopped T 1 l)

-- two tests that begin a text are one if no byte of a name follows either; two paths are one whatever follows
pub test_one : {T U : Test} → LegalTest T → LegalTest U → (r s : List ℕ) → Unnamed r → Unnamed s → spell_test T ++ r ≡ spell_test U ++ s → (T ≡ U) × (r ≡ s)
test_one {T} {U} l k = read_one (test 1) Unnamed tt unnamed_front (test_alone T l) (test_alone U k)

pub path_one : {P Q : XPath} → LegalPath P → LegalPath Q → (r s : List ℕ) → spell_path P ++ r ≡ spell_path Q ++ s → (P ≡ Q) × (r ≡ s)
path_one {P} {Q} l k r s = read_one (path 1) Any tt (λ z s h. tt) (take_path close stopped P 1 l) (take_path close stopped Q 1 k) r s tt tt

pub spell_injective : {T U : Test} → LegalTest T → LegalTest U → spell_test T ≡ spell_test U → T ≡ U
spell_injective l k e = (test_one l k [] [] tt tt (ap (λ w. w ++ []) e)).0

-- a rule that is spelled is read, with its parts
pub answer_test : (T : Test) → LegalTest T → answer rule_start (spell_test T) ≡ read T (keys (parts T))
unfolding parts
answer_test T l = whole (test 1) Unnamed tt unnamed_front (test_alone T l)
