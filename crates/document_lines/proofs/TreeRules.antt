-- The tree rules of node v, by whether it is the first node, and by the kinds.
use Prim.Native.Nat.{ℕ, zero, suc, ◌+◌}
use Rattle.std.specs.Prelude.{Option, Some, None, is_some}
use mathlib.Core.Path.{◌≡◌, refl, ap, subst, sym, ◌∙◌}
use mathlib.Core.Logic.{◌⊎◌, inl, inr}
use mathlib.Core.Bool.{Bool}
use mathlib.Core.List.{List, [], ◌∷◌, ◌++◌, append_assoc}
use lib.ListN.{length, drop}
use native.Mathlib.Omega.{arith}
use Rattle.lists.specs.Lists.{All}
use Rattle.lists.specs.Text.{bytes, NameByte}
use Rattle.limits.specs.Names.{Name}
use Rattle.lists.proofs.Lists.{all_imp}
use Rattle.lexer.specs.Reading.{Spans, Ended}
use Rattle.lexer.proofs.Numbers.{before_lf}
use Rattle.document_spec.specs.Library as Library
use Rattle.document_spec.specs.Library.{element, attribute, text, DepthBehind, KindBehind, LabelRule, label_line}
use Rattle.document_lines.specs.declared.rules.Kind.{Kind}
use Rattle.document_lines.specs.declared.rules.Node.{Node}
use Rattle.document_lines.specs.Nodes.{kind_of, Told, DepthRule, KindRule}

-- ── Kinds are told apart ──
pub not_element : {k : Library.Kind} → (k ≡ attribute) ⊎ (k ≡ text) → k ≡ element → ⊥
not_element (inl p) q = let z : ◌≡◌ {A = ℕ} 0 1 = cc in omega arith
not_element (inr p) q = let z : ◌≡◌ {A = ℕ} 0 1 = cc in omega arith

pub not_attribute : {k : Library.Kind} → (k ≡ element) ⊎ (k ≡ text) → k ≡ attribute → ⊥
not_attribute (inl p) q = let z : ◌≡◌ {A = ℕ} 0 1 = cc in omega arith
not_attribute (inr p) q = let z : ◌≡◌ {A = ℕ} 0 1 = cc in omega arith

-- an attribute behind neither its element nor an attribute of its depth
pub not_behind : (d e : ℕ) (k : Library.Kind) → (k ≡ element → e ≡ suc d → ⊥) → (k ≡ attribute → e ≡ d → ⊥) → ¬ KindBehind d k e attribute
not_behind d e k f g h = go (h refl)
  where
    go : ((k ≡ element) × (e ≡ suc d)) ⊎ ((k ≡ attribute) × (e ≡ d)) → ⊥
    go (inl (p, q)) = f p q
    go (inr (p, q)) = g p q

-- ── The first node, and any other ──
module _ (p : Node) (d : ℕ) where
  pub depth_first : (v : ℕ) → v ≡ 0 → d ≡ 0 → DepthRule v p d
  depth_first v e h = subst (λ v. DepthRule v p d) (sym e) h

  pub depth_not_first : (v : ℕ) → v ≡ 0 → ¬ (d ≡ 0) → ¬ DepthRule v p d
  depth_not_first v e f h = f (subst (λ v. DepthRule v p d) e h)

  pub depth_later : (v : ℕ) (r : Bool) → ¬ (v ≡ 0) → Told (DepthBehind p.depth (kind_of p.kind) d) r → Told (DepthRule v p d) r
  depth_later zero r f h = absurd (f refl)
  depth_later (suc v) r f h = h

  pub kind_not_first : (v : ℕ) (k : Kind) → v ≡ 0 → ¬ (kind_of k ≡ element) → ¬ KindRule v p d k
  kind_not_first v k e f h = f (subst (λ v. KindRule v p d k) e h)

  pub kind_later : (v : ℕ) (k : Kind) (r : Bool) → ¬ (v ≡ 0) → Told (KindBehind p.depth (kind_of p.kind) d (kind_of k)) r → Told (KindRule v p d k) r
  kind_later zero k r f h = absurd (f refl)
  kind_later (suc v) k r f h = h

  -- an element may stand anywhere
  pub element_fits : (v : ℕ) (k : Kind) → kind_of k ≡ element → KindRule v p d k
  element_fits zero k e = e
  element_fits (suc v) k e = λ a. absurd (not_attribute (inl e) a)

-- ── Labels and values ──
pub label_any : (k : Library.Kind) (a : List ℕ) → ¬ (k ≡ text) → LabelRule k a
label_any k a f e = absurd (f e)

pub not_text : {k : Library.Kind} → (k ≡ element) ⊎ (k ≡ attribute) → k ≡ text → ⊥
not_text (inl p) q = let z : ◌≡◌ {A = ℕ} 0 1 = cc in omega arith
not_text (inr p) q = let z : ◌≡◌ {A = ℕ} 0 1 = cc in omega arith

abbrev Other : ℕ → Type 0
Other b = ¬ (b ≡ 10)

name_byte_other : (b : ℕ) → NameByte b → Other b
name_byte_other b (inl h) e = omega arith
name_byte_other b (inr (inl h)) e = omega arith
name_byte_other b (inr (inr h)) e = omega arith

name_other : (a : List ℕ) → Name a → All Other a
unfolding Name
name_other [] n = absurd n
name_other (b ∷ bs) n = ((λ e. let h = n.0 in omega arith), all_imp NameByte Other name_byte_other bs n.1)

-- a label line that begins with the spelling of `text` is that of `text`
pub label_is_text : (s : List ℕ) (i : ℕ) (a q : List ℕ) (j : ℕ) → Name a → drop i s ≡ label_line a ++ q → Spans s i (label_line (bytes "text")) j → a ≡ bytes "text"
label_is_text s i a q j n e p =
    before_lf a (bytes "text") q (drop j s) (name_other a n) ((λ e. omega arith), ((λ e. omega arith), ((λ e. omega arith), ((λ e. omega arith), tt))))
    (sym (append_assoc a (bytes "\n") q) ∙ rest)
  where
    whole : label_line a ++ q ≡ label_line (bytes "text") ++ drop j s
    whole = sym e ∙ p.spelled

    rest : (a ++ bytes "\n") ++ q ≡ (bytes "text" ++ bytes "\n") ++ drop j s
    rest = cc

pub label_told : (s : List ℕ) (i : ℕ) (k : Kind) → kind_of k ≡ text → (r : Option ℕ) → Ended (λ l. l ≡ label_line (bytes "text")) s i r
    → (a q : List ℕ) → Name a → drop i s ≡ label_line a ++ q → Told (LabelRule (kind_of k) a) (is_some r)
label_told s i k t (Some j) (l, e, p) a q n g = λ h. label_is_text s i a q j n g (subst (λ (x : List ℕ). Spans s i x j) e p)
label_told s i k t None f a q n g = λ h. f (label_line a) q (ap label_line (h t)) g

-- an element's value line is seven bytes long exactly if the value is empty
pub value_empty : (b : List ℕ) (i j : ℕ) → j ≡ i + 7 + length b → j ≡ i + 7 → b ≡ []
value_empty [] i j e h = refl
value_empty (x ∷ b) i j e h = absurd (omega arith)
