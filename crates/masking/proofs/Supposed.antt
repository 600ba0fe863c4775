-- What 02 (n) supposes, as a test that computes: a program can tell whether two libraries are as the request asks.
use Prim.Native.Nat.{ℕ, ◌<◌}
use mathlib.Core.Path.{◌≡◌, refl, ap}
use mathlib.Core.Logic.{inl, inr, ◌↔◌}
use mathlib.Core.Bool.{Bool}
use mathlib.Core.List.{List, [], ◌∷◌}
use lib.ListN.{length}
use lib.Dec.{T, eqb}
use Rattle.lists.specs.Lists.{Occurs}
use Rattle.lists.specs.Blanks.{trim}
use Rattle.xpath.specs.Syntax.{Op, eq, ne, lt, le, gt, ge, Test}
use Rattle.xpath.specs.Meaning.{Rel}
use Rattle.xpath.specs.Booleans.{both}
use Rattle.xpath.proofs.Booleans.{T-both, eqb_iff, trans, ×-iff}
use Rattle.xpath.proofs.Decide.{every_below, every_iff, allb, each_by, by_each, sameb, same_iff, relb, rel_iff, sideb, sides_iff}
use Rattle.document_spec.specs.Library.{Kind, Node, at, kind_line}
use Rattle.document_spec.specs.Binary.{compared_of}
use Rattle.document_spec.proofs.Spelling.{kind_injective}
use Rattle.masking.specs.Masking.{constants, SameSigns, Masked}

-- ── Signs ──
abbrev signs : List Op
signs = eq ∷ ne ∷ lt ∷ le ∷ gt ∷ ge ∷ []

every_sign : (o : Op) → Occurs o signs
every_sign eq = inl refl
every_sign ne = inr (inl refl)
every_sign lt = inr (inr (inl refl))
every_sign le = inr (inr (inr (inl refl)))
every_sign gt = inr (inr (inr (inr (inl refl))))
every_sign ge = inr (inr (inr (inr (inr (inl refl)))))

module _ (b c b' c' : List ℕ) where
  abbrev signb : Op → Bool
  signb o = sideb (relb o b c) (relb o b' c')

  abbrev signsb : Bool
  signsb = allb signb signs

  sign_iff : (o : Op) → T (signb o) ↔ (Rel o b c ↔ Rel o b' c')
  sign_iff o = sides_iff (relb o b c) (relb o b' c') (rel_iff o b c) (rel_iff o b' c')

  signs_iff : T signsb ↔ SameSigns b c b' c'
  signs_iff = (λ h o. each_by signb (λ o. Rel o b c ↔ Rel o b' c') (λ o. (sign_iff o).0) signs h o (every_sign o), λ h. by_each signb (λ o. Rel o b c ↔ Rel o b' c') (λ o. (sign_iff o).1) signs (λ o i. h o))

-- ── Kinds, by their lines ──
kind_iff : (k l : Kind) → T (sameb (kind_line k) (kind_line l)) ↔ (k ≡ l)
kind_iff k l = trans (same_iff (kind_line k) (kind_line l)) (kind_injective k l, ap kind_line)

-- ── The supposition ──
-- both of two facts, each told by a test
joined : {A B : Type 0} (a b : Bool) → T a ↔ A → T b ↔ B → T (both a b) ↔ (A × B)
joined a b i j = trans (T-both a b) (×-iff i j)

module _ (U : Test) (ns ns' : List Node) where
  abbrev depthb : ℕ → Bool
  depthb v = eqb (at ns v).depth (at ns' v).depth

  abbrev kindb : ℕ → Bool
  kindb v = sameb (kind_line (at ns v).kind) (kind_line (at ns' v).kind)

  abbrev labelb : ℕ → Bool
  labelb v = sameb (at ns v).label (at ns' v).label

  abbrev valueb : ℕ → ℕ → Bool
  valueb v w = signsb (compared_of ns v) (compared_of ns w) (compared_of ns' v) (compared_of ns' w)

  abbrev againstb : ℕ → List ℕ → Bool
  againstb v c = signsb (compared_of ns v) (trim c) (compared_of ns' v) (trim c)

  -- one node, beside all nodes and constants
  abbrev nodeb : ℕ → Bool
  nodeb v = both (depthb v) (both (kindb v) (both (labelb v) (both (every_below (length ns) (valueb v)) (allb (againstb v) (constants U)))))

  abbrev pub maskedb : Bool
  maskedb = both (eqb (length ns) (length ns')) (every_below (length ns) nodeb)

  -- ── The same, as facts ──
  abbrev Values : ℕ → ℕ → Type 0
  Values v w = SameSigns (compared_of ns v) (compared_of ns w) (compared_of ns' v) (compared_of ns' w)

  abbrev Against : ℕ → List ℕ → Type 0
  Against v c = SameSigns (compared_of ns v) (trim c) (compared_of ns' v) (trim c)

  -- what is supposed of one node
  record Like (v : ℕ) : Type 0 where
    depth : (at ns v).depth ≡ (at ns' v).depth
    kind : (at ns v).kind ≡ (at ns' v).kind
    label : (at ns v).label ≡ (at ns' v).label
    values : (w : ℕ) → w < length ns → Values v w
    against : (c : List ℕ) → Occurs c (constants U) → Against v c

  values_iff : (v : ℕ) → T (every_below (length ns) (valueb v)) ↔ ((w : ℕ) → w < length ns → Values v w)
  values_iff v = every_iff (length ns) (valueb v) (Values v) (λ w r. signs_iff (compared_of ns v) (compared_of ns w) (compared_of ns' v) (compared_of ns' w))

  against_iff : (v : ℕ) → T (allb (againstb v) (constants U)) ↔ ((c : List ℕ) → Occurs c (constants U) → Against v c)
  against_iff v = (each_by (againstb v) (Against v) (λ c. (one c).0) (constants U), by_each (againstb v) (Against v) (λ c. (one c).1) (constants U))
    where
      one : (c : List ℕ) → T (againstb v c) ↔ Against v c
      one c = signs_iff (compared_of ns v) (trim c) (compared_of ns' v) (trim c)

  node_iff : (v : ℕ) → T (nodeb v) ↔ Like v
  node_iff v =
      let vs = every_below (length ns) (valueb v) in let cs = allb (againstb v) (constants U) in
      trans (joined (depthb v) (both (kindb v) (both (labelb v) (both vs cs))) (eqb_iff (at ns v).depth (at ns' v).depth)
      (joined (kindb v) (both (labelb v) (both vs cs)) (kind_iff (at ns v).kind (at ns' v).kind)
      (joined (labelb v) (both vs cs) (same_iff (at ns v).label (at ns' v).label) (joined vs cs (values_iff v) (against_iff v)))))
      (λ h. record { depth = h.0; kind = h.1.0; label = h.1.1.0; values = h.1.1.1.0; against = h.1.1.1.1 }, λ l. (l.depth, (l.kind, (l.label, (l.values, l.against)))))

  pub masked_iff : T maskedb ↔ Masked U ns ns'
  masked_iff = trans (joined (eqb (length ns) (length ns')) (every_below (length ns) nodeb) (eqb_iff (length ns) (length ns')) (every_iff (length ns) nodeb Like (λ v r. node_iff v))) (to, from)
    where
      to : (length ns ≡ length ns') × ((v : ℕ) → v < length ns → Like v) → Masked U ns ns'
      to (e, l) = record {
        nodes = e;
        depths = λ v r. (l v r).depth;
        kinds = λ v r. (l v r).kind;
        labels = λ v r. (l v r).label;
        values = λ v w r q. (l v r).values w q;
        against = λ v r. (l v r).against;
      }

      from : Masked U ns ns' → (length ns ≡ length ns') × ((v : ℕ) → v < length ns → Like v)
      from m = (m.nodes, λ v r. record { depth = m.depths v r; kind = m.kinds v r; label = m.labels v r; values = λ w q. m.values v w r q; against = m.against v r })
