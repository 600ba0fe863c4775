-- The tree rule of a line, from what the lines say: it is kept or broken.
use Prim.Native.Nat.{ℕ, zero, suc, ◌≤◌, ◌<◌}
use mathlib.Core.Path.{◌≡◌, ap, ◌∙◌, subst, subst₂}
use mathlib.Core.Logic.Dec
use mathlib.Core.Logic.{◌⊎◌, inl, inr}
use mathlib.Core.List.{List, [], List-discrete}
use native.Mathlib.Omega.{arith}
use native.Mathlib.Decide.{ℕ_discrete, dec_le, dec_lt, map_dec}
use Rattle.lists.specs.Text.{bytes}
use Rattle.lists.proofs.Decide.{dec_or, dec_implies}
use Rattle.document_spec.specs.Library.{Kind, element, attribute, text, DepthBehind, KindBehind, LabelRule, ValueRule, kind_line}
use Rattle.document_spec.specs.Verdict.{DepthIs, KindIs, LabelIs, ValueIs, Breaks}
use Rattle.document_spec.specs.Fields.{Field, depth, kind, label, value, line_of, Formed, Ruled}
use Rattle.document_spec.specs.Good.{Good}
use Rattle.document_spec.proofs.Spelling.{kind_injective}
use Rattle.document_spec.proofs.Reading.{depth_one, kind_one, label_one, value_one}

-- ── A rule kept by what the lines are known to say is kept, since they say nothing else ──
module _ (s : List ℕ) where
  pub ruled_top : (d : ℕ) → DepthIs s 0 d → d ≡ 0 → Ruled s 0 depth
  ruled_top d p h e q = depth_one s 0 e d q p ∙ h

  pub ruled_root : (k : Kind) → KindIs s 0 k → k ≡ element → Ruled s 0 kind
  ruled_root k p h j q = kind_one s 0 j k q p ∙ h

  module _ (v d d' : ℕ) (k : Kind) (p : DepthIs s v d) (q : KindIs s v k) (p' : DepthIs s (suc v) d') where
    pub ruled_depth : DepthBehind d k d' → Ruled s (suc v) depth
    ruled_depth h e e' j r t r' =
        subst₂ (λ e e'. DepthBehind e j e') (depth_one s v d e p r) (depth_one s (suc v) d' e' p' r')
        (subst (λ j. DepthBehind d j d') (kind_one s v k j q t) h)

    pub ruled_kind : (k' : Kind) → KindIs s (suc v) k' → KindBehind d k d' k' → Ruled s (suc v) kind
    ruled_kind k' q' h e e' j j' r t r' t' =
        subst₂ (λ e e'. KindBehind e j e' j') (depth_one s v d e p r) (depth_one s (suc v) d' e' p' r')
        (subst₂ (λ j j'. KindBehind d j d' j') (kind_one s v k j q t) (kind_one s (suc v) k' j' q' t') h)

  module _ (v : ℕ) (k : Kind) (q : KindIs s v k) where
    pub ruled_label : (a : List ℕ) → LabelIs s v a → LabelRule k a → Ruled s v label
    ruled_label a p h j b t r = subst₂ LabelRule (kind_one s v k j q t) (label_one s v a b p r) h

    pub ruled_value : (b : List ℕ) → ValueIs s v b → ValueRule k b → Ruled s v value
    ruled_value b p h j c t r = subst₂ ValueRule (kind_one s v k j q t) (value_one s v b c p r) h

-- ── The rules are decidable ──
pub dec_kind : (k j : Kind) → Dec (k ≡ j)
dec_kind k j = map_dec (kind_injective k j) (ap kind_line) (List-discrete ℕ_discrete (kind_line k) (kind_line j))

dec_depth_behind : (d : ℕ) (k : Kind) (d' : ℕ) → Dec (DepthBehind d k d')
dec_depth_behind d k d' =
    map_dec {A = (0 < d') × ((d' ≤ suc d) × (d' ≡ suc d → k ≡ element))} (λ h. (h.0, h.1.0, h.1.1)) (λ h. (h.0, (h.1, h.2)))
    (Dec.and (dec_lt 0 d') (Dec.and (dec_le d' (suc d)) (dec_implies (ℕ_discrete d' (suc d)) (dec_kind k element))))

dec_kind_behind : (d : ℕ) (k : Kind) (d' : ℕ) (k' : Kind) → Dec (KindBehind d k d' k')
dec_kind_behind d k d' k' =
    dec_implies (dec_kind k' attribute)
    (dec_or (Dec.and (dec_kind k element) (ℕ_discrete d' (suc d))) (Dec.and (dec_kind k attribute) (ℕ_discrete d' d)))

dec_label_rule : (k : Kind) (a : List ℕ) → Dec (LabelRule k a)
dec_label_rule k a = dec_implies (dec_kind k text) (List-discrete ℕ_discrete a (bytes "text"))

dec_value_rule : (k : Kind) (b : List ℕ) → Dec (ValueRule k b)
dec_value_rule k b = dec_implies (dec_kind k element) (List-discrete ℕ_discrete b [])

-- ── Kept or broken ──
by_dec : {A B C : Type 0} → (A → B) → (¬ A → C) → Dec A → B ⊎ C
by_dec f g (yes a) = inl (f a)
by_dec f g (no h) = inr (g h)

pub ruled_or_breaks : {s : List ℕ} {n k : ℕ} → Good s n k → (v : ℕ) (f : Field) → line_of v f ≡ suc k → v < n
    → Formed s v f → Ruled s v f ⊎ Breaks s (line_of v f)
ruled_or_breaks {s} g zero depth e l (d, p) = by_dec (ruled_top s d p) (Breaks.top g.count l p) (ℕ_discrete d 0)
ruled_or_breaks {s} g zero kind e l (k, q) = by_dec (ruled_root s k q) (Breaks.rooted g.count l q) (dec_kind k element)
ruled_or_breaks {s} g (suc v) depth e l (d', p') =
    let (d, p) = (g.lines v depth (omega arith)).0 in
    let (k, q) = (g.lines v kind (omega arith)).0 in
    by_dec (ruled_depth s v d d' k p q p') (Breaks.depth g.count l p q p') (dec_depth_behind d k d')
ruled_or_breaks {s} g (suc v) kind e l (k', q') =
    let (d, p) = (g.lines v depth (omega arith)).0 in
    let (k, q) = (g.lines v kind (omega arith)).0 in
    let (d', p') = (g.lines (suc v) depth (omega arith)).0 in
    by_dec (ruled_kind s v d d' k p q p' k' q') (Breaks.kind g.count l p q p' q') (dec_kind_behind d k d' k')
ruled_or_breaks {s} g v label e l (a, p) =
    let (k, q) = (g.lines v kind (omega arith)).0 in
    by_dec (ruled_label s v k q a p) (Breaks.label v g.count l q p) (dec_label_rule k a)
ruled_or_breaks {s} g v value e l (b, p) =
    let (k, q) = (g.lines v kind (omega arith)).0 in
    by_dec (ruled_value s v k q b p) (Breaks.value v g.count l q p) (dec_value_rule k b)
