-- A compared value read a stretch at a time: what is still to come completes what the bytes so far have made.
use Prim.Native.Nat.{ℕ}
use mathlib.Core.Path.{◌≡◌, sym, ap, ◌∙◌, subst}
use mathlib.Core.Logic.{◌⊎◌, inl, inr}
use mathlib.Core.Option.{none}
use mathlib.Core.List.{List, [], ◌++◌, append-nil}
use native.Mathlib.Omega.{arith}
use Rattle.xpath.specs.Reading.{amount_of}
use Rattle.document_spec.specs.Library.{Node}
use Rattle.document_spec.specs.Binary.{compared_of}
use Rattle.value_notes.specs.Values.{up_to}
use Rattle.values.specs.declared.Reading.{Reading}
use Rattle.values.specs.Comes.{at_hand, Goes, Comes, Opens, Filled}
use Rattle.values.proofs.Texts.{used_up}
use Rattle.numerals.specs.declared.scan.Scan.{Scan}
use Rattle.numerals.specs.Keys.{no_key, key_of}
use Rattle.numerals.specs.Scans.{resume}
use Rattle.amounts.specs.Weighed.{key_at}

-- the cursor behind the bytes at hand
abbrev spent : Reading → Reading
spent x = record { from = x.to; to = x.to; node = x.node; last = x.last }

pub record Spent (s : List ℕ) (ns : List Node) (x : Reading) (bs : List ℕ) : Type 0 where
  pub rest : List ℕ
  pub whole : at_hand s x ++ rest ≡ bs
  pub comes : Comes s ns (spent x) rest

pub spend : {s : List ℕ} {ns : List Node} {x : Reading} {bs : List ℕ} → Comes s ns x bs → Spent s ns x bs
spend {s} {ns} {x} {bs} h = go h.rest
  where
    gone : at_hand s (spent x) ≡ []
    gone = used_up s x.to x.to (omega arith)

    go : ((x.node ≡ x.last) × (at_hand s x ≡ bs)) ⊎ Goes s ns x bs → Spent s ns x bs
    go (inl (e, b)) = record { rest = []; whole = append-nil (at_hand s x) ∙ b; comes = record { within = h.within; rest = inl (e, gone) } }
    go (inr g) = record {
      rest = up_to ns x.node x.last;
      whole = g.whole;
      comes = record { within = h.within; rest = inr (record { order = g.order; inside = g.inside; ends = g.ends; whole = ap (λ y. y ++ up_to ns x.node x.last) gone }) };
    }

-- the value of node v is read up to x, and c is what the bytes before x have made
pub record ReadTo (s : List ℕ) (ns : List Node) (v : ℕ) (x : Reading) (c : Scan) : Type 0 where
  pub rest : List ℕ
  pub comes : Comes s ns x rest
  pub amount : resume c rest ≡ amount_of (compared_of ns v)

pub read_none : {s : List ℕ} {ns : List Node} {v : ℕ} {x : Reading} {c : Scan} → Opens s ns v x → ((bs : List ℕ) → resume c bs ≡ amount_of bs) → ReadTo s ns v x c
read_none {ns} {v} h e = record { rest = compared_of ns v; comes = h.comes; amount = e (compared_of ns v) }

module _ {s : List ℕ} {ns : List Node} {v : ℕ} {x : Reading} {c : Scan} (h : ReadTo s ns v x c) where
  pub read_filled : {r : Reading} → Filled s ns x h.rest r → ReadTo s ns v r c
  read_filled f = record { rest = h.rest; comes = f.comes; amount = h.amount }

  -- the bytes at hand are read
  pub read_more : {y : Reading} {r : Scan} → ((bs : List ℕ) → resume r bs ≡ resume c (at_hand s x ++ bs)) → y ≡ spent x → ReadTo s ns v y r
  read_more {y} {r} e d =
      let z = spend h.comes in
      subst (λ p. ReadTo s ns v p r) (sym d)
      (record { rest = z.rest; comes = z.comes; amount = e z.rest ∙ ap (λ bs. resume c bs) z.whole ∙ h.amount })

  -- nothing is left
  pub read_all : {k : ℕ} → h.rest ≡ [] → k ≡ key_of (resume c []) → k ≡ key_at ns v
  read_all e f = f ∙ ap key_of (ap (λ bs. resume c bs) (sym e) ∙ h.amount)

  -- they make no numeral, whatever is left
  pub read_failed : ((bs : List ℕ) → none ≡ resume c (at_hand s x ++ bs)) → no_key ≡ key_at ns v
  read_failed e = let z = spend h.comes in ap key_of (e z.rest ∙ ap (λ bs. resume c bs) z.whole ∙ h.amount)
