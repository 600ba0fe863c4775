-- The next text, from the last node to the first.
use Prim.Native.Nat.{ℕ, suc, ◌≤◌, ◌<◌}
use mathlib.Core.Path.{◌≡◌, refl, ap, ◌∙◌}
use mathlib.Core.Logic.{inl, inr}
use mathlib.Core.List.{List, []}
use lib.ListN.{length}
use native.Mathlib.Omega.{arith}
use native.Mathlib.Decide.{dec_le}
use Rattle.document_spec.specs.Library.{Node, at}
use Rattle.document_spec.specs.Binary.{text_of}
use Rattle.layout.specs.Words.{NONE}
use Rattle.value_notes.specs.Values.{Mute, Next}

module _ (ns : List Node) where
  -- behind the last node there is none
  pub next_none : {v : ℕ} → length ns ≤ v → Next ns v NONE
  next_none l = inr (refl, λ u i j. absurd (omega arith))

  -- a node with text
  pub next_here : {v : ℕ} → v < length ns → 0 < length (text_of (at ns v)) → Next ns v v
  next_here l h = inl (record { after = omega arith; within = l; text = h; between = λ u i j. absurd (omega arith) })

  -- a node without text
  pub next_passed : {v x : ℕ} → text_of (at ns v) ≡ [] → Next ns (suc v) x → Next ns v x
  next_passed {v} {x} e k = go k
    where
      mute : {b : ℕ} → Mute ns (suc v) b → Mute ns v b
      mute m u i j = from (dec_le u v)
        where
          from : Dec (u ≤ v) → text_of (at ns u) ≡ []
          from (yes l) = let z : u ≡ v = omega arith in ap (λ (w : ℕ). text_of (at ns w)) z ∙ e
          from (no l) = m u (omega arith) j

      go : Next ns (suc v) x → Next ns v x
      go (inl y) = let i = y.after in inl (record { after = omega arith; within = y.within; text = y.text; between = mute y.between })
      go (inr (d, m)) = inr (d, mute m)

  -- a node or no node
  pub next_small : {v x : ℕ} → length ns ≤ NONE → Next ns v x → x ≤ NONE
  next_small few (inl y) = let i = y.within in omega arith
  next_small few (inr (d, m)) = omega arith
