-- A key stands at an offset exactly if each of its bytes does.
use Prim.Native.Nat.{ℕ, ◌+◌, ◌-◌, ◌≤◌, ◌<◌}
use mathlib.Core.Path.{◌≡◌, refl, sym, ap, ◌∙◌, subst}
use mathlib.Core.List.{List, [], ◌∷◌, ◌++◌, append_assoc}
use lib.ListN.{length, get_or, take, drop, length-drop, length-append, take-append-drop, get_or-append}
use lib.Seq.{get_or-drop, get_or-take, drop-drop, ext_get_or, length-take-le}
use native.Mathlib.Omega.{arith}
use Rattle.std.specs.Prelude.{Option, Some, None, nat_eq}
use mathlib.Core.Bool.{Bool, true, false, true≢false}
use Rattle.std.specs.Cmp.Lexicographic.{pointwise}
use Rattle.std.specs.List.{between}
use Rattle.std.proofs.lemmas.Slice.{between_to_end}
use Rattle.std.proofs.lemmas.Slice.Eq.{starts_is}
use Rattle.std.proofs.lemmas.Bool.Decides.{Decides-eqb}
use Rattle.lexer.specs.declared.Number.{Number}
use Rattle.lexer.specs.Reading.{Spans, Ended, numeral_line, Numbered, Behind, NumberedLine}

module _ (s key : List ℕ) (at : ℕ) where
  pub key_short : length s - at < length key → Ended (λ l. l ≡ key) s at None
  key_short h l r q e = omega (arith, h, length-drop at s, ap length e, length-append l r, ap length q)

  pub key_differs : (i : ℕ) → i < length key → ¬ (get_or s (at + i) 0 ≡ get_or key i 0) → Ended (λ l. l ≡ key) s at None
  key_differs i h ne l r q e =
      ne (sym (get_or-drop at s i 0) ∙ ap (λ (y : List ℕ). get_or y i 0) (e ∙ ap (λ (y : List ℕ). y ++ r) q) ∙ get_or-append key r 0 i h)

  pub key_here : length key ≤ length (drop at s) → at ≤ length s → drop at s ≡ key ++ drop (length key) (drop at s) → Ended (λ l. l ≡ key) s at (Some (at + length key))
  key_here n a e = (key, refl, record { inside = omega (arith, n, length-drop at s); spelled = e ∙ ap (λ (y : List ℕ). key ++ y) (drop-drop (length key) at s) })

  pub key_whole : at ≤ length s → length key ≤ length s - at → ((i : ℕ) → i < length key → get_or s (at + i) 0 ≡ get_or key i 0) → Ended (λ l. l ≡ key) s at (Some (at + length key))
  key_whole a h f =
      key_here (omega (arith, h, length-drop at s)) a
      (sym (take-append-drop (length key) (drop at s)) ∙ ap (λ (y : List ℕ). y ++ drop (length key) (drop at s)) front)
    where
      n : length (take (length key) (drop at s)) ≡ length key
      n = length-take-le (length key) (drop at s) (omega (arith, length-drop at s))

      front : take (length key) (drop at s) ≡ key
      front = ext_get_or 0 (take (length key) (drop at s)) key n (λ i r. get_or-take (length key) (drop at s) i 0 (omega (arith, n)) ∙ get_or-drop at s i 0 ∙ f i (omega (arith, n)))

  -- what is behind the offset begins with the key, or does not
  module _ (a : at ≤ length s) (r : Bool) (e : r ≡ pointwise nat_eq key (take (length key) (between at (length s) s))) where
    rest : between at (length s) s ≡ drop at s
    rest = between_to_end s at (length s) (omega arith)

    tells : (r ≡ true → drop at s ≡ key ++ drop (length key) (drop at s)) × ((x : List ℕ) → drop at s ≡ key ++ x → r ≡ true)
    tells = starts_is Decides-eqb (drop at s) key r (e ∙ ap (λ (y : List ℕ). pointwise nat_eq key (take (length key) y)) rest)

    pub key_read : r ≡ true → (r ≡ true → length key ≤ length (between at (length s) s)) → Ended (λ l. l ≡ key) s at (Some (at + length key))
    key_read t n = key_here (omega (arith, n t, ap length rest)) a (tells.0 t)

    pub key_missed : r ≡ false → Ended (λ l. l ≡ key) s at None
    key_missed f l x q g = true≢false (sym (tells.1 x (g ∙ ap (λ (y : List ℕ). y ++ x) q)) ∙ f)

-- ── What stands behind a key ──
pub spans_join : {s l x : List ℕ} {i j k : ℕ} → Spans s i l j → Spans s j x k → Spans s i (l ++ x) k
spans_join {s} {l} {x} {i} {j} {k} p q = record { inside = q.inside; spelled = p.spelled ∙ ap (λ (y : List ℕ). l ++ y) q.spelled ∙ sym (append_assoc l x (drop k s)) }

module _ (s key : List ℕ) (at i : ℕ) (p : Spans s at key i) where
  -- what begins with the key goes on behind it
  pub behind_key : (x r : List ℕ) → drop at s ≡ (key ++ x) ++ r → drop i s ≡ x ++ r
  behind_key x r e = ++-cancel key (drop i s) (x ++ r) (sym p.spelled ∙ e ∙ append_assoc key x r)
    where
      ++-cancel : (k x y : List ℕ) → k ++ x ≡ k ++ y → x ≡ y
      ++-cancel [] x y e = e
      ++-cancel (b ∷ k) x y e = ++-cancel k x y (cc)

  pub behind_ended : (Form : List ℕ → Type 0) (r : Option ℕ) → Ended Form s i r → Ended (Behind key Form) s at r
  behind_ended Form (Some j) (x, f, q) = (key ++ x, (x, f, refl), spans_join p q)
  behind_ended Form None h = λ l r (x, f, e) g. h x r f (behind_key x r (g ∙ ap (λ (y : List ℕ). y ++ r) e))

  pub behind_numbered : (most : ℕ) (r : Option Number) → Numbered most s i r → NumberedLine key most s at r
  behind_numbered most (Some x) (l, q) = (l, spans_join p q)
  behind_numbered most None h = λ n r l e. h n r l (behind_key (numeral_line n) r e)

-- where the key is not, nothing behind it is
pub no_key : (s key : List ℕ) (at : ℕ) → Ended (λ l. l ≡ key) s at None → (x r : List ℕ) → ¬ (drop at s ≡ (key ++ x) ++ r)
no_key s key at h x r e = h key (x ++ r) refl (e ∙ append_assoc key x r)

pub no_key_ended : (s key : List ℕ) (at : ℕ) (Form : List ℕ → Type 0) → Ended (λ l. l ≡ key) s at None → Ended (Behind key Form) s at None
no_key_ended s key at Form h l r (x, f, e) g = no_key s key at h x r (g ∙ ap (λ (y : List ℕ). y ++ r) e)

pub no_key_numbered : (s key : List ℕ) (at most : ℕ) → Ended (λ l. l ≡ key) s at None → NumberedLine key most s at None
no_key_numbered s key at most h n r l e = no_key s key at h (numeral_line n) r e

pub key_spans : (s key : List ℕ) (at i : ℕ) → Ended (λ l. l ≡ key) s at (Some i) → Spans s at key i
key_spans s key at i (l, e, p) = subst (λ (x : List ℕ). Spans s at x i) e p
