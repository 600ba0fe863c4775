-- Every document is refused by a first ground or is the spelling of one legal library, and never both.
use Prim.Native.Nat.{ℕ, zero, suc, ◌+◌, ◌*◌, ◌≤◌, ◌<◌}
use mathlib.Core.Path.{◌≡◌, refl, sym, ◌∙◌}
use mathlib.Core.Logic.{◌⊎◌, inl, inr, ⊎_elim, ◌↔◌}
use mathlib.Core.List.{List, [], ◌∷◌, ◌++◌, List-discrete}
use native.Mathlib.Omega.{arith}
use native.Mathlib.Decide.{ℕ_discrete, dec_le}
use lib.ListN.{length}
use Rattle.limits.specs.Limits.{document_bytes, document_nodes}
use Rattle.refusals.specs.Refusals.{Refusal, document_length, line_form, node_count, tree_rule, duplicate_attribute, First}
use Rattle.document_spec.specs.Library.{Node, Legal, spell}
use Rattle.document_spec.specs.Verdict.{line, CountIs, Breaks, Duplicate, DocumentGround, Accepts, Checked}
use Rattle.document_spec.specs.Fields.{Field, depth, kind, label, value, line_of, Formed, Ruled}
use Rattle.document_spec.specs.Good.{Good}
use Rattle.document_spec.proofs.Lines.{line_none}
use Rattle.document_spec.proofs.Grounds.{first_long, first_uncounted, first_number}
use Rattle.document_spec.proofs.Good.{good_start, good_as, good_on, good_whole, first_form, first_rule, first_duplicate, first_extra}
use Rattle.document_spec.proofs.Duplicates.{unrepeated, dec_duplicate}
use Rattle.document_spec.proofs.Rules.{ruled_or_breaks}
use Rattle.document_spec.proofs.Forms.{dec_count, dec_formed}
use Rattle.document_spec.proofs.Accepted.{good_accepts, legal_reads, reads_good, accepts_good}

-- ── Never both ──
pub accepted_unrefused : (s : List ℕ) (ns : List Node) → Accepts s ns → (r : Refusal) → ¬ DocumentGround s r
accepted_unrefused s ns a r h = let (g, e) = accepts_good s ns a in good_whole g e r h

-- any byte behind the spelling of a legal library is a line too many
pub further_bytes : (ns : List Node) → Legal ns → (b : ℕ) (r : List ℕ) → length (spell ns ++ b ∷ r) ≤ document_bytes
    → First (DocumentGround (spell ns ++ b ∷ r)) (line_form (4 * length ns + 2))
further_bytes ns legal b r short =
    let s = spell ns ++ b ∷ r in
    let (says, rest) = legal_reads legal s (b ∷ r) refl in
    first_extra (reads_good s ns short legal says) refl
    (λ e. let none = (line_none s (4 * length ns + 1) (4 * length ns + 2) (omega arith)).0 e in let z : ◌≡◌ {A = ℕ} 0 1 = cc in omega arith)

-- ── One of the two ──
module _ (s : List ℕ) where
  abbrev Refused : Type 0
  Refused = (r : Refusal) × First (DocumentGround s) r

  -- go on where nothing was refused
  on : {A B : Type 0} → Refused ⊎ A → (A → Refused ⊎ B) → Refused ⊎ B
  on h f = ⊎_elim inl f h

  -- number 14 stands on the next line, or it does not
  repeats : {n k : ℕ} → Good s n k → (v : ℕ) (f : Field) → line_of v f ≡ suc k → v < n → Formed s v f → Refused ⊎ (¬ Duplicate s (line_of v f))
  repeats g v depth e l p = inr (unrepeated v depth (omega arith))
  repeats g v kind e l p = inr (unrepeated v kind (omega arith))
  repeats g v label e l p = go (dec_duplicate v g.count l p)
    where
      go : Dec (Duplicate s (line_of v label)) → Refused ⊎ (¬ Duplicate s (line_of v label))
      go (yes d) = inl (duplicate_attribute (line_of v label), first_duplicate g v e d)
      go (no h) = inr h
  repeats g v value e l p = inr (unrepeated v value (omega arith))

  -- the next line is bad, or one more line is good
  next_line : {n k : ℕ} → Good s n k → (v : ℕ) (f : Field) → line_of v f ≡ suc k → v < n → Refused ⊎ Good s n (line_of v f)
  next_line {n} g v f e l = formed (dec_formed s v f)
    where
      ruled : Formed s v f → Ruled s v f ⊎ Breaks s (line_of v f) → Refused ⊎ Good s n (line_of v f)
      ruled p (inl r) = on (repeats g v f e l p) (λ q. inr (good_on g v f e l p r q))
      ruled p (inr b) = inl (tree_rule (line_of v f), first_rule g v f e b)

      formed : Dec (Formed s v f) → Refused ⊎ Good s n (line_of v f)
      formed (yes p) = ruled p (ruled_or_breaks g v f e l p)
      formed (no h) = inl (line_form (line_of v f), first_form g v f e l h)

  -- the four lines of node v, the lines of the nodes from v on, what is behind them
  next_node : {n : ℕ} (v : ℕ) → v < n → Good s n (4 * v + 1) → Refused ⊎ Good s n (4 * suc v + 1)
  next_node v l g =
      on (next_line g v depth (omega arith) l) (λ g. on (next_line g v kind (omega arith) l) (λ g.
      on (next_line g v label (omega arith) l) (λ g. on (next_line g v value (omega arith) l) (λ g. inr (good_as g (4 * suc v + 1) (omega arith))))))

  nodes_from : {n : ℕ} (v m : ℕ) → v + m ≡ n → Good s n (4 * v + 1) → Refused ⊎ Good s n (4 * n + 1)
  nodes_from v zero e g = inr (good_as g _ (omega arith))
  nodes_from v (suc m) e g = on (next_node v (omega arith) g) (nodes_from (suc v) m (omega arith))

  all_lines : {n : ℕ} → Good s n (4 * n + 1) → Refused ⊎ ((ns : List Node) × Accepts s ns)
  all_lines {n} g = go (List-discrete ℕ_discrete (line s (4 * n + 2)) [])
    where
      go : Dec (line s (4 * n + 2) ≡ []) → Refused ⊎ ((ns : List Node) × Accepts s ns)
      go (yes e) = let (ns, _, a) = good_accepts g e in inr (ns, a)
      go (no h) = inl (line_form (4 * n + 2), first_extra g refl h)

  -- the first line
  first_line_lem : length s ≤ document_bytes → Dec ((n : ℕ) × CountIs s n) → Refused ⊎ ((n : ℕ) × Good s n 1)
  first_line_lem short (no h) = inl (line_form 1, first_uncounted s short (λ n c. h (n, c)))
  first_line_lem short (yes (n, c)) = go (ℕ_discrete n 0) (dec_le n document_nodes)
    where
      go : Dec (n ≡ 0) → Dec (n ≤ document_nodes) → Refused ⊎ ((n : ℕ) × Good s n 1)
      go (yes e) d = inl (node_count, first_number s short n c (inl e))
      go (no e) (no h) = inl (node_count, first_number s short n c (inr (omega arith)))
      go (no e) (yes h) = inr (n, good_start s n short c (omega arith) h)

  pub document_judged : ((r : Refusal) × First (DocumentGround s) r) ⊎ ((ns : List Node) × Accepts s ns)
  document_judged = go (dec_le (length s) document_bytes)
    where
      go : Dec (length s ≤ document_bytes) → Refused ⊎ ((ns : List Node) × Accepts s ns)
      go (no h) = inl (document_length, first_long s (omega arith))
      go (yes short) = on (first_line_lem short (dec_count s)) (λ (n, g). on (nodes_from 0 n (omega arith) (good_as g _ (omega arith))) all_lines)

  -- 01: a document is accepted if no number that judges it applies
  pub document_accepts : ((r : Refusal) → ¬ DocumentGround s r) ↔ ((ns : List Node) × Accepts s ns)
  document_accepts = (λ h. ⊎_elim (λ (r, f). absurd (h r f.applies)) (λ a. a) document_judged, λ (ns, a). accepted_unrefused s ns a)

  -- ── The check's contract leaves nothing open ──
  pub checked_one : (n p k n' p' k' : ℕ) → Checked s n p k → Checked s n' p' k' → (n ≡ n') × (p ≡ p') × (k ≡ k')
  checked_one n p k n' p' k' a b = go document_judged
    where
      go : Refused ⊎ ((ns : List Node) × Accepts s ns) → (n ≡ n') × (p ≡ p') × (k ≡ k')
      go (inl (r, f)) = let x = a.refused r f in let y = b.refused r f in (x.0 ∙ sym y.0, x.1 ∙ sym y.1, x.2 ∙ sym y.2)
      go (inr (ns, c)) = let x = a.accepted ns c in let y = b.accepted ns c in (x.0 ∙ sym y.0, x.1 ∙ sym y.1, x.2 ∙ sym y.2)
