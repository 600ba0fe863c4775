-- What is written: lines that stand behind what a writer held.
use Rattle.std.proofs.Common.{ℕ, zero, suc, ◌+◌, ◌-◌, ◌≡◌, ◌≤◌, ◌<◌, List, [], ◌∷◌, ◌++◌, length, take, drop, get_or, arith, sym, ap, ◌∙◌, subst, append_assoc, append-nil, add-one, drop-cons}
use Rattle.std.specs.Prelude.{Option, None, Some, IfSome, codes}
use Rattle.std.specs.Io.KnownBytes.{Appends}
use lib.ListN.{drop_of_length-le}
use native.Mathlib.Decide.{dec_lt}
use borrow.Author.Tests.{ne_eqb}
use Rattle.std.proofs.lemmas.List.{length-take, take_all}
use Rattle.limits.specs.Limits.{program_input}
use Rattle.streams.specs.Output.{Marked, NextMarked}
use Rattle.evaluation_spec.specs.Evaluation.{Outcome}
use Rattle.select.specs.Session.{Session}
use Rattle.select.specs.Printed.{line, record_lines, node_lines, Prints}

-- nothing is written
appends_none : (a : Option (List ℕ)) → Appends a a []
appends_none None = tt
appends_none (Some x) = sym (append-nil x)

-- what is written in two steps
pub appends_more : (a b c : Option (List ℕ)) (xs ys : List ℕ) → Appends a b xs → Appends b c ys → Appends a c (xs ++ ys)
appends_more None b c xs ys p q = tt
appends_more (Some x) None c xs ys p q = absurd p
appends_more (Some x) (Some y) None xs ys p q = absurd q
appends_more (Some x) (Some y) (Some z) xs ys p q = q ∙ ap (λ l. l ++ ys) p ∙ append_assoc x xs ys

-- ── The lines of the marks from a node on ──
-- a node that is not marked has no line
unmarked_first : (v m : ℕ) (marks : List ℕ) → ¬ (m ≡ 1) → node_lines v (m ∷ marks) ≡ node_lines (v + 1) marks
unfolding node_lines
unmarked_first v m marks f = rw (ne_eqb m 1 f)

unmarked_line : (marks : List ℕ) (n : ℕ) → n < length marks → ¬ Marked marks n → node_lines n (drop n marks) ≡ node_lines (n + 1) (drop (n + 1) marks)
unmarked_line marks n l f =
    let e : drop n marks ≡ get_or marks n 0 ∷ drop (n + 1) marks = rw add-one (drop-cons marks n 0 l) in
    ap (node_lines n) e ∙ unmarked_first n (get_or marks n 0) (drop (n + 1) marks) f

-- one that is marked has one
marked_line : (marks : List ℕ) (n : ℕ) → n < length marks → Marked marks n
    → node_lines n (drop n marks) ≡ line (codes "node=") n ++ node_lines (n + 1) (drop (n + 1) marks)
unfolding node_lines
marked_line marks n l m =
    let e : drop n marks ≡ 1 ∷ drop (n + 1) marks = rw add-one (drop-cons marks n 0 l) ∙ ap (λ (x : ℕ). x ∷ drop (n + 1) marks) m in
    ap (node_lines n) e

-- behind the last node there is none
no_lines : (marks : List ℕ) (n : ℕ) → length marks ≤ n → node_lines n (drop n marks) ≡ []
unfolding node_lines
no_lines marks n l = ap (node_lines n) (drop_of_length-le marks l)

-- the nodes up to the next marked one have none
skipped_lines : (marks : List ℕ) (k n r : ℕ) → n + k ≡ r → r ≤ length marks → ((v : ℕ) → n ≤ v → v < r → ¬ Marked marks v)
    → node_lines n (drop n marks) ≡ node_lines r (drop r marks)
skipped_lines marks zero n r e l f = let same : n ≡ r = omega arith in ap (λ (v : ℕ). node_lines v (drop v marks)) same
skipped_lines marks (suc k) n r e l f =
    unmarked_line marks n (omega arith) (f n (omega arith) (omega arith)) ∙ skipped_lines marks k (n + 1) r (omega arith) l (λ v a b. f v (omega arith) b)

next_lines : {marks : List ℕ} {n r : ℕ} → NextMarked marks n r → node_lines n (drop n marks) ≡ node_lines r (drop r marks)
next_lines {marks} {n} {r} h = go (dec_lt r n)
  where
    go : Dec (r < n) → node_lines n (drop n marks) ≡ node_lines r (drop r marks)
    go (yes l) = behind (dec_lt r (length marks))
      where
        behind : Dec (r < length marks) → node_lines n (drop n marks) ≡ node_lines r (drop r marks)
        behind (yes k) = let b = (h.marked k).0 in absurd (omega arith)
        behind (no e) = no_lines marks n (omega arith) ∙ sym (no_lines marks r (omega arith))
    go (no f) = skipped_lines marks (r - n) n r (omega arith) h.inside h.first

-- ── The loop: the lines of the marked nodes below a node are written ──
pub record WrittenBelow (old new : Option (List ℕ)) (marks : List ℕ) (node : ℕ) : Type 0 where
  pub lines : List ℕ
  pub written : Appends old new lines
  pub rest : node_lines 0 marks ≡ lines ++ node_lines node (drop node marks)
  pub marked : node < length marks → Marked marks node

pub written_none : (old : Option (List ℕ)) {marks : List ℕ} {r : ℕ} → NextMarked marks 0 r → WrittenBelow old old marks r
written_none old {marks} {r} h = record { lines = []; written = appends_none old; rest = next_lines h; marked = λ l. (h.marked l).1 }

pub written_more : (old mid new : Option (List ℕ)) {marks : List ℕ} {n r : ℕ} → WrittenBelow old mid marks n → n < length marks
    → Appends mid new (line (codes "node=") n) → NextMarked marks (n + 1) r → WrittenBelow old new marks r
written_more old mid new {marks} {n} {r} h l w next = record {
  lines = h.lines ++ line (codes "node=") n;
  written = appends_more old mid new h.lines (line (codes "node=") n) h.written w;
  rest = h.rest ∙ ap (λ (x : List ℕ). h.lines ++ x) (marked_line marks n l (h.marked l) ∙ ap (λ (x : List ℕ). line (codes "node=") n ++ x) (next_lines next)) ∙ sym (append_assoc h.lines (line (codes "node=") n) (node_lines r (drop r marks)));
  marked = λ k. (next.marked k).1;
}

pub written_all : {old new : Option (List ℕ)} {marks : List ℕ} {n : ℕ} → WrittenBelow old new marks n → length marks ≤ n → Appends old new (node_lines 0 marks)
written_all {old} {new} {marks} {n} h l =
    let e : node_lines 0 marks ≡ h.lines = h.rest ∙ ap (λ (x : List ℕ). h.lines ++ x) (no_lines marks n l) ∙ append-nil h.lines in
    subst (λ (x : List ℕ). Appends old new x) (sym e) h.written

-- ── A session of the first bytes is one of the input: one byte more than an input may have tells that it is longer ──
session_of_first : {input : List ℕ} {o : Outcome} {marks : List ℕ} → Session (take (program_input + 1) input) o marks → Session input o marks
session_of_first {input} {o} {marks} s = go (dec_lt program_input (length input))
  where
    go : Dec (program_input < length input) → Session input o marks
    go (yes l) = (s.0, record { longer = λ _. s.1.longer (rw length-take (omega arith)); evaluated = λ k rule document p. absurd (omega arith) })
    go (no f) = subst (λ (x : List ℕ). Session x o marks) (take_all (program_input + 1) input (omega arith)) s

-- of a reader whose bytes are known, of which n came into a buffer for one byte more than an input may have
pub session_printed : (known old mid new : Option (List ℕ)) (n : ℕ) (buffer : List ℕ) {o : Outcome} {marks : List ℕ} → length buffer ≡ program_input + 1
    → IfSome known (λ input. take n buffer ≡ take (length buffer) input) → Session (take n buffer) o marks
    → Appends old mid (record_lines o) → Appends mid new (node_lines 0 marks) → IfSome known (λ input. Prints input old new)
session_printed None old mid new n buffer e b s p q = tt
session_printed (Some input) old mid new n buffer {o} {marks} e b s p q =
    let first : Session (take (program_input + 1) input) o marks = subst (λ (k : ℕ). Session (take k input) o marks) e (subst (λ (x : List ℕ). Session x o marks) b s) in
    (o, marks, session_of_first first, appends_more old mid new (record_lines o) (node_lines 0 marks) p q)
