-- From the tree to the marks: what each step of an accepted call needs from those before it, and what they give together.
use Prim.Native.Nat.{ℕ, ◌+◌, ◌*◌, ◌≤◌, ◌<◌}
use mathlib.Core.Path.{◌≡◌, refl, sym, ◌∙◌, subst}
use mathlib.Core.Logic.{◌⊎◌, inl, inr, ◌↔◌}
use mathlib.Core.Bool.{Bool, true, false, false≢true}
use mathlib.Core.List.{List}
use lib.ListN.{length, get_or, take, drop, replicate, length-drop}
use lib.Seq.{get_or-drop, ext_get_or}
use native.Mathlib.Omega.{arith}
use Rattle.lists.specs.Lists.{Number}
use Rattle.lists.proofs.Lists.{number_iff}
use Rattle.limits.specs.Limits.{document_nodes, scratch_words}
use Rattle.xpath.specs.Syntax.{Test, XPath}
use Rattle.document_spec.specs.Library.{Node}
use Rattle.document_spec.specs.Binary.{tree_of}
use Rattle.document_spec.proofs.Accepted.{accepts_one}
use Rattle.document_spec.proofs.Binary.{tree_formed}
use Rattle.document_spec.specs.Verdict as Document
use Rattle.rule_spec.specs.Verdict as Rule
use Rattle.evaluation_spec.specs.Buffers.{Accepted}
use Rattle.evaluation_spec.specs.Evaluation.{Selected}
use Rattle.evaluation_spec.specs.Values.{ValuesSelected}
use Rattle.layout.specs.Table.{TESTS, Room}
use Rattle.layout.specs.Words.{Frame, Kept}
use Rattle.layout.proofs.Frames.{frame_then, frame_wider}
use Rattle.table.specs.Links.{Linked, Built}
use Rattle.table.specs.Tabled.{Tabled}
use Rattle.ranks.specs.Ranks.{Written}
use Rattle.amounts.specs.Weighed.{Weighed}
use Rattle.bits.specs.Sets.{one}
use Rattle.test_bits.specs.Columns.{held}
use Rattle.marking.specs.Marking.{Told, Marked}
use Rattle.test_numbers.specs.Tests.{tests_of}
use Rattle.test_numbers.proofs.Counts.{tests_some}
use Rattle.test_numbers.proofs.Counted.{counted_rule}
use Rattle.driver.proofs.Frames.{scratch_room}
use Rattle.evaluators.specs.declared.Evaluator.{Evaluator}
use Rattle.evaluators.specs.declared.Evaluator.TheVariants.{Plain, Snippets}
use Rattle.driver.specs.Tasks.{Scene, Tells, Total, Evaluates, EvaluatesBy}
use Rattle.evaluation.specs.Outcomes.{selecting, count_of}
use Rattle.evaluation.specs.Steps.{Finished}

-- ── Laws of what the steps keep and count ──
kept_drop : {m : ℕ} {t t' : List ℕ} → Kept m t t' → drop m t' ≡ drop m t
kept_drop {m} {t} {t'} k =
    let i = length-drop m t' in let j = length-drop m t in let e = k.long in
    ext_get_or 0 (drop m t') (drop m t) (omega arith) (λ v l. get_or-drop m t' v 0 ∙ k.behind (m + v) (omega arith) ∙ sym (get_or-drop m t v 0))

-- a mark by its bit is a mark by what the bit tells
mark_told : {A : Type 0} (b : Bool) (x : ℕ) → (b ≡ true) ↔ A → x ≡ one b → (A × (x ≡ 1)) ⊎ ((¬ A) × (x ≡ 0))
mark_told true x f e = inl (f.0 refl, e)
mark_told false x f e = inr ((λ a. false≢true (f.1 a)), e)

-- the scratch's own words are those of the table, and more
pub table_room : (n : ℕ) (t : List ℕ) → 0 < n → scratch_words n ≤ length t → Room n t
table_room n t some enough = let h = scratch_room n some in omega arith

-- ── The document ──
-- one call has one library
pub size_one : {document : List ℕ} {ns ms : List Node} {n : ℕ} → Document.Accepts document ns → length ns ≡ n → Document.Accepts document ms → length ms ≡ n
size_one {document} {ns} {ms} {n} a size b = subst (λ l. length l ≡ n) (accepts_one document ns ms a b) size

module _ {document : List ℕ} {ns : List Node} {n : ℕ} (library : Document.Accepts document ns) (size : length ns ≡ n) where
  -- how much scratch is needed can be told
  pub needed : (0 < n) × (n ≤ document_nodes)
  needed = let h = library.legal.some in let l = library.legal.few in (omega arith, omega arith)

  module _ (t : List ℕ) (enough : scratch_words n ≤ length t) {t₁ : List ℕ} (build : (ms : List Node) → Document.Accepts document ms → Built document ms t t₁) where
    built : Built document ns t t₁
    built = build ns library

    pub tabled : Tabled document n t₁
    tabled = let h = table_room n t needed.0 enough in let e = built.kept.long in record { nodes = ns; accepts = library; linked = built.linked; size = size; room = omega arith }

    module _ {t₂ : List ℕ} (rank : (ms : List Node) → Document.Accepts document ms → Linked document ms t₁ → Written document ms t₁ t₂ × Weighed ms t₂) where
      ranked : Written document ns t₁ t₂
      ranked = (rank ns library built.linked).0

      behind_table : Kept (scratch_words n) t t₂
      behind_table = let h = scratch_room n needed.0 in frame_wider (omega arith) (omega arith) (frame_then built.kept ranked.kept)

      pub readied : Scene document ns n t₂ × Kept (scratch_words n) t t₂
      readied = (
        subst (λ m. Scene document ns m t₂) size
            (let e = behind_table.long in
            record { library = library; size = refl; linked = ranked.linked; annotated = ranked.annotated; ranked = ranked.ranked; weighed = (rank ns library built.linked).1; room = rw size (omega arith) }),
        behind_table,
      )

-- ── The marks ──
module _ (n : ℕ) {t t₁ t₂ : List ℕ} (kept : Kept (scratch_words n) t t₁) (frame : Frame (TESTS * n) (scratch_words n) t₁ t₂) where
  settled_kept : Kept (scratch_words n) t t₂
  settled_kept = frame_then kept (frame_wider (omega arith) (omega arith) frame)

  settled_room : scratch_words n ≤ length t → scratch_words n ≤ length t₂
  settled_room h = let e = settled_kept.long in omega arith

-- an accepted call has lent enough
module _ (t marks : List ℕ) {document rule : List ℕ} {ns : List Node} {T : Test} {n : ℕ} (a : Accepted document rule (length t) (length marks) ns T) (size : length ns ≡ n) where
  pub enough : scratch_words n ≤ length t
  enough = subst (λ m. scratch_words m ≤ length t) size a.room

  pub finish_asked : {t₁ t₂ : List ℕ} → Kept (scratch_words n) t t₁ → Frame (TESTS * n) (scratch_words n) t₁ t₂
      → (0 < n) × (n ≤ document_nodes) × (scratch_words n ≤ length t₂) × (n ≤ length marks)
  finish_asked kept frame = let (some, few) = needed a.library size in let h = a.space in (some, few, settled_room n kept frame enough, omega arith)

pub finished : {n k m : ℕ} {t marks t' marks' : List ℕ} → Marked n t marks marks' k → m ≡ scratch_words n → (take m t' ≡ replicate m 0) × (drop m t' ≡ drop m t) → Finished n t marks k t' marks'
finished {n} {t = t} {t' = t'} marked words (cleared, later) =
    record { marked = marked; cleared = subst (λ l. take l t' ≡ replicate l 0) words cleared; later = subst (λ l. drop l t' ≡ drop l t) words later }

-- bit 0 tells the nodes that are B
module _ (ns : List Node) {n : ℕ} (size : length ns ≡ n) {B : ℕ → Type 0} (t : List ℕ) (tells : (v : ℕ) → v < n → (held t n 0 v ≡ true) ↔ B v) where
  abbrev Picked : ℕ → Type 0
  Picked v = (v < length ns) × B v

  told : (v : ℕ) → Told t n v ↔ Picked v
  told v = ((λ h. let l = h.0 in (omega arith, (tells v l).0 h.1)), λ h. let l = h.0 in let k : v < n = omega arith in (k, (tells v k).1 h.1))

  module _ {marks marks' : List ℕ} {k : ℕ} (marked : Marked n t marks marks' k) where
    picked_number : Number Picked k
    picked_number = number_iff told marked.count

    picked_marks : (v : ℕ) → v < length ns → (Picked v × (get_or marks' v 0 ≡ 1)) ⊎ ((¬ Picked v) × (get_or marks' v 0 ≡ 0))
    picked_marks v l = let r : v < n = omega arith in mark_told (held t n 0 v) (get_or marks' v 0) (λ e. (told v).0 (r, e), λ h. ((told v).1 h).1) (marked.marked v r)

    later_marks_lem : drop (length ns) marks' ≡ drop (length ns) marks
    later_marks_lem = rw size (kept_drop marked.kept)

-- the scratch's own words are 0, and later ones as before
module _ (ns : List Node) {n : ℕ} (size : length ns ≡ n) {t t₁ marks marks' t₂ : List ℕ} {k : ℕ} (kept : Kept (scratch_words n) t t₁) (done : Finished n t₁ marks k t₂ marks') where
  words_cleared : take (scratch_words (length ns)) t₂ ≡ replicate (scratch_words (length ns)) 0
  words_cleared = rw size done.cleared

  later_words_lem : drop (scratch_words (length ns)) t₂ ≡ drop (scratch_words (length ns)) t
  later_words_lem = rw size (done.later ∙ kept_drop kept)

-- ── The whole call ──
module _ {document : List ℕ} {ns : List Node} {n : ℕ} (size : length ns ≡ n) {t t₁ t₂ t₃ marks marks' : List ℕ} {k c : ℕ} (ready : Scene document ns n t₁ × Kept (scratch_words n) t t₁) (done : Finished n t₂ marks k t₃ marks') where
  -- a rule by either evaluator: the snippets of all tests are those of the rule, and test 0 is the rule
  pub selected : {rule : List ℕ} {T : Test} {e : Evaluator} → Rule.Accepts rule T → Evaluates e ns n T t₁ t₂ c → Selected (count_of e) ns T t marks (selecting k c) t₃ marks'
  selected {rule} {T} {e} test settled = record {
    number = refl;
    place = refl;
    selected = picked_number ns size t₂ tells done.marked;
    snippets = total_count e c settled.total;
    marked = picked_marks ns size t₂ tells done.marked;
    later_marks = later_marks_lem ns size t₂ tells done.marked;
    as_many_marks = done.marked.kept.long;
    cleared = words_cleared ns size (settled_kept n ready.1 settled.frame) done;
    later_words = later_words_lem ns size (settled_kept n ready.1 settled.frame) done;
  }
    where
      total_count : (f : Evaluator) (r : ℕ) → Total f (tree_of ns) (tests_of T) r → count_of f (tree_of ns) T r
      total_count Plain r h = h
      total_count Snippets r h = counted_rule test (tree_of ns) (tree_formed ready.0.library.legal) r h

      tells : Tells ns n 0 T t₂
      tells = let (l, e) = tests_some T in subst (λ U. Tells ns n 0 U t₂) e (settled.tells 0 l)

  -- an equality by a list of values
  pub values_selected : {values : List ℕ} {P R : XPath} → EvaluatesBy values ns n P R t₁ t₂ c → ValuesSelected values ns P R t marks (selecting k c) t₃ marks'
  values_selected settled = record {
    number = refl;
    place = refl;
    selected = picked_number ns size t₂ settled.tells done.marked;
    snippets = settled.count;
    marked = picked_marks ns size t₂ settled.tells done.marked;
    later_marks = later_marks_lem ns size t₂ settled.tells done.marked;
    as_many_marks = done.marked.kept.long;
    cleared = words_cleared ns size (settled_kept n ready.1 settled.frame) done;
    later_words = later_words_lem ns size (settled_kept n ready.1 settled.frame) done;
  }
