-- The middle of the scratch, lent to be evaluated in: what is asked of it, and what is left there. The end is told by the function that counts the words.
use Prim.Native.Nat.{ℕ, ◌+◌, ◌-◌, ◌*◌, ◌≤◌, ◌<◌}
use native.Mathlib.Nat.{mul_comm, add-mul, mul-le-mul_right}
use native.Mathlib.Omega.{arith}
use Rattle.std.specs.Prelude.{Some}
use mathlib.Core.Path.{◌≡◌, sym, subst}
use mathlib.Core.Logic.{◌↔◌}
use mathlib.Core.List.{List, ◌++◌}
use lib.ListN.{length, take, drop}
use lib.Seq.{slice}
use Rattle.lists.specs.Text.{binary_digits}
use Rattle.limits.specs.Limits.{scratch_words}
use Rattle.xpath.specs.Syntax.{Op, Test, compare, at_least, XPath, empty}
use Rattle.xpath.specs.Tree.{Tree}
use Rattle.xpath.specs.Meaning.{Holds}
use Rattle.document_spec.specs.Library.{Node}
use Rattle.document_spec.specs.Binary.{tree_of}
use Rattle.document_spec.proofs.Binary.{tree_formed}
use Rattle.layout.specs.Part.{Space}
use Rattle.layout.specs.Table.{COLUMNS}
use Rattle.layout.specs.Words.{word, Within}
use Rattle.layout.proofs.Frames.{frame_then, within_none, within_then, within_more}
use Rattle.rule_parts.specs.Kinds.{operator}
use Rattle.rule_parts.specs.declared.kinds.Operator.{Operator}
use Rattle.test_numbers.specs.Tests.{tests_of, test}
use Rattle.test_numbers.specs.Numbering.{NumbersTwo}
use Rattle.compiler.specs.Machines.{Machined}
use Rattle.machine.specs.declared.Machine.{Machine}
use Rattle.machine.specs.Walks.{Several}
use Rattle.machine.specs.Meaning.{Drawn}
use Rattle.machine.proofs.Comparing.{several_holds}
use Rattle.plain.specs.Plain.{Answered}
use Rattle.retracing.specs.Backward.{LinkedBothWays}
use Rattle.retracing.proofs.Linked.{linked_drawn}
use Rattle.evaluators.specs.Evaluators.{PartRoom, Posed, PosedTo, StagedTo, Adds, Compared, Hit}
use Rattle.evaluators.specs.declared.Evaluator.{Evaluator}
use Rattle.evaluators.proofs.Staging.{drawn_space, answered_as}
use Rattle.staging.specs.Signs.{ranks_of}
use Rattle.staging.specs.Drawing.{Copied, RanksCopied, Stayed, Judged}
use Rattle.driver.specs.Tasks.{Scene, Paths, Constant, PathDrawn, PathsDrawn, Apart, Answers, Compares}
use Rattle.driver.proofs.Frames.{scratch_room, scene_same, within_apart}
use Rattle.driver.proofs.Parts.{part, part_long, back_apart}
use Rattle.driver.proofs.Answers.{some_nodes, drawn_within, drawn_paths, answer_told}
use Rattle.driver.proofs.Drawn.{drawn_but_ranks, drawn_lent, ranks_lent, judges}
use Rattle.driver.proofs.Ranks.{ranks_tell}
use Rattle.driver.proofs.Asked.{is_machine, has_brackets, both_settled}

-- the words of a scratch of n nodes from behind the table up to b
abbrev pub middle : ℕ → ℕ → List ℕ → List ℕ
middle n b t = take (b - COLUMNS * n) (drop (COLUMNS * n) t)

-- the scratch when they come back as p
abbrev pub returned : ℕ → ℕ → List ℕ → List ℕ → List ℕ
returned n b t p = take (COLUMNS * n) t ++ (p ++ drop (b - COLUMNS * n) (drop (COLUMNS * n) t))

module _ {s : List ℕ} {ns : List Node} {n : ℕ} {t : List ℕ} (scene : Scene s ns n t) where
  pub few_nodes : n ≤ 4096
  few_nodes = subst (λ m. m ≤ 4096) scene.size scene.library.legal.few

  -- the table has room for what is drawn
  pub draw_room : (t' : List ℕ) → length t' ≡ length t → 24 * n ≤ length t'
  draw_room t' e = let r = scratch_room n (some_nodes scene) in let h = scene.room in omega arith

  -- what is drawn leaves the tree
  pub drawn_scene : {c d : ℕ} {t' : List ℕ} → COLUMNS ≤ c → Within n c d t t' → Scene s ns n t'
  drawn_scene {c} late w = scene_same scene w.long (λ i l. let k : COLUMNS * n ≤ c * n = mul-le-mul_right n late in w.front i (omega arith))

  -- ── Of any test ──
  module _ {t' : List ℕ} {b : ℕ} (apart : Apart n t t') (ends : b ≡ scratch_words n) where
    pub lent_room : scratch_words n ≤ length t'
    lent_room = let r = scene.room in let e = apart.long in omega arith

    -- the part is what an evaluator gets
    pub lent_is : (A : List ℕ → Type 0) → A (part n t' (some_nodes scene) lent_room) → A (middle n b t')
    lent_is A = subst (λ c. A (middle n c t')) (sym ends)

    -- it is as long as an evaluator asks
    pub lent_long : PartRoom n (middle n b t')
    unfolding scratch_words
    lent_long = lent_is (PartRoom n)
        (let l = part_long n t' (some_nodes scene) lent_room in let c = mul_comm n (64 * binary_digits n + 128) in let d = add-mul (64 * binary_digits n) 128 n in let e = add-mul 112 (64 * binary_digits n) n in
        omega arith)

    -- what comes back differs there alone
    pub lent_apart : {A : ℕ → Type 0} {p : List ℕ} → Answered n A (middle n b t') p → Apart n t (returned n b t' p)
    lent_apart {A} {p} =
        subst (λ c. Answered n A (middle n c t') p → Apart n t (returned n c t' p)) (sym ends)
        (λ a. frame_then apart (back_apart n t' (some_nodes scene) lent_room p a.long))

    -- and has the answers in its first column
    pub lent_told : {A : ℕ → Type 0} {p : List ℕ} → Answered n A (middle n b t') p → (v : ℕ) → v < n → (word (returned n b t' p) n COLUMNS v ≡ 1) ↔ A v
    lent_told {A} {p} =
        subst (λ c. Answered n A (middle n c t') p → (v : ℕ) → v < n → (word (returned n c t' p) n COLUMNS v ≡ 1) ↔ A v) (sym ends) (answer_told t' (some_nodes scene) lent_room)

    -- those of the test that is due
    pub lent_answers : {U W : Test} {p : List ℕ} → W ≡ U → Answered n (Holds (tree_of ns) U) (middle n b t') p → Answers ns n W t (returned n b t' p)
    lent_answers {p = p} is a = subst (λ X. Answers ns n X t (returned n b t' p)) (sym is) (record { apart = lent_apart a; answers = lent_told a })

-- ── Two paths ──
pub paths_drawn : {s rule : List ℕ} {ns : List Node} {T : Test} {n at k : ℕ} {t : List ℕ} {behind : ℕ} {o : Operator} (h : Paths s rule ns T n at k t behind o)
    {m : Machine} {numbers t₁ t₂ t₃ : List ℕ} {c : ℕ} → Machined rule (at + 1) (Some behind) m → NumbersTwo rule (at + 1) (Some behind) (k + 1) numbers
    → Copied n t t₁ → Stayed n m.brackets numbers t₁ t₂ → ((q : Op) → o ≡ operator q → c ≡ ranks_of q) → RanksCopied n c t₂ t₃
    → PathsDrawn ns n h.sign h.first h.second m t t₃
paths_drawn {n = n} h {t₂ = t₂} {t₃} machined numbered copied stayed chosen ranks =
    let scene = h.task.scene in let machine = is_machine h machined in let within = drawn_within scene copied stayed in let later = drawn_scene scene (omega arith) within in
    record {
      within = within_then within (within_more (omega arith) (omega arith) ranks.within);
      posed = record {
        formed = tree_formed scene.library.legal;
        machine = machine;
        drawn = drawn_paths scene (drop (COLUMNS * n) t₃) h.first h.second (both_settled h) machine (has_brackets h numbered) copied stayed (drawn_but_ranks t₂ t₃ ranks.within);
        ranks = ranks_tell (few_nodes scene) scene.size later.ranked later.weighed h.sign (subst (λ d. RanksCopied n d t₂ t₃) (chosen h.sign h.told) ranks);
      };
    }

module _ {s : List ℕ} {ns : List Node} {n : ℕ} {o : Op} {P R : XPath} {m : Machine} {t t₁ : List ℕ} {b : ℕ} (scene : Scene s ns n t) (paths : PathsDrawn ns n o P R m t t₁) (ends : b ≡ scratch_words n) where
  pub paths_apart : Apart n t t₁
  paths_apart = within_apart (some_nodes scene) (omega arith) (omega arith) paths.within

  pub paths_posed : Posed o P R (tree_of ns) m n (middle n b t₁)
  paths_posed =
      let posed = paths.posed in let some = some_nodes scene in let room = lent_room scene paths_apart ends in
      lent_is scene paths_apart ends (λ p. Posed o P R (tree_of ns) m n p)
      (record { formed = posed.formed; machine = posed.machine; drawn = drawn_lent some room (within_none t₁) posed.drawn; ranks = ranks_lent t₁ some room o (tree_of ns) posed.ranks })

  pub paths_long : PartRoom n (middle n b t₁)
  paths_long = lent_long scene paths_apart ends

  -- what the evaluator tells of any comparison on any tree is told of this one
  pub paths_compared : {e : Evaluator} {q : Operator} {U : Test} {p : List ℕ} {r : ℕ} → q ≡ operator o → U ≡ compare o P R
      → ((A B : XPath) (u : Tree) (f : Op) → Posed f A B u m n (middle n b t₁) → q ≡ operator f → Compared e u f A B n (middle n b t₁) p r)
      → Compares e ns n U t (returned n b t₁ p) r
  paths_compared {e} {r = r} told is f =
      let x = f P R (tree_of ns) o paths_posed told in
      record { answers = lent_answers scene paths_apart ends is x.answered; adds = subst (λ U. Adds e (tree_of ns) U r) (sym is) x.adds }

-- ── One path ──
pub path_apart : {s : List ℕ} {ns : List Node} {P : XPath} {n : ℕ} {m : Machine} {t t' : List ℕ} → Scene s ns n t → PathDrawn ns n P m t t' → Apart n t t'
path_apart scene d = within_apart (some_nodes scene) (omega arith) (omega arith) d.within

-- and a constant
module _ {s rule : List ℕ} {ns : List Node} {T : Test} {n at k : ℕ} {t : List ℕ} {start stop : ℕ} {o : Operator} (h : Constant s rule ns T n at k t start stop o)
    {m : Machine} {t₁ t₂ : List ℕ} {b : ℕ}
    (path : PathDrawn ns n h.first m t t₁) (judged : Judged ns n h.sign (slice start stop rule) t₁ t₂) (ends : b ≡ scratch_words n) where
  constant_apart : Apart n t t₂
  constant_apart = frame_then (path_apart h.task.scene path) (within_apart (some_nodes h.task.scene) (omega arith) (omega arith) judged.within)

  constant_posed : PosedTo h.sign h.first (slice start stop rule) (tree_of ns) m n (middle n b t₂)
  constant_posed = lent_is h.task.scene constant_apart ends (λ p. PosedTo h.sign h.first (slice start stop rule) (tree_of ns) m n p) (record {
    formed = tree_formed h.task.scene.library.legal;
    machine = path.machine;
    drawn = drawn_lent (some_nodes h.task.scene) (lent_room h.task.scene constant_apart ends) judged.within path.drawn;
    hits = judges (some_nodes h.task.scene) (lent_room h.task.scene constant_apart ends) judged;
  })

  pub constant_asked : StagedTo m n (middle n b t₂) × PartRoom n (middle n b t₂)
  constant_asked = ((h.first, tree_of ns, h.sign, slice start stop rule, constant_posed), lent_long h.task.scene constant_apart ends)

  pub constant_compared : {p : List ℕ} → Hit m n (middle n b t₂) p → Answers ns n (test (tests_of T) k) t (returned n b t₂ p)
  constant_compared f = lent_answers h.task.scene constant_apart ends h.is (f h.first (tree_of ns) h.sign (slice start stop rule) constant_posed)

-- and a number
module _ {s : List ℕ} {ns : List Node} {P : XPath} {n : ℕ} {m : Machine} {t t₁ : List ℕ} {b : ℕ} (scene : Scene s ns n t) (path : PathDrawn ns n P m t t₁) (ends : b ≡ scratch_words n) where
  count_drawn : Drawn P empty (tree_of ns) n (middle n b t₁)
  count_drawn = lent_is scene (path_apart scene path) ends (Drawn P empty (tree_of ns) n)
      (drawn_lent (some_nodes scene) (lent_room scene (path_apart scene path) ends) (within_none t₁) path.drawn)

  pub count_asked : Space n (middle n b t₁) × LinkedBothWays n (middle n b t₁)
  count_asked = (drawn_space (tree_formed scene.library.legal) count_drawn (lent_long scene (path_apart scene path) ends), linked_drawn count_drawn)

  pub count_answers : {T : Test} {c : ℕ} {p : List ℕ} → T ≡ at_least c P → Answered n (Several m n (middle n b t₁) c) (middle n b t₁) p → Answers ns n T t (returned n b t₁ p)
  count_answers {c = c} is a =
      lent_answers scene (path_apart scene path) ends is (answered_as (several_holds (tree_formed scene.library.legal) path.machine count_drawn c) a)
