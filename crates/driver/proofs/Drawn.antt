-- What is drawn for a comparison or a count stands in its part.
use Prim.Native.Nat.{ℕ, ◌+◌, ◌*◌, ◌≤◌, ◌<◌}
use native.Mathlib.Nat.{mul-le-mul_right}
use native.Mathlib.Decide.{dec_lt}
use native.Mathlib.Omega.{arith}
use mathlib.Core.Path.{◌≡◌, sym, ap, ◌∙◌, subst}
use mathlib.Core.Logic.{◌≢◌, ◌↔◌}
use mathlib.Core.Bool.{Bool, true, false}
use mathlib.Core.List.{List}
use lib.ListN.{length, get_or, drop}
use Rattle.lists.specs.Blanks.{trim}
use Rattle.limits.specs.Limits.{scratch_words}
use Rattle.bits.specs.Sets.{bit, and}
use Rattle.xpath.specs.Syntax.{Op, Test, XPath, stay}
use Rattle.xpath.specs.Meaning.{Rel, Holds}
use Rattle.xpath.specs.Tree.{Tree, Child}
use Rattle.document_spec.specs.Library.{Node}
use Rattle.document_spec.specs.Binary.{compared_of, tree_of}
use Rattle.layout.specs.Part.{STAYS, HIT}
use Rattle.layout.specs.Table.{COLUMNS, LEFT, PARENT, RANK, column}
use Rattle.layout.proofs.Frames.{before_within}
use Rattle.layout.specs.Words.{word, Within}
use Rattle.table.specs.Links.{Points, IsParent}
use Rattle.test_bits.specs.Columns.{held}
use Rattle.machine.specs.Meaning.{IsStep, Drawn, RanksTell, Judges}
use Rattle.machine.proofs.Kept.{drawn_same, ranks_kept}
use Rattle.staging.specs.Drawing.{Copied, Stayed, Judged}
use Rattle.driver.specs.Tasks.{Scene}
use Rattle.driver.proofs.Parts.{behind_word, part, part_word}

column_low : (side : Bool) → (LEFT ≤ column side) × (column side ≤ PARENT)
column_low true = (omega arith, omega arith)
column_low false = (omega arith, omega arith)

-- all columns but one
aside_within : {n c : ℕ} {t t' : List ℕ} → Within n c (c + 1) t t' → (a v : ℕ) → a ≢ c → v < n → word t' n a v ≡ word t n a v
aside_within {n} {c} {t} {t'} w a v d l = go (dec_lt a c)
  where
    go : Dec (a < c) → word t' n a v ≡ word t n a v
    go (yes h) = before_within w a v h l
    go (no h) = let k : (c + 1) * n ≤ a * n = mul-le-mul_right n (omega arith) in w.behind (a * n + v) (omega arith)

-- the links copied, and then the bracketed tests: p has what stands behind the table then, but for the ranks
module _ {s : List ℕ} {ns : List Node} {n : ℕ} {t t₁ t₂ : List ℕ} {b : ℕ} {numbers : List ℕ} (p : List ℕ)
    (scene : Scene s ns n t) (copied : Copied n t t₁) (stayed : Stayed n b numbers t₁ t₂)
    (same : (c v : ℕ) → c ≤ STAYS → c ≢ RANK → v < n → word p n c v ≡ word t₂ n (COLUMNS + c) v) where
  link : (c v : ℕ) → LEFT ≤ c → c ≤ PARENT → v < n → word t n c v ≡ word p n c v
  link c v h k l = sym (same c v (omega arith) (λ e. absurd (omega arith)) l ∙ before_within stayed.within (COLUMNS + c) v (omega arith) l ∙ copied.copied c v h k l)

  -- the words of a node are told at the library's length
  told : (A : ℕ → Type 0) (c v : ℕ) → LEFT ≤ c → c ≤ PARENT → v < n → A (word t (length ns) c v) → A (word p n c v)
  told A c v h k l x = subst A (link c v h k l) (subst (λ m. A (word t m c v)) scene.size x)

  pub drawn : (P R : XPath)
      → ((v j : ℕ) → v < n → j < 16 → (and (bit b j) (held t₁ n (get_or numbers j 0) v) ≡ true) ↔ ((T : Test) × IsStep P R j (stay T) × Holds (tree_of ns) T v))
      → Drawn P R (tree_of ns) n p
  drawn P R tests = record {
    size = scene.size;
    few = subst (λ m. m ≤ 4096) scene.size scene.library.legal.few;
    children = λ side v l. told (λ x. Points (Child (tree_of ns) side v) x) (column side) v (column_low side).0 (column_low side).1 l (scene.linked.children side v (inside v l));
    parents = λ v l. told (λ x. IsParent ns v x) PARENT v (omega arith) (omega arith) l (scene.linked.parents v (inside v l));
    tests = λ v j l h. subst (λ x. (x ≡ true) ↔ ((T : Test) × IsStep P R j (stay T) × Holds (tree_of ns) T v))
        (sym (stays v j l h)) (tests v j l h);
  }
    where
      inside : (v : ℕ) → v < n → v < length ns
      inside v l = subst (λ m. v < m) (sym scene.size) l

      stays : (v j : ℕ) → v < n → j < 16 → bit (word p n STAYS v) j ≡ and (bit b j) (held t₁ n (get_or numbers j 0) v)
      stays v j l h = ap (λ w. bit w j) (same STAYS v (omega arith) (λ e. absurd (omega arith)) l) ∙ stayed.done v j l h

-- the ranks are drawn last
pub drawn_but_ranks : {n : ℕ} (t t' : List ℕ) → Within n (COLUMNS + RANK) (COLUMNS + RANK + 1) t t'
    → (c v : ℕ) → c ≤ STAYS → c ≢ RANK → v < n → word (drop (COLUMNS * n) t') n c v ≡ word t n (COLUMNS + c) v
drawn_but_ranks {n} t t' within c v h d l = behind_word n t' c v ∙ aside_within within (COLUMNS + c) v (λ e. d (omega arith)) l

-- ── In the part ──
module _ {n : ℕ} {t t' : List ℕ} (pos : 0 < n) (room : scratch_words n ≤ length t') where
  -- what is drawn behind the table stands there, also where the hits of a constant are drawn
  pub drawn_lent : {P R : XPath} {u : Tree} → Within n (COLUMNS + HIT) (COLUMNS + HIT + 1) t t' → Drawn P R u n (drop (COLUMNS * n) t) → Drawn P R u n (part n t' pos room)
  drawn_lent within = drawn_same (λ c v h l. part_word n t' pos room c v (omega arith) l ∙ before_within within (COLUMNS + c) v (omega arith) l ∙ sym (behind_word n t c v))

-- the ranks stand there too
pub ranks_lent : {n : ℕ} (t : List ℕ) (pos : 0 < n) (room : scratch_words n ≤ length t) (o : Op) (u : Tree) → RanksTell o u n (drop (COLUMNS * n) t) → RanksTell o u n (part n t pos room)
ranks_lent {n} t pos room o u = ranks_kept o u (drop (COLUMNS * n) t) (part n t pos room) (λ v l. part_word n t pos room RANK v (omega arith) l ∙ sym (behind_word n t RANK v))

-- and the hits
pub judges : {ns : List Node} {n : ℕ} {t t' : List ℕ} {o : Op} {c : List ℕ} (pos : 0 < n) (room : scratch_words n ≤ length t')
    → Judged ns n o c t t' → Judges o c (tree_of ns) n (part n t' pos room)
judges {ns} {n} {t} {t'} {o} {c} pos room j v l =
    subst (λ x. (x ≡ 1) ↔ Rel o (compared_of ns v) (trim c)) (sym (part_word n t' pos room HIT v (omega arith) l)) (j.done v l)
