-- The setting stays where only columns from one on and the snippets' rows change.
use Prim.Native.Nat.{ℕ, ◌/◌, ◌%◌, ◌<◌}
use mathlib.Core.Path.{◌≡◌, sym, subst}
use mathlib.Core.Logic.{◌↔◌}
use mathlib.Core.List.{List}
use native.Mathlib.Omega.{arith}
use Rattle.xpath.specs.Syntax.{XPath}
use Rattle.xpath.specs.Tree.{Tree}
use Rattle.snippets.specs.Marks.{Marked}
use Rattle.snippets.proofs.Marks.{skeleton_inside}
use Rattle.layout.specs.Blocks.{Rest}
use Rattle.layout.specs.Groups.{MARKED}
use Rattle.layout.specs.Table.{RANK}
use Rattle.layout.proofs.Rest.{same_word}
use Rattle.machine.specs.declared.Machine.{Machine}
use Rattle.lifting.specs.Ladder.{Ladder}
use Rattle.powers.proofs.Rest.{founded_rest, stage_shape, sizes_rest}
use Rattle.group_marks.specs.Groups.{Ranks}
use Rattle.group_ends.specs.Ends.{Setting, Given}

pub ranks_rest : (t : Tree) {d : List ℕ} {c n b r : ℕ} {p p' : List ℕ} → Rest c n b p p' → RANK < c → Ranks t d n r p → Ranks t d n r p'
ranks_rest t {d} {r = r} h l f w q = subst (λ (x : ℕ). (x ≡ r) ↔ (t.value w ≡ d)) (sym (same_word h RANK w l q)) (f w q)

pub setting_rest : {P R : XPath} {t : Tree} {d : List ℕ} {m : Machine} {n b r : ℕ} {p p' : List ℕ} → Rest 12 n b p p' → Setting P R t d m n b r p → Setting P R t d m n b r p'
setting_rest {t = t} {d} {n = n} {p' = p'} h s =
    let founded = founded_rest h (omega arith) s.founded in
    record {
      founded = founded;
      group = record {
        shape = stage_shape founded.stage;
        ranks = ranks_rest t h (omega arith) s.group.ranks;
        marks = λ v l. subst (λ (x : ℕ). Marked t d v ↔ (x % 2 ≡ 1)) (sym (same_word h MARKED v (omega arith) l)) (s.group.marks v l);
        noted = λ v k.
            let i = skeleton_inside t d s.founded.stage.formed v k in let e = s.founded.stage.drawn.size in
            subst (λ (x : ℕ). x / 2 ≡ 1) (sym (same_word h MARKED (v / 16) (omega arith) (omega arith))) (s.group.noted v k);
      };
    }

pub given_rest : {m : Machine} {n b r : ℕ} {p p' : List ℕ} → Rest 12 n b p p' → Given m n b r p → Given m n b r p'
given_rest h g = record { first = g.first; second = g.second; tree = g.tree; value = g.value; setting = setting_rest h g.setting; enough = g.enough; sizes = sizes_rest h g.sizes }

pub ladder_of : {P R : XPath} {t : Tree} {d : List ℕ} {m : Machine} {n b r : ℕ} {p : List ℕ} → Setting P R t d m n b r p → Ladder P R t n b p
ladder_of s = let f = s.founded in record { formed = f.stage.formed; few = f.stage.machine.few; loops = f.loops; powers = f.powers }
