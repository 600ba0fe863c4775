-- A ladder, and a stretch on it, stay where only columns from one on and the snippets' rows change.
use Prim.Native.Nat.{ℕ}
use mathlib.Core.List.{List}
use native.Mathlib.Omega.{arith}
use Rattle.xpath.specs.Syntax.{XPath}
use Rattle.xpath.specs.Tree.{Tree}
use Rattle.layout.specs.Blocks.{Rest}
use Rattle.powers.proofs.Rest.{powers_rest, loops_rest}
use Rattle.lifting.specs.Ladder.{Ladder, Stretch}

pub ladder_rest : {P R : XPath} {t : Tree} {c n b : ℕ} {p p' : List ℕ} → Rest c n b p p' → Ladder P R t n b p → Ladder P R t n b p'
ladder_rest h l = record { formed = l.formed; few = l.few; loops = loops_rest h l.loops; powers = powers_rest h l.powers }

pub stretch_kept : {c n b y len : ℕ} {p p' : List ℕ} → Rest c n b p p' → Stretch n b y len p → Stretch n b y len p'
stretch_kept h s = let r = s.room in let l = h.same.long in record {
  first = s.first;
  second = s.second;
  tree = s.tree;
  top = s.top;
  ladder = ladder_rest h s.ladder;
  down = s.down;
  node = s.node;
  few = s.few;
  low = s.low;
  short = s.short;
  room = omega arith;
}
