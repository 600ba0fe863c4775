use Prim.Native.Nat.{ℕ, ◌+◌, ◌*◌, ◌≤◌}
use mathlib.Core.Path.{ap}
use lib.Dec.{lit<}
use native.Mathlib.Omega.{arith}
use native.Mathlib.Nat.{mul-le-mul}
use Rattle.lists.proofs.Numerals.{binary_short}
use Rattle.limits.specs.Limits.{scratch_words}
use Rattle.limits.proofs.Scratch.needed.Goals as goal

-- a document's number of nodes has at most 13 digits
few : (c : goal.After-digits-b) → c.digits-b.result ≤ 13
few c = omega (arith, c.digits-b.ensures, binary_short c.args.nodes 13 (omega arith) (lit< tt))

pub overflow_mul-result : goal.overflow_mul-result
overflow_mul-result c = let h = few c in omega arith

pub overflow_add-result : goal.overflow_add-result
overflow_add-result c = let h = few c in omega arith

pub overflow_mul-result-2 : goal.overflow_mul-result-2
overflow_mul-result-2 c =
    let h = few c in
    let p : c.args.nodes * (64 * c.digits-b.result + 128) ≤ 4096 * 960 = mul-le-mul {n₂ = 4096} {m₂ = 960} (omega arith) (omega arith) in
    omega arith

pub returns : goal.returns
unfolding scratch_words
returns c = ap (λ (d : ℕ). c.args.nodes * (64 * d + 128)) c.digits-b.ensures
