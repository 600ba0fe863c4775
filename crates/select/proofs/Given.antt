-- What is read: bytes that a reader has given, and that begin a buffer.
use Rattle.std.proofs.Common.{ℕ, ◌+◌, ◌≡◌, ◌≤◌, List, ◌++◌, length, take, sym, ap, ◌∙◌, subst, append_assoc}
use Rattle.std.specs.Prelude.{Option, None, Some}
use Rattle.std.specs.Io.KnownBytes.{Consumes}
use Rattle.std.proofs.lemmas.List.{take-append-le, length-take-le}
use Rattle.std.proofs.Math.Seq.{take-append-add}
use borrow.Rule.Slice.PartMut.{put_mid, post_of}

-- what is read in two steps
consumes_more : (a b c : Option (List ℕ)) (xs ys : List ℕ) → Consumes a b xs → Consumes b c ys → Consumes a c (xs ++ ys)
consumes_more None b c xs ys p q = tt
consumes_more (Some x) None c xs ys p q = absurd p
consumes_more (Some x) (Some y) None xs ys p q = absurd q
consumes_more (Some x) (Some y) (Some z) xs ys p q = p ∙ ap (λ (l : List ℕ). xs ++ l) q ∙ sym (append_assoc xs ys z)

-- k bytes come in behind the first n bytes of a buffer
begun : (n k m : ℕ) (buffer part : List ℕ) → n ≤ length buffer → k ≤ length part → take (n + k) (put_mid n m buffer part) ≡ take n buffer ++ take k part
begun n k m buffer part l h =
    rw (length-take-le n buffer l) at (take-append-add (take n buffer) (part ++ post_of n m buffer) k) ∙ ap (λ (x : List ℕ). take n buffer ++ x) (take-append-le k part (post_of n m buffer) h)

pub given_more : (a b c : Option (List ℕ)) (n k m : ℕ) (buffer part : List ℕ) → n ≤ length buffer → k ≤ length part
    → Consumes a b (take n buffer) → Consumes b c (take k part) → Consumes a c (take (n + k) (put_mid n m buffer part))
given_more a b c n k m buffer part l h p q =
    subst (λ (x : List ℕ). Consumes a c x) (sym (begun n k m buffer part l h)) (consumes_more a b c (take n buffer) (take k part) p q)
