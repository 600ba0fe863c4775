-- Examples: 01's document X is accepted, and some documents that are refused (readings 8 to 11).
use Prim.Native.Nat.{ℕ, zero, suc, ◌≤◌, ◌<◌}
use mathlib.Core.Path.{◌≡◌, refl, sym, ap, ◌∙◌}
use mathlib.Core.Logic.{inl, inr, ⊎_elim, ◌≢◌}
use mathlib.Core.List.{List, [], ◌∷◌, ◌++◌, map}
use native.Mathlib.Omega.{arith}
use lib.ListN.{length, get_or}
use lib.Dec.{lit<, lit≤}
use Rattle.lists.specs.Lists.{All}
use Rattle.lists.specs.Blanks.{trim, trim_end, trim_start}
use Rattle.lists.specs.Text.{bytes, Letter, NameByte, digits_by, digits, decimal}
use Rattle.limits.specs.Names.{Name}
use Rattle.lists.specs.Numerals.{reading}
use Rattle.lists.proofs.Lists.{all_imp}
use Rattle.lists.proofs.Numerals.{reading_decimal}
use Rattle.refusals.specs.Refusals.{line_form, node_count, tree_rule, duplicate_attribute, First}
use Rattle.document_spec.specs.Library.{Node, Kind, element, attribute, text, Value, DepthBehind, KindBehind, LabelRule, ValueRule, at, Legal, kind_line, node_lines, spell}
use Rattle.document_spec.specs.Binary.{compared_of, tree_of}
use Rattle.document_spec.specs.Example.{node, root, drug, name, X, text_x}
use Rattle.document_spec.specs.Verdict.{first_line, behind_line, behind_lines, line, CountIs, DepthIs, KindIs, Breaks, Duplicate, DocumentGround, Accepts}
use Rattle.document_spec.specs.Fields.{depth, kind}
use Rattle.document_spec.proofs.Spelling.{between, nodes_injective, depth_injective}
use Rattle.document_spec.proofs.Grounds.{first_uncounted, first_number}
use Rattle.document_spec.proofs.Legality.{Fits, Behind, distinct_alone, legal_chain}
use Rattle.document_spec.proofs.Verdict.{further_bytes}
use Rattle.document_spec.proofs.Good.{good_start, good_on, first_form, first_rule, first_duplicate}
use Rattle.document_spec.proofs.Reading.{text_reads}
use Rattle.document_spec.proofs.Rules.{ruled_depth, ruled_kind}
use Rattle.document_spec.proofs.Duplicates.{unrepeated}
use Rattle.document_spec.proofs.Accepted.{legal_writable, reads_good_so_far}

-- ── Document X ──
pub spelled : text_x ≡ spell X
unfolding spell node_lines decimal digits digits_by
spelled = refl

-- a name of letters
word : (b : ℕ) (a : List ℕ) → All Letter (b ∷ a) → length (b ∷ a) ≤ 16 → Name (b ∷ a)
unfolding Name
word b a h l = (h.0, all_imp Letter NameByte (λ c k. inl k) a h.1, l)

differ : {A : Type 0} (k j : Kind) → get_or (kind_line k) 5 0 ≢ get_or (kind_line j) 5 0 → k ≡ j → A
differ k j h e = absurd (h (ap (λ k. get_or (kind_line k) 5 0) e))

element_fits : (d b : ℕ) (a : List ℕ) → All Letter (b ∷ a) → length (b ∷ a) ≤ 16 → Fits (node d element (b ∷ a) [])
unfolding Value
element_fits d b a h l = record { name = word b a h l; bound = (tt, lit≤ tt); labelled = differ element text (omega arith); empty = λ e. refl }

drug_fits : Fits drug
drug_fits = element_fits 1 _ _ (omega arith) (lit≤ tt)

attribute_fits : (d b : ℕ) (a c : List ℕ) → All Letter (b ∷ a) → length (b ∷ a) ≤ 16 → Value c → Fits (node d attribute (b ∷ a) c)
attribute_fits d b a c h l v = record {
  name = word b a h l;
  bound = v;
  labelled = differ attribute text (omega arith);
  empty = differ attribute element (omega arith);
}

name_fits : Fits name
unfolding Value
name_fits = attribute_fits 2 _ _ _ (omega arith) (lit≤ tt) (omega arith, lit≤ tt)

named : Behind drug name
named = record { depth = (lit< tt, lit≤ tt, λ e. refl); kind = λ e. inl (refl, refl) }

-- between two attributes there is an element
apart : (v : ℕ) → suc v < length X → (at X v).kind ≡ attribute → (at X (suc v)).kind ≢ attribute
apart zero l e f = differ element attribute (omega arith) e
apart (suc zero) l e f = differ element attribute (omega arith) e
apart (suc (suc zero)) l e f = differ element attribute (omega arith) f
apart (suc (suc (suc zero))) l e f = differ element attribute (omega arith) e
apart (suc (suc (suc (suc v)))) l e f = omega arith

pub legal : Legal X
legal =
    legal_chain root (drug ∷ name ∷ drug ∷ name ∷ []) (lit≤ tt) refl refl
    (element_fits 0 _ _ (omega arith) (lit≤ tt), (drug_fits, (name_fits, (drug_fits, (name_fits, tt))))) (
      record { depth = (lit< tt, lit≤ tt, λ e. refl); kind = differ element attribute (omega arith) },
      (named, (record { depth = (lit< tt, lit≤ tt, λ e. absurd (omega arith)); kind = differ element attribute (omega arith) }, (named, tt))),
    ) (distinct_alone X apart)

pub accepted : Accepts text_x X
accepted = record { short = lit≤ tt; legal = legal; spelled = spelled }

-- ── The tree rules (readings 8, 9 and 12) ──
pub attribute_behind_attribute : KindBehind 2 attribute 2 attribute
attribute_behind_attribute e = inr (refl, refl)

pub attribute_behind_text : ¬ KindBehind 1 text 1 attribute
attribute_behind_text h = ⊎_elim (λ e. differ text element (omega arith) e.0) (λ e. differ text attribute (omega arith) e.0) (h refl)

pub two_deeper : ¬ DepthBehind 0 element 2
two_deeper h = omega arith

pub below_text : ¬ DepthBehind 1 text 2
below_text h = differ text element (omega arith) (h.2 refl)

pub below_attribute : ¬ DepthBehind 2 attribute 3
below_attribute h = differ attribute element (omega arith) (h.2 refl)

pub text_named : ¬ LabelRule text (bytes "name")
text_named h = let e = ap (λ a. get_or a 0 0) (h refl) in omega arith

pub element_valued : ¬ ValueRule element (bytes "heparin")
element_valued h = let e = ap length (h refl) in omega arith

-- ── Refusals (readings 10 and 11) ──
-- what no number is written as
no_numeral : (a : List ℕ) → decimal (reading a) ≢ a → (n : ℕ) → decimal n ≢ a
no_numeral a h n e = h (ap decimal (sym (ap reading e) ∙ reading_decimal n) ∙ e)

pub empty_document : First (DocumentGround []) (line_form 1)
unfolding line first_line behind_lines
empty_document = first_uncounted [] (lit≤ tt) (λ n c. let e = ap length c.1 in omega arith)

pub leading_zero : First (DocumentGround (bytes "nodes=05\n")) (line_form 1)
unfolding line first_line behind_lines decimal digits digits_by
leading_zero =
    let wrong : decimal (reading (bytes "05")) ≢ bytes "05" = λ e. let z = ap length e in omega arith in
    first_uncounted (bytes "nodes=05\n") (lit≤ tt)
    (λ n c. no_numeral (bytes "05") wrong n (between (bytes "nodes=") (decimal n) (bytes "05") (bytes "\n") (sym c.1)))

pub six_digits : First (DocumentGround (bytes "nodes=100000\n")) (line_form 1)
unfolding line first_line behind_lines decimal digits digits_by
six_digits = first_uncounted (bytes "nodes=100000\n") (lit≤ tt) (λ n c. let e = nodes_injective 100_000 n c.1 in let l = c.0 in omega arith)

pub no_nodes : First (DocumentGround (bytes "nodes=0\n")) node_count
unfolding line first_line behind_lines decimal digits digits_by
no_nodes = first_number (bytes "nodes=0\n") (lit≤ tt) 0 (lit< tt, refl) (inl refl)

pub too_many : First (DocumentGround (bytes "nodes=4097\n")) node_count
unfolding line first_line behind_lines decimal digits digits_by
too_many = first_number (bytes "nodes=4097\n") (lit≤ tt) 4097 (lit< tt, refl) (inr (lit< tt))

-- missing: the first absent line
pub missing : First (DocumentGround (bytes "nodes=4096\n")) (line_form 2)
unfolding line first_line behind_line behind_lines decimal digits digits_by
missing =
    first_form (good_start (bytes "nodes=4096\n") 4096 (lit≤ tt) (lit< tt, refl) (lit< tt) (lit≤ tt)) 0 depth refl (lit< tt)
    (λ (d, (l, p)). let e = ap length p in omega arith)

pub five_digits : First (DocumentGround (bytes "nodes=1\ndepth=10000\n")) (line_form 2)
unfolding line first_line behind_line behind_lines decimal digits digits_by
five_digits =
    first_form (good_start (bytes "nodes=1\ndepth=10000\n") 1 (lit≤ tt) (lit< tt, refl) (lit< tt) (lit≤ tt)) 0 depth refl (lit< tt)
    (λ (d, (l, p)). let e = depth_injective 10_000 d p in omega arith)

pub too_deep : First (DocumentGround (bytes "nodes=1\ndepth=9999\n")) (tree_rule 2)
unfolding line first_line behind_line behind_lines decimal digits digits_by
too_deep =
    let c : CountIs (bytes "nodes=1\ndepth=9999\n") 1 = (lit< tt, refl) in
    first_rule (good_start (bytes "nodes=1\ndepth=9999\n") 1 (lit≤ tt) c (lit< tt) (lit≤ tt)) 0 depth refl
    (Breaks.top {d = 9999} c (lit< tt) (lit< tt, refl) (omega arith))

-- extra: any further byte
pub extra_byte : First (DocumentGround (spell X ++ bytes "\n")) (line_form 22)
unfolding spell node_lines decimal digits digits_by
extra_byte = further_bytes X legal 10 [] (lit≤ tt)

-- ── An attribute given twice (02, d) ──
abbrev text_twice : List ℕ
text_twice = bytes "nodes=3\ndepth=0\nkind=e\nlabel=e\nvalue=\ndepth=1\nkind=a\nlabel=a\nvalue=\ndepth=1\nkind=a\nlabel=a\nvalue=\n"

-- its first two nodes
abbrev once : List Node
once = node 0 element (bytes "e") [] ∷ node 1 attribute (bytes "a") [] ∷ []

legal_once : Legal once
unfolding Value
legal_once =
    legal_chain (node 0 element (bytes "e") []) (node 1 attribute (bytes "a") [] ∷ []) (lit≤ tt) refl refl
    (element_fits 0 _ _ (omega arith) (lit≤ tt), (attribute_fits 1 _ _ [] (omega arith) (lit≤ tt) (tt, lit≤ tt), tt))
    (record { depth = (lit< tt, lit≤ tt, λ e. refl); kind = λ e. inl (refl, refl) }, tt)
    (distinct_alone once alone)
  where
    alone : (v : ℕ) → suc v < length once → (at once v).kind ≡ attribute → (at once (suc v)).kind ≢ attribute
    alone zero l e f = differ element attribute (omega arith) e
    alone (suc v) l e f = omega arith

-- at the label line of the second
pub twice : First (DocumentGround text_twice) (duplicate_attribute 12)
unfolding line first_line behind_line behind_lines node_lines decimal digits digits_by
twice =
    let (r, on) = text_reads text_twice 3 once (bytes "depth=1\nkind=a\nlabel=a\nvalue=\n") (lit< tt) (legal_writable legal_once) refl in
    let x = r.nodes 1 (lit< tt) in
    let g = reads_good_so_far text_twice 3 once (lit≤ tt) (lit≤ tt) (lit≤ tt) legal_once r in
    let d : DepthIs text_twice 2 1 = (lit< tt, refl) in
    let g = good_on g 2 depth refl (lit< tt) (1, d) (ruled_depth text_twice 1 1 1 attribute x.depth x.kind d (lit< tt, lit≤ tt, λ e. absurd (omega arith))) (unrepeated 2 depth (omega arith)) in
    let g = good_on g 2 kind refl (lit< tt) (attribute, refl) (ruled_kind text_twice 1 1 1 attribute x.depth x.kind d attribute refl (λ e. inr (refl, refl))) (unrepeated 2 kind (omega arith)) in
    first_duplicate g 2 refl (Duplicate.label {u = 1} (bytes "a") r.count (lit< tt) (record { before = lit< tt; all = both }) x.label (x.label.0, refl))
  where
    both : (i : ℕ) → 1 ≤ i → i ≤ 2 → KindIs text_twice i attribute
    both zero h l = absurd (omega arith)
    both (suc zero) h l = refl
    both (suc (suc zero)) h l = refl
    both (suc (suc (suc i))) h l = absurd (omega arith)

-- ── Blanks (02, b) ──
-- a name with blanks around it, and an element whose text is blank in parts
abbrev pub padded : List Node
padded =
    node 0 element (bytes "drug") []
    ∷ node 1 attribute (bytes "name") (bytes "  heparin ")
    ∷ node 1 text [] (bytes "  ")
    ∷ node 1 text [] (bytes " a ")
    ∷ node 1 element (bytes "unit") []
    ∷ node 2 text [] (bytes " ")
    ∷ node 2 text [] (bytes "b c ")
    ∷ node 1 text [] (bytes "   ")
    ∷ []

-- blanks between and inside texts are kept, those at the ends of the joined text are not, and blanks alone make the empty value
pub padded_values : map (tree_of padded).value (0 ∷ 1 ∷ 2 ∷ 3 ∷ 4 ∷ 7 ∷ []) ≡ bytes "a  b c" ∷ bytes "heparin" ∷ [] ∷ bytes "a" ∷ bytes "b c" ∷ [] ∷ []
unfolding compared_of trim trim_end trim_start
padded_values = refl
