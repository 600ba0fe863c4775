-- Pairs of libraries with a rule's test: some as 02 (n) supposes them, and some that are not, where the rule selects other nodes.
use Rattle.std.specs.Prelude.{ℕ, List, [], ◌∷◌}
use Rattle.lists.specs.Text.{bytes}
use Rattle.xpath.specs.Syntax.{eq, lt, le, Test, named, compare, compare_to, at_least, empty, one, seq, star, to_left, to_right, stay}
use Rattle.document_spec.specs.Library.{Node, element, attribute, text}
use Rattle.document_spec.specs.Example.{X, node, root, drug}

pub record Pair : Type 0 where
  pub test : Test
  pub before : List Node
  pub after : List Node

abbrev pair : Test → List Node → List Node → Pair
pair T ns ns' = record { test = T; before = ns; after = ns' }

-- ── Rules ──
abbrev later : Test
later = compare eq (seq (one to_left) (one (stay (named (bytes "name"))))) (seq (seq (one to_right) (star (one to_right))) (one to_left))

abbrev heparin : Test
heparin = compare_to eq (one to_left) (bytes "heparin")

abbrev low : Test
low = at_least 1 (seq (one to_left) (one (stay (compare_to lt empty (bytes "20")))))

abbrev numeral : Test
numeral = compare le empty empty

abbrev rising : Test
rising = compare lt empty (one to_right)

abbrev as_first : Test
as_first = compare eq empty (one to_left)

abbrev as_third : Test
as_third = compare eq empty (seq (one to_right) (one to_right))

abbrev parent : Test
parent = at_least 1 (one to_left)

abbrev pub rules : List Test
rules = later ∷ heparin ∷ low ∷ numeral ∷ rising ∷ as_first ∷ as_third ∷ parent ∷ []

-- and as a site writes them
abbrev pub written : List (List ℕ)
written =
    bytes "(.l[:name]=..r*rl)" ∷ bytes "(l=\"heparin\")" ∷ bytes "#1.l[(e<\"20\")]" ∷ bytes "(e<=e)" ∷ bytes "(e<r)" ∷ bytes "(e=l)" ∷ bytes "(e=.rr)" ∷ bytes "#1l" ∷ []

-- ── Libraries ──
-- an element with three attributes
abbrev three : List ℕ → List ℕ → List ℕ → List Node
three a b c = root ∷ node 1 attribute (bytes "a") a ∷ node 1 attribute (bytes "b") b ∷ node 1 attribute (bytes "c") c ∷ []

-- with an attribute and two texts
abbrev texts : List ℕ → List ℕ → List ℕ → List Node
texts a b c = root ∷ node 1 attribute (bytes "a") a ∷ node 1 text (bytes "text") b ∷ node 1 text (bytes "text") c ∷ []

-- two drugs, each with an attribute
abbrev drugs : List ℕ → List ℕ → List ℕ → List ℕ → List Node
drugs l a m b = root ∷ drug ∷ node 2 attribute l a ∷ drug ∷ node 2 attribute m b ∷ []

abbrev names : List ℕ → List ℕ → List Node
names a b = drugs (bytes "name") a (bytes "name") b

-- ── Masked ──
abbrev pub kept : List Pair
kept =
    pair later X (names (bytes "drug 1") (bytes " drug 1 "))
    -- a label that the rule names is no constant of it
    ∷ pair later (names (bytes "name") (bytes "name")) (names (bytes "drug 1") (bytes "drug 1"))
    ∷ pair heparin (names (bytes "heparin") (bytes "insulin")) (names (bytes "heparin") (bytes "drug 2"))
    -- numerals become others in the same order, on the same side of 20
    ∷ pair low (three (bytes "5") (bytes "10") (bytes "10.0")) (three (bytes "7.5") (bytes "19") (bytes "019.00"))
    -- the element's value 15 becomes 27, and so does the attribute's
    ∷ pair as_first (texts (bytes "15") (bytes "1") (bytes "5")) (texts (bytes "27") (bytes "2") (bytes "7"))
    ∷ []

-- ── Not masked ──
abbrev pub broken : List Pair
broken =
    -- a numeral becomes a word, and nothing else changes
    pair numeral (three (bytes "5") (bytes "a") (bytes "b")) (three (bytes "five") (bytes "a") (bytes "b"))
    -- a constant's own name, and a limit below a constant inside a counted path
    ∷ pair heparin (names (bytes "heparin") (bytes "insulin")) (names (bytes "drug 1") (bytes "drug 2"))
    ∷ pair low (three (bytes "5") (bytes "a") (bytes "b")) (three (bytes "25") (bytes "a") (bytes "b"))
    -- two limits change places
    ∷ pair rising (three (bytes "5") (bytes "10") (bytes "b")) (three (bytes "10") (bytes "5") (bytes "b"))
    -- equal names become different, and different spellings of one amount become equal, far apart
    ∷ pair later X (names (bytes "drug 1") (bytes "drug 2"))
    ∷ pair as_third (three (bytes "1.5") (bytes "a") (bytes "1.50")) (three (bytes "1.5") (bytes "a") (bytes "1.5"))
    -- each text and attribute has a name of its own before and after, but the element's value was the attribute's
    ∷ pair as_first (texts (bytes "ab") (bytes "a") (bytes "b")) (texts (bytes "cd") (bytes "e") (bytes "f"))
    -- another label, another depth, and a node more
    ∷ pair later X (drugs (bytes "code") (bytes "heparin") (bytes "name") (bytes "heparin"))
    ∷ pair parent (root ∷ drug ∷ drug ∷ []) (root ∷ drug ∷ node 2 element (bytes "drug") [] ∷ [])
    ∷ pair parent (root ∷ []) (root ∷ drug ∷ [])
    ∷ []
