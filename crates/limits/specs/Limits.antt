-- The limits of document 01, each named with the thing that it limits.
use Rattle.std.specs.Prelude.{ℕ, zero, suc, ◌+◌, ◌*◌, ◌-◌, ◌/◌, ◌^◌}
use Rattle.lists.specs.Text.{binary_digits}

-- a document has at most 1,048,576 bytes, and N is 1 to 4,096
abbrev pub document_bytes : ℕ
document_bytes = 1_048_576

abbrev pub document_nodes : ℕ
document_nodes = 4096

-- N has 1 to 5 digits and D 1 to 4
abbrev pub count_digits : ℕ
count_digits = 5

abbrev pub depth_digits : ℕ
depth_digits = 4

-- S is 1 to 16 bytes, and V is 0 to 255 bytes
abbrev pub label_bytes : ℕ
label_bytes = 16

abbrev pub value_bytes : ℕ
value_bytes = 255

-- a rule has at most 1,024 bytes and 64 tests; 32 is the most nesting
abbrev pub rule_bytes : ℕ
rule_bytes = 1024

abbrev pub rule_tests : ℕ
rule_tests = 64

abbrev pub rule_nesting : ℕ
rule_nesting = 32

-- a comparison has at most 14 steps in its paths together, and a count, 02 (h), in its path; with the two starts these are its positions, at most 16
abbrev pub comparison_steps : ℕ
comparison_steps = 14

abbrev pub positions : ℕ
positions = comparison_steps + 2

-- c is 0 to 32 bytes
abbrev pub constant_bytes : ℕ
constant_bytes = 32

-- 02 (h): the n of a count is 0 to 4,096
abbrev pub rule_count : ℕ
rule_count = 4096

-- 02 (f): a numeral has 1 to 9 digits, and 1 to 4 behind a point
abbrev pub numeral_digits : ℕ
numeral_digits = 9

abbrev pub numeral_decimals : ℕ
numeral_decimals = 4

-- the count is at most 128 × N × B × E
abbrev pub snippet_factor : ℕ
snippet_factor = 128

-- scratch is 16-bit words, at least N × (64 × B + 128) of them, B being the number of binary digits of N
abbrev pub word_bits : ℕ
word_bits = 16

abbrev pub word_values : ℕ
word_values = 2 ^ word_bits

abbrev pub words_per_digit : ℕ
words_per_digit = 64

abbrev pub words_per_node : ℕ
words_per_node = 128

unfoldable pub scratch_words : ℕ → ℕ
scratch_words n = n * (words_per_digit * binary_digits n + words_per_node)

-- the tree's own words of each node; a comparison works in a part that begins behind them
abbrev pub tree_words : ℕ
tree_words = 16

abbrev pub part_words : ℕ
part_words = words_per_node - tree_words

-- B of the most nodes, by halving: node_digits computes, and is binary_digits document_nodes (proofs/Digits)
abbrev pub halvings : ℕ → ℕ → ℕ
halvings zero n = zero
halvings (suc fuel) zero = zero
halvings (suc fuel) (suc n) = suc (halvings fuel (suc n / 2))

abbrev pub node_digits : ℕ
node_digits = halvings document_nodes document_nodes

-- the program reads up to 65,536 bytes, and lends 32,768 words and 4,096 marks
abbrev pub program_input : ℕ
program_input = 65_536

abbrev pub program_words : ℕ
program_words = 32_768

abbrev pub program_marks : ℕ
program_marks = 4096
