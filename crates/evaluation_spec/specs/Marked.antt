-- The ten rules that 01 marks on document X (M), with the nodes marked. By 02 (f) the one with < marks none: no value of X is a numeral, and nor is its constant.
use Rattle.std.specs.Prelude.{ℕ, List, [], ◌∷◌}
use Rattle.lists.specs.Text.{bytes}

pub record Case : Type 0 where
  pub rule : List ℕ
  pub marks : List ℕ

abbrev case : List ℕ → List ℕ → Case
case r m = record { rule = r; marks = m }

abbrev pub cases : List Case
cases =
    case (bytes ":drug") (1 ∷ 3 ∷ [])
    ∷ case (bytes "!:drug") (0 ∷ 2 ∷ 4 ∷ [])
    ∷ case (bytes "(e=e)") (0 ∷ 1 ∷ 2 ∷ 3 ∷ 4 ∷ [])
    ∷ case (bytes "(e!=e)") []
    ∷ case (bytes "(l=\"heparin\")") (1 ∷ 3 ∷ [])
    ∷ case (bytes "(e<\"a\")") []
    ∷ case (bytes "(*l=\"heparin\")") (0 ∷ 1 ∷ 2 ∷ 3 ∷ 4 ∷ [])
    ∷ case (bytes "(.R*R=\"\")") (3 ∷ [])
    ∷ case (bytes "(r=e)") (1 ∷ [])
    ∷ case (bytes "(.l[:name]=..r*rl)") (1 ∷ [])
    ∷ []

-- 02 (h): rules that count, with the nodes that they mark on X; `+ll` reaches one node only, on two ways
abbrev pub counts : List Case
counts =
    case (bytes "#0l") (0 ∷ 1 ∷ 2 ∷ 3 ∷ 4 ∷ [])
    ∷ case (bytes "#1l") (0 ∷ 1 ∷ 3 ∷ [])
    ∷ case (bytes "#2+ll") []
    ∷ case (bytes "#2+lr") (1 ∷ [])
    ∷ case (bytes "#2.l*r") (0 ∷ [])
    ∷ case (bytes "#3*+LR") (2 ∷ 3 ∷ 4 ∷ [])
    ∷ case (bytes "#5*+lr") (0 ∷ [])
    ∷ case (bytes "#6*+lr") []
    ∷ case (bytes "#1.*+lr[#2+lr]") (0 ∷ 1 ∷ [])
    ∷ []
