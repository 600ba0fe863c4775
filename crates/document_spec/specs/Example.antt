-- Document X of 01: the program and one session.
use Rattle.std.specs.Prelude.{ℕ, List, [], ◌∷◌}
use Rattle.lists.specs.Text.{bytes}
use Rattle.document_spec.specs.Library.{Kind, element, attribute, Node}

abbrev pub text_x : List ℕ
text_x =
    bytes "nodes=5\ndepth=0\nkind=e\nlabel=lib\nvalue=\ndepth=1\nkind=e\nlabel=drug\nvalue=\ndepth=2\nkind=a\nlabel=name\nvalue=heparin\ndepth=1\nkind=e\nlabel=drug\nvalue=\ndepth=2\nkind=a\nlabel=name\nvalue=heparin\n"

abbrev pub node : ℕ → Kind → List ℕ → List ℕ → Node
node d k a b = record { depth = d; kind = k; label = a; value = b }

abbrev pub root : Node
root = node 0 element (bytes "lib") []

abbrev pub drug : Node
drug = node 1 element (bytes "drug") []

abbrev pub name : Node
name = node 2 attribute (bytes "name") (bytes "heparin")

abbrev pub X : List Node
X = root ∷ drug ∷ name ∷ drug ∷ name ∷ []
