use Rattle.std.proofs.Common.{◌≡◌, ℕ, List, drop, codes}
use Rattle.std.specs.List.{find}
use Rattle.std.specs.Str.{bytes_eq}
use Rattle.xml_tree.specs.Trees.{Element, content_of}
use Rattle.xml_tree.specs.Views.{children_of}
use Rattle.csl_locales.specs.Called.{all_called}
use Rattle.csl_styles.specs.Faults.{macro_name}
use Rattle.csl_styles.proofs.reading.left_among.Given as goal

abbrev pub invariant-loop-child : goal.invariant-loop-child
invariant-loop-child l =
    (t : List ℕ) → find (λ (m : Element). bytes_eq (macro_name m) l.name) (all_called (codes "macro") (content_of (children_of (drop l.child-index l.children)) t))
    ≡ find (λ (m : Element). bytes_eq (macro_name m) l.name) (all_called (codes "macro") (content_of (children_of l.children) t))
