use Rattle.std.proofs.Common.{◌≡◌, ◌++◌, ℕ, List, drop}
use Rattle.xml_tree.specs.Trees.{content_of}
use Rattle.xml_tree.specs.Views.{children_of}
use Rattle.csl_locales.specs.Called.{all_called, elements_of}
use Rattle.csl_locales.proofs.called.called_among.Given as goal

abbrev pub invariant-loop-child : goal.invariant-loop-child
invariant-loop-child l =
    (t : List ℕ) → elements_of l.found.items ++ all_called l.name (content_of (children_of (drop l.child-index l.children)) t) ≡ all_called l.name (content_of (children_of l.children) t)
