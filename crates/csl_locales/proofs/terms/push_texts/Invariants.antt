use Rattle.std.proofs.Common.{◌≡◌, ◌++◌, [], drop}
use Rattle.laws.specs.Text.{characters}
use Rattle.xml_tree.specs.Trees.{content_of}
use Rattle.xml_tree.specs.Views.{children_of}
use Rattle.csl_locales.specs.Terms.{texts_in}
use Rattle.csl_locales.proofs.terms.push_texts.Given as goal

abbrev pub invariant-loop-child : goal.invariant-loop-child
invariant-loop-child l = characters l.text ++ texts_in (content_of (children_of (drop l.child-index l.children)) []) ≡ characters l.initial.text ++ texts_in (content_of (children_of l.children) [])
