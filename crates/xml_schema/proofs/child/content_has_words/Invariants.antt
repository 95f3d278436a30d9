use Rattle.std.proofs.Common.{◌≡◌, drop}
use Rattle.std.specs.Str.{chars}
use Rattle.xml_tree.specs.Trees.{content_of}
use Rattle.xml_tree.specs.Views.{children_of}
use Rattle.xml_schema.specs.Faults.{content_has_words}
use Rattle.xml_schema.proofs.child.content_has_words.Given as goal

abbrev pub invariant-loop-child : goal.invariant-loop-child
invariant-loop-child l = content_has_words (content_of (children_of (drop l.child-index l.children)) (chars l.text)) ≡ content_has_words (content_of (children_of l.children) (chars l.text))
