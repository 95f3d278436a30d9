use Rattle.std.proofs.Common.{◌≡◌, ◌++◌, ℕ, ◌+◌, ◌*◌, List, drop}
use Rattle.std.specs.List.{filter}
use Rattle.laws.specs.Borrowed.{borrowed}
use Rattle.xml_tree.specs.Trees.{content_of}
use Rattle.xml_tree.specs.Views.{element_view, children_of}
use Rattle.csl_locales.specs.Words.{is_unlisted, words_in}
use Rattle.csl_locales.proofs.Weights.{weight, children_weight}
use Rattle.csl_locales.proofs.words.+words.Given as goal

abbrev pub invariant-push_words_in-loop-child : goal.invariant-push_words_in-loop-child
invariant-push_words_in-loop-child l =
    (t : List ℕ) → borrowed l.words.items ++ filter is_unlisted (words_in (content_of (children_of (drop l.child-index l.children)) t))
    ≡ borrowed l.initial.words.items ++ filter is_unlisted (words_in (content_of (children_of l.children) t))

abbrev pub decreases-push_words : goal.decreases-push_words
decreases-push_words l = 2 * weight (element_view l.element.now)

abbrev pub decreases-push_words_in : goal.decreases-push_words_in
decreases-push_words_in l = 2 * children_weight l.children.now + 1
