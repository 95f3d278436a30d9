-- Styles and locales that say the same.
use Rattle.std.specs.Prelude.{Bool, ◌&&◌, ◌||◌, codes}
use Rattle.xml_tree.specs.Trees.{Element}
use Rattle.xml_schema.specs.Faults.{name_of}
use Rattle.csl_words.specs.Elements.{is_called}
use Rattle.csl_locales.specs.Terms.{has_one_text}
use Rattle.csl_laws.specs.Alike.{AreAlike}

-- the text in an element counts: in `single` and `multiple`, and in a `term` that has neither of these in it
abbrev pub text_counts : Element → Bool
text_counts e = is_called (codes "single") (name_of e) || (is_called (codes "multiple") (name_of e) || (is_called (codes "term") (name_of e) && has_one_text e))

-- files that say the same, by their roots
abbrev pub Alike : Element → Element → Type 0
Alike x y = AreAlike text_counts x y
