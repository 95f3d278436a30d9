-- Cases of the texts of citations, computed.
use Rattle.std.proofs.Common.{◌≡◌, ℕ, true, false, List, [], ◌∷◌, codes, refl, Some, None}
use Rattle.rendering_taxonomy.specs.Formats.{plain, unchanged}
use Rattle.rendering_tree.specs.Trees.{Children, Text, Elem, Link, nothing, before}
use Rattle.rendering_tree.specs.Writing.{plain_text}
use Rattle.rendering_style.specs.Styles.{Layout}
use Rattle.driver_citations.specs.Citations.{Shown, citation_of, suffixed}
use Rattle.driver_citations.specs.Ends.{end_of}
use Rattle.driver_citations.specs.Standalone.{has_content, joined_alone}

-- a layout in parentheses
layout : List ℕ → Layout
layout suffix = record { nodes = []; formatting = unchanged; prefix = Some (codes "("); suffix = Some suffix; delimiter = Some (codes "; ") }

-- a text alone
words : List ℕ → Children
words cs = before (Text plain cs) nothing

-- a cite that prints a text
cite : ℕ → List ℕ → Shown
cite n cs = record { delimiter = Some (codes "; "); index = n; tree = words cs }

two_cites : plain_text (citation_of None (layout (codes ")")) false (cite 0 (codes "A") ∷ cite 1 (codes "B") ∷ [])) ≡ codes "(A; B)"
unfolding layout cite words
two_cites = refl

with_a_purpose : plain_text (citation_of None (layout (codes ")")) true (cite 0 (codes "A") ∷ cite 1 (codes "B") ∷ [])) ≡ codes "A; B"
unfolding layout cite words
with_a_purpose = refl

not_repeated : plain_text (citation_of None (layout (codes ".")) false (cite 0 (codes "A.") ∷ [])) ≡ codes "(A."
unfolding layout cite words
not_repeated = refl

all_hidden : citation_of None (layout (codes ")")) false [] ≡ nothing
all_hidden = refl

-- cites that print nothing have their affixes and delimiters
empty_cites : plain_text (citation_of None (layout (codes ")")) false (record (cite 0 []) { tree = nothing } ∷ record (cite 1 []) { tree = nothing } ∷ [])) ≡ codes "(; )"
unfolding layout cite words
empty_cites = refl

-- where texts are joined they have not
no_cites : citation_of (Some []) (layout (codes ")")) false (record (cite 0 []) { tree = nothing } ∷ record (cite 1 []) { tree = nothing } ∷ []) ≡ nothing
unfolding layout cite words
no_cites = refl

-- and the suffix goes inside a close quote, also after a delimiter
inside_quotes : plain_text (citation_of (Some (codes "”" ∷ [])) (layout (codes ".")) false (cite 0 (codes "A”") ∷ cite 1 (codes "B”") ∷ [])) ≡ codes "(A”; B.”"
unfolding layout cite words
inside_quotes = refl

-- but not after a mark
after_a_mark : plain_text (citation_of (Some (codes "”" ∷ [])) (layout (codes ".")) false (cite 0 (codes "A?”") ∷ [])) ≡ codes "(A?”"
unfolding layout cite words
after_a_mark = refl

-- outside of quotes no mark is doubled
not_doubled : plain_text (citation_of (Some (codes "”" ∷ [])) (layout (codes ".)")) false (cite 0 (codes "A.") ∷ [])) ≡ codes "(A.)"
unfolding layout cite words
not_doubled = refl

-- where texts are joined the end of a delimiter meets the cite after it
before_a_space : plain_text (citation_of (Some []) (layout (codes ")")) false (cite 0 (codes "A") ∷ cite 1 (codes " B") ∷ [])) ≡ codes "(A; B)"
unfolding layout cite words
before_a_space = refl

before_a_comma : plain_text (citation_of (Some []) (layout (codes ")")) false (cite 0 (codes "A") ∷ cite 1 (codes ",B") ∷ [])) ≡ codes "(A;,B)"
unfolding layout cite words
before_a_comma = refl

-- where texts are joined a citation ends in no white space, whatever its cites and its suffix end in
trimmed_at_last : plain_text (citation_of (Some []) (layout (codes ") ")) false (cite 0 (codes "A ") ∷ cite 1 (codes "B") ∷ [])) ≡ codes "(A ; B)"
unfolding layout cite words
trimmed_at_last = refl

trimmed_with_a_purpose : plain_text (citation_of (Some []) (layout (codes ")")) true (cite 0 (codes "A ") ∷ [])) ≡ codes "A"
unfolding layout cite words
trimmed_with_a_purpose = refl

not_trimmed : plain_text (citation_of None (layout (codes ") ")) false (cite 0 (codes "A ") ∷ [])) ≡ codes "(A ) "
unfolding layout cite words
not_trimmed = refl

as_written : plain_text (citation_of None (layout (codes ")")) false (cite 0 (codes "A") ∷ cite 1 (codes " B") ∷ [])) ≡ codes "(A;  B)"
unfolding layout cite words
as_written = refl

alone : plain_text (joined_alone None (layout (codes ")")) (words (codes "1") ∷ words (codes "1") ∷ [])) ≡ codes "(1; 1)"
unfolding layout words
alone = refl

-- where no delimiter is given, a comma
comma : plain_text (joined_alone None (record (layout (codes ")")) { delimiter = None }) (words (codes "1") ∷ words (codes "2") ∷ [])) ≡ codes "(1, 2)"
unfolding layout words
comma = refl

blank : has_content (words (codes " ")) ≡ false
unfolding words
blank = refl

-- a tree ends in a text only where its last child does, again and again
empty_at_last : end_of (before (Text plain (codes "a")) (before (Elem None None nothing) nothing)) ≡ []
empty_at_last = refl

link_at_last : end_of (before (Link plain (codes "a") (codes "b")) nothing) ≡ []
link_at_last = refl

-- two texts that look alike end in what spans them
over_two_texts : plain_text (suffixed None plain (codes "ab") (before (Text plain (codes "a")) (before (Text plain (codes "b")) nothing))) ≡ codes "ab"
over_two_texts = refl
