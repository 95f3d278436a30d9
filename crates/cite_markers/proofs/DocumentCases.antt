-- Cases of documents, computed.
use Rattle.std.proofs.Common.{◌≡◌, ℕ, Bool, true, false, List, [], ◌∷◌, codes, map, refl, Some, None, Result, Ok, Err}
use Rattle.std.specs.Str.{chars, trim_start, trim_end}
use Rattle.laws.specs.Steps.{each_below, each}
use Rattle.rendering_taxonomy.specs.declared.cite.CitePurpose.{CitePurpose}
use Rattle.rendering_taxonomy.specs.declared.cite.CitePurpose.TheVariants as purposes
use Rattle.rendering_taxonomy.specs.declared.locator.Locator.{Locator}
use Rattle.rendering_taxonomy.specs.declared.locator.Locator.TheVariants as locators
use Rattle.cite_markers.specs.Character.{passes}
use Rattle.cite_markers.specs.Words.{purpose_word, all_purposes, purpose_of, label_word, all_labels, label_of}
use Rattle.cite_markers.specs.Marker.{Cite, word_at, purpose_at, beginning_at, locator_at, cite_at, further_cite_at, next_cite_at, cites_at, marker_at, opening_at}
use Rattle.cite_markers.specs.Document.{Piece, Text, Marker, is_opening, piece_at, document_of}

abbrev read : List Piece → Result (List Piece) ℕ
read pieces = Ok pieces

abbrev refused : ℕ → Result (List Piece) ℕ
refused offset = Err offset

-- a cite of a name and nothing else
abbrev plain : List ℕ → Cite
plain name = record { name = name; hidden = false; purpose = None; locator = None }

-- a marker of one such cite
abbrev one : List ℕ → Piece
one name = Marker (plain name ∷ [])

-- a cite with a purpose
abbrev purposed : Bool → CitePurpose → List ℕ → Cite
purposed hidden purpose name = record { name = name; hidden = hidden; purpose = Some purpose; locator = None }

-- a cite of k with a locator
abbrev located : Locator → List ℕ → Cite
located label value = record { name = codes "k"; hidden = false; purpose = None; locator = Some (record { label = label; value = value }) }

-- each purpose and each label is that of its word
purposes_by_word : map (λ p. purpose_of (purpose_word p)) all_purposes ≡ map (λ p. Some p) all_purposes
unfolding purpose_of
purposes_by_word = refl

labels_by_word : map (λ l. label_of (label_word l)) all_labels ≡ map (λ l. Some l) all_labels
unfolding label_of
labels_by_word = refl

-- texts
an_empty_document : document_of ([]) ≡ read []
unfolding document_of piece_at is_opening opening_at marker_at cites_at next_cite_at further_cite_at cite_at locator_at beginning_at purpose_at word_at purpose_of label_of passes each each_below lib.Utf8.encode
an_empty_document = refl

a_bracket_and_a_space : document_of (codes "[ @a]") ≡ read (Text (codes "[ @a]") ∷ [])
unfolding document_of piece_at is_opening opening_at marker_at cites_at next_cite_at further_cite_at cite_at locator_at beginning_at purpose_at word_at purpose_of label_of passes each each_below lib.Utf8.encode
a_bracket_and_a_space = refl

a_word_that_is_no_purpose : document_of (codes "[see @a]") ≡ read (Text (codes "[see @a]") ∷ [])
unfolding document_of piece_at is_opening opening_at marker_at cites_at next_cite_at further_cite_at cite_at locator_at beginning_at purpose_at word_at purpose_of label_of passes each each_below lib.Utf8.encode
a_word_that_is_no_purpose = refl

a_hyphen_after_a_purpose : document_of (codes "[year -@a]") ≡ read (Text (codes "[year -@a]") ∷ [])
unfolding document_of piece_at is_opening opening_at marker_at cites_at next_cite_at further_cite_at cite_at locator_at beginning_at purpose_at word_at purpose_of label_of passes each each_below lib.Utf8.encode
a_hyphen_after_a_purpose = refl

-- markers
a_marker_in_a_text : document_of (codes "See [@a].") ≡ read (Text (codes "See ") ∷ one (codes "a") ∷ Text (codes ".") ∷ [])
unfolding document_of piece_at is_opening opening_at marker_at cites_at next_cite_at further_cite_at cite_at locator_at beginning_at purpose_at word_at purpose_of label_of passes each each_below lib.Utf8.encode
a_marker_in_a_text = refl

markers_side_by_side : document_of (codes "[@x][@y]") ≡ read (one (codes "x") ∷ one (codes "y") ∷ [])
unfolding document_of piece_at is_opening opening_at marker_at cites_at next_cite_at further_cite_at cite_at locator_at beginning_at purpose_at word_at purpose_of label_of passes each each_below lib.Utf8.encode
markers_side_by_side = refl

a_hidden_cite : document_of (codes "[-@a; @b]") ≡ read (Marker (record { name = codes "a"; hidden = true; purpose = None; locator = None } ∷ plain (codes "b") ∷ []) ∷ [])
unfolding document_of piece_at is_opening opening_at marker_at cites_at next_cite_at further_cite_at cite_at locator_at beginning_at purpose_at word_at purpose_of label_of passes each each_below lib.Utf8.encode
a_hidden_cite = refl

cites_with_purposes : document_of (codes "[author @a; year @b; -full @c; prose @d]") ≡ read (Marker (purposed false purposes.Author (codes "a") ∷ purposed false purposes.Year (codes "b") ∷ purposed true purposes.Full (codes "c") ∷ purposed false purposes.Prose (codes "d") ∷ []) ∷ [])
unfolding document_of piece_at is_opening opening_at marker_at cites_at next_cite_at further_cite_at cite_at locator_at beginning_at purpose_at word_at purpose_of label_of passes each each_below lib.Utf8.encode
cites_with_purposes = refl

a_name_with_marks : document_of (codes "[@[@a,]") ≡ read (one (codes "[@a,") ∷ [])
unfolding document_of piece_at is_opening opening_at marker_at cites_at next_cite_at further_cite_at cite_at locator_at beginning_at purpose_at word_at purpose_of label_of passes each each_below lib.Utf8.encode
a_name_with_marks = refl

-- locators
cites_with_locators : document_of (codes "[@k page 2; @k sub-verbo a [b]") ≡ read (Marker (located locators.Page (codes "2") ∷ located locators.SubVerbo (codes "a [b") ∷ []) ∷ [])
unfolding document_of piece_at is_opening opening_at marker_at cites_at next_cite_at further_cite_at cite_at locator_at beginning_at purpose_at word_at purpose_of label_of passes each each_below chars trim_start trim_end lib.Utf8.encode
cites_with_locators = refl

-- a backslash before an opening
an_escape : document_of (codes "\\[@a]") ≡ read (Text (codes "[@a]") ∷ [])
unfolding document_of piece_at is_opening opening_at marker_at cites_at next_cite_at further_cite_at cite_at locator_at beginning_at purpose_at word_at purpose_of label_of passes each each_below lib.Utf8.encode
an_escape = refl

a_backslash_before_an_escape : document_of (codes "\\\\[@a]") ≡ read (Text (codes "\\") ∷ Text (codes "[@a]") ∷ [])
unfolding document_of piece_at is_opening opening_at marker_at cites_at next_cite_at further_cite_at cite_at locator_at beginning_at purpose_at word_at purpose_of label_of passes each each_below lib.Utf8.encode
a_backslash_before_an_escape = refl

two_backslashes_before_an_escape : document_of (codes "\\\\\\[@a]") ≡ read (Text (codes "\\\\") ∷ Text (codes "[@a]") ∷ [])
unfolding document_of piece_at is_opening opening_at marker_at cites_at next_cite_at further_cite_at cite_at locator_at beginning_at purpose_at word_at purpose_of label_of passes each each_below lib.Utf8.encode
two_backslashes_before_an_escape = refl

a_marker_in_an_escape : document_of (codes "\\[@[@a]") ≡ read (Text (codes "[@") ∷ one (codes "a") ∷ [])
unfolding document_of piece_at is_opening opening_at marker_at cites_at next_cite_at further_cite_at cite_at locator_at beginning_at purpose_at word_at purpose_of label_of passes each each_below lib.Utf8.encode
a_marker_in_an_escape = refl

other_backslashes : document_of (codes "\\[a]") ≡ read (Text (codes "\\[a]") ∷ [])
unfolding document_of piece_at is_opening opening_at marker_at cites_at next_cite_at further_cite_at cite_at locator_at beginning_at purpose_at word_at purpose_of label_of passes each each_below lib.Utf8.encode
other_backslashes = refl

-- openings that no marker follows
no_name : document_of (codes "x [@") ≡ refused 2
unfolding document_of piece_at is_opening opening_at marker_at cites_at next_cite_at further_cite_at cite_at locator_at beginning_at purpose_at word_at purpose_of label_of passes each each_below lib.Utf8.encode
no_name = refl

no_space_between_cites : document_of (codes "[@a;@a]") ≡ refused 0
unfolding document_of piece_at is_opening opening_at marker_at cites_at next_cite_at further_cite_at cite_at locator_at beginning_at purpose_at word_at purpose_of label_of passes each each_below lib.Utf8.encode
no_space_between_cites = refl

white_space_after_a_value : document_of (codes "[@a page 3 ]") ≡ refused 0
unfolding document_of piece_at is_opening opening_at marker_at cites_at next_cite_at further_cite_at cite_at locator_at beginning_at purpose_at word_at purpose_of label_of passes each each_below chars trim_start trim_end lib.Utf8.encode
white_space_after_a_value = refl

white_space_before_a_value : document_of (codes "[@a page  3]") ≡ refused 0
unfolding document_of piece_at is_opening opening_at marker_at cites_at next_cite_at further_cite_at cite_at locator_at beginning_at purpose_at word_at purpose_of label_of passes each each_below chars trim_start trim_end lib.Utf8.encode
white_space_before_a_value = refl

no_label : document_of (codes "[@a, p. 3]") ≡ refused 0
unfolding document_of piece_at is_opening opening_at marker_at cites_at next_cite_at further_cite_at cite_at locator_at beginning_at purpose_at word_at purpose_of label_of passes each each_below lib.Utf8.encode
no_label = refl

no_value : document_of (codes "[@a page]") ≡ refused 0
unfolding document_of piece_at is_opening opening_at marker_at cites_at next_cite_at further_cite_at cite_at locator_at beginning_at purpose_at word_at purpose_of label_of passes each each_below lib.Utf8.encode
no_value = refl

a_value_over_two_lines : document_of (codes "[@a page 3\n4]") ≡ refused 0
unfolding document_of piece_at is_opening opening_at marker_at cites_at next_cite_at further_cite_at cite_at locator_at beginning_at purpose_at word_at purpose_of label_of passes each each_below chars trim_start trim_end lib.Utf8.encode
a_value_over_two_lines = refl

offsets_are_bytes : document_of (codes "é [@b] [@") ≡ refused 8
unfolding document_of piece_at is_opening opening_at marker_at cites_at next_cite_at further_cite_at cite_at locator_at beginning_at purpose_at word_at purpose_of label_of passes each each_below lib.Utf8.encode
offsets_are_bytes = refl
