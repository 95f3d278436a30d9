-- The lines for the names of a document, one after the other.
use Rattle.std.proofs.Common.{◌≡◌, ℕ, true, false, List, ◌∷◌, ◌++◌, length, flat_map, chars, codes, IsUtf8, if◌then◌else◌, Option, Some, None, is_some, is_none, option_map, Result, Ok, Err, is_ok, OnOk, sym, ap, ap₂, ◌∙◌, append_assoc}
use Rattle.std.proofs.lemmas.Grind.{flat_map-append}
use Rattle.laws.specs.Characters.{at_sign, semicolon}
use Rattle.laws.specs.Text.{text}
use Rattle.laws.proofs.Text.{text_of_chars}
use Rattle.cite_markers.specs.Document.{Piece}
use Rattle.cite_markers.specs.Marker.{Cite}
use Rattle.cite_requests.specs.Works.{Works, meaning}
use Rattle.cite_csl.specs.Names.{Named, from_first, name_lines, names_at, names_in, names_of, past_first, past_piece}
use Rattle.cite_csl_styles.specs.Sources.{SourceFile, lines_left}
use Rattle.cite_csl_styles.specs.Stages.{Lines}

-- after the lines for a name of a marker those of the other names are left
pub name_more : (say : Named → Lines) (lines grown whole : Lines) (name : List ℕ) (cites : List Cite) (cs more : List ℕ) (left : ℕ)
    → lines ++ flat_map say (record { name = text (chars name); left = length (text (from_first at_sign cs)) } ∷ names_in cites (past_first semicolon cs)) ≡ whole
    → left ≡ length (text (from_first at_sign cs)) → grown ≡ lines ++ say (record { name = name; left = left }) → more ≡ past_first semicolon cs → IsUtf8 name
    → grown ++ flat_map say (names_in cites more) ≡ whole
name_more say lines grown whole name cites cs more left so_far at said past u =
    let named : Named = record { name = text (chars name); left = length (text (from_first at_sign cs)) } in
    let said_there : grown ≡ lines ++ say named = said ∙ ap₂ (λ (m : List ℕ) (n : ℕ). lines ++ say (record { name = m; left = n })) (sym (text_of_chars name u)) at in
    rw (said_there, past) (append_assoc lines (say named) (flat_map say (names_in cites (past_first semicolon cs))) ∙ so_far)

-- after the lines for the names of a piece those of the other pieces are left
pub piece_more : (say : Named → Lines) (lines grown whole : Lines) (p : Piece) (ps : List Piece) (cs more : List ℕ) → lines ++ flat_map say (names_of (p ∷ ps) cs) ≡ whole
    → grown ≡ lines ++ flat_map say (names_at p cs) → more ≡ past_piece p cs → grown ++ flat_map say (names_of ps more) ≡ whole
piece_more say lines grown whole p ps cs more so_far said past =
    let here = names_at p cs in
    let others = names_of ps (past_piece p cs) in
    rw (said, past) (append_assoc lines (flat_map say here) (flat_map say others) ∙ (ap (λ (x : Lines). lines ++ x) (sym (flat_map-append say here others)) ∙ so_far))

-- a name that means nothing, where nothing was found
pub means_nothing : {X Y : Type 0} (view : X → Y) (found : Option X) (m : Option Y) → option_map view found ≡ m → is_some found ≡ false → is_none m ≡ true
means_nothing view None m is none = ap is_none (sym is)
means_nothing view (Some x) m is none = absurd cc

-- the lines for a name that means nothing, once they are appended
pub name_said : {T E : Type 0} (r : Result T E) (d : SourceFile) (works : Works) (name : List ℕ) (left : ℕ) (lines grown why : Lines) → is_none (meaning name works) ≡ true
    → why ≡ codes "unknown name " ++ name → OnOk r (grown ≡ lines ++ lines_left d left why) → OnOk r (grown ≡ lines ++ name_lines d works (record { name = name; left = left }))
name_said (Ok x) d works name left lines grown why none is appended = rw none (appended ∙ ap (λ (w : Lines). lines ++ lines_left d left w) is)
name_said (Err e) d works name left lines grown why none is appended = tt
