-- The names of cites in a document have no line feed.
use Rattle.std.proofs.Common.{◌≡◌, ℕ, Bool, true, false, cond, All, List, [], ◌∷◌, Option, Some, None, Result, Ok, Err, refl}
use Rattle.std.specs.Prelude.{not, ◌==◌, ◌||◌, IfOk, IfSome}
use Rattle.std.specs.Char.{is_whitespace}
use Rattle.std.proofs.lemmas.List.Elements.{All-nil, All-cons, All-head, All-tail}
use Rattle.laws.specs.Characters.{line_feed, space, semicolon, open_bracket, close_bracket}
use Rattle.laws.specs.Results.{◌>>=◌}
use Rattle.laws.specs.Runs.{prefix_of, after}
use Rattle.laws.specs.Steps.{each}
use Rattle.laws.specs.Text.{text, is_filled}
use Rattle.laws.proofs.Results.{bind_if_ok, test_if_ok}
use Rattle.laws.proofs.Runs.{all-prefix}
use Rattle.laws.proofs.Throughout.{each-gives}
use Rattle.texts.specs.Reading.{token_at, taken}
use Rattle.texts.specs.declared.reader.Unreadable.{Unreadable}
use Rattle.texts.specs.declared.reader.Unreadable.TheVariants.{NotThere}
use Rattle.biblatex.specs.Lines.{HasNoLineFeed}
use Rattle.biblatex.proofs.Lines as lines
use Rattle.cite_markers.specs.Character.{passes}
use Rattle.cite_markers.specs.Document.{Piece, Text, Marker, is_opening, escaped, text_at, marker_or_fault, piece_if_escaped, piece_at, or_offset, document_of}
use Rattle.cite_markers.specs.Marker.{Beginning, Cite, passing, beginning_at, locator_if_space, cite_at, further_cite_at, cite_if_semicolon, next_cite_at, cites_at, marker_at}
use Rattle.cite_requests.specs.Markers.{markers_of}

abbrev pub HasPlainName : Cite → Type 0
HasPlainName c = HasNoLineFeed (text c.name)

abbrev CitePlain : Cite × List ℕ → Type 0
CitePlain p = HasPlainName p.0

abbrev NextPlain : Option Cite × List ℕ → Type 0
NextPlain p = IfSome p.0 HasPlainName

abbrev CitesPlain : List Cite × List ℕ → Type 0
CitesPlain p = All HasPlainName p.0

-- steps of which the first says nothing
after_any : {F A B : Type 0} (Q : B → Type 0) (r : Result A F) (f : A → Result B F) → ((x : A) → IfOk (f x) Q) → IfOk (r >>= f) Q
after_any Q (Ok x) f more = more x
after_any Q (Err d) f more = tt

-- ---- cites

abbrev SpelledPlain : List ℕ → Type 0
SpelledPlain name = HasNoLineFeed (text name)

-- a cite after its beginning, where names have characters of a class without the line feed
named_plain : (test : ℕ → Bool) (b : Beginning × List ℕ) → test line_feed ≡ false
    → IfOk (passing (is_filled (prefix_of test b.1)) (prefix_of test b.1) >>= λ name. locator_if_space (taken space (after test b.1)) >>= λ l. Ok (record { name = name; hidden = b.0.hidden; purpose = b.0.purpose; locator = l.0 }, l.1)) CitePlain
named_plain test b bars =
    let name = prefix_of test b.1 in
    bind_if_ok SpelledPlain CitePlain (passing (is_filled name) name) _
    (test_if_ok SpelledPlain (is_filled name) (Ok name) NotThere (lines.spelled name (lines.passing test name bars (all-prefix test b.1)))) (λ n plain.
    after_any CitePlain (locator_if_space (taken space (after test b.1))) _ (λ l. plain))

-- the characters of a name
abbrev in_name : ℕ → Bool
in_name c = not (is_whitespace c || c == semicolon || c == close_bracket)

cite_plain : (cs : List ℕ) → IfOk (cite_at cs) CitePlain
unfolding cite_at passes
cite_plain cs = after_any CitePlain (beginning_at cs) _ (λ b. named_plain in_name b refl)

further_plain : (cs : List ℕ) → IfOk (further_cite_at cs) NextPlain
unfolding further_cite_at
further_plain cs = after_any NextPlain (token_at space cs) _ (λ rest. bind_if_ok CitePlain NextPlain (cite_at rest) _ (cite_plain rest) (λ c plain. plain))

next_plain : (cs : List ℕ) → IfOk (next_cite_at cs) NextPlain
unfolding next_cite_at
next_plain cs = by_sign (taken semicolon cs)
  where
    by_sign : (p : Bool × List ℕ) → IfOk (cite_if_semicolon p) NextPlain
    by_sign (true, rest) = further_plain rest
    by_sign (false, rest) = tt

cites_plain : (cs : List ℕ) → IfOk (cites_at cs) CitesPlain
unfolding cites_at
cites_plain cs =
    bind_if_ok CitePlain CitesPlain (cite_at cs) _ (cite_plain cs) (λ first plain.
    bind_if_ok CitesPlain CitesPlain (each next_cite_at first.1) _ (each-gives HasPlainName next_cite_at next_plain first.1) (λ others all.
    All-cons HasPlainName first.0 others.0 plain all))

marker_plain : (cs : List ℕ) → IfOk (marker_at cs) CitesPlain
unfolding marker_at
marker_plain cs =
    after_any CitesPlain (token_at open_bracket cs) _ (λ opened.
    bind_if_ok CitesPlain CitesPlain (cites_at opened) _ (cites_plain opened) (λ cites all.
    after_any CitesPlain (token_at close_bracket cites.1) _ (λ rest. all)))

-- ---- documents

abbrev PiecePlain : Piece → Type 0
PiecePlain (Text t) = Unit {0}
PiecePlain (Marker cites) = All HasPlainName cites

abbrev StepPlain : Option Piece × List ℕ → Type 0
StepPlain p = IfSome p.0 PiecePlain

text_plain : (cs : List ℕ) → IfOk (text_at cs) StepPlain
text_plain [] = tt
text_plain (c ∷ cs) = tt

opened_plain : (cs : List ℕ) (r : Result (List Cite × List ℕ) Unreadable) → IfOk r CitesPlain → IfOk (marker_or_fault cs r) StepPlain
opened_plain cs (Ok marker) all = all
opened_plain cs (Err fault) all = tt

piece_plain : (cs : List ℕ) → IfOk (piece_at cs) StepPlain
unfolding piece_at
piece_plain cs = by_escape (escaped cs)
  where
    by_opening : (b : Bool) → IfOk (cond b (marker_or_fault cs (marker_at cs)) (text_at cs)) StepPlain
    by_opening true = opened_plain cs (marker_at cs) (marker_plain cs)
    by_opening false = text_plain cs

    by_escape : (o : Option (List ℕ)) → IfOk (piece_if_escaped cs o) StepPlain
    by_escape (Some opening) = text_plain opening
    by_escape None = by_opening (is_opening cs)

abbrev pub DocumentPlain : List Piece → Type 0
DocumentPlain ps = All PiecePlain ps

pub document_plain : (cs : List ℕ) → IfOk (document_of cs) DocumentPlain
unfolding document_of
document_plain cs = by_read (each piece_at cs) (each-gives PiecePlain piece_at piece_plain cs)
  where
    by_read : (r : Result (List Piece × List ℕ) (List ℕ)) → IfOk r (λ p. All PiecePlain p.0) → IfOk (or_offset cs r) DocumentPlain
    by_read (Ok read) all = all
    by_read (Err opening) all = tt

-- the names of all markers
abbrev pub MarkerPlain : List Cite → Type 0
MarkerPlain cites = All HasPlainName cites

pub markers_plain : (ps : List Piece) → DocumentPlain ps → All MarkerPlain (markers_of ps)
markers_plain [] all = All-nil MarkerPlain
markers_plain (Text t ∷ ps) all = markers_plain ps (All-tail PiecePlain (Text t) ps all)
markers_plain (Marker cites ∷ ps) all = All-cons MarkerPlain cites (markers_of ps) (All-head PiecePlain (Marker cites) ps all) (markers_plain ps (All-tail PiecePlain (Marker cites) ps all))
