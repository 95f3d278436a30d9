-- The names for which fields are refused stand in the text as names of abbreviations.
use Rattle.std.proofs.Common.{◌≡◌, refl, ℕ, zero, suc, Bool, true, false, cond, All, List, [], ◌∷◌, length, get_or, Option, Some, None, Result, Ok, Err}
use Rattle.std.specs.Prelude.{IfErr, MatchResult}
use Rattle.std.proofs.lemmas.List.Elements.{All-nil, All-head, All-tail}
use Rattle.laws.specs.Runs.{AllPassTest}
use Rattle.laws.specs.Text.{text, lowered}
use Rattle.laws.proofs.Throughout.{bind_match}
use Rattle.biblatex_text.specs.Character.{is_id_continue}
use Rattle.biblatex_text.specs.Raw.{At, Piece, normal, abbreviation, Field}
use Rattle.biblatex_text.proofs.Names.{HasName, IsNamed, HasNames}
use Rattle.biblatex_content.specs.Styled.{Member}
use Rattle.biblatex_content.specs.Verbatim.{is_verbatim_name}
use Rattle.biblatex_content.specs.Ordinary.{ordinary}
use Rattle.biblatex_content.specs.Spans.{after_at}
use Rattle.biblatex_fields.specs.Month.{month}
use Rattle.biblatex_fields.specs.Abbreviations.{circular, Glossary, index_of, pieces_at, Sense, spelled, defined, month_or_unknown, sense_of, sense_in, sense}
use Rattle.biblatex_fields.specs.Refusals as refusals
use Rattle.biblatex_fields.specs.Refusals.{Refusal}
use Rattle.biblatex_fields.specs.Fields.{Named, with_field, fields_after, fields_of}
use Rattle.biblatex_fields.specs.Value.{Reading, spanned, text_read, in_order, by_sense, reading, deep, read, members_of, value_in, value_of}

-- a text that is spelled with characters of identifiers
abbrev pub IsIdentifier : List ℕ → Type 0
IsIdentifier name = (cs : List ℕ) × (name ≡ text cs) × AllPassTest is_id_continue cs

-- a name for which a field is refused is one, and no field is refused for another reason than a name or a malformed command
abbrev pub RefusesFor : refusals.Reason → Type 0
RefusesFor (refusals.unknown_abbreviation name) = IsIdentifier name
RefusesFor (refusals.abbreviation_cycle name) = IsIdentifier name
RefusesFor refusals.malformed_command = Unit {0}
RefusesFor (refusals.raw fault) = ⊥
RefusesFor (refusals.duplicate_key key) = ⊥
RefusesFor (refusals.reference_cycle key) = ⊥
RefusesFor (refusals.unreadable_date kind) = ⊥

abbrev pub RefusesName : Refusal → Type 0
RefusesName r = RefusesFor r.reason

-- a step refuses nothing else
abbrev pub RefusesNames : {A : Type 0} → Result A Refusal → Type 0
RefusesNames r = IfErr r RefusesName

-- what a piece stands for has names
abbrev SenseNamed : Sense → Type 0
SenseNamed (spelled cs) = Unit {0}
SenseNamed (defined ps) = All IsNamed ps

abbrev Whatever : {A : Type 0} → A → Type 0
Whatever x = Unit {0}

pieces_at-named : (ds : List Field) (index : ℕ) → All HasNames ds → All IsNamed (pieces_at ds index)
pieces_at-named [] index all = All-nil IsNamed
pieces_at-named (d ∷ ds) zero all = All-head HasNames d ds all
pieces_at-named (d ∷ ds) (suc index) all = pieces_at-named ds index (All-tail HasNames d ds all)

month-named : (name : At (List ℕ)) (o : Option (List ℕ)) → AllPassTest is_id_continue name.v → MatchResult (month_or_unknown name o) SenseNamed RefusesName
month-named name None is = (name.v, refl, is)
month-named name (Some text) is = tt

sense_of-named : (g : Glossary) (name : At (List ℕ)) (o : Option ℕ) → All HasNames g.definitions → AllPassTest is_id_continue name.v → MatchResult (sense_of g name o) SenseNamed RefusesName
sense_of-named g name None all is = month-named name (month (lowered name.v)) is
sense_of-named g name (Some index) all is = by_flag (get_or g.flags index false)
  where
    by_flag : (b : Bool) → MatchResult (cond b (Err (circular name)) (Ok (defined (pieces_at g.definitions index)))) SenseNamed RefusesName
    by_flag true = (name.v, refl, is)
    by_flag false = pieces_at-named g.definitions index all

sense_in-named : (g : Glossary) (start end : ℕ) (p : Piece) → All HasNames g.definitions → HasName p → MatchResult (sense_in g start end p) SenseNamed RefusesName
sense_in-named g start end (normal cs) all is = tt
sense_in-named g start end (abbreviation name) all is = sense_of-named g (record { v = name; start = start; end = end }) (index_of (lowered name) g.definitions) all is

spanned-named : {F : Type 0} (start end : ℕ) (r : Result (List (At Member)) F) → RefusesNames (spanned start end r)
spanned-named start end (Ok ms) = tt
spanned-named start end (Err f) = tt

text_read-named : (is_verbatim : Bool) (start end : ℕ) (cs : List ℕ) (done : List (At Member)) → RefusesNames (text_read is_verbatim start end cs done)
text_read-named true start end cs done = tt
text_read-named false start end cs done = spanned-named start end (after_at start end done (ordinary cs))

abbrev ReadsNamed : (At Piece → Reading) → Type 0
ReadsNamed inner = (p : At Piece) (done : List (At Member)) → IsNamed p → RefusesNames (inner p done)

in_order-named : (inner : At Piece → Reading) → ReadsNamed inner → (ps : List (At Piece)) (done : List (At Member)) → All IsNamed ps → RefusesNames (in_order inner ps done)
in_order-named inner named [] done all = tt
in_order-named inner named (p ∷ ps) done all =
    bind_match Whatever Whatever RefusesName (inner p done) (λ ms. in_order inner ps ms) (named p done (All-head IsNamed p ps all)) (λ ms _. in_order-named inner named ps ms (All-tail IsNamed p ps all))

by_sense-named : (inner : At Piece → Reading) → ReadsNamed inner → (is_verbatim : Bool) (start end : ℕ) (s : Sense) (done : List (At Member)) → SenseNamed s → RefusesNames (by_sense inner is_verbatim start end s done)
by_sense-named inner named is_verbatim start end (spelled cs) done is = text_read-named is_verbatim start end cs done
by_sense-named inner named is_verbatim start end (defined ps) done is = in_order-named inner named ps done is

deep-named : (g : Glossary) (is_verbatim : Bool) → All HasNames g.definitions → (n : ℕ) → ReadsNamed (deep (reading g is_verbatim) (λ ms. Ok ms) n)
deep-named g is_verbatim all zero p done is = tt
deep-named g is_verbatim all (suc n) p done is =
    bind_match SenseNamed Whatever RefusesName (sense g p) (λ s. by_sense (λ q. deep (reading g is_verbatim) (λ ms. Ok ms) n q) is_verbatim p.start p.end s done) (sense_in-named g p.start p.end p.v all is)
    (λ s named. by_sense-named (λ q. deep (reading g is_verbatim) (λ ms. Ok ms) n q) (λ q ms. deep-named g is_verbatim all n q ms) is_verbatim p.start p.end s done named)

read-named : (g : Glossary) (is_verbatim : Bool) → All HasNames g.definitions → ReadsNamed (read g is_verbatim)
unfolding read
read-named g is_verbatim all p done is = deep-named g is_verbatim all (suc (length g.definitions)) p done is

value_of-named : (g : Glossary) (f : Field) → All HasNames g.definitions → HasNames f → RefusesNames (value_of g f)
unfolding value_in
value_of-named g f all named =
    bind_match Whatever Whatever RefusesName (members_of g f.name.v f.value.v) _ (in_order-named (read g (is_verbatim_name (lowered f.name.v))) (read-named g (is_verbatim_name (lowered f.name.v)) all) f.value.v [] named) (λ ms _. tt)

fields_after-named : (g : Glossary) (done : List Named) (fs : List Field) → All HasNames g.definitions → All HasNames fs → RefusesNames (fields_after g done fs)
fields_after-named g done [] all named = tt
fields_after-named g done (f ∷ fs) all named =
    bind_match Whatever Whatever RefusesName (value_of g f) (λ value. fields_after g (with_field done (lowered f.name.v) value) fs) (value_of-named g f all (All-head HasNames f fs named))
    (λ value _. fields_after-named g (with_field done (lowered f.name.v) value) fs all (All-tail HasNames f fs named))

-- the fields of an entry are refused for names of abbreviations in the text alone
pub fields_of-named : (g : Glossary) (fs : List Field) → All HasNames g.definitions → All HasNames fs → RefusesNames (fields_of g fs)
fields_of-named g fs all named = fields_after-named g [] fs all named
