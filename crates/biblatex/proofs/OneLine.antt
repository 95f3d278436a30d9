-- What a text is refused for goes on one line, and so do the keys of its entries.
use Rattle.std.proofs.Common.{◌≡◌, ℕ, zero, suc, Bool, true, false, All, List, [], ◌∷◌, map, slice_get, Option, Some, None, Result, Ok, Err, codes, refl, sym, subst}
use Rattle.std.specs.Prelude.{IfOk, MatchResult, is_some}
use Rattle.std.specs.Option.{option_map}
use Rattle.std.proofs.lemmas.List.Elements.{All-nil, All-cons, All-head, All-tail, All-push, All-map}
use Rattle.laws.specs.Results.{◌>>=◌}
use Rattle.laws.specs.Text.{text}
use Rattle.laws.proofs.Throughout.{bind_match}
use Rattle.biblatex_text.specs.Character.{is_id_continue, is_key}
use Rattle.biblatex_text.specs.Raw.{At, Entry, Raw}
use Rattle.biblatex_text.specs.Items.{raw_of}
use Rattle.biblatex_text.specs.Token.{token_name}
use Rattle.biblatex_text.specs.declared.token.Token.{Token}
use Rattle.biblatex_text.specs.declared.token.Token.TheVariants as tokens
use Rattle.biblatex_text.specs.declared.token.Fault.{Fault}
use Rattle.biblatex_text.specs.declared.token.Fault.TheVariants as faults
use Rattle.biblatex_text.proofs.Names.{HasNames, HasKey, IsKeyed, AreKeyed, raw-keyed}
use Rattle.biblatex_fields.specs.Abbreviations.{Glossary}
use Rattle.biblatex_fields.specs.Fields.{Named, fields_of}
use Rattle.biblatex_fields.specs.Refusals as refusals
use Rattle.biblatex_fields.proofs.NamesRefused.{IsIdentifier, RefusesFor, RefusesName, RefusesNames, fields_of-named}
use Rattle.biblatex_entries.specs.Entries.{Source}
use Rattle.biblatex_entries.specs.TypeNames.{TypeName}
use Rattle.biblatex_dates.specs.declared.error.TypeErrorKind.{TypeErrorKind}
use Rattle.biblatex_inheritance.specs.declared.error.ResolveError.{ResolveError}
use Rattle.biblatex_inheritance.specs.declared.error.ResolveError.TheVariants as errors
use Rattle.biblatex_meaning.specs.Listed.{Listed}
use Rattle.biblatex_meaning.specs.Reading.{reference_cycle, unreadable_date, Refusal, refused_at, Loaded, nothing_loaded, source_of, unless_known, entry_after, entries_after, loaded}
use Rattle.biblatex_meaning.specs.Resolved.{head, unresolved_at, ComesTo, Means, IsMeaningOf, IsTextMeaningOf, TextMeans}
use Rattle.biblatex.specs.Errors.{fault_text, reason_text}
use Rattle.biblatex.specs.Lines.{HasNoLineFeed}
use Rattle.biblatex.proofs.Lines.{append, passing, spelled}

-- the message for a refusal goes on one line
abbrev pub HasLineMessage : Refusal → Type 0
HasLineMessage r = HasNoLineFeed (reason_text r.reason)

-- and so does the key of an entry
abbrev pub HasPlainKey : Source → Type 0
HasPlainKey e = HasNoLineFeed e.key

abbrev IsPlainKey : At (List ℕ) → Type 0
IsPlainKey key = HasNoLineFeed (text key.v)

record HavePlainKeys (l : Loaded) : Type 0 where
  pub keys : All IsPlainKey l.keys
  pub entries : All HasPlainKey l.listed.entries

abbrev pub FilePlain : Listed → Type 0
FilePlain file = All HasPlainKey file.entries

token-plain : (token : Token) → HasNoLineFeed (token_name token)
token-plain tokens.Identifier = refl
token-plain tokens.OpeningBrace = refl
token-plain tokens.ClosingBrace = refl
token-plain tokens.Comma = refl
token-plain tokens.QuotationMark = refl
token-plain tokens.Equals = refl
token-plain tokens.DecimalPoint = refl

fault-plain : (fault : Fault) → HasNoLineFeed (fault_text fault)
fault-plain faults.UnexpectedEof = refl
fault-plain (faults.Unexpected token) = append (codes "unexpected ") (token_name token) refl (token-plain token)
fault-plain (faults.Expected token) = append (codes "expected ") (token_name token) refl (token-plain token)

identifier-plain : (name : List ℕ) → IsIdentifier name → HasNoLineFeed name
identifier-plain name (cs, same, is) = subst HasNoLineFeed (sym same) (spelled cs (passing is_id_continue cs refl is))

reason-plain : (r : refusals.Reason) → RefusesFor r → HasNoLineFeed (reason_text r)
reason-plain (refusals.unknown_abbreviation name) is = append (codes "unknown abbreviation ") name refl (identifier-plain name is)
reason-plain (refusals.abbreviation_cycle name) is = append (codes "circular abbreviation ") name refl (identifier-plain name is)
reason-plain refusals.malformed_command is = refl
reason-plain (refusals.raw fault) is = absurd is
reason-plain (refusals.duplicate_key key) is = absurd is
reason-plain (refusals.reference_cycle key) is = absurd is
reason-plain (refusals.unreadable_date kind) is = absurd is

field-plain : (r : Refusal) → RefusesName r → HasLineMessage r
field-plain r is = reason-plain r.reason is

entry-plain : (g : Glossary) (l : Loaded) (e : Entry) → All HasNames g.definitions → HavePlainKeys l → HasKey e → MatchResult (entry_after g l e) HavePlainKeys HasLineMessage
entry-plain g l e all plain keyed = by_fields (fields_of g e.fields) (fields_of-named g e.fields all keyed.1)
  where
    key : HasNoLineFeed (text e.key.v)
    key = spelled e.key.v (passing is_key e.key.v refl keyed.0)

    by_known : (fs : List Named) (b : Bool) → MatchResult (unless_known b l e.key (source_of e fs)) HavePlainKeys HasLineMessage
    by_known fs true = append (codes "duplicate key ") (text e.key.v) refl key
    by_known fs false = record { keys = All-push IsPlainKey l.keys e.key plain.keys key; entries = All-push HasPlainKey l.listed.entries (source_of e fs) plain.entries key }

    by_fields : (r : Result (List Named) Refusal) → RefusesNames r → MatchResult (r >>= λ fs. unless_known (is_some (l.listed.index (text e.key.v))) l e.key (source_of e fs)) HavePlainKeys HasLineMessage
    by_fields (Ok fs) is = by_known fs (is_some (l.listed.index (text e.key.v)))
    by_fields (Err r) is = field-plain r is

entries-plain : (g : Glossary) (l : Loaded) (es : List (At Entry)) → All HasNames g.definitions → HavePlainKeys l → All IsKeyed es → MatchResult (entries_after g l es) HavePlainKeys HasLineMessage
entries-plain g l [] all plain keyed = plain
entries-plain g l (e ∷ es) all plain keyed =
    bind_match HavePlainKeys HavePlainKeys HasLineMessage (entry_after g l e.v) (λ more. entries_after g more es) (entry-plain g l e.v all plain (All-head IsKeyed e es keyed))
    (λ more fine. entries-plain g more es all fine (All-tail IsKeyed e es keyed))

loaded-plain : (g : Glossary) (es : List (At Entry)) → All HasNames g.definitions → All IsKeyed es → MatchResult (loaded g es) HavePlainKeys HasLineMessage
loaded-plain g es all keyed = entries-plain g nothing_loaded es all (record { keys = All-nil IsPlainKey; entries = All-nil HasPlainKey }) keyed

some_is : {X : Type 0} (x y : X) → Some x ≡ Some y → x ≡ y
some_is x y e = cc

at_index : (keys : List (At (List ℕ))) (n : ℕ) (key : At (List ℕ)) → slice_get keys n ≡ Some key → All IsPlainKey keys → IsPlainKey key
at_index [] n key e all = absurd cc
at_index (k ∷ ks) zero key e all = subst IsPlainKey (some_is k key e) (All-head IsPlainKey k ks all)
at_index (k ∷ ks) (suc n) key e all = at_index ks n key e (All-tail IsPlainKey k ks all)

cycle-plain : (keys : List (At (List ℕ))) (n : ℕ) (r : Refusal) (o : Option (At (List ℕ))) → All IsPlainKey keys → slice_get keys n ≡ o
    → option_map (λ key. refused_at key (reference_cycle (text key.v))) o ≡ Some r → HasLineMessage r
cycle-plain keys n r None all is e = absurd cc
cycle-plain keys n r (Some key) all is e = subst HasLineMessage (some_is (refused_at key (reference_cycle (text key.v))) r e) (append (codes "circular reference ") (text key.v) refl (at_index keys n key is all))

date-plain : (kind : TypeErrorKind) (r : Refusal) (o : Option (At (List ℕ))) → option_map (λ key. refused_at key (unreadable_date kind)) o ≡ Some r → HasLineMessage r
date-plain kind r None e = absurd cc
date-plain kind r (Some key) e = subst HasLineMessage (some_is (refused_at key (unreadable_date kind)) r e) refl

unresolved-plain : (keys : List (At (List ℕ))) (error : ResolveError) (r : Refusal) → All IsPlainKey keys → unresolved_at keys error ≡ Some r → HasLineMessage r
unresolved-plain keys errors.Memory r all e = absurd cc
unresolved-plain keys (errors.ReferenceCycle n) r all e = cycle-plain keys n r (slice_get keys n) all refl e
unresolved-plain keys (errors.UnreadableDate f) r all e = date-plain f.kind r (slice_get keys f.reference) e

-- entries keep their keys
abbrev HeadPlain : List ℕ × TypeName → Type 0
HeadPlain h = HasNoLineFeed h.0

of_heads : (es : List Source) → All HeadPlain (map head es) → All HasPlainKey es
of_heads [] all = All-nil HasPlainKey
of_heads (e ∷ es) all = All-cons HasPlainKey e es (All-head HeadPlain (head e) (map head es) all) (of_heads es (All-tail HeadPlain (head e) (map head es) all))

comes-plain : (read : Loaded) (answer : Result Listed Refusal) → HavePlainKeys read → ComesTo read answer → MatchResult answer FilePlain HasLineMessage
comes-plain read (Ok resolved) plain comes = of_heads resolved.entries (subst (All HeadPlain) (sym comes.heads) (All-map HeadPlain head read.listed.entries plain.entries))
comes-plain read (Err r) plain comes = unresolved-plain read.keys comes.error r plain.keys comes.refusal

means-plain : (x : Result Loaded Refusal) (answer : Result Listed Refusal) → MatchResult x HavePlainKeys HasLineMessage → Means x answer → MatchResult answer FilePlain HasLineMessage
means-plain (Ok read) answer plain means = comes-plain read answer plain means.1
means-plain (Err r) answer plain means = subst (λ (a : Result Listed Refusal). MatchResult a FilePlain HasLineMessage) (sym means) plain

meaning-plain : (r : Raw) (answer : Result Listed Refusal) → AreKeyed r → IsMeaningOf r answer → MatchResult answer FilePlain HasLineMessage
meaning-plain r answer keyed m =
    let all : All HasNames m.glossary.definitions = subst (All HasNames) (sym m.definitions) keyed.abbreviations in
    means-plain (loaded m.glossary r.entries) answer (loaded-plain m.glossary r.entries all keyed.entries) m.means

-- the keys of what a text means go on one line, or the message for its refusal does
pub text-plain : (cs : List ℕ) (answer : Result Listed Refusal) → TextMeans cs answer → MatchResult answer FilePlain HasLineMessage
text-plain cs answer means = by_raw (raw_of cs) (raw-keyed cs) means
  where
    by_raw : (x : Result Raw (Fault × ℕ)) → IfOk x AreKeyed → IsTextMeaningOf x answer → MatchResult answer FilePlain HasLineMessage
    by_raw (Ok r) keyed means = meaning-plain r answer keyed means
    by_raw (Err f) keyed is = subst (λ (a : Result Listed Refusal). MatchResult a FilePlain HasLineMessage) (sym is) (fault-plain f.0)
