-- Values are equal exactly where the view of them is one.
use Rattle.std.proofs.Common.{ℕ, Bool, true, false, ◌&&◌, List, [], string_eq, sym, ap, rules}
use denote.Enum.Bare.{same_true, true_same}
use Rattle.std.specs.Option.{option_eq, option_map}
use Rattle.std.proofs.lemmas.Bool.Decides.{Decides-and}
use Rattle.laws.specs.Equality.{Shows}
use Rattle.laws.proofs.Equality.{Decides-moved, Decides-never, Shows-strings, Shows-options, Shows-options_themselves, Shows-lists, Shows-pairs}
use Rattle.literature_numbers.specs.Views.{numeral_view}
use Rattle.laws.specs.Text.{characters}
use Rattle.literature_values.specs.TextViews.{chunk_view, chunks_view, format_view, publishing_view}
use Rattle.literature_values.specs.PersonViews.{person_view}
use Rattle.std.proofs.lemmas.Bool.{true≢false}
use denote.RattleType.{RattleType}
use mir.Syntax.{Dict}
use Rattle.std.specs.declared.cmp.PartialEq.{Ghosts}
use Rattle.std.specs.Cmp.Lexicographic.{bytes_decides}
use Rattle.literature_numbers.specs.PageViews.{pages_view}
use Rattle.literature_numbers.specs.contracts.numeric.Numeric.{the_row as numeric_row}
use Rattle.literature_numbers.specs.contracts.numeric.NumericPartialEq.TheImpl as numeric
use Rattle.literature_numbers.specs.contracts.page_ranges.PageRanges.{the_row as pages_row}
use Rattle.literature_numbers.specs.contracts.page_ranges.PageRangesPartialEq.TheImpl as page_ranges
use Rattle.literature_numbers.proofs.Equality.{Shows-Numeric, Shows-PageRanges}
use Rattle.url.specs.Parts.{serialize}
use Rattle.url.specs.contracts.Url.{the_row}
use Rattle.url.specs.contracts.traits.UrlPartialEq.TheImpl as url
use Rattle.literature_values.specs.contracts.date.DatePartialEq.TheImpl as date
use Rattle.literature_values.proofs.DatesEquality.{Shows-Date}
use Rattle.literature_values.specs.TypedViews.{ValueOrText, Value, Text, typed_view}
use Rattle.literature_values.specs.declared.maybe_typed.MaybeTyped.TheVariants as typed
use Rattle.literature_values.specs.OtherViews.{address_view, serial_numbers_view}
use Rattle.literature_values.specs.contracts.text.ChunkKind.{the_type}
use Rattle.literature_values.specs.contracts.text.ChunkKindPartialEq.TheImpl as chunk_kind
use Rattle.literature_values.specs.contracts.text.StringChunkPartialEq.TheImpl as string_chunk
use Rattle.literature_values.specs.contracts.text.ChunkedStringPartialEq.TheImpl as chunked_string
use Rattle.literature_values.specs.contracts.text.FormatStringPartialEq.TheImpl as format_string
use Rattle.literature_values.specs.contracts.publisher.PublisherPartialEq.TheImpl as publisher
use Rattle.literature_values.specs.contracts.person.PersonPartialEq.TheImpl as one_person
use Rattle.literature_values.specs.contracts.maybe_typed.MaybeTypedPartialEq.TheImpl as maybe_typed
use Rattle.literature_values.specs.contracts.serial_number.SerialNumberPartialEq.TheImpl as serial_number
use Rattle.literature_values.specs.contracts.qualified_url.QualifiedUrlPartialEq.TheImpl as qualified_url

-- kinds are plain data
pub Shows-ChunkKind : Shows chunk_kind.ghosts.eq (λ k. k)
Shows-ChunkKind k l = (same_true the_type (search rules) k l, true_same the_type k l)

pub Shows-StringChunk : Shows string_chunk.ghosts.eq chunk_view
Shows-StringChunk a b =
    Decides-moved (string_chunk.ghosts.eq a b) (Decides-and (string_eq a.value b.value) (chunk_kind.ghosts.eq a.kind b.kind) (Shows-strings a.value b.value) (Shows-ChunkKind a.kind b.kind))
    (λ p i. record { value = p.0 i; kind = p.1 i }) (λ e. (ap (λ v. v.value) e, ap (λ v. v.kind) e))

pub Shows-ChunkedString : Shows chunked_string.ghosts.eq chunks_view
Shows-ChunkedString a b = Shows-lists string_chunk.ghosts.eq chunk_view Shows-StringChunk a.0.items b.0.items

pub Shows-FormatString : Shows format_string.ghosts.eq format_view
Shows-FormatString a b =
    Decides-moved (format_string.ghosts.eq a b)
    (Decides-and (chunked_string.ghosts.eq a.value b.value) (option_eq chunked_string.ghosts.eq a.short b.short) (Shows-ChunkedString a.value b.value) (Shows-options chunked_string.ghosts.eq chunks_view Shows-ChunkedString a.short b.short))
    (λ p i. record { value = p.0 i; short = p.1 i }) (λ e. (ap (λ v. v.value) e, ap (λ v. v.short) e))

pub Shows-Publisher : Shows publisher.ghosts.eq publishing_view
Shows-Publisher p q =
    Decides-moved (publisher.ghosts.eq p q)
    (Decides-and (option_eq format_string.ghosts.eq p.name q.name) (option_eq format_string.ghosts.eq p.location q.location)
    (Shows-options format_string.ghosts.eq format_view Shows-FormatString p.name q.name) (Shows-options format_string.ghosts.eq format_view Shows-FormatString p.location q.location))
    (λ e i. record { name = e.0 i; location = e.1 i }) (λ e. (ap (λ v. v.name) e, ap (λ v. v.location) e))

texts : Shows (option_eq string_eq) (option_map characters)
texts = Shows-options string_eq characters Shows-strings

pub Shows-Person : Shows one_person.ghosts.eq person_view
Shows-Person p q =
    let affixes = Decides-and (option_eq string_eq p.prefix q.prefix) (option_eq string_eq p.suffix q.suffix) (texts p.prefix q.prefix) (texts p.suffix q.suffix) in
    let following = Decides-and (option_eq string_eq p.given_name q.given_name) (option_eq string_eq p.prefix q.prefix && option_eq string_eq p.suffix q.suffix) (texts p.given_name q.given_name) affixes in
    Decides-moved (one_person.ghosts.eq p q)
    (Decides-and (string_eq p.name q.name) (option_eq string_eq p.given_name q.given_name && (option_eq string_eq p.prefix q.prefix && option_eq string_eq p.suffix q.suffix)) (Shows-strings p.name q.name) following)
    (λ e i. record { name = e.0 i; given_name = e.1.0 i; prefix = e.1.1.0 i; suffix = e.1.1.1 i })
    (λ e. (ap (λ v. v.name) e, (ap (λ v. v.given_name) e, (ap (λ v. v.prefix) e, ap (λ v. v.suffix) e))))

pub Shows-SerialNumber : Shows serial_number.ghosts.eq serial_numbers_view
Shows-SerialNumber s t =
    Shows-lists (λ p q. string_eq p.0 q.0 && string_eq p.1 q.1) (λ p. (characters p.0, characters p.1))
    (Shows-pairs string_eq characters string_eq characters Shows-strings Shows-strings) s.0.entries t.0.entries

-- a text is no value
abbrev is_text : {V : Type 0} → ValueOrText V → Bool
is_text (Value v) = false
is_text (Text cs) = true

abbrev value_or : {V : Type 0} → V → ValueOrText V → V
value_or v (Value w) = w
value_or v (Text cs) = v

abbrev text_of : {V : Type 0} → ValueOrText V → List ℕ
text_of (Value v) = []
text_of (Text cs) = cs

-- `==` of values that may be texts decides of them where it does of values
pub Shows-MaybeTyped : (T : RattleType) (g : Ghosts T.Denot) (d : Dict) {V : Type 0} (view : T.Denot → V) → Shows g.eq view → Shows ((maybe_typed.ghosts T g d).eq) (typed_view view)
Shows-MaybeTyped T g d view s (typed.Typed v) (typed.Typed w) = Decides-moved (g.eq v w) (s v w) (ap Value) (ap (value_or (view v)))
Shows-MaybeTyped T g d view s (typed.Typed v) (typed.String t) = Decides-never (λ e. true≢false (sym (ap is_text e)))
Shows-MaybeTyped T g d view s (typed.String r) (typed.Typed w) = Decides-never (λ e. true≢false (ap is_text e))
Shows-MaybeTyped T g d view s (typed.String r) (typed.String t) = Decides-moved (string_eq r t) (Shows-strings r t) (ap Text) (ap text_of)

-- an address that can be read is viewed as it is written
pub Shows-MaybeTyped-Url : Shows ((maybe_typed.ghosts the_row url.ghosts url.dict).eq) (typed_view serialize)
Shows-MaybeTyped-Url = Shows-MaybeTyped the_row url.ghosts url.dict serialize (λ a b. bytes_decides (serialize a) (serialize b))

pub Shows-QualifiedUrl : Shows qualified_url.ghosts.eq address_view
Shows-QualifiedUrl a b =
    Decides-moved (qualified_url.ghosts.eq a b)
    (Decides-and ((maybe_typed.ghosts the_row url.ghosts url.dict).eq a.value b.value) (option_eq date.ghosts.eq a.visit_date b.visit_date)
    (Shows-MaybeTyped-Url a.value b.value) (Shows-options_themselves date.ghosts.eq Shows-Date a.visit_date b.visit_date))
    (λ e i. record { value = e.0 i; visit_date = e.1 i }) (λ e. (ap (λ v. v.value) e, ap (λ v. v.visit_date) e))

pub Shows-MaybeTyped-Numeric : Shows ((maybe_typed.ghosts numeric_row numeric.ghosts numeric.dict).eq) (typed_view numeral_view)
Shows-MaybeTyped-Numeric = Shows-MaybeTyped numeric_row numeric.ghosts numeric.dict numeral_view Shows-Numeric

pub Shows-MaybeTyped-PageRanges : Shows ((maybe_typed.ghosts pages_row page_ranges.ghosts page_ranges.dict).eq) (typed_view pages_view)
Shows-MaybeTyped-PageRanges = Shows-MaybeTyped pages_row page_ranges.ghosts page_ranges.dict pages_view Shows-PageRanges
