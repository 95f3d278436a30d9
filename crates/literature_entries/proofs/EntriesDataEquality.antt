-- Entries are equal exactly where the view of them is one.
use Rattle.std.specs.Global.{Global}
use Rattle.std.proofs.Common.{◌≡◌, ℕ, zero, suc, ◌≤◌, Bool, true, false, List, [], ◌∷◌, map, Vec, ◌&&◌, refl, sym, ap, ◌∙◌, string_bytes, string_eq, true≢false, arith, rules}
use Rattle.std.specs.Bool.{Decides}
use Rattle.std.specs.Cmp.Lexicographic.{bytes_decides, pointwise}
use Rattle.std.specs.Option.{option_eq, option_map}
use Rattle.std.proofs.lemmas.Bool.Decides.{Decides-and, Decides-at}
use denote.Enum.Bare.{same_true, true_same}
use Rattle.laws.specs.Equality.{Shows}
use Rattle.laws.proofs.Equality.{Decides-moved, Decides-never, Shows-options, Shows-options_themselves, Shows-lists, Shows-pairs}
use Rattle.literature_values.specs.contracts.entry_type.EntryType.{the_type}
use Rattle.literature_values.specs.contracts.entry_type.EntryTypePartialEq.TheImpl as types
use Rattle.literature_numbers.specs.PageViews.{pages_view}
use Rattle.literature_numbers.specs.Views.{numeral_view}
use Rattle.literature_numbers.specs.contracts.numeric.Numeric.{the_row as numeric_row}
use Rattle.literature_numbers.specs.contracts.numeric.NumericPartialEq.TheImpl as numeric
use Rattle.literature_numbers.specs.contracts.page_ranges.PageRanges.{the_row as pages_row}
use Rattle.literature_numbers.specs.contracts.page_ranges.PageRangesPartialEq.TheImpl as page_ranges
use Rattle.literature_values.specs.contracts.date.DatePartialEq.TheImpl as date
use Rattle.literature_values.proofs.DatesEquality.{Shows-Date}
use Rattle.literature_values.specs.OtherViews.{address_view}
use Rattle.literature_values.specs.PersonViews.{person_view}
use Rattle.literature_values.specs.TextViews.{format_view as text, publishing_view}
use Rattle.literature_values.specs.TypedViews.{typed_view}
use Rattle.literature_values.specs.contracts.maybe_typed.MaybeTypedPartialEq.TheImpl as maybe_typed
use Rattle.literature_values.specs.contracts.person.PersonPartialEq.TheImpl as one_person
use Rattle.literature_values.specs.contracts.publisher.PublisherPartialEq.TheImpl as publisher
use Rattle.literature_values.specs.contracts.qualified_url.QualifiedUrlPartialEq.TheImpl as url
use Rattle.literature_values.specs.contracts.serial_number.SerialNumberPartialEq.TheImpl as serial_number
use Rattle.literature_values.specs.contracts.text.FormatStringPartialEq.TheImpl as format
use Rattle.literature_values.specs.declared.person.Person.{Person}
use Rattle.literature_values.proofs.Equality.{Shows-FormatString, Shows-Publisher, Shows-Person, Shows-QualifiedUrl, Shows-MaybeTyped-Numeric, Shows-MaybeTyped-PageRanges}
use Rattle.literature_entries.specs.Ancestors.{height, levels}
use Rattle.literature_entries.specs.Fields.{Fields}
use Rattle.literature_entries.specs.Views.{people_view, serials_view, details_view, key_view, fields_view, parents}
use Rattle.literature_entries.specs.EntriesData.{EntryData, EntriesData, Holding, nothing, before, wholes, entry_view}
use Rattle.literature_entries.specs.contracts.entry.EntryPartialEq.TheImpl as entry
use Rattle.literature_entries.specs.contracts.entry.EntryPartialEq.TheImpl.Laws.{is as eq_is}
use Rattle.literature_entries.specs.declared.entry.Entry.{Entry, out-Entry, the_lemmas}
use Rattle.literature_entries.proofs.AncestorsWalks.{height_is}
use Rattle.literature_entries.specs.contracts.details.DetailsPartialEq.TheImpl as own

-- types are plain data
Shows-Type : Shows types.ghosts.eq (λ t. t)
Shows-Type t u = (same_true the_type (search rules) t u, true_same the_type t u)

titles : Shows (option_eq format.ghosts.eq) (option_map text)
titles = Shows-options format.ghosts.eq text Shows-FormatString

publishers : Shows (option_eq publisher.ghosts.eq) (option_map publishing_view)
publishers = Shows-options publisher.ghosts.eq publishing_view Shows-Publisher

dates : Shows (option_eq date.ghosts.eq) (λ d. d)
dates = Shows-options_themselves date.ghosts.eq Shows-Date

numbers_or_texts : Shows (option_eq (maybe_typed.ghosts numeric_row numeric.ghosts numeric.dict).eq) (option_map (typed_view numeral_view))
numbers_or_texts = Shows-options (maybe_typed.ghosts numeric_row numeric.ghosts numeric.dict).eq (typed_view numeral_view) Shows-MaybeTyped-Numeric

pages_or_texts : Shows (option_eq (maybe_typed.ghosts pages_row page_ranges.ghosts page_ranges.dict).eq) (option_map (typed_view pages_view))
pages_or_texts = Shows-options (maybe_typed.ghosts pages_row page_ranges.ghosts page_ranges.dict).eq (typed_view pages_view) Shows-MaybeTyped-PageRanges

addresses : Shows (option_eq url.ghosts.eq) (option_map address_view)
addresses = Shows-options url.ghosts.eq address_view Shows-QualifiedUrl

Shows-bytes : Shows (string_eq {Z = Global}) string_bytes
Shows-bytes s t = bytes_decides (string_bytes s) (string_bytes t)

languages : Shows (option_eq (string_eq {Z = Global})) (option_map string_bytes)
languages = Shows-options string_eq string_bytes Shows-bytes

Shows-serials : Shows serial_number.ghosts.eq serials_view
Shows-serials s t =
    Shows-lists (λ p q. string_eq p.0 q.0 && string_eq p.1 q.1) (λ p. (string_bytes p.0, string_bytes p.1))
    (Shows-pairs string_eq string_bytes string_eq string_bytes Shows-bytes Shows-bytes) s.0.entries t.0.entries

serial_numbers : Shows (option_eq serial_number.ghosts.eq) (option_map serials_view)
serial_numbers = Shows-options serial_number.ghosts.eq serials_view Shows-serials

abbrev same_people : Vec Person Global → Vec Person Global → Bool
same_people v w = pointwise one_person.ghosts.eq v.items w.items

Shows-people : Shows same_people (λ v. people_view v.items)
Shows-people v w = Shows-lists one_person.ghosts.eq person_view Shows-Person v.items w.items

lists : Shows (option_eq same_people) (option_map (λ v. people_view v.items))
lists = Shows-options same_people (λ v. people_view v.items) Shows-people

-- two facts together are decided where each is
both : {b c : Bool} {P R : Type 0} → Decides b P → Decides c R → Decides (b && c) (P × R)
both {b} {c} d e = Decides-and b c d e

pub Shows-Details : Shows own.ghosts.eq details_view
Shows-Details a b =
    Decides-moved (own.ghosts.eq a b)
    (both (Shows-Type a.entry_type b.entry_type)
    (both (titles a.title b.title)
    (both (lists a.author b.author)
    (both (lists a.editor b.editor)
    (both (lists a.translator b.translator)
    (both (dates a.date b.date)
    (both (publishers a.publisher b.publisher)
    (both (numbers_or_texts a.volume b.volume)
    (both (numbers_or_texts a.volume_total b.volume_total)
    (both (numbers_or_texts a.issue b.issue)
    (both (numbers_or_texts a.chapter b.chapter)
    (both (numbers_or_texts a.edition b.edition)
    (both (pages_or_texts a.page_range b.page_range)
    (both (numbers_or_texts a.page_total b.page_total)
    (both (addresses a.url b.url)
    (both (serial_numbers a.serial_number b.serial_number)
    (both (titles a.note b.note)
    (both (languages a.language b.language)
    (serial_numbers a.written b.written)))))))))))))))))))
    (λ e i. record {
      entry_type = e.0 i;
      title = e.1.0 i;
      author = e.1.1.0 i;
      editor = e.1.1.1.0 i;
      translator = e.1.1.1.1.0 i;
      date = e.1.1.1.1.1.0 i;
      publisher = e.1.1.1.1.1.1.0 i;
      volume = e.1.1.1.1.1.1.1.0 i;
      volume_total = e.1.1.1.1.1.1.1.1.0 i;
      issue = e.1.1.1.1.1.1.1.1.1.0 i;
      chapter = e.1.1.1.1.1.1.1.1.1.1.0 i;
      edition = e.1.1.1.1.1.1.1.1.1.1.1.0 i;
      page_range = e.1.1.1.1.1.1.1.1.1.1.1.1.0 i;
      page_total = e.1.1.1.1.1.1.1.1.1.1.1.1.1.0 i;
      url = e.1.1.1.1.1.1.1.1.1.1.1.1.1.1.0 i;
      serial_number = e.1.1.1.1.1.1.1.1.1.1.1.1.1.1.1.0 i;
      note = e.1.1.1.1.1.1.1.1.1.1.1.1.1.1.1.1.0 i;
      language = e.1.1.1.1.1.1.1.1.1.1.1.1.1.1.1.1.1.0 i;
      written = e.1.1.1.1.1.1.1.1.1.1.1.1.1.1.1.1.1.1 i;
    })
    (λ e. (ap (λ f. f.entry_type) e, (ap (λ f. f.title) e, (ap (λ f. f.author) e, (ap (λ f. f.editor) e, (ap (λ f. f.translator) e, (ap (λ f. f.date) e, (ap (λ f. f.publisher) e, (ap (λ f. f.volume) e, (ap (λ f. f.volume_total) e, (ap (λ f. f.issue) e, (ap (λ f. f.chapter) e, (ap (λ f. f.edition) e, (ap (λ f. f.page_range) e, (ap (λ f. f.page_total) e, (ap (λ f. f.url) e, (ap (λ f. f.serial_number) e, (ap (λ f. f.note) e, (ap (λ f. f.language) e, (ap (λ f. f.written) e))))))))))))))))))))

-- an entry holds its key, its fields and its parents
whole_is : (e : Entry) → entry_view e ≡ Holding (key_view e) (fields_view e) (wholes (map entry_view (parents e)))
whole_is e = search (rules, the_lemmas)

-- what `==` compares of two entries, with `==` of their parents
abbrev same_level : Entry → Entry → Bool
same_level e y = string_eq (out-Entry e).key (out-Entry y).key && (own.ghosts.eq (out-Entry e).details (out-Entry y).details && pointwise entry.ghosts.eq (parents e) (parents y))

same_is : (e y : Entry) → entry.ghosts.eq e y ≡ same_level e y
same_is e y = eq_is e y

-- the parts of what an entry holds
abbrev key_of : EntryData → List ℕ
key_of (Holding k fs ps) = k

abbrev fields_of : EntryData → Fields
fields_of (Holding k fs ps) = fs

abbrev parents_of : EntryData → EntriesData
parents_of (Holding k fs ps) = ps

abbrev is_some : EntriesData → Bool
is_some nothing = false
is_some (before w ws) = true

abbrev first_or : EntryData → EntriesData → EntryData
first_or w nothing = w
first_or w (before v vs) = v

abbrev others : EntriesData → EntriesData
others nothing = nothing
others (before v vs) = vs

-- what is decided of each entry is decided of lists of them
decided_each : (n : ℕ) → ((e y : Entry) → height e ≤ n → Decides (entry.ghosts.eq e y) (entry_view e ≡ entry_view y))
    → (es ys : List Entry) → levels es ≤ n → Decides (pointwise entry.ghosts.eq es ys) (wholes (map entry_view es) ≡ wholes (map entry_view ys))
decided_each n one [] [] h = (λ e. refl, λ e. refl)
decided_each n one [] (y ∷ ys) h = Decides-never (λ e. true≢false (sym (ap is_some e)))
decided_each n one (e ∷ es) [] h = Decides-never (λ e. true≢false (ap is_some e))
decided_each n one (e ∷ es) (y ∷ ys) h =
    Decides-moved (entry.ghosts.eq e y && pointwise entry.ghosts.eq es ys) (both (one e y (omega (arith, h))) (decided_each n one es ys (omega (arith, h))))
    (λ p i. before (p.0 i) (p.1 i)) (λ p. (ap (first_or (entry_view e)) p, ap others p))

-- `==` decides of entries that are at most so many levels high
decided : (n : ℕ) (e y : Entry) → height e ≤ n → Decides (entry.ghosts.eq e y) (entry_view e ≡ entry_view y)
decided zero e y h = let own = height_is e in absurd (omega (arith, own, h))
decided (suc n) e y h =
    let up = height_is e in
    let parts = both (Shows-bytes (out-Entry e).key (out-Entry y).key) (both (Shows-Details (out-Entry e).details (out-Entry y).details) (decided_each n (decided n) (parents e) (parents y) (omega (arith, up, h)))) in
    Decides-at (entry.ghosts.eq e y) (same_level e y) (same_is e y)
    (Decides-moved (same_level e y) parts (λ p. whole_is e ∙ (λ i. Holding (p.0 i) (p.1.0 i) (p.1.1 i)) ∙ sym (whole_is y))
    (λ p. let q = sym (whole_is e) ∙ p ∙ whole_is y in (ap key_of q, (ap fields_of q, ap parents_of q))))

-- `==` decides of all entries
pub Shows-Entry : Shows entry.ghosts.eq entry_view
Shows-Entry e y = decided (height e) e y (omega arith)
