-- What an entry says once its fields have been set.
use Rattle.std.specs.Option.{option_map, option_or}
use Rattle.std.proofs.Common.{◌≡◌, ℕ, Bool, List, refl, ap, ◌∙◌, Option, Some, None, codes}
use Rattle.literature_values.specs.declared.entry_type.EntryType.{EntryType}
use Rattle.literature_numbers.specs.Numerics.{Numeral}
use Rattle.literature_numbers.specs.Pages.{Part}
use Rattle.literature_values.specs.OtherViews.{Address}
use Rattle.literature_values.specs.PersonViews.{Named}
use Rattle.literature_values.specs.TextViews.{Format, Publishing}
use Rattle.literature_values.specs.TypedViews.{ValueOrText}
use Rattle.literature_values.specs.declared.date.Date.{Date}
use Rattle.literature_entries.specs.Fields.{Fields, nothing_but}
use Rattle.interop_values.specs.Values.{Values}
use Rattle.interop.specs.Fields.{own_fields, own_texts, container_fields, container_texts, also, issue_of, issue_text, series_number, is_periodical}
use Rattle.interop_values.specs.Readings.{title_of, format_under, people_under, number_under, pages_under, bytes_under, publisher_of, own_date, date_under, date_if_read, address_of}
use Rattle.interop.specs.Views.{IsBare}
use Rattle.interop.proofs.ViewsEntries.{before_none}

-- what comes before a field that is not there
set_first : {V : Type 0} (x old wanted : Option V) → old ≡ None → x ≡ wanted → option_or x old ≡ wanted
set_first x old wanted bare e = ap (option_or x) bare ∙ (before_none x ∙ e)

abbrev pub put_title : Option (Format) → Fields → Fields
put_title x fs = record fs { title = option_or x fs.title }

abbrev pub put_author : Option (List Named) → Fields → Fields
put_author x fs = record fs { author = option_or x fs.author }

abbrev pub put_editor : Option (List Named) → Fields → Fields
put_editor x fs = record fs { editor = option_or x fs.editor }

abbrev pub put_translator : Option (List Named) → Fields → Fields
put_translator x fs = record fs { translator = option_or x fs.translator }

abbrev pub put_date : Option (Date) → Fields → Fields
put_date x fs = record fs { date = option_or x fs.date }

abbrev pub put_publisher : Option (Publishing) → Fields → Fields
put_publisher x fs = record fs { publisher = option_or x fs.publisher }

abbrev pub put_volume : Option (ValueOrText Numeral) → Fields → Fields
put_volume x fs = record fs { volume = option_or x fs.volume }

abbrev pub put_volume_total : Option (ValueOrText Numeral) → Fields → Fields
put_volume_total x fs = record fs { volume_total = option_or x fs.volume_total }

abbrev pub put_issue : Option (ValueOrText Numeral) → Fields → Fields
put_issue x fs = record fs { issue = option_or x fs.issue }

abbrev pub put_chapter : Option (ValueOrText Numeral) → Fields → Fields
put_chapter x fs = record fs { chapter = option_or x fs.chapter }

abbrev pub put_edition : Option (ValueOrText Numeral) → Fields → Fields
put_edition x fs = record fs { edition = option_or x fs.edition }

abbrev pub put_page_range : Option (ValueOrText (List Part)) → Fields → Fields
put_page_range x fs = record fs { page_range = option_or x fs.page_range }

abbrev pub put_page_total : Option (ValueOrText Numeral) → Fields → Fields
put_page_total x fs = record fs { page_total = option_or x fs.page_total }

abbrev pub put_url : Option (Address) → Fields → Fields
put_url x fs = record fs { url = option_or x fs.url }

abbrev pub put_note : Option (Format) → Fields → Fields
put_note x fs = record fs { note = option_or x fs.note }

abbrev pub put_language : Option (List ℕ) → Fields → Fields
put_language x fs = record fs { language = option_or x fs.language }

abbrev pub put_number : List ℕ → Option (List ℕ) → Fields → Fields
put_number scheme x fs = record fs { serial_number = also scheme x fs.serial_number }

abbrev pub put_text : List ℕ → Option (List ℕ) → Fields → Fields
put_text field x fs = record fs { written = also field x fs.written }

-- the numbers and the pages of the entry itself, and their texts
abbrev pub put_own_numbers : Values → Fields → Fields
put_own_numbers v fs = record fs {
  page_total = option_or (number_under (codes "pagetotal") v) fs.page_total;
  page_range = option_or (pages_under (codes "pages") v) fs.page_range;
  chapter = option_or (number_under (codes "chapter") v) fs.chapter;
  written = own_texts v fs.written;
}

-- the numbers of a container, and their texts
abbrev pub put_container_numbers : Bool → Values → Fields → Fields
put_container_numbers periodical v fs = record fs {
  issue = option_or (issue_of periodical v) fs.issue;
  edition = option_or (number_under (codes "edition") v) fs.edition;
  volume_total = option_or (number_under (codes "volumes") v) fs.volume_total;
  volume = option_or (number_under (codes "volume") v) fs.volume;
  written = container_texts periodical v fs.written;
}

-- the first of two that were read together, by its view
pub first_read : {A B V : Type 0} (view : A → V) (both : Option (A × B)) (x : Option A) (wanted : Option V) → x ≡ option_map (λ p. p.0) both → option_map (λ p. view p.0) both ≡ wanted → option_map view x ≡ wanted
first_read view None x wanted is e = ap (option_map view) is ∙ e
first_read view (Some p) x wanted is e = ap (option_map view) is ∙ e

-- the second of them
pub second_read : {A B V : Type 0} (view : B → V) (both : Option (A × B)) (x : Option B) (wanted : Option V) → x ≡ option_map (λ p. p.1) both → option_map (λ p. view p.1) both ≡ wanted → option_map view x ≡ wanted
second_read view None x wanted is e = ap (option_map view) is ∙ e
second_read view (Some p) x wanted is e = ap (option_map view) is ∙ e

-- the numbers and the pages of the entry itself, set one by one with their texts
pub own_numbers_set : (v : Values) (fs : Fields) (total : Option (ValueOrText Numeral)) (total_text : Option (List ℕ)) (pages : Option (ValueOrText (List Part))) (pages_text : Option (List ℕ)) (chapter : Option (ValueOrText Numeral)) (chapter_text : Option (List ℕ)) → total ≡ number_under (codes "pagetotal") v → total_text ≡ bytes_under (codes "pagetotal") v → pages ≡ pages_under (codes "pages") v → pages_text ≡ bytes_under (codes "pages") v → chapter ≡ number_under (codes "chapter") v → chapter_text ≡ bytes_under (codes "chapter") v
    → put_text (codes "chapter") chapter_text (put_chapter chapter (put_text (codes "page-range") pages_text (put_page_range pages (put_text (codes "page-total") total_text (put_page_total total fs))))) ≡ put_own_numbers v fs
own_numbers_set v fs total total_text pages pages_text chapter chapter_text e_total e_total_text e_pages e_pages_text e_chapter e_chapter_text i =
    record fs {
      page_total = option_or (e_total i) fs.page_total;
      page_range = option_or (e_pages i) fs.page_range;
      chapter = option_or (e_chapter i) fs.chapter;
      written = also (codes "chapter") (e_chapter_text i) (also (codes "page-range") (e_pages_text i) (also (codes "page-total") (e_total_text i) fs.written));
    }

-- the numbers of a container, likewise
pub container_numbers_set : (v : Values) (periodical : Bool) (fs : Fields) (issue : Option (ValueOrText Numeral)) (number_text : Option (List ℕ)) (edition : Option (ValueOrText Numeral)) (edition_text : Option (List ℕ)) (total : Option (ValueOrText Numeral)) (total_text : Option (List ℕ)) (volume : Option (ValueOrText Numeral)) (volume_text : Option (List ℕ)) → issue ≡ issue_of periodical v → number_text ≡ issue_text periodical v → edition ≡ number_under (codes "edition") v → edition_text ≡ bytes_under (codes "edition") v → total ≡ number_under (codes "volumes") v → total_text ≡ bytes_under (codes "volumes") v → volume ≡ number_under (codes "volume") v → volume_text ≡ bytes_under (codes "volume") v
    → put_text (codes "volume") volume_text (put_volume volume (put_text (codes "volume-total") total_text (put_volume_total total (put_text (codes "edition") edition_text (put_edition edition (put_text (codes "issue") number_text (put_issue issue fs))))))) ≡ put_container_numbers periodical v fs
container_numbers_set v periodical fs issue number_text edition edition_text total total_text volume volume_text e_issue e_number_text e_edition e_edition_text e_total e_total_text e_volume e_volume_text i =
    record fs {
      issue = option_or (e_issue i) fs.issue;
      edition = option_or (e_edition i) fs.edition;
      volume_total = option_or (e_total i) fs.volume_total;
      volume = option_or (e_volume i) fs.volume;
      written = also (codes "volume") (e_volume_text i) (also (codes "volume-total") (e_total_text i) (also (codes "edition") (e_edition_text i) (also (codes "issue") (e_number_text i) fs.written)));
    }

-- what an entry says of itself, set field by field
pub own_set : (v : Values) (t : EntryType) (title : Option (Format)) (author : Option (List Named)) (translator : Option (List Named)) (date : Option (Date)) (url : Option (Address)) (doi : Option (List ℕ)) (note : Option (Format)) (language : Option (List ℕ)) → title ≡ title_of v → author ≡ people_under (codes "author") v → translator ≡ people_under (codes "translator") v → date ≡ date_if_read (own_date v) → url ≡ address_of (date_if_read (date_under (codes "urldate") v)) v → doi ≡ bytes_under (codes "doi") v → note ≡ format_under (codes "note") v → language ≡ bytes_under (codes "langid") v → put_own_numbers v (put_language language (put_note note (put_number (codes "doi") doi (put_url url (put_date date (put_translator translator (put_author author (put_title title (nothing_but t))))))))) ≡ own_fields v t
own_set v t title author translator date url doi note language e_title e_author e_translator e_date e_url e_doi e_note e_language i =
    record (nothing_but t) {
      title = (before_none title ∙ e_title) i;
      author = (before_none author ∙ e_author) i;
      translator = (before_none translator ∙ e_translator) i;
      date = (before_none date ∙ e_date) i;
      chapter = before_none (number_under (codes "chapter") v) i;
      page_range = before_none (pages_under (codes "pages") v) i;
      page_total = before_none (number_under (codes "pagetotal") v) i;
      url = (before_none url ∙ e_url) i;
      serial_number = also (codes "doi") (e_doi i) None;
      note = (before_none note ∙ e_note) i;
      language = (before_none language ∙ e_language) i;
      written = own_texts v None;
    }

-- what the fields say of a container, set field by field
pub container_set : (v : Values) (fs : Fields) (periodical : Bool) (editor : Option (List Named)) (publisher : Option (Publishing)) (isbn : Option (List ℕ)) (issn : Option (List ℕ)) (serial : Option (List ℕ)) → IsBare fs → periodical ≡ is_periodical fs.entry_type → editor ≡ people_under (codes "editor") v → publisher ≡ publisher_of v → isbn ≡ bytes_under (codes "isbn") v → issn ≡ bytes_under (codes "issn") v → serial ≡ series_number periodical v → put_container_numbers periodical v (put_number (codes "serial") serial (put_number (codes "issn") issn (put_number (codes "isbn") isbn (put_publisher publisher (put_editor editor fs))))) ≡ container_fields v fs
container_set v fs periodical editor publisher isbn issn serial bare e_periodical e_editor e_publisher e_isbn e_issn e_serial i =
    record fs {
      editor = set_first editor fs.editor _ bare.editor e_editor i;
      publisher = set_first publisher fs.publisher _ bare.publisher e_publisher i;
      volume = set_first (number_under (codes "volume") v) fs.volume _ bare.volume refl i;
      volume_total = set_first (number_under (codes "volumes") v) fs.volume_total _ bare.volume_total refl i;
      edition = set_first (number_under (codes "edition") v) fs.edition _ bare.edition refl i;
      issue = set_first (issue_of periodical v) fs.issue _ bare.issue (ap (λ (b : Bool). issue_of b v) e_periodical) i;
      serial_number = also (codes "serial") ((e_serial ∙ ap (λ (b : Bool). series_number b v) e_periodical) i) (also (codes "issn") (e_issn i) (also (codes "isbn") (e_isbn i) fs.serial_number));
      written = container_texts (e_periodical i) v fs.written;
    }
