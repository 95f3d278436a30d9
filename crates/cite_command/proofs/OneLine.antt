-- The messages for refusals are one line each.
use Rattle.std.proofs.Common.{ℕ, Bool, true, false, cond, All, List, ◌++◌, Option, Some, None, Result, Ok, Err, codes, decimal, refl, sym, subst}
use Rattle.std.specs.List.{enumerate_from}
use Rattle.std.specs.Prelude.{IfErr, IfOk, MatchResult}
use Rattle.std.specs.Str.{chars, is_utf8}
use Rattle.std.proofs.lemmas.List.Elements.{All-nil, All-weaker}
use Rattle.laws.specs.Text.{text}
use Rattle.laws.proofs.Throughout.{bind_match}
use Rattle.biblatex.specs.Lines.{HasNoLineFeed}
use Rattle.biblatex.specs.Listed.{Listed}
use Rattle.biblatex.specs.Entries.{Source}
use Rattle.biblatex.specs.Reading as reading
use Rattle.biblatex.specs.Errors.{reason_text}
use Rattle.biblatex.proofs.Lines.{append, of_number}
use Rattle.biblatex.proofs.OneLine.{HasLineMessage, HasPlainKey, FilePlain, text-plain}
use Rattle.literature_entries.specs.EntriesData.{EntryData}
use Rattle.literature.specs.Reading.{Fault as SelectorFault, selector_of}
use Rattle.literature.specs.Trees.{Tree}
use Rattle.interop.specs.Bridge.{Fault}
use Rattle.interop.specs.Library.{library_of}
use Rattle.interop.specs.DateFields.{field_name}
use Rattle.interop.specs.declared.error.DateField.{DateField}
use Rattle.interop.specs.declared.error.DateField.TheVariants as dates
use Rattle.interop.proofs.FaultNames.{HoldsOfFaults, library_faults}
use Rattle.rendering_context.specs.Contexts.{StyleContext}
use Rattle.cite_markers.specs.Document.{Piece, document_of}
use Rattle.cite_markers.specs.Marker.{Cite}
use Rattle.driver.specs.Finish.{finish}
use Rattle.cite_requests.specs.Markers.{CitedWork, cited_work, cited_works, markers_of, with_work}
use Rattle.cite_command.specs.OneLine.{HasLineMessages, RefusalsHaveLineMessages}
use Rattle.cite_command.specs.Program.{fault_message}
use Rattle.cite_requests.specs.Refusals.{marker_text}
use Rattle.literature.specs.Errors.{fault_text}
use Rattle.cite_requests.specs.Requests.{is_same_own}
use Rattle.cite_requests.specs.Sections.{SectionFault, chosen, selector_in, selector_or_fault, selectors_of}
use Rattle.cite_requests.specs.Stages.{Refusal, bib_refused, document_not_utf8, no_marker, overflow, section_refused, unknown_name, refused_as, IsReadIf, IsRead, works_from, library_stage, AreWorksOf, document_stage, name_stage, section_stage}
use Rattle.cite_requests.specs.Steps.{all_ok}
use Rattle.cite.specs.Verdict.{Task, driver_document, driver_stage, rendered_stage, verdict}
use Rattle.cite_requests.specs.Works.{Works, meaning}
use Rattle.cite_requests.proofs.MarkersPlain.{DocumentPlain, HasPlainName, MarkerPlain, document_plain, markers_plain}
use Rattle.cite_requests.proofs.SelectorsPlain.{FaultPlain, selector_plain}
use Rattle.cite_requests.proofs.StepsRefused.{Whatever, all_refuse, each_refuses, whatever}

abbrev HasPlainMessage : Fault → Type 0
HasPlainMessage f = HasNoLineFeed (fault_message f)

-- a step refuses what is reported in lines alone
abbrev RefusesInLines : {A : Type 0} → Result A Refusal → Type 0
RefusesInLines r = IfErr r HasLineMessages

refused_plain : {F X : Type 0} (P : X → Type 0) (Q : F → Type 0) (refusal : F → Refusal) → ((f : F) → Q f → HasLineMessages (refusal f)) → (r : Result X F) → MatchResult r P Q → MatchResult (refused_as refusal r) P HasLineMessages
refused_plain P Q refusal message (Ok x) is = is
refused_plain P Q refusal message (Err f) is = message f is

-- ---- the bib text

read-plain : (bib : List ℕ) (read : Result Listed Refusal) → IsRead bib read → MatchResult read FilePlain HasLineMessages
read-plain bib read is = by_utf8 (is_utf8 bib) is
  where
    message : (refusal : reading.Refusal) → HasLineMessage refusal → HasLineMessages (bib_refused refusal)
    message refusal plain = record { text = append (codes "bib: ") (reason_text refusal.reason) refl plain; faults = All-nil HasPlainMessage }

    by_utf8 : (b : Bool) → IsReadIf b bib read → MatchResult read FilePlain HasLineMessages
    by_utf8 true (meaning, means, same) =
        subst (λ (r : Result Listed Refusal). MatchResult r FilePlain HasLineMessages) (sym same) (refused_plain FilePlain HasLineMessage bib_refused message meaning (text-plain (chars bib) meaning means))
    by_utf8 false same = subst (λ (r : Result Listed Refusal). MatchResult r FilePlain HasLineMessages) (sym same) (record { text = refl; faults = All-nil HasPlainMessage })

field-plain : (field : DateField) → HasNoLineFeed (field_name field)
field-plain dates.Date = refl
field-plain dates.EventDate = refl
field-plain dates.OrigDate = refl
field-plain dates.UrlDate = refl

fault-plain : (key : List ℕ) → HasNoLineFeed key → HoldsOfFaults HasPlainMessage key
fault-plain key plain field kind =
    append (codes "fields: ") (key ++ (codes ": " ++ field_name field)) refl (append key (codes ": " ++ field_name field) plain (append (codes ": ") (field_name field) refl (field-plain field)))

works-plain : (file : Listed) (r : Result (List EntryData) (List Fault)) → IfErr r (All HasPlainMessage) → RefusesInLines (works_from file r)
works-plain file (Ok library) all = tt
works-plain file (Err faults) all = record { text = refl; faults = all }

library-plain : (file : Listed) → FilePlain file → RefusesInLines (library_stage file)
library-plain file plain =
    works-plain file (library_of file.entries)
    (library_faults HasPlainMessage file.entries (All-weaker HasPlainKey (λ (e : Source). HoldsOfFaults HasPlainMessage e.key) (λ e is. fault-plain e.key is) file.entries plain))

their_works-plain : (bib : List ℕ) (works : Result Works Refusal) → AreWorksOf bib works → RefusesInLines works
their_works-plain bib works (read, is, comes) =
    subst (λ (r : Result Works Refusal). RefusesInLines r) (sym comes) (bind_match FilePlain Whatever HasLineMessages read library_stage (read-plain bib read is) library-plain)

-- ---- the document and its names

index-plain : (index : ℕ) → HasLineMessages (no_marker index)
index-plain index =
    record { text = append (codes "document: ") (marker_text index) refl (append (codes "marker at byte ") (decimal index) refl (of_number index)); faults = All-nil HasPlainMessage }

pieces-plain : (r : Result (List Piece) ℕ) → IfOk r DocumentPlain → MatchResult (refused_as no_marker r) DocumentPlain HasLineMessages
pieces-plain (Ok pieces) plain = plain
pieces-plain (Err index) plain = index-plain index

document-plain : (document : List ℕ) → MatchResult (document_stage document) DocumentPlain HasLineMessages
document-plain document = by_utf8 (is_utf8 document)
  where
    by_utf8 : (b : Bool) → MatchResult (cond b (refused_as no_marker (document_of (chars document))) (Err document_not_utf8)) DocumentPlain HasLineMessages
    by_utf8 true = pieces-plain (document_of (chars document)) (document_plain (chars document))
    by_utf8 false = record { text = refl; faults = All-nil HasPlainMessage }

cite-plain : (works : Works) (c : Cite) → HasPlainName c → IfErr (cited_work works c) HasNoLineFeed
cite-plain works c plain = by_work (meaning (text c.name) works)
  where
    by_work : (o : Option EntryData) → IfErr (with_work c o) HasNoLineFeed
    by_work None = plain
    by_work (Some w) = tt

names-plain : (works : Works) (pieces : List Piece) → DocumentPlain pieces → RefusesInLines (name_stage works pieces)
names-plain works pieces plain =
    refused_plain Whatever HasNoLineFeed unknown_name (λ name is. record { text = append (codes "unknown name ") name refl is; faults = All-nil HasPlainMessage }) (cited_works works pieces)
    (all_refuse MarkerPlain HasNoLineFeed (all_ok (cited_work works)) (λ cites all. all_refuse HasPlainName HasNoLineFeed (cited_work works) (cite-plain works) cites all) (markers_of pieces) (markers_plain pieces plain))

-- ---- the sections

abbrev SectionPlain : SectionFault → Type 0
SectionPlain s = FaultPlain s.fault

section-plain : (s : SectionFault) → SectionPlain s → HasLineMessages (section_refused s)
section-plain s plain = record {
  text = append (codes "section ") (decimal s.index ++ (codes ": " ++ fault_text s.fault)) refl (append (decimal s.index) (codes ": " ++ fault_text s.fault) (of_number s.index) (append (codes ": ") (fault_text s.fault) refl plain));
  faults = All-nil HasPlainMessage;
}

selector-plain : (p : ℕ × List ℕ) → IfErr (selector_in p) SectionPlain
selector-plain (index, section) = by_selector (selector_of section) (selector_plain section)
  where
    by_selector : (r : Result Tree SelectorFault) → IfErr r FaultPlain → IfErr (selector_or_fault index r) SectionPlain
    by_selector (Ok x) plain = tt
    by_selector (Err f) plain = plain

sections-plain : (sections : List (List ℕ)) → RefusesInLines (section_stage sections)
sections-plain sections =
    refused_plain Whatever SectionPlain section_refused section-plain (selectors_of sections) (each_refuses SectionPlain selector_in selector-plain (enumerate_from 0 sections))

-- ---- all stages

driver-plain : (x : StyleContext) (wanted : List EntryData) (markers : List (List CitedWork)) → RefusesInLines (driver_stage x wanted markers)
driver-plain x wanted markers =
    refused_plain Whatever Whatever (λ _. overflow) (λ o _. record { text = refl; faults = All-nil HasPlainMessage }) (finish is_same_own (driver_document x wanted markers)) (whatever (finish is_same_own (driver_document x wanted markers)))

rendered-plain : (works : Works) (x : StyleContext) (sections : List (List ℕ)) (pieces : List Piece) → DocumentPlain pieces → RefusesInLines (rendered_stage works x sections pieces)
unfolding rendered_stage
rendered-plain works x sections pieces plain =
    bind_match Whatever Whatever HasLineMessages (name_stage works pieces) _ (names-plain works pieces plain) (λ markers _.
    bind_match Whatever Whatever HasLineMessages (section_stage sections) _ (sections-plain sections) (λ selectors _.
    driver-plain x (chosen selectors works.library) markers))

verdict-plain : (works : Result Works Refusal) (task : Task) → RefusesInLines works → RefusesInLines (verdict works task)
unfolding verdict
verdict-plain works task plain =
    bind_match Whatever Whatever HasLineMessages works _ plain (λ their_works _.
    bind_match DocumentPlain Whatever HasLineMessages (document_stage task.document) _ (document-plain task.document) (λ pieces named.
    bind_match Whatever Whatever HasLineMessages (rendered_stage their_works task.context task.sections pieces) _ (rendered-plain their_works task.context task.sections pieces named) (λ rendered _. tt)))

pub have_line_messages : RefusalsHaveLineMessages
have_line_messages bib task refusal (works, is, comes) = subst (λ (r : Result (List ℕ) Refusal). RefusesInLines r) (sym comes) (verdict-plain works task (their_works-plain bib works is))
