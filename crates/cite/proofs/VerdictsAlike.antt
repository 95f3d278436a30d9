-- Alike bib texts have one verdict.
use Rattle.std.proofs.Common.{◌≡◌, ℕ, true, false, List, map, filter, Some, Result, Ok, refl, sym, ap, subst, ◌∙◌}
use Rattle.std.specs.Prelude.{Contains}
use Rattle.std.specs.List.{enumerate_from}
use Rattle.std.specs.Option.{option_map_or}
use Rattle.laws.specs.Results.{◌>>=◌}
use Rattle.laws.specs.Text.{text}
use Rattle.literature_entries.specs.EntriesData.{EntryData}
use Rattle.literature.specs.Holding.{holds_at}
use Rattle.literature.specs.Keys.{with_key}
use Rattle.literature.specs.Trees.{Tree}
use Rattle.interop.specs.Library.{key_of}
use Rattle.rendering_entries.specs.Answers.{Answers}
use Rattle.rendering_entries.specs.Library.{answers_of}
use Rattle.rendering_nodes.specs.Named.{AreAlike}
use Rattle.rendering.specs.Alike.{style_named}
use Rattle.driver_requests.specs.CitedEntries.{indices_among}
use Rattle.driver_rounds.specs.Documents.{Document}
use Rattle.driver.specs.Finish.{Rendered, finish}
use Rattle.driver.specs.Alike.{document_with}
use Rattle.driver_laws.proofs.DocumentsAlike.{alike_entries}
use Rattle.cite_markers.specs.Document.{Piece}
use Rattle.cite_requests.specs.Cited.{is_among}
use Rattle.cite_requests.specs.Markers.{CitedWork, cited_works, markers_of}
use Rattle.cite_output.specs.Output.{output_text}
use Rattle.cite_requests.specs.Requests.{OwnLocator, is_same_own, requests_of, works_in}
use Rattle.cite_requests.specs.Sections.{chosen}
use Rattle.cite_requests.specs.Stages.{Refusal, document_stage, name_stage, overflow, refused_as, section_stage, unknown_name}
use Rattle.cite.specs.Verdict.{Task, driver_document, driver_stage, rendered_stage, verdict}
use Rattle.cite_requests.specs.Works.{Works, is_same}
use Rattle.cite.proofs.DocumentAsked.{markers_listed}
use Rattle.cite_requests.proofs.EntriesIndices.{AreListedWorks}
use Rattle.cite_requests.proofs.StepsRefused.{given}
use Rattle.cite.proofs.VerdictsUnique.{one_verdict}
use Rattle.cite.specs.Alike.{IsBibRead, AgreeFor, AreAlikeFor, AlikeTextsHaveOneVerdict, keys_by_cite}
use Rattle.cite.proofs.RequestsAlike.{among_all, answers_at, answers_by, cites_kept, each_index, keyed, keyed_alike, named_alike, nothing_answered, request_at, requests_given, requests_keyed}
use Rattle.cite_requests.proofs.SectionsAlike.{chosen_alike, says}
use Rattle.cite_requests.proofs.WorksListed.{found_cited, works_listed}

-- what a call comes to, where no stage refuses
verdict_of : (works : Works) (task : Task) (pieces : List Piece) (selectors : List Tree) (ms : List (List CitedWork))
    → document_stage task.document ≡ Ok pieces → section_stage task.sections ≡ Ok selectors → name_stage works pieces ≡ Ok ms
    → verdict (Ok works) task ≡ (driver_stage task.context (chosen selectors works.library) ms >>= λ r. Ok (text (output_text task.format pieces r)))
unfolding verdict rendered_stage
verdict_of works task pieces selectors ms document sections names = rw (document, names, sections) refl

-- works that are found of a text are listed in its library
pub cited_listed : (bib : List ℕ) (pieces : List Piece) (b : IsBibRead bib pieces) → AreListedWorks b.works.library (works_in b.markers)
cited_listed bib pieces b = markers_listed b.works (markers_of pieces) b.markers (given unknown_name (cited_works b.works pieces) b.markers b.names)

module _ (bib other : List ℕ) (task : Task) (h : AreAlikeFor bib other task) where
  abbrev keys : List (List ℕ)
  keys = keys_by_cite h.first

  abbrev one : List EntryData
  one = h.first.works.library

  abbrev two : List EntryData
  two = h.second.works.library

  -- the works of a key that is cited
  record Cited (k : List ℕ) : Type 0 where
    work : EntryData
    work_too : EntryData
    is : with_key key_of k one ≡ Some work
    is_too : with_key key_of k two ≡ Some work_too
    agree : AgreeFor task.context.style h.asked.selectors work work_too

  cited_at : (k : List ℕ) → is_among keys k ≡ true → Cited k
  cited_at k e =
      let found = found_cited one (works_in h.first.markers) k (cited_listed bib h.asked.pieces h.first) e in
      let found_too = found_cited two (works_in h.second.markers) k (cited_listed other h.asked.pieces h.second) (ap (λ (ks : List (List ℕ)). is_among ks k) (sym h.keys) ∙ e) in
      record {
        work = found.0;
        work_too = found_too.0;
        is = found.2;
        is_too = found_too.2;
        agree = h.agree found.0 found_too.0 found.1 found_too.1 (found.3 ∙ sym found_too.3);
      }

  answers_agree : (k : List ℕ) → is_among keys k ≡ true → AreAlike (style_named task.context.style) (answers_at one k) (answers_at two k)
  answers_agree k e =
      let c = cited_at k e in
      let first : answers_of c.work ≡ answers_at one k = sym (ap (λ o. option_map_or answers_of o nothing_answered) c.is) in
      let second : answers_of c.work_too ≡ answers_at two k = sym (ap (λ o. option_map_or answers_of o nothing_answered) c.is_too) in
      subst (λ (a : Answers). AreAlike (style_named task.context.style) a (answers_at two k)) first
      (subst (λ (b : Answers). AreAlike (style_named task.context.style) (answers_of c.work) b) second c.agree.answers)

  sections_agree : (s : Tree) → Contains h.asked.selectors s → (k : List ℕ) → is_among keys k ≡ true → says one s k ≡ says two s k
  sections_agree s has k e =
      let c = cited_at k e in
      ap (λ o. option_map_or (holds_at s) o false) c.is ∙ c.agree.sections s has ∙ sym (ap (λ o. option_map_or (holds_at s) o false) c.is_too)

  -- the document of the driver, where works of keys answer so
  abbrev document_by : (List ℕ → Answers) → Document OwnLocator
  document_by answers = record {
    requests = map (request_at task.context keys answers) (enumerate_from 1 (map (map keyed) h.first.markers));
    bibliography_context = task.context;
    wanted = indices_among is_same (works_in h.first.markers) (chosen h.asked.selectors one);
    offset = 0;
  }

  first_document : driver_document task.context (chosen h.asked.selectors one) h.first.markers ≡ document_by (answers_at one)
  first_document = λ i. record (document_by (answers_at one)) {
    requests = requests_keyed one (works_in h.first.markers) keys refl task.context 1 h.first.markers (cited_listed bib h.asked.pieces h.first) i;
  }

  same_keyed : map (map keyed) h.second.markers ≡ map (map keyed) h.first.markers
  same_keyed =
      keyed_alike h.second.markers h.first.markers
      (cites_kept h.second.works h.asked.pieces h.second.markers (given unknown_name (cited_works h.second.works h.asked.pieces) h.second.markers h.second.names)
      ∙ sym (cites_kept h.first.works h.asked.pieces h.first.markers (given unknown_name (cited_works h.first.works h.asked.pieces) h.first.markers h.first.names)))
      (sym h.keys)

  second_requests : requests_of task.context h.second.markers ≡ (document_by (answers_at two)).requests
  second_requests =
      requests_keyed two (works_in h.second.markers) keys (sym h.keys) task.context 1 h.second.markers (cited_listed other h.asked.pieces h.second)
      ∙ ap (λ pss. map (request_at task.context keys (answers_at two)) (enumerate_from 1 pss)) same_keyed

  same_wanted : indices_among is_same (works_in h.first.markers) (chosen h.asked.selectors one) ≡ indices_among is_same (works_in h.second.markers) (chosen h.asked.selectors two)
  same_wanted =
      chosen_alike keys one two (works_listed bib h.first.works h.first.read) (works_listed other h.second.works h.second.read)
      (h.order ∙ ap (λ (ks : List (List ℕ)). filter (is_among ks) (map key_of two)) (sym h.keys))
      h.asked.selectors (works_in h.first.markers) (works_in h.second.markers) refl (sym h.keys) sections_agree

  second_document : driver_document task.context (chosen h.asked.selectors two) h.second.markers ≡ document_by (answers_at two)
  second_document = λ i. record (document_by (answers_at two)) { requests = second_requests i; wanted = sym same_wanted i }

  -- the documents have the works of either text
  with_answers : (library : List EntryData) → document_with (answers_by library keys) (document_by (answers_at one)) ≡ document_by (answers_at library)
  with_answers library = λ i. record (document_by (answers_at library)) {
    requests = requests_given keys (answers_at one) library task.context 1 h.first.markers (among_all keys (works_in h.first.markers) (λ k e. e)) i;
  }

  one_rendered : finish is_same_own (document_by (answers_at one)) ≡ finish is_same_own (document_by (answers_at two))
  one_rendered =
      sym (ap (finish is_same_own) (with_answers one))
      ∙ alike_entries OwnLocator is_same_own (document_by (answers_at one)) (answers_by one keys) (answers_by two keys)
      (λ n. named_alike task.context keys (answers_at one) (answers_by one keys n) (answers_by two keys n) (each_index (style_named task.context.style) keys one two answers_agree n) 1 (map (map keyed) h.first.markers))
      ∙ ap (finish is_same_own) (with_answers two)

  same_stage : driver_stage task.context (chosen h.asked.selectors one) h.first.markers ≡ driver_stage task.context (chosen h.asked.selectors two) h.second.markers
  same_stage = ap (refused_as (λ _. overflow)) (ap (finish is_same_own) first_document ∙ one_rendered ∙ sym (ap (finish is_same_own) second_document))

  same_verdict : verdict (Ok h.first.works) task ≡ verdict (Ok h.second.works) task
  same_verdict =
      verdict_of h.first.works task h.asked.pieces h.asked.selectors h.first.markers h.asked.document h.asked.sections h.first.names
      ∙ ap (λ (r : Result Rendered Refusal). r >>= λ q. Ok (text (output_text task.format h.asked.pieces q))) same_stage
      ∙ sym (verdict_of h.second.works task h.asked.pieces h.asked.selectors h.second.markers h.asked.document h.asked.sections h.second.names)

pub alike_verdicts : AlikeTextsHaveOneVerdict
alike_verdicts bib other task h answer is =
    let own : answer ≡ verdict (Ok h.first.works) task = one_verdict bib task answer (verdict (Ok h.first.works) task) is (Ok h.first.works, h.first.read, refl) in
    (Ok h.second.works, h.second.read, own ∙ same_verdict bib other task h)
