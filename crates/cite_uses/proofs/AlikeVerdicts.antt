-- Files in which the names of a document mean alike works, and in which these stand in one order, give it one verdict.
use Rattle.std.proofs.Common.{◌≡◌, ℕ, List, map, filter, Result, Ok, Err, refl, sym, ap, subst, ◌∙◌}
use Rattle.std.specs.Prelude.{Contains}
use Rattle.literature_entries.specs.EntriesData.{EntryData}
use Rattle.literature.specs.Holding.{holds_at}
use Rattle.literature.specs.Trees.{Tree}
use Rattle.interop.specs.Library.{key_of}
use Rattle.rendering_entries.specs.Library.{answers_of}
use Rattle.rendering_nodes.specs.Named.{AreAlike, Named}
use Rattle.rendering_style.specs.Styles.{Style}
use Rattle.rendering.specs.Alike.{style_named}
use Rattle.cite_markers.specs.Document.{Piece}
use Rattle.cite.specs.Alike.{IsTaskRead, IsBibRead, AreAlikeFor, CitedAgree}
use Rattle.cite_requests.specs.Cited.{is_among}
use Rattle.cite_requests.specs.Markers.{CitedWork, cited_works, names_cited}
use Rattle.cite_requests.specs.Requests.{works_in}
use Rattle.cite_requests.specs.Stages.{Refusal, AreWorksOf, document_stage, name_stage, refused_as, section_stage, unknown_name}
use Rattle.cite.specs.Verdict.{Task, IsVerdict, rendered_stage, verdict}
use Rattle.cite_requests.specs.Works.{Works}
use Rattle.cite_requests.proofs.EntriesIndices.{AreListedWorks}
use Rattle.cite.proofs.VerdictsAlike.{alike_verdicts, cited_listed}
use Rattle.cite.proofs.VerdictsUnique.{one_verdict}
use Rattle.cite_uses.specs.Alike.{AskFor, GiveOneVerdict, HaveAlikeWorks}
use Rattle.cite_uses.proofs.AlikeEach.{AreAlikeEach, all_found, each_alike, keys_one, listed_at, meant_first, meant_second, one_listed, partner, pieces_mean}
use Rattle.cite_uses.proofs.OneOrder.{one_order}

-- a section that is refused, where no name is
section_refused : (works : Works) (task : Task) (pieces : List Piece) (ms : List (List CitedWork)) (r : Refusal)
    → document_stage task.document ≡ Ok pieces → name_stage works pieces ≡ Ok ms → section_stage task.sections ≡ Err r → verdict (Ok works) task ≡ Err r
unfolding verdict rendered_stage
section_refused works task pieces ms r document names sections = rw (document, names, sections) refl

module _ (style : Style) (selectors : List Tree) (v w : Works) (pieces : List Piece) (h : HaveAlikeWorks style selectors v w pieces) (bib other : List ℕ) (task : Task) (answer : Result (List ℕ) Refusal)
    (of_bib : AreWorksOf bib (Ok v)) (of_other : AreWorksOf other (Ok w)) (document : document_stage task.document ≡ Ok pieces) (styled : task.context.style ≡ style) (asked : AskFor selectors task.sections)
    (is : IsVerdict bib task answer) where
  abbrev named : Named
  named = style_named style

  found : (ms : List (List CitedWork)) × (cited_works v pieces ≡ Ok ms)
  found = all_found v pieces (meant_first named selectors v w (names_cited pieces) h.names)

  found_too : (ms : List (List CitedWork)) × (cited_works w pieces ≡ Ok ms)
  found_too = all_found w pieces (meant_second named selectors v w (names_cited pieces) h.names)

  first : IsBibRead bib pieces
  first = record { works = v; markers = found.0; read = of_bib; names = ap (refused_as unknown_name) found.1 }

  second : IsBibRead other pieces
  second = record { works = w; markers = found_too.0; read = of_other; names = ap (refused_as unknown_name) found_too.1 }

  abbrev ones : List EntryData
  ones = works_in found.0

  abbrev twos : List EntryData
  twos = works_in found_too.0

  each : AreAlikeEach named selectors ones twos
  each = each_alike named selectors v w (names_cited pieces) ones twos h.names (pieces_mean v pieces found.0 found.1) (pieces_mean w pieces found_too.0 found_too.1)

  keys : map key_of ones ≡ map key_of twos
  keys = keys_one named selectors ones twos each

  listed : AreListedWorks v.library ones
  unfolding found first
  listed = cited_listed bib pieces first

  listed_too : AreListedWorks w.library twos
  unfolding found_too second
  listed_too = cited_listed other pieces second

  order : filter (is_among (map key_of ones)) (map key_of v.library) ≡ filter (is_among (map key_of twos)) (map key_of w.library)
  order =
      one_order named selectors v w bib other of_bib of_other (names_cited pieces) ones twos h.names (pieces_mean v pieces found.0 found.1) keys listed listed_too h.order
      ∙ ap (λ (ks : List (List ℕ)). filter (is_among ks) (map key_of w.library)) keys

  agree : (read : List Tree) → read ≡ selectors → CitedAgree task.context.style read ones twos
  agree read same x y has has_too key =
      let p = partner named selectors ones twos each x has.0 has.1 has.2 in
      let one : p.0 ≡ y =
      one_listed w.library p.0 y (listed_at w.library twos listed_too p.0 p.1.0 p.1.1 p.1.2) (listed_at w.library twos listed_too y has_too.0 has_too.1 has_too.2) (sym p.2.key ∙ key) in
      record {
        answers = subst (λ (s : Style). AreAlike (style_named s) (answers_of x) (answers_of y)) (sym styled) (subst (λ (u : EntryData). AreAlike named (answers_of x) (answers_of u)) one p.2.answers);
        sections = λ s has_selector. p.2.sections s (subst (λ (ts : List Tree). Contains ts s) same has_selector) ∙ ap (holds_at s) one;
      }

  by_sections : (s : Result (List Tree) Refusal) → section_stage task.sections ≡ s → IsVerdict other task answer
  unfolding first found second found_too
  by_sections (Ok read) sections =
      let task_read : IsTaskRead task = record { pieces = pieces; selectors = read; document = document; sections = sections } in
      let alike : AreAlikeFor bib other task = record { asked = task_read; first = first; second = second; keys = keys; order = order; agree = agree read (asked read sections) } in
      alike_verdicts bib other task alike answer is
  by_sections (Err r) sections = (
    Ok w,
    of_other,
    one_verdict bib task answer (verdict (Ok v) task) is (Ok v, of_bib, refl)
        ∙ (section_refused v task pieces found.0 r document first.names sections ∙ sym (section_refused w task pieces found_too.0 r document second.names sections)),
  )

pub one_verdict_each : (style : Style) (selectors : List Tree) (v w : Works) (pieces : List Piece) → HaveAlikeWorks style selectors v w pieces → GiveOneVerdict style selectors v w pieces
one_verdict_each style selectors v w pieces h = λ bib other task answer of_bib of_other document styled asked is.
    by_sections style selectors v w pieces h bib other task answer of_bib of_other document styled asked is (section_stage task.sections) refl
