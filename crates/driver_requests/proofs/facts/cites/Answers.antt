use Rattle.std.proofs.Common.{◌≡◌, ◌<◌, ◌∙◌, ℕ, List, All, length, map, replicate, sym, subst, ap, IfOk, Vec}
use Rattle.std.specs.Global.{Global}
use Rattle.std.proofs.lemmas.List.{length-replicate}
use Rattle.std.proofs.lemmas.Result.{IfOk-weaker}
use Rattle.rendering_entries.specs.Answers.{Answers}
use Rattle.driver_requests.specs.Cites.{cites_of}
use Rattle.driver_requests.specs.Notes.{facts_of, notes_view}
use Rattle.driver_requests.specs.Indices.{runs}
use Rattle.driver_requests.specs.History.{Facts, facts_of_all, uncited}
use Rattle.driver_requests.specs.HistoryViews.{facts_by_request_view}
use Rattle.driver_requests.specs.Views.{entries_of, request_view}
use Rattle.driver_requests.specs.declared.history.CiteFacts.{CiteFacts}
use Rattle.driver_requests.proofs.CitesLaw.{cites_by}
use Rattle.driver_requests.proofs.NotesRead.{none_cited}
use Rattle.driver_requests.proofs.facts.cites.Goals as goal

pub facts_of_each-requires : goal.facts_of_each-requires
facts_of_each-requires g c =
    let all : c.in_ok-histories.histories.items ≡ replicate c.args.count uncited = c.in_ok-histories.ensures.items_if_clones_equal (λ y same. same) in
    let many = ap length (c.deref_mut.ensures.value ∙ all) ∙ length-replicate c.args.count uncited in
    record { runs = c.requires.runs; within = subst (λ n. All (All (λ p. p < n)) (runs c.args.indices.now)) (sym many) c.requires.within }

pub returns-clause-facts : goal.returns-clause-facts
returns-clause-facts g c =
    let all : c.in_ok-histories.histories.items ≡ replicate c.args.count uncited = c.in_ok-histories.ensures.items_if_clones_equal (λ y same. same) in
    subst (λ (fs : List (List Facts)). IfOk c.facts_of_each.result (λ v. facts_by_request_view v.items ≡ fs))
    (none_cited c.args.count c.deref_mut.result.now (notes_view c.args.requests.now (runs c.args.indices.now)) (c.deref_mut.ensures.value ∙ all)) c.facts_of_each.ensures

pub returns-clause-cites : goal.returns-clause-cites
returns-clause-cites g c =
    IfOk-weaker c.facts_of_each.result (λ (v : Vec (Vec CiteFacts Global) Global). facts_by_request_view v.items ≡ facts_of_all (notes_view c.args.requests.now (runs c.args.indices.now)))
    (λ (v : Vec (Vec CiteFacts Global) Global). (index : g.row.T.Denot → ℕ) (answers : g.row.T.Denot → Answers) → runs c.args.indices.now ≡ map (λ r. map index (entries_of r)) c.args.requests.now
    → facts_by_request_view v.items ≡ map (map facts_of) (cites_of (map (request_view index answers) c.args.requests.now)))
    (λ v known index answers is. known ∙ cites_by index answers c.args.requests.now (runs c.args.indices.now) is) (returns-clause-facts g c)
