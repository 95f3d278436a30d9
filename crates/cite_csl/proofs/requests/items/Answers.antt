use Rattle.std.proofs.Common.{◌≡◌, ◌+◌, ◌∷◌, ◌++◌, [], List, drop, map, sym, ap, subst, ◌∙◌, arith, rules, Result, Err, Vec}
use Rattle.std.specs.Global.{Global}
use Rattle.std.proofs.lemmas.List.{at_drop_more, drop_all, map_push}
use Rattle.cite_markers.specs.Views.{cite_view}
use Rattle.cite_markers.specs.declared.marker.Cite.{Cite}
use Rattle.literature_entries.specs.declared.entry.Entry.{Entry}
use Rattle.driver_requests.specs.declared.item.CitationItem.{CitationItem}
use Rattle.cite_requests.specs.Answers.{Gives}
use Rattle.cite_requests.specs.Asked.{item_asked, asked_item_view, items_asked}
use Rattle.cite_requests.specs.Requests.{OwnLocator}
use Rattle.cite_requests.specs.Steps.{all_ok_after}
use Rattle.cite_csl.specs.Views.{cited_view}
use Rattle.cite_requests.specs.declared.error.CiteError.{CiteError}
use Rattle.cite_requests.proofs.AnswersWeaker.{refused_weaker}
use Rattle.cite_requests.proofs.StepsAfter.{begins, goes_on, fails, ends}
use Rattle.cite_csl.proofs.requests.items.Goals as goal

pub loop-cite-init : goal.loop-cite-init
loop-cite-init c = rw (c.in_ok-items.ensures.items) (begins (item_asked (cited_view c.args.works)) (map cite_view c.args.cites.now))

pub loop-cite-preserved : goal.loop-cite-preserved
loop-cite-preserved c =
    let step = item_asked (cited_view c.args.works) in
    let i = c.loop-cite.cite-index in
    let xs = c.args.cites.now in
    let done = map asked_item_view c.loop-cite.items.items in
    let cut = at_drop_more (λ (ys : List Cite). all_ok_after step done (map cite_view ys)) xs i _ c.loop-cite-test.true in
    let pushed : map asked_item_view c.push.new.self.items ≡ done ++ asked_item_view c.in_ok-item.field-0 ∷ [] = ap (map asked_item_view) c.in_ok-push.ensures.items ∙ map_push asked_item_view c.loop-cite.items.items c.in_ok-item.field-0 in
    rw pushed (goes_on step done _ (map cite_view (drop (i + 1) xs)) (asked_item_view c.in_ok-item.field-0) (items_asked (cited_view c.args.works) (map cite_view xs)) (sym cut ∙ c.loop-cite.invariant) c.in_ok-item.ensures)

pub returns-in_err-item : goal.returns-in_err-item
returns-in_err-item c =
    let step = item_asked (cited_view c.args.works) in
    let i = c.loop-cite.cite-index in
    let xs = c.args.cites.now in
    let done = map asked_item_view c.loop-cite.items.items in
    let all = items_asked (cited_view c.args.works) (map cite_view xs) in
    let cut = at_drop_more (λ (ys : List Cite). all_ok_after step done (map cite_view ys)) xs i _ c.loop-cite-test.true in
    let is : c.from_residual-in_err-item.result ≡ Err c.in_err-item.field-0.0 = search rules in
    subst (λ (r : Result (Vec (CitationItem Entry OwnLocator) Global) CiteError). Gives (λ (v : Vec (CitationItem Entry OwnLocator) Global). map asked_item_view v.items) r all) (sym is)
    (refused_weaker c.in_err-item.field-0.0 _ (λ a. all ≡ a) (λ r h. fails step done _ (map cite_view (drop (i + 1) xs)) r all (sym cut ∙ c.loop-cite.invariant) h) c.in_err-item.ensures)

pub returns : goal.returns
returns c =
    let none = ap (map cite_view) (drop_all c.loop-cite.cite-index c.args.cites.now (omega (arith, c.loop-cite-test.false))) in
    ends (item_asked (cited_view c.args.works)) (map asked_item_view c.loop-cite.items.items) (map cite_view (drop c.loop-cite.cite-index c.args.cites.now)) (items_asked (cited_view c.args.works) (map cite_view c.args.cites.now)) c.loop-cite.invariant none
