use Rattle.std.proofs.Common.{◌≡◌, ℕ, ◌+◌, ◌∷◌, ◌++◌, [], List, drop, map, sym, ap, subst, ◌∙◌, rules, arith, Result, Err, Vec}
use Rattle.std.specs.Global.{Global}
use Rattle.std.specs.Borrow.{Bor}
use Rattle.std.specs.List.{enumerate_from}
use Rattle.std.proofs.lemmas.List.{at_drop_more, drop_all, map_push}
use Rattle.laws.specs.Text.{spelled}
use Rattle.literature.specs.declared.selector.Selector.{Selector}
use Rattle.literature.specs.Views.{selector_view}
use Rattle.cite_requests.specs.Answers.{Gives}
use Rattle.cite_requests.specs.Sections.{selector_in}
use Rattle.cite_requests.specs.Stages.{refused_as, section_refused, section_stage}
use Rattle.cite_requests.specs.Steps.{all_ok_after}
use Rattle.cite_requests.specs.declared.error.CiteError.{CiteError}
use Rattle.cite_requests.proofs.AnswersWeaker.{refused_weaker}
use Rattle.cite_requests.proofs.StepsAfter.{begins, goes_on, fails, ends}
use Rattle.cite_requests.proofs.StepsRefused.{refused_each}
use Rattle.cite_requests.proofs.sections.selectors.Goals as goal

pub loop-index-init : goal.loop-index-init
loop-index-init c =
    rw (c.in_ok-selectors.ensures.items) (begins (λ p. refused_as section_refused (selector_in p)) (enumerate_from 0 (map spelled c.args.sections.now)) ∙ sym (refused_each section_refused selector_in (enumerate_from 0 (map spelled c.args.sections.now))))

pub loop-index-preserved : goal.loop-index-preserved
loop-index-preserved c =
    let i = c.loop-index.index in
    let xs = c.args.sections.now in
    let done = map selector_view c.loop-index.selectors.items in
    let cut = at_drop_more (λ (ys : List (Bor (List ℕ))). all_ok_after (λ p. refused_as section_refused (selector_in p)) done (enumerate_from i (map spelled ys))) xs i _ c.loop-index-test.true in
    let pushed : map selector_view c.push.new.self.items ≡ done ++ selector_view c.in_ok-selector.field-0 ∷ [] = ap (map selector_view) c.in_ok-push.ensures.items ∙ map_push selector_view c.loop-index.selectors.items c.in_ok-selector.field-0 in
    rw pushed (goes_on (λ p. refused_as section_refused (selector_in p)) done _ (enumerate_from (i + 1) (map spelled (drop (i + 1) xs))) (selector_view c.in_ok-selector.field-0) (section_stage (map spelled xs)) (sym cut ∙ c.loop-index.invariant) c.in_ok-selector.ensures)

pub returns-in_err-selector : goal.returns-in_err-selector
returns-in_err-selector c =
    let i = c.loop-index.index in
    let xs = c.args.sections.now in
    let done = map selector_view c.loop-index.selectors.items in
    let cut = at_drop_more (λ (ys : List (Bor (List ℕ))). all_ok_after (λ p. refused_as section_refused (selector_in p)) done (enumerate_from i (map spelled ys))) xs i _ c.loop-index-test.true in
    let is : c.from_residual-in_err-selector.result ≡ Err c.in_err-selector.field-0.0 = search rules in
    subst (λ (r : Result (Vec Selector Global) CiteError). Gives (λ (v : Vec Selector Global). map selector_view v.items) r (section_stage (map spelled xs))) (sym is)
    (refused_weaker c.in_err-selector.field-0.0 _ (λ a. section_stage (map spelled xs) ≡ a)
    (λ r h. fails (λ p. refused_as section_refused (selector_in p)) done _ (enumerate_from (i + 1) (map spelled (drop (i + 1) xs))) r (section_stage (map spelled xs)) (sym cut ∙ c.loop-index.invariant) h) c.in_err-selector.ensures)

pub returns : goal.returns
returns c =
    let i = c.loop-index.index in
    let xs = c.args.sections.now in
    let none = ap (λ (ys : List (Bor (List ℕ))). enumerate_from i (map spelled ys)) (drop_all i xs (omega (arith, c.loop-index-test.false))) in
    ends (λ p. refused_as section_refused (selector_in p)) (map selector_view c.loop-index.selectors.items) (enumerate_from i (map spelled (drop i xs))) (section_stage (map spelled xs)) c.loop-index.invariant none
