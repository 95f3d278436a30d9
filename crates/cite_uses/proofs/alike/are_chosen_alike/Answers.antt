use Rattle.std.proofs.Common.{◌≡◌, ◌↔◌, IsTrue, subst, arith}
use Rattle.literature_entries.specs.EntriesData.{entry_view}
use Rattle.literature.specs.Holding.{holds_at}
use Rattle.literature.specs.Views.{selector_view}
use Rattle.literature.specs.declared.selector.Selector.{Selector}
use Rattle.rendering_alike.proofs.AnswersAll.{none_left, not_this, one_less}
use Rattle.cite_uses.proofs.alike.are_chosen_alike.Goals as goal

pub loop-section-init : goal.loop-section-init
loop-section-init c = (λ h. h, λ h. h)

pub loop-section-preserved : goal.loop-section-preserved
loop-section-preserved c =
    one_less (λ (s : Selector). holds_at (selector_view s) (entry_view c.args.work.now) ≡ holds_at (selector_view s) (entry_view c.args.other.now)) c.args.sections.now c.loop-section.section-index c.loop-section.invariant
    c.section-item.result c.chooses_alike.result c.loop-section-test.true
    (subst (λ (s : Selector). IsTrue c.chooses_alike.result ↔ (holds_at (selector_view s) (entry_view c.args.work.now) ≡ holds_at (selector_view s) (entry_view c.args.other.now))) c.section-item.is c.chooses_alike.ensures)
    c.if-not-chooses_alike.false

pub returns-then-not-chooses_alike : goal.returns-then-not-chooses_alike
returns-then-not-chooses_alike c =
    not_this (λ (s : Selector). holds_at (selector_view s) (entry_view c.args.work.now) ≡ holds_at (selector_view s) (entry_view c.args.other.now)) c.args.sections.now c.loop-section.section-index c.loop-section.invariant
    c.section-item.result c.chooses_alike.result c.loop-section-test.true
    (subst (λ (s : Selector). IsTrue c.chooses_alike.result ↔ (holds_at (selector_view s) (entry_view c.args.work.now) ≡ holds_at (selector_view s) (entry_view c.args.other.now))) c.section-item.is c.chooses_alike.ensures)
    c.if-not-chooses_alike.true

pub returns : goal.returns
returns c =
    none_left (λ (s : Selector). holds_at (selector_view s) (entry_view c.args.work.now) ≡ holds_at (selector_view s) (entry_view c.args.other.now)) c.args.sections.now c.loop-section.section-index c.loop-section.invariant
    (omega (arith, c.loop-section-test.false))
