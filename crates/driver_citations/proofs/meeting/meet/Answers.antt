use Rattle.std.proofs.Common.{◌≡◌, true, false, sym, ap, ◌∙◌}
use Rattle.std.specs.Str.{chars}
use Rattle.laws.specs.Text.{characters, is_filled}
use Rattle.rendering_page.specs.Views.{quotes_view}
use Rattle.driver_citations.specs.Meeting.{close_quote}
use Rattle.driver_citations.proofs.MeetingTexts.{left_empty, left_nothing, left_whole, met_empty, met_nothing, met_whole}
use Rattle.driver_citations.proofs.meeting.meet.Goals as goal

pub returns-then-not-has_text-clause-end : goal.returns-then-not-has_text-clause-end
returns-then-not-has_text-clause-end c =
    let empty : is_filled (characters c.args.own.now) ≡ false = ap (λ s. is_filled (chars s)) (sym c.as_str.ensures.value) ∙ sym c.has_text.ensures ∙ c.if-not-has_text.true in
    met_empty (quotes_view c.args.quotes.now) (characters c.args.own.now) (chars c.args.text.now) empty

pub returns-then-not-has_text-clause-rest : goal.returns-then-not-has_text-clause-rest
returns-then-not-has_text-clause-rest c =
    let empty : is_filled (characters c.args.own.now) ≡ false = ap (λ s. is_filled (chars s)) (sym c.as_str.ensures.value) ∙ sym c.has_text.ensures ∙ c.if-not-has_text.true in
    left_empty (quotes_view c.args.quotes.now) (characters c.args.own.now) (chars c.args.text.now) empty

pub returns-in_default-clause-end : goal.returns-in_default-clause-end
returns-in_default-clause-end c = met_nothing (quotes_view c.args.quotes.now) (characters c.args.own.now) (chars c.args.text.now) c.in_default.ensures.chars

pub returns-in_default-clause-rest : goal.returns-in_default-clause-rest
returns-in_default-clause-rest c = left_nothing (quotes_view c.args.quotes.now) (characters c.args.own.now) (chars c.args.text.now) c.in_default.ensures.chars

pub returns-clause-end : goal.returns-clause-end
returns-clause-end c =
    let quotes = quotes_view c.args.quotes.now in
    let filled : is_filled (characters c.args.own.now) ≡ true = ap (λ s. is_filled (chars s)) (sym c.as_str.ensures.value) ∙ sym c.has_text.ensures ∙ c.if-not-has_text.false in
    let quote = c.close_quote-quote.ensures ∙ ap (λ s. close_quote quotes (chars s)) c.as_str-2.ensures.value in
    met_whole quotes (characters c.args.own.now) (chars c.args.text.now) (chars c.in-Some.rest.now) (chars c.close_quote-quote.result.now) (characters c.meet_before.new.own) (characters c.push_text.new.text) c.in-Some.first
    filled c.in-Some.ensures.chars quote c.in_ok-is_taken.ensures.text c.in_ok-push_text.ensures

pub returns-clause-rest : goal.returns-clause-rest
returns-clause-rest c =
    let quotes = quotes_view c.args.quotes.now in
    let filled : is_filled (characters c.args.own.now) ≡ true = ap (λ s. is_filled (chars s)) (sym c.as_str.ensures.value) ∙ sym c.has_text.ensures ∙ c.if-not-has_text.false in
    let quote = c.close_quote-quote.ensures ∙ ap (λ s. close_quote quotes (chars s)) c.as_str-2.ensures.value in
    left_whole quotes (characters c.args.own.now) (chars c.args.text.now) (chars c.in-Some.rest.now) (chars c.close_quote-quote.result.now) (chars c.left.result.now) c.in-Some.first c.in_ok-is_taken.is_taken
    filled c.in-Some.ensures.chars quote c.in_ok-is_taken.ensures.taken c.left.ensures
