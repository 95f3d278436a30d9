use Rattle.std.proofs.Common.{◌≡◌, [], ◌∷◌, ◌++◌, map, ap, ◌∙◌}
use Rattle.std.proofs.lemmas.List.{map_push}
use Rattle.std.proofs.lemmas.Result.{err_from_is_err_and}
use Rattle.laws.specs.Steps.{each}
use Rattle.texts.specs.Views.{left}
use Rattle.xml_text.specs.Markup.{token_at}
use Rattle.xml_text.specs.Views.{placed_view, token_view}
use Rattle.laws.proofs.Gathering.{goes_on, ends}
use Rattle.xml_text.proofs.ShorterTokens.{tokens_shorten}
use Rattle.xml_text.proofs.Words.{stops-gathered}
use Rattle.xml_schema.specs.Views.{tokens_view}
use Rattle.xml_schema.proofs.placing.take_tokens.Goals as goal

pub loop-tokens-preserved : goal.loop-tokens-preserved
loop-tokens-preserved c =
    let e = rw c.in-Some.is at c.in_ok-token.ensures.reading in
    let pushed : tokens_view c.push.new.self ≡ tokens_view c.loop-tokens.tokens ++ placed_view token_view c.in-Some.token ∷ [] = ap (map (placed_view token_view)) c.in_ok-push.ensures.items ∙ map_push (placed_view token_view) c.loop-tokens.tokens.items c.in-Some.token in
    rw pushed (goes_on token_at tokens_shorten (tokens_view c.loop-tokens.tokens) (left c.loop-tokens.reader) (left c.next_token.new.reader) (each token_at (left c.args.reader.now)) (placed_view token_view c.in-Some.token) c.loop-tokens.invariant e)

pub loop-tokens-smaller : goal.loop-tokens-smaller
loop-tokens-smaller c =
    let e = rw c.in-Some.is at c.in_ok-token.ensures.reading in
    tokens_shorten (left c.loop-tokens.reader) (left c.next_token.new.reader) (placed_view token_view c.in-Some.token) e

pub returns : goal.returns
returns c =
    let e = rw c.in_default.is at c.in_ok-token.ensures.reading in
    ends token_at (tokens_view c.loop-tokens.tokens) (left c.loop-tokens.reader) (left c.next_token.new.reader) (each token_at (left c.args.reader.now)) c.loop-tokens.invariant e

pub returns-in_err-token : goal.returns-in_err-token
returns-in_err-token c =
    let p = err_from_is_err_and c.from_residual.result c.from_residual.ensures.1 in
    rw (p.1, p.2) (stops-gathered token_at (tokens_view c.loop-tokens.tokens) (left c.loop-tokens.reader) (left c.next_token.new.reader) (each token_at (left c.args.reader.now)) c.in_err-token.field-0.0 c.loop-tokens.invariant c.in_err-token.ensures.reading)
