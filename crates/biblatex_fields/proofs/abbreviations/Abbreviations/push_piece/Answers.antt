use Rattle.std.proofs.Common.{List, Result, sym, subst}
use Rattle.std.specs.Str.{chars}
use Rattle.std.proofs.lemmas.Result.{err_from_is_err_and}
use Rattle.biblatex_text.specs.Raw.{At}
use Rattle.biblatex_text.specs.Views.{piece_view}
use Rattle.biblatex_content.specs.Spans.{spanned_so_far}
use Rattle.biblatex_content.specs.Styled.{Member}
use Rattle.biblatex_fields.specs.Abbreviations.{spelled, defined, pieces_at, sense}
use Rattle.biblatex_fields.specs.Refusals.{Refusal}
use Rattle.biblatex_fields.specs.Value.{read}
use Rattle.biblatex_fields.specs.Errors.{refusal_of}
use Rattle.biblatex_fields.specs.Views.{sense_view}
use Rattle.laws.specs.Results.{Gives}
use Rattle.biblatex_fields.proofs.ValueRefused.{refused}
use Rattle.biblatex_fields.proofs.ValueStack.{read_sensed, read_refused}
use Rattle.biblatex_fields.proofs.abbreviations.Abbreviations.push_piece.Goals as goal

pub returns-in_err-text : goal.returns-in_err-text
returns-in_err-text c =
    let q = err_from_is_err_and c.from_residual.result c.from_residual.ensures.1 in
    let g = c.args.self.now in
    let p = piece_view c.args.raw.now in
    let done = spanned_so_far c.args.contents in
    rw (q.1, q.2) (refused (sense_view g.definitions) spanned_so_far c.in_err-text.field-0.0 (sense g p) (read g c.args.is_verbatim p done) c.in_err-text.ensures.sense
    (λ f e. read_refused g c.args.is_verbatim c.in_err-text.ensures.flags p done f e))

pub returns-in-Spelled : goal.returns-in-Spelled
returns-in-Spelled c =
    let g = c.args.self.now in
    let is = rw c.in-Spelled.is at c.in_ok-text.ensures.sense in
    subst (λ (r : Result (List (At Member)) Refusal). Gives refusal_of spanned_so_far c.push_text.result r)
    (sym (read_sensed g c.args.is_verbatim c.in_ok-text.ensures.flags (piece_view c.args.raw.now) (spanned_so_far c.args.contents) (spelled (chars c.in-Spelled.text.now)) is)) c.push_text.ensures

pub returns-in-Defined : goal.returns-in-Defined
returns-in-Defined c =
    let g = c.args.self.now in
    let is = rw c.in-Defined.is at c.in_ok-text.ensures.sense in
    subst (λ (r : Result (List (At Member)) Refusal). Gives refusal_of spanned_so_far c.push_definition.result r)
    (sym (read_sensed g c.args.is_verbatim c.in_ok-text.ensures.flags (piece_view c.args.raw.now) (spanned_so_far c.args.contents) (defined (pieces_at g.definitions c.in-Defined.index)) is)) c.push_definition.ensures
