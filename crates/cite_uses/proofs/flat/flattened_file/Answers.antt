use Rattle.std.specs.Global.{Global}
use Rattle.std.proofs.Common.{◌≡◌, Option, Result, Err, String, string_bytes, rules, sym, ap, subst, ◌∙◌}
use Rattle.std.specs.Option.{option_map}
use Rattle.laws.specs.Results.{Answers}
use Rattle.biblatex.specs.Bibliographies.{Indexed, listed_view}
use Rattle.biblatex.specs.Errors.{refusal_of}
use Rattle.biblatex.specs.ParseError.{ParseError}
use Rattle.biblatex_writing.specs.Written.{written_file}
use Rattle.cite.specs.Roads.{rewritten}
use Rattle.cite.proofs.SameVerdicts.{same_verdicts}
use Rattle.cite_uses.specs.Flattened.{HaveTheSameVerdicts, IsFlattening}
use Rattle.cite_uses.proofs.Flattenings.{refused, settled_file, unsettled_file}
use Rattle.cite_uses.proofs.flat.flattened_file.Goals as goal

pub returns-in_err-file-clause-text : goal.returns-in_err-file-clause-text
returns-in_err-file-clause-text c =
    let bib = c.args.bib.now in
    let is : c.from_residual.result ≡ Err c.in_err-file.field-0.0 = search rules in
    subst (λ (r : Result (Option (String Global)) ParseError). Answers refusal_of (option_map (λ s. string_bytes s)) r (IsFlattening bib)) (sym is)
    (refused bib c.utf8.bib (refusal_of c.in_err-file.field-0.0) c.in_err-file.ensures.meaning)

pub returns-then-not-reads_back-clause-text : goal.returns-then-not-reads_back-clause-text
returns-then-not-reads_back-clause-text c =
    unsettled_file c.args.bib.now c.utf8.bib c.in_ok-file.file c.flatten.new.self c.in_ok-file.ensures.meaning c.flatten.ensures (sym c.reads_back.ensures ∙ c.if-not-reads_back.true)

pub returns-clause-text : goal.returns-clause-text
returns-clause-text c =
    let b = c.in_ok-file.file in (
      listed_view b,
      settled_file c.args.bib.now c.utf8.bib b c.flatten.new.self c.in_ok-file.ensures.meaning c.flatten.ensures (sym c.reads_back.ensures ∙ c.if-not-reads_back.false),
      c.in_ok-to_biblatex_string.ensures.file ∙ ap (λ (n : Indexed). written_file n.entries) c.flatten.ensures,
    )

pub returns-clause-same : goal.returns-clause-same
returns-clause-same c =
    let bib = c.args.bib.now in
    let b = c.in_ok-file.file in
    let settled = settled_file bib c.utf8.bib b c.flatten.new.self c.in_ok-file.ensures.meaning c.flatten.ensures (sym c.reads_back.ensures ∙ c.if-not-reads_back.false) in
    let written : string_bytes c.in_ok-to_biblatex_string.field-0 ≡ rewritten (listed_view b) = c.in_ok-to_biblatex_string.ensures.file ∙ ap (λ (n : Indexed). written_file n.entries) c.flatten.ensures in
    subst (HaveTheSameVerdicts bib) (sym written) (λ task answer. same_verdicts bib (listed_view b) task settled answer)
