use Rattle.std.proofs.Common.{refl, true, List, ℕ, ◌++◌, ◌∷◌, [], sym, ap, ◌∙◌}
use Rattle.std.proofs.Output.{has_written_of_eq, has_written_append}
use Rattle.laws.specs.Characters.{slash}
use Rattle.laws.specs.Text.{text}
use Rattle.laws.proofs.Text.{text-append}
use Rattle.biblatex_dates.specs.Written.{datetime_text}
use Rattle.biblatex_dates.proofs.written.write_range.Goals as goal

pub returns : goal.returns
unfolding lib.Utf8.encode
returns g c = λ plain ok.
    let start : List ℕ = datetime_text c.args.start in
    let end : List ℕ = datetime_text c.args.end in
    let a = c.in_ok-fmt.ensures.writes plain (refl {a = true}) in
    let b = c.in_ok-write_str.ensures.writes a.plain (refl {a = true}) in
    has_written_of_eq _ _ _ _ _
    (sym (text-append start (slash ∷ end) ∙ ap (λ (x : List ℕ). text start ++ x) (text-append (slash ∷ []) end)))
    (has_written_append _ _ _ _ _ _ a (has_written_append _ _ _ _ _ _ b (c.fmt-2.ensures.writes b.plain ok)))
