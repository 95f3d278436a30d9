use Rattle.std.proofs.Common.{rules, refl, w32, FitsSigned, true, List, ℕ, ◌++◌, ◌∷◌, [], sym, ap, ◌∙◌}
use Rattle.std.proofs.lemmas.Int.{to_z-of_z}
use Rattle.std.proofs.Output.{has_written_of_eq, has_written_append}
use Rattle.laws.specs.Characters.{slash}
use Rattle.laws.specs.Text.{text}
use Rattle.laws.proofs.Text.{text-append}
use Rattle.literature_values.specs.DateText.{side_text, mark_text}
use Rattle.literature_values.proofs.date.write_last_side.Goals as goal

pub returns : goal.returns
unfolding lib.Utf8.encode
returns g c = λ plain ok.
    let side : List ℕ = side_text c.args.year c.args.month c.args.day in
    let mark : List ℕ = mark_text c.args.is_approximate in
    let f : FitsSigned w32 c.args.year = search rules in
    let a = c.in_ok-write_str.ensures.writes plain (refl {a = true}) in
    let b = c.in_ok-write_side.ensures a.plain (refl {a = true}) in
    has_written_of_eq _ _ _ _ _
    ((λ i. text (slash ∷ []) ++ (text (side_text (to_z-of_z w32 c.args.year f i) c.args.month c.args.day) ++ text mark))
    ∙ sym (text-append (slash ∷ []) (side ++ mark) ∙ ap (λ (x : List ℕ). text (slash ∷ []) ++ x) (text-append side mark)))
    (has_written_append _ _ _ _ _ _ a (has_written_append _ _ _ _ _ _ b (c.write_mark.ensures b.plain ok)))
