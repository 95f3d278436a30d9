use Rattle.std.proofs.Common.{◌≡◌, ℕ, false, List, sym, ap, ◌∙◌}
use Rattle.std.specs.Prelude.{map}
use Rattle.std.specs.Char.{to_ascii_lowercase}
use Rattle.std.specs.Str.{chars}
use Rattle.std.proofs.lemmas.Str.{encodes-chars}
use Rattle.laws.specs.Text.{lowered}
use Rattle.biblatex_values.specs.EditorType.{EditorName, editor_of}
use Rattle.biblatex_values.proofs.editor_type.EditorType.new.Goals as goal

abbrev unknown : List ℕ → EditorName
unknown name = record { name = name; is_known = false }

pub returns-in-Some : goal.returns-in-Some
returns-in-Some c =
    let low : c.as_str.result.now ≡ lowered (chars c.args.name.now) = c.as_str.ensures.value ∙ (c.in_ok-name.ensures.ok ∙ ap (map to_ascii_lowercase) (sym (encodes-chars c.args.name.now c.utf8.name))) in
    c.in-Some.ensures ∙ ap editor_of low

pub returns-in-None : goal.returns-in-None
returns-in-None c =
    let low : c.as_str.result.now ≡ lowered (chars c.args.name.now) = c.as_str.ensures.value ∙ (c.in_ok-name.ensures.ok ∙ ap (map to_ascii_lowercase) (sym (encodes-chars c.args.name.now c.utf8.name))) in
    ap unknown (sym c.as_str.ensures.value) ∙ (sym c.in-None.ensures ∙ ap editor_of low)
