use Rattle.std.proofs.Common.{◌≡◌, ℕ, ◌++◌, List, String, refl, ap, ◌∙◌}
use Rattle.std.specs.Prelude.{string_bytes}
use Rattle.std.specs.Global.{Global}
use Rattle.std.specs.Str.{chars}
use Rattle.std.proofs.lemmas.Fmt.{contents_after_writes}
use Rattle.std.proofs.lemmas.Str.{IsUtf8-string_bytes}
use Rattle.laws.specs.Text.{text}
use Rattle.laws.proofs.Text.{chars-text}
use Rattle.literature_values.specs.GivenNames.{given_by}
use Rattle.literature_values.specs.Initials.{style}
use Rattle.literature_values.specs.PersonViews.{given_name_view}
use Rattle.rendering_names.proofs.person.initials.Goals as goal

pub returns-in-Ok : goal.returns-in-Ok
returns-in-Ok c =
    let new = c.initials_by.new.writer in
    let cs : List ℕ = given_by c.initials_rule-rule.result (style (chars c.after_initials.result.now) c.keeps_hyphens-hyphens.result) (given_name_view c.args.person.now) in
    let wrote = contents_after_writes (λ (s : String Global) (bs : List ℕ) (t : String Global). string_bytes t ≡ string_bytes s ++ bs) string_bytes (λ s bs t e. e) _ _ _ (c.in-Ok.ensures refl) in
    chars-text (string_bytes new) cs (IsUtf8-string_bytes new) (wrote ∙ ap (λ (bs : List ℕ). bs ++ text cs) c.empty_text-out.ensures.bytes)
    ∙ (λ i. given_by (c.initials_rule-rule.ensures i) (style (c.after_initials.ensures i) (c.keeps_hyphens-hyphens.ensures i)) (given_name_view c.args.person.now))
