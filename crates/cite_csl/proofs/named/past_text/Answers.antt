use Rattle.std.proofs.Common.{ℕ, [], List, Option, unwrap_or, ap₂, ◌∙◌}
use Rattle.std.specs.Option.{option_or}
use Rattle.std.proofs.lemmas.Str.{chars-nil}
use Rattle.cite_csl.proofs.Past.{first_spelled}
use Rattle.cite_csl.proofs.named.past_text.Goals as goal

pub returns : goal.returns
returns c =
    rw (c.unwrap_or.ensures, c.or.ensures) (first_spelled c.past.result c.past_escaped.result _ chars-nil ∙ ap₂ (λ (x y : Option (List ℕ)). unwrap_or (option_or x y) []) c.past.ensures c.past_escaped.ensures)
