use Rattle.std.proofs.Common.{ℕ, List, sym, ap, ◌∙◌}
use Rattle.std.specs.List.{list_any}
use Rattle.std.specs.Str.{bytes_eq}
use Rattle.laws.proofs.Text.{text_of_chars}
use Rattle.rendering_cases.specs.StopWords.{stop_words}
use Rattle.rendering_cases.proofs.word.are_listed.Goals as goal

pub returns : goal.returns
returns c = c.is_among.ensures ∙ ap (λ (t : List ℕ). list_any (bytes_eq t) stop_words) (sym (text_of_chars c.args.letters.now c.utf8.letters))
