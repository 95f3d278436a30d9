use Rattle.std.proofs.Common.{◌≡◌, ℕ, List, ◌++◌, rules, sym, ap, ◌∙◌, string_bytes}
use Rattle.laws.proofs.Text.{text_of_chars}
use Rattle.cite_csl_styles.proofs.csl_texts.text_of.Goals as goal

pub returns-clause-characters : goal.returns-clause-characters
returns-clause-characters c =
    let put : string_bytes c.push_str.new.self ≡ c.args.words.now ++ c.args.name.now = search rules in
    put ∙ ap (λ (t : List ℕ). c.args.words.now ++ t) (sym (text_of_chars c.args.name.now c.utf8.name))
