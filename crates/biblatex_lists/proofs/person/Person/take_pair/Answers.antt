use Rattle.std.proofs.Common.{◌≡◌, ℕ, List, Option, Bor, sym, ap, ◌∙◌}
use Rattle.std.specs.Prelude.{string_bytes}
use Rattle.std.proofs.lemmas.Str.{IsUtf8-string_bytes}
use Rattle.laws.specs.Text.{text, characters}
use Rattle.laws.specs.Borrowed.{borrowed}
use Rattle.laws.proofs.Text.{text_of_chars}
use Rattle.biblatex_lists.specs.StyledChars.{plain}
use Rattle.biblatex_lists.specs.declared.styled_char.StyledChar.{StyledChar}
use Rattle.biblatex_lists.specs.Reading.{with_value, with_pair}
use Rattle.biblatex_lists.specs.Views.{named_view}
use Rattle.biblatex_lists.specs.Words.{joined_words, words}
use Rattle.biblatex_lists.proofs.person.Person.take_pair.Goals as goal

pub returns : goal.returns
returns c =
    let k : c.as_str.result.now ≡ text (plain c.in-Some.key.now) =
    c.as_str.ensures.value ∙ (sym (text_of_chars (string_bytes c.in_ok-key.key) (IsUtf8-string_bytes c.in_ok-key.key)) ∙ ap text c.in_ok-key.ensures) in
    let w : borrowed c.deref.result.now ≡ words c.in-Some.value.now = ap (λ (ws : List (Bor (List StyledChar))). borrowed ws) c.deref.ensures.value ∙ c.in_ok-words_in.ensures in
    let v : characters c.in_ok-value.value ≡ joined_words (words c.in-Some.value.now) = c.in_ok-value.ensures ∙ ap joined_words w in
    let self = named_view c.args.self.now in
    c.take_value.ensures ∙ (ap (λ (x : List ℕ). with_value x (characters c.in_ok-value.value) self) k
    ∙ (ap (λ (x : List ℕ). with_value (text (plain c.in-Some.key.now)) x self) v
    ∙ ap (λ (o : Option (List ℕ × List ℕ)). with_pair o self) (sym c.in-Some.ensures)))
