use Rattle.std.proofs.Common.{◌≡◌, ◌++◌, [], sym, ap, ◌∙◌, string_bytes}
use Rattle.std.proofs.lemmas.Str.{IsUtf8-string_bytes}
use Rattle.laws.specs.Text.{characters, text}
use Rattle.laws.proofs.Text.{text-append, text_of_chars}
use Rattle.rendering_tree.specs.Views.{element_view}
use Rattle.rendering_tree.specs.Writing.{plain_text}
use Rattle.driver_blocks.specs.Shown.{people_inside, shown_people}
use Rattle.driver_blocks.proofs.shown.names_text.Goals as goal

pub returns : goal.returns
returns c =
    let old = c.in_ok-key.key in
    let new = c.push_shown.new.text in
    let e = element_view c.args.names.now in
    let shown = shown_people (people_inside [] e.meta) e.children in
    let whole : characters new ≡ characters old ++ shown =
    c.in_ok-push_shown.ensures ∙ ap (λ people. characters old ++ shown_people people e.children) c.people_inside.ensures in
    sym (text_of_chars (string_bytes new) (IsUtf8-string_bytes new))
    ∙ ap text whole
    ∙ text-append (characters old) shown
    ∙ ap (λ bs. bs ++ text shown) (text_of_chars (string_bytes old) (IsUtf8-string_bytes old) ∙ c.in_ok-key.ensures)
    ∙ sym (text-append (plain_text e.children) shown)
