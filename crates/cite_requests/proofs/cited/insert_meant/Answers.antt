use Rattle.std.proofs.Common.{◌≡◌, ◌||◌, ◌∷◌, ℕ, [], List, Option, sym, ap, ◌∙◌}
use Rattle.std.specs.Prelude.{option_to_list}
use Rattle.std.specs.Option.{option_map}
use Rattle.std.proofs.lemmas.Result.{on_ok_weaker}
use Rattle.laws.proofs.Text.{text_of_chars}
use Rattle.laws.specs.Text.{spelled, text}
use Rattle.biblatex.specs.Bibliographies.{listed_view}
use Rattle.biblatex.specs.Entries.{Source}
use Rattle.cite_requests.specs.Cited.{is_among, key_meant}
use Rattle.cite_requests.specs.Views.{has}
use Rattle.cite_requests.proofs.CitedKeys.{among_one, or_false}
use Rattle.cite_requests.proofs.cited.insert_meant.Goals as goal

pub returns-in-Some : goal.returns-in-Some
returns-in-Some c =
    let file = listed_view c.args.file.now in
    let key = c.as_str.result.now in
    let meant : key_meant file (text (spelled c.args.name)) ≡ key ∷ [] =
    ap (key_meant file) (text_of_chars c.args.name.now c.utf8.name)
    ∙ sym (ap (λ (o : Option Source). option_to_list (option_map (λ e. e.key) o)) c.in-Some.ensures)
    ∙ ap (λ (k : List ℕ). k ∷ []) (sym c.as_str.ensures.value) in
    on_ok_weaker c.insert_key.result
    (λ h k. h k ∙ among_one (has c.args.keys.now k) key k.now ∙ ap (λ (ks : List (List ℕ)). has c.args.keys.now k || is_among ks k.now) (sym meant))
    c.insert_key.ensures

pub returns-in-None : goal.returns-in-None
returns-in-None c k =
    let file = listed_view c.args.file.now in
    let none : key_meant file (text (spelled c.args.name)) ≡ [] =
    ap (key_meant file) (text_of_chars c.args.name.now c.utf8.name)
    ∙ sym (ap (λ (o : Option Source). option_to_list (option_map (λ e. e.key) o)) c.in-None.ensures) in
    sym (or_false (has c.args.keys.now k)) ∙ ap (λ (ks : List (List ℕ)). has c.args.keys.now k || is_among ks k.now) (sym none)
