use Rattle.std.proofs.Common.{◌≡◌, ℕ, List, Option, Some, None, sym, ap, ◌∙◌}
use Rattle.std.specs.Str.{chars}
use Rattle.laws.specs.Text.{text}
use Rattle.laws.proofs.Text.{text_of_chars}
use Rattle.biblatex.specs.Bibliographies.{listed_view}
use Rattle.cite_requests.specs.Cited.{marked_at}
use Rattle.cite_requests.proofs.marks.mark_named.Goals as goal

pub returns-in-Some : goal.returns-in-Some
returns-in-Some c =
    let file = listed_view c.args.file.now in
    let name = c.args.name.now in
    let means : Some c.in-Some.index ≡ file.index (text (chars name)) = c.in-Some.ensures.value ∙ ap (λ (n : List ℕ). file.index n) (sym (text_of_chars name c.utf8.name)) in
    c.mark_at.ensures ∙ ap (λ (o : Option ℕ). marked_at o c.args.marks.now) means

pub returns-in-None : goal.returns-in-None
returns-in-None c =
    let file = listed_view c.args.file.now in
    let name = c.args.name.now in
    let means : None ≡ file.index (text (chars name)) = c.in-None.ensures.value ∙ ap (λ (n : List ℕ). file.index n) (sym (text_of_chars name c.utf8.name)) in
    ap (λ (o : Option ℕ). marked_at o c.args.marks.now) means
