use Rattle.std.proofs.Common.{◌++◌, ◌∷◌, [], ℕ, List, map, sym, ap, ◌∙◌}
use Rattle.std.proofs.lemmas.List.{map_push}
use Rattle.laws.proofs.Text.{text_of_chars}
use Rattle.cite_uses.specs.Alike.{now_of}
use Rattle.cite_uses.proofs.names.push_name.Goals as goal

pub returns : goal.returns
returns c =
    let before = map now_of c.args.names.now.items in
    ap (map now_of) c.in_ok-push.ensures.items ∙ map_push now_of c.args.names.now.items c.args.name
    ∙ ap (λ (n : List ℕ). before ++ n ∷ []) (sym (text_of_chars c.args.name.now c.utf8.name))
