use Rattle.std.proofs.Common.{◌≡◌, ◌++◌, ◌∷◌, [], ℕ, List, map, string_bytes, append_assoc, ap, ◌∙◌}
use Rattle.std.proofs.lemmas.List.{map_push}
use Rattle.std.proofs.lemmas.Result.{on_ok_weaker}
use Rattle.biblatex.specs.declared.indices.NamedIndex.{NamedIndex}
use Rattle.biblatex.specs.Indices.{Names, named_index, names_in}
use Rattle.biblatex.specs.Naming.{numbered}
use Rattle.biblatex.proofs.naming.append_names_of.Goals as goal

pub returns : goal.returns
returns c =
    let old = c.args.names.now.items in
    let index = c.args.index in
    let others = numbered (map string_bytes c.in_ok-more.more.items) index in
    let key : string_bytes c.in_ok-key.key ≡ string_bytes c.args.entry.now.key = c.in_ok-key.ensures.bytes ∙ c.as_str.ensures.value in
    let named : named_index c.new.result ≡ (string_bytes c.args.entry.now.key, index) = c.new.ensures ∙ ap (λ (k : List ℕ). (k, index)) key in
    on_ok_weaker c.append_names.result
    (λ e.
    e ∙ (ap (λ (ns : List NamedIndex). names_in ns ++ others) c.in_ok-push.ensures.items
    ∙ (ap (λ (ns : Names). ns ++ others) (map_push named_index old c.new.result)
    ∙ (append_assoc (names_in old) (named_index c.new.result ∷ []) others
    ∙ (λ i. names_in old ++ named i ∷ numbered (c.in_ok-more.ensures i) index)))))
    c.append_names.ensures
