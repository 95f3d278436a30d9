use Rattle.std.proofs.Common.{◌≡◌, ◌++◌, ◌∷◌, [], false, true, cond, sym, ap, ◌∙◌, append-nil}
use Rattle.std.proofs.lemmas.List.{map_push}
use Rattle.biblatex.specs.Entries.{source_view}
use Rattle.interop.specs.Views.{lent_sources_view}
use Rattle.cite_requests.proofs.CitedKeys.{has_found}
use Rattle.cite_csl.specs.Views.{has_key}
use Rattle.cite_csl.proofs.engine.push_known.Goals as goal

pub returns-then-not-contains : goal.returns-then-not-contains
returns-then-not-contains c =
    let e = source_view c.args.entry.now in
    let before = lent_sources_view c.args.found.now.items in
    let here : has_key c.args.keys.now e.key ≡ false = ap (has_key c.args.keys.now) (sym c.as_str.ensures.value) ∙ has_found c.args.keys.now c.as_str.result ∙ sym c.contains.ensures ∙ c.if-not-contains.true in
    sym (append-nil before) ∙ ap (λ b. before ++ cond b (e ∷ []) []) (sym here)

pub returns : goal.returns
returns c =
    let e = source_view c.args.entry.now in
    let before = lent_sources_view c.args.found.now.items in
    let here : has_key c.args.keys.now e.key ≡ true = ap (has_key c.args.keys.now) (sym c.as_str.ensures.value) ∙ has_found c.args.keys.now c.as_str.result ∙ sym c.contains.ensures ∙ c.if-not-contains.false in
    ap lent_sources_view c.in_ok-push.ensures.items
    ∙ map_push (λ b. source_view b.now) c.args.found.now.items c.args.entry
    ∙ ap (λ b. before ++ cond b (e ∷ []) []) (sym here)
