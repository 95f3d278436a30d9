use Rattle.std.proofs.Common.{ℕ, List, sym, ap, subst, ◌∙◌}
use Rattle.biblatex_entries.specs.Entries.{source_view}
use Rattle.biblatex_meaning.specs.Listed.{IsAsRead, put_last}
use Rattle.biblatex.specs.Bibliographies.{Indexed, listed_view, indexed}
use Rattle.biblatex.proofs.IndicesWithin.{then_ok}
use Rattle.biblatex_meaning.proofs.ListedNames.{pushed-read}
use Rattle.biblatex.proofs.bibliography.Bibliography.push.Goals as goal

pub returns-clause-read : goal.returns-clause-read
returns-clause-read c = λ is.
    let e = source_view c.args.entry in
    let before = listed_view (indexed c.self.inside.entries.items c.self.inside.names.items) in
    let was = subst (λ (b : Indexed). IsAsRead (listed_view b)) (sym c.self.view_is) is in
    then_ok c.put_last.result _ _ c.put_last.ensures.ok (λ p.
    subst IsAsRead (sym (p ∙ ap (λ (names : List (List ℕ)). put_last names e before) c.in_ok-names.ensures)) (pushed-read e before was))
