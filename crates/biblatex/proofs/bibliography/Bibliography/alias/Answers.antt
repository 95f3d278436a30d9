use Rattle.std.proofs.Common.{◌∷◌, [], length, string_bytes, ◌∙◌}
use Rattle.biblatex_entries.specs.Entries.{sources_view}
use Rattle.biblatex.specs.Indices.{meaning_in, names_in}
use Rattle.biblatex.proofs.IndicesWithin.{known, bound_or_same}
use Rattle.biblatex.proofs.bibliography.Bibliography.alias.Goals as goal

pub invariant_of-self : goal.invariant_of-self
invariant_of-self c =
    let count = length (sources_view c.self.inside.entries.items) in
    let name = c.args.name.now in
    let meant = c.in-Some.ensures ∙ (λ i. meaning_in (names_in (c.as_slice.ensures.value i)) name) in
    let low = known (meaning_in (names_in c.self.inside.names.items) name) c.in-Some.index count meant (c.self.invariant.0 name) in (
      bound_or_same c.bind.result (string_bytes c.in_ok-alias.alias ∷ []) c.in-Some.index count c.self.inside.names.items c.bind.new.names.items c.bind.ensures.ok c.bind.ensures.err low c.self.invariant.0,
      c.bind.ensures.order,
    )
