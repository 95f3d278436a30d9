use Rattle.std.proofs.Common.{List, ℕ, bytes_eq, string_bytes, refl, sym, ap, ◌∙◌}
use Rattle.std.proofs.lemmas.Option.{slice_get_read, slice_get_past}
use Rattle.biblatex.specs.Indices.{has_name}
use Rattle.biblatex.proofs.IndicesOrder.{bytes_eq-turned}
use Rattle.biblatex.proofs.indices.stands_at.Goals as goal

pub returns-in-Some : goal.returns-in-Some
returns-in-Some c =
    let found = c.in-Some.ensures.lookup in
    let at = slice_get_read c.args.names.now _ c.args.place c.in-Some.named.now refl found.3.0 found.1 in
    c.eq.ensures ∙ (ap (λ (x : List ℕ). bytes_eq x c.args.name.now) c.as_str.ensures
    ∙ (bytes_eq-turned (string_bytes c.in-Some.named.now.name.text) c.args.name.now
    ∙ sym (ap (has_name c.args.name.now) at)))

pub returns-in-None : goal.returns-in-None
returns-in-None c = sym (ap (has_name c.args.name.now) (slice_get_past c.args.names.now c.args.place c.in-None.ensures.lookup.3))
