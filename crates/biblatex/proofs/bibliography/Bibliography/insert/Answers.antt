use Rattle.std.proofs.Common.{ℕ, length, sym, ap, subst, ◌∙◌}
use Rattle.std.proofs.lemmas.List.{length-set}
use Rattle.biblatex_entries.specs.Entries.{source_view, sources_view}
use Rattle.biblatex.specs.Indices.{meaning_in, names_in, AreWithin}
use Rattle.biblatex.proofs.bibliography.Bibliography.insert.Goals as goal

pub invariant_of-self : goal.invariant_of-self
invariant_of-self c = (
  subst (λ (n : ℕ). AreWithin (meaning_in (names_in c.self.inside.names.items)) n)
      (sym (ap length c.replace.ensures.items ∙ length-set (sources_view c.self.inside.entries.items) c.in-Some.index (source_view c.args.entry)))
      c.self.invariant.0,
  c.self.invariant.1,
)
