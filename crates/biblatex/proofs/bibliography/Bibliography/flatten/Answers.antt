use Rattle.std.proofs.Common.{ℕ, List, sym, ap, subst, ◌∙◌}
use Rattle.std.specs.List.{refill, length_refill}
use Rattle.std.proofs.lemmas.List.{length-map}
use Rattle.biblatex_entries.specs.declared.entry.Entry.{Entry}
use Rattle.biblatex_entries.specs.Entries.{source_view, sources_view}
use Rattle.biblatex_writing.specs.Flat.{flat}
use Rattle.biblatex.specs.Bibliographies.{Indexed}
use Rattle.biblatex.specs.Indices.{meaning_in, names_in, AreWithin}
use Rattle.biblatex.proofs.LendingBorrowed.{rewritten}
use Rattle.biblatex.proofs.LendingFlat.{written_flat}
use Rattle.biblatex.proofs.bibliography.Bibliography.flatten.Goals as goal

pub invariant_of-self : goal.invariant_of-self
invariant_of-self c =
    let v = c.self.inside.entries in
    let w = c.flatten_entries.new.entries in (
      subst (λ (n : ℕ). AreWithin (meaning_in (names_in c.self.inside.names.items)) n)
          (length-map v.items source_view ∙ (sym v.ok.0 ∙ (length_refill v.len v.items w v.ok.0 ∙ sym (length-map (refill v.len v.items w) source_view))))
          c.self.invariant.0,
      c.self.invariant.1,
    )

pub returns : goal.returns
returns c =
    let v = c.self.inside.entries in
    let w = c.flatten_entries.new.entries in
    rewritten v.len v.items c.self.inside.names.items c.args.self.now v.ok.0 c.self.view_is w
    ∙ written_flat c.args.self.now (sources_view w)
    (c.flatten_entries.ensures ∙ (ap (λ (es : List Entry). flat (sources_view es)) c.as_mut_slice.ensures.value ∙ ap (λ (h : Indexed). flat h.entries) c.self.view_is))
