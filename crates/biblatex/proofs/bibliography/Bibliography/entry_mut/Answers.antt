use Rattle.std.proofs.Common.{ℕ, sym, ap, subst, ◌∙◌}
use Rattle.std.specs.Prelude.{slice_set, slice_get}
use Rattle.std.specs.Option.{ghost_name_of}
use borrow.Follows.Closed.{read_of}
use Rattle.std.proofs.lemmas.List.{length-set, length-map}
use Rattle.std.proofs.lemmas.Option.{slice_get-map}
use Rattle.biblatex_entries.specs.Entries.{source_view}
use Rattle.biblatex.specs.Bibliographies.{Indexed}
use Rattle.biblatex.specs.Indices.{meaning_in, names_in, AreWithin}
use Rattle.biblatex.proofs.LendingBorrowed.{written_at, item}
use Rattle.biblatex.proofs.bibliography.Bibliography.entry_mut.Goals as goal

pub invariant_of-self-lent : goal.invariant_of-self-lent
invariant_of-self-lent c =
    let items = c.self.inside.entries.items in
    λ o. (
      (λ w. (
        subst (λ (n : ℕ). AreWithin (meaning_in (names_in c.self.inside.names.items)) n)
            (sym (length-map (slice_set items c.args.index w) source_view ∙ (length-set items c.args.index w ∙ sym (length-map items source_view))))
            c.self.invariant.0,
        c.self.invariant.1,
      )),
      c.self.invariant,
    )

pub returns : goal.returns
returns c =
    let items = c.self.inside.entries.items in (
      (λ i. read_of (ghost_name_of c.get_mut.result) (λ w. written_at items c.self.inside.names.items c.args.index c.args.self.now c.self.view_is w i) (c.self.view_is i)),
      record {
        writes_back = tt;
        value = item items c.args.index c.get_mut.result c.get_mut.ensures.item ∙ (sym (slice_get-map source_view items c.args.index)
            ∙ ap (λ (h : Indexed). slice_get h.entries c.args.index) c.self.view_is);
      },
    )
