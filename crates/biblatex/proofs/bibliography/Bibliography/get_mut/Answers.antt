use Rattle.std.proofs.Common.{ℕ, sym, ap, subst, ◌∙◌}
use Rattle.std.specs.Prelude.{slice_set, slice_get, option_and_then}
use Rattle.std.proofs.lemmas.List.{length-set, length-map}
use Rattle.std.proofs.lemmas.Option.{slice_get-map}
use Rattle.std.specs.Option.{ghost_name_of}
use borrow.Follows.Closed.{read_of}
use Rattle.biblatex_entries.specs.Entries.{source_view, sources_view}
use Rattle.biblatex_meaning.specs.Listed.{entry_named}
use Rattle.biblatex.specs.Bibliographies.{Indexed, listed_view}
use Rattle.biblatex.specs.Indices.{meaning_in, names_in, AreWithin}
use Rattle.biblatex.proofs.LendingBorrowed.{written, item}
use Rattle.biblatex.proofs.bibliography.Bibliography.get_mut.Goals as goal

pub invariant_of-self-lent : goal.invariant_of-self-lent
invariant_of-self-lent c =
    let items = c.self.inside.entries.items in
    λ o. (
      (λ w. (
        subst (λ (n : ℕ). AreWithin (meaning_in (names_in c.self.inside.names.items)) n)
            (sym (length-map (slice_set items c.in_ok-meant.meant w) source_view ∙ (length-set items c.in_ok-meant.meant w ∙ sym (length-map items source_view))))
            c.self.invariant.0,
        c.self.invariant.1,
      )),
      c.self.invariant,
    )

pub returns : goal.returns
returns c =
    let items = c.self.inside.entries.items in
    let indices = c.self.inside.names.items in
    let meant = c.in_ok-meant.ensures ∙ (λ i. meaning_in (names_in (c.as_slice.ensures.value i)) c.args.name.now) in (
      (λ i. read_of (ghost_name_of c.get_mut.result) (λ w. written items indices c.args.name.now c.in_ok-meant.meant c.args.self.now meant c.self.view_is w i) (c.self.view_is i)),
      item items c.in_ok-meant.meant c.get_mut.result c.get_mut.ensures.item ∙ (sym (slice_get-map source_view items c.in_ok-meant.meant)
          ∙ (ap (option_and_then (slice_get (sources_view items))) meant
          ∙ ap (λ (h : Indexed). entry_named c.args.name.now (listed_view h)) c.self.view_is)),
    )
