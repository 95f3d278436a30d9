use Rattle.std.proofs.Common.{rules, ℕ, sym, ap, subst, ◌∙◌}
use Rattle.std.specs.List.{refill, length_refill}
use Rattle.std.proofs.lemmas.List.{length-map}
use Rattle.biblatex_entries.specs.Entries.{source_view, sources_view}
use Rattle.biblatex.specs.Bibliographies.{Indexed}
use Rattle.biblatex.specs.Indices.{meaning_in, names_in, AreWithin}
use Rattle.biblatex.proofs.LendingBorrowed.{rewritten}
use Rattle.biblatex.proofs.bibliography.Bibliography.iter_mut.Goals as goal

pub invariant_of-self-lent : goal.invariant_of-self-lent
invariant_of-self-lent c =
    let v = c.self.inside.entries in
    λ w. (
      subst (λ (n : ℕ). AreWithin (meaning_in (names_in c.self.inside.names.items)) n)
          (length-map v.items source_view ∙ (sym v.ok.0 ∙ (length_refill v.len v.items w v.ok.0 ∙ sym (length-map (refill v.len v.items w) source_view))))
          c.self.invariant.0,
      c.self.invariant.1,
    )

pub returns : goal.returns
returns c =
    let v = c.self.inside.entries in (
      (search rules, λ w. rewritten v.len v.items c.self.inside.names.items c.args.self.now v.ok.0 c.self.view_is w),
      record {
        writes_back = tt;
        value = ap sources_view (c.iter_mut.ensures.rest ∙ c.as_mut_slice.ensures.value) ∙ ap (λ (h : Indexed). h.entries) c.self.view_is;
        runs = c.iter_mut.ensures.runs;
      },
    )
