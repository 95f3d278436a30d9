use Rattle.std.proofs.Common.{◌+◌, List, drop, ap, sym, subst, arith}
use Rattle.std.specs.List.{AllByRecursion, flat_map}
use Rattle.std.proofs.lemmas.List.{at_drop_all, nil_from_length}
use Rattle.biblatex_entries.specs.declared.entry.Entry.{Entry}
use Rattle.biblatex_entries.specs.Entries.{source_view, sources_view}
use Rattle.biblatex_writing.specs.Texts.{IsText}
use Rattle.biblatex_writing.specs.Written.{written_file}
use Rattle.biblatex_writing.proofs.ContentMembers.{at_item}
use Rattle.biblatex_writing.proofs.Calls.{nothing, same}
use Rattle.biblatex_writing.proofs.EntriesWritten.{after_line, entry_first, entry_next}
use Rattle.biblatex_writing.proofs.entries.push_entries.Goals as goal

abbrev AreTexts : List Entry → Type 0
AreTexts es = AllByRecursion IsText (sources_view es)

pub returns-in_default : goal.returns-in_default
returns-in_default g c =
    let none = nil_from_length _ c.in_default.ensures.cases in
    record {
      written = nothing g.T.Target.takes c.args.target.now _ (ap (λ (es : List Entry). written_file (sources_view es)) none);
      text = subst AreTexts (sym none) tt;
    }

pub loop-entry-init : goal.loop-entry-init
loop-entry-init g c =
    let took = g.T.Target.takes in (
      λ u written.
          same took c.args.target.now _ _ u (ap (λ (es : List Entry). written_file (sources_view es)) (sym c.in-Some.ensures.cases.0))
          (entry_first took c.args.target.now c.push_entry.new.target u (source_view c.in-Some.first.now) (sources_view c.in-Some.others.now) c.push_entry.ensures.written written),
      λ all. subst AreTexts (sym c.in-Some.ensures.cases.0) (c.push_entry.ensures.text, all),
    )

pub loop-entry-preserved : goal.loop-entry-preserved
loop-entry-preserved g c =
    let took = g.T.Target.takes in
    let i = c.loop-entry.entry-index in
    let xs = c.in-Some.others.now in
    let entry = c.entry-item.result in
    let entry_there = c.loop-entry-test.true in
    let cut = at_item (λ (es : List Entry). flat_map after_line (sources_view es)) xs i entry entry_there c.entry-item.is in
    let whole = at_item (λ (es : List Entry). es) xs i entry entry_there c.entry-item.is in (
      λ u written.
          c.loop-entry.invariant.0 u
          (same took c.loop-entry.target _ _ u (sym cut)
          (entry_next took c.loop-entry.target c.push_str.new.self c.push_entry-in-loop-entry.new.target u (source_view entry) (sources_view (drop (i + 1) xs)) c.push_str.ensures c.push_entry-in-loop-entry.ensures.written written)),
      λ others. c.loop-entry.invariant.1 (subst AreTexts (sym whole) (c.push_entry-in-loop-entry.ensures.text, others)),
    )

pub returns : goal.returns
returns g c =
    let took = g.T.Target.takes in
    let i = c.loop-entry.entry-index in
    let xs = c.in-Some.others.now in
    record {
      written = c.loop-entry.invariant.0 c.loop-entry.target (nothing took c.loop-entry.target _ (at_drop_all (λ (es : List Entry). flat_map after_line (sources_view es)) xs i (omega (arith, c.loop-entry-test.false))));
      text = c.loop-entry.invariant.1 (subst AreTexts (sym (at_drop_all (λ (es : List Entry). es) xs i (omega (arith, c.loop-entry-test.false)))) tt);
    }
