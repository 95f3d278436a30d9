use Rattle.std.proofs.Common.{List, [], ◌∷◌, Option, Some, None, length, true, false, ◌≡◌, ◌==◌, refl, sym, ◌∙◌, true≢false, eqb-true, arith}
use Rattle.std.specs.Option.{is_some}
use Rattle.biblatex_dates.specs.declared.date.Date.{Date}
use Rattle.biblatex_suppliers.specs.declared.supplier.Supplied.{Supplied}
use Rattle.biblatex_suppliers.specs.Written.{written_view}
use Rattle.biblatex_suppliers.proofs.MakingEntries.{on_true, seen_written}
use Rattle.biblatex_suppliers.proofs.entries.has_all.Goals as goal

nothing : (ss : List Supplied) → (length ss == 0) ≡ true → ss ≡ []
nothing [] is = refl
nothing (s ∷ ss) is = let none : length (s ∷ ss) ≡ 0 = eqb-true (length (s ∷ ss)) 0 is in absurd (omega (arith, none))

no_date : (d : Option Date) → is_some d ≡ false → d ≡ None
no_date None is = refl
no_date (Some d) is = absurd (true≢false is)

pub returns : goal.returns
returns c =
    let s = c.args.known.now in
    on_true c.has_no_xdata.result (λ no_xdata q.
    seen_written (written_view c.args.entries.now) c.args.number s c.as_slice.result.now s.dated.date q (sym c.as_slice.ensures.value) (nothing c.as_slice.result.now (sym c.is_empty.ensures ∙ c.if-not-is_empty.false)) refl (no_date s.dated.date (sym c.is_some.ensures ∙ c.if-is_some.false)) no_xdata)
    c.has_no_xdata.ensures
