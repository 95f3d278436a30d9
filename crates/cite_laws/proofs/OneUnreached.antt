-- An entry more that a document does not reach changes nothing.
use Rattle.std.proofs.Common.{[], ◌∷◌}
use Rattle.std.specs.Str.{chars}
use Rattle.biblatex_laws.specs.Reached.{SayTheSameOf}
use Rattle.biblatex_laws.proofs.OneMore.{one_more}
use Rattle.cite_requests.specs.Markers.{names_cited}
use Rattle.cite_laws.specs.Local.{OneUnreachedEntryChangesNothing}
use Rattle.cite_laws.proofs.OrderKept.{order_kept}
use Rattle.cite_laws.proofs.ReachedDecide.{reached_decide}

pub one_unreached : OneUnreachedEntryChangesNothing
one_unreached bib other task r d =
    let says : SayTheSameOf (names_cited r.asked.pieces) r.file r.other_file =
    one_more (names_cited r.asked.pieces) (chars bib) (chars other) r.file r.other_file r.first.works.file r.second.works.file d.extra
    r.loaded r.other_loaded d.one_more d.names d.abbreviations in
    reached_decide bib other task r says (order_kept bib other task r says d.one_more.before (d.extra ∷ []) d.one_more.after d.one_more.shorter d.one_more.longer)
