-- The styles are not refused.
use Rattle.std.proofs.Common.{ℕ, ◌<◌, [], refl, None, arith}
use Rattle.cite_styles.specs.Nodes.{locator, year, authors, short_authors, source, item_number}
use Rattle.cite_styles.specs.Styles.{numeric_cite, numeric_entry, numeric_item, numeric_citation, numeric_bibliography, numeric, author_year, author_date_cite, author_date_item, author_date_citation, author_date_bibliography, author_date, first_note, later_note, ibid_note, repeated, note_cite, note_citation, note}
use Rattle.reference_graph.specs.References.{IsCircular}
use Rattle.rendering_style.specs.Opening.{IsAnswer}

-- without macros none reaches itself
no_ring : (i : ℕ) → IsCircular [] i → ⊥
no_ring i circular = let below : circular.1.1.0 < 0 = circular.1.1.1 in omega (arith, below)

pub numeric_accepted : IsAnswer numeric None
unfolding locator year authors source item_number numeric_cite numeric_entry numeric_item numeric_citation numeric_bibliography numeric
numeric_accepted = (no_ring, refl)

pub author_date_accepted : IsAnswer author_date None
unfolding locator year authors short_authors source author_year author_date_cite author_date_item author_date_citation author_date_bibliography author_date
author_date_accepted = (no_ring, refl)

pub note_accepted : IsAnswer note None
unfolding locator year authors short_authors source first_note later_note ibid_note repeated note_cite note_citation note
note_accepted = (no_ring, refl)
