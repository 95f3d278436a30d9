-- The entries of a file.
use Rattle.std.proofs.Common.{ℕ, List, [], ◌∷◌, ◌++◌, length, refl, inl, inr, arith}
use Rattle.std.specs.List.{AllByRecursion}
use Rattle.laws.specs.Characters.{line_feed, comma, at_sign, open_brace, close_brace}
use Rattle.laws.specs.Text.{text as text_of}
use Rattle.biblatex_text.specs.Raw.{At, Item, an_entry, Entry, Raw, gathered}
use Rattle.biblatex_grammar.specs.Items as grammar
use Rattle.biblatex_grammar.specs.Items.{Holds}
use Rattle.biblatex_grammar.proofs.Offsets.{Within, within-tail}
use Rattle.biblatex_reading_back.specs.Spelled.{Plain, fields_then, entry_then, entries_after, file_of, IsEntry, SaysEntry, SaysAll}
use Rattle.biblatex_reading_back.proofs.SpelledParts.{within_rest, located, located_at, no_gap, outside_none, outside_one, outside_two, begins, identifier_held, key_bars, key_held}
use Rattle.biblatex_reading_back.proofs.SpelledFields.{within_fields, fields_held}

-- an entry that is held as an item, and what it says
record HeldEntry (n : ℕ) (e : Plain) (cs rest : List ℕ) : Type 0 where
  pub entry : Entry
  pub held : grammar.IsItem n cs (located n cs rest (an_entry entry)) rest
  pub says : SaysEntry e entry

entry_held : (n : ℕ) (e : Plain) (rest : List ℕ) → IsEntry e → Within n (entry_then e rest) → HeldEntry n e (entry_then e rest) (line_feed ∷ rest)
entry_held n e rest is within =
    let after = line_feed ∷ rest in
    let lines = line_feed ∷ fields_then e.fields (close_brace ∷ after) in
    let parted = comma ∷ lines in
    let keyed = e.key ++ parted in
    let body = open_brace ∷ keyed in
    let kind = e.kind ++ body in
    let w_kind = within-tail n at_sign kind within in
    let w_body = within_rest n e.kind body w_kind in
    let w_keyed = within-tail n open_brace keyed w_body in
    let w_parted = within_rest n e.key parted w_keyed in
    let w_lines = within-tail n comma lines w_parted in
    let fields = fields_held n e.fields after is.fields w_lines in
    let named = located n kind body e.kind in
    let entry : Entry = record { kind = named; key = located n keyed parted e.key; fields = fields.fields } in
    record {
      entry = entry;
      held = (
        kind,
        kind,
        body,
        body,
        named,
        refl,
        no_gap kind (begins e.kind body is.kind refl).bars,
        identifier_held n e.kind body is.kind refl w_kind,
        no_gap body refl,
        (
          is.other,
          refl,
          (keyed, close_brace, inl (refl, refl), (keyed, parted, no_gap keyed (key_bars e.key parted is.key refl), key_held n e.key parted is.key refl w_keyed, inr (lines, no_gap parted refl, fields.held))),
        ),
        located_at n (entry_then e rest) after (an_entry entry) within (within-tail n close_brace after (within_fields n e.fields (close_brace ∷ after) (within-tail n line_feed (fields_then e.fields (close_brace ∷ after)) w_lines))),
      );
      says = record { kind = refl; key = refl; fields = fields.say };
    }

-- entries that are held after others, or at the end of a file
record HeldEntries (n : ℕ) (es : List Plain) (cs : List ℕ) : Type 0 where
  pub items : List (At Item)
  pub held : grammar.AreItems n cs items
  pub say : SaysAll es (gathered items)

-- what follows an entry is within the text
within_entry : (n : ℕ) (e : Plain) (rest : List ℕ) → Within n (entry_then e rest) → Within n (line_feed ∷ rest)
within_entry n e rest within =
    let closed = close_brace ∷ line_feed ∷ rest in
    let lines = line_feed ∷ fields_then e.fields closed in
    let keyed = e.key ++ comma ∷ lines in
    let w_keyed = within-tail n open_brace keyed (within_rest n e.kind (open_brace ∷ keyed) (within-tail n at_sign (e.kind ++ open_brace ∷ keyed) within)) in
    within-tail n close_brace (line_feed ∷ rest) (within_fields n e.fields closed (within-tail n line_feed (fields_then e.fields closed) (within-tail n comma lines (within_rest n e.key (comma ∷ lines) w_keyed))))

entries_held : (n : ℕ) (es : List Plain) → AllByRecursion IsEntry es → Within n (line_feed ∷ entries_after es) → HeldEntries n es (line_feed ∷ entries_after es)
entries_held n [] all within = record { items = []; held = outside_one line_feed [] refl tt; say = record { entries = tt; none = refl } }
entries_held n (e ∷ es) all within =
    let rest = entries_after es in
    let whole = entry_then e rest in
    let w_whole = within-tail n line_feed whole (within-tail n line_feed (line_feed ∷ whole) within) in
    let one = entry_held n e rest all.0 w_whole in
    let others = entries_held n es all.1 (within_entry n e rest w_whole) in
    record {
      items = located n whole (line_feed ∷ rest) (an_entry one.entry) ∷ others.items;
      held = (whole, line_feed ∷ rest, outside_two line_feed line_feed whole refl refl refl, one.held, others.held);
      say = record { entries = (one.says, others.say.entries); none = others.say.none };
    }

-- a file that is held, and what it says
pub record HeldFile (es : List Plain) : Type 0 where
  pub raw : Raw
  pub held : Holds (file_of es) raw
  pub says : SaysAll es raw

pub file_held : (es : List Plain) → AllByRecursion IsEntry es → HeldFile es
file_held [] all = record { raw = gathered []; held = ([], outside_none [] tt, refl); says = record { entries = tt; none = refl } }
file_held (e ∷ es) all =
    let rest = entries_after es in
    let whole = entry_then e rest in
    let n = length (text_of whole) in
    let within : Within n whole = omega arith in
    let one = entry_held n e rest all.0 within in
    let others = entries_held n es all.1 (within_entry n e rest within) in
    let items = located n whole (line_feed ∷ rest) (an_entry one.entry) ∷ others.items in
    record {
      raw = gathered items;
      held = (items, (whole, line_feed ∷ rest, outside_none whole refl, one.held, others.held), refl);
      says = record { entries = (one.says, others.say.entries); none = others.say.none };
    }
