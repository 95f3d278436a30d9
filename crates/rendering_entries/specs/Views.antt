-- Entries and answers of the code as callers see them.
use Rattle.std.specs.Prelude.{List, map}
use Rattle.std.specs.Cow.{cow_value}
use Rattle.std.specs.List.{flat_map}
use Rattle.std.specs.declared.borrow.Cow.{Cow}
use Rattle.literature_numbers.specs.Numerics.{Numeral}
use Rattle.literature_numbers.specs.Views.{numeral_view}
use Rattle.literature_values.specs.TextViews.{Chunk, chunks_view}
use Rattle.literature_values.specs.TypedViews.{ValueOrText, typed_view}
use Rattle.literature_entries.specs.Ancestors.{upwards}
use Rattle.literature_entries.specs.Views.{key_view, fields_view, parents}
use Rattle.rendering_entries.specs.Works.{Ancestry}
use Rattle.literature_numbers.specs.declared.numeric.Numeric.{Numeric}
use Rattle.literature_values.specs.declared.maybe_typed.MaybeTyped.{MaybeTyped}
use Rattle.literature_values.specs.declared.text.ChunkedString.{ChunkedString}
use Rattle.literature_entries.specs.declared.entry.Entry.{Entry}

-- a number, borrowed or not, or a text instead of it
abbrev pub lent_number_view : MaybeTyped (Cow Numeric) → ValueOrText Numeral
lent_number_view = typed_view (λ c. numeral_view (cow_value c))

-- a text, borrowed or not
abbrev pub lent_text_view : Cow ChunkedString → List Chunk
lent_text_view c = chunks_view (cow_value c)

-- an entry among the works that it is part of
abbrev pub entry_ancestry : Entry → Ancestry
entry_ancestry e = record {
  key = key_view e;
  own = fields_view e;
  parents = map fields_view (parents e);
  further = map fields_view (upwards (flat_map parents (parents e)));
}
