-- A style as it prints for sorting.
use Rattle.std.specs.Prelude.{Bool, map, Some, None}
use Rattle.std.specs.Option.{option_map}
use Rattle.rendering_style.specs.Styles.{Bibliography, Citation, Macro, Style}
use Rattle.sorting_styles.specs.Locales.{sorting_locales}
use Rattle.sorting_styles.specs.Nodes.{sorting_node, without_and}

-- a macro for sorting
abbrev pub sorting_macro : Macro → Macro
sorting_macro m = record m { nodes = map sorting_node m.nodes }

-- the options of names of its layouts, which keys inherit
abbrev pub sorting_citation : Citation → Citation
sorting_citation c = record c { name_options = without_and c.name_options }

abbrev pub sorting_bibliography : Bibliography → Bibliography
sorting_bibliography b = record b { name_options = without_and b.name_options }

-- A style for sorting: its macros, which keys name, print dates in digits and names without labels; no word stands before the last name or for
-- those that are left out; the particles of names go behind where they are demoted. All else stays.
abbrev pub sorting_style : Bool → Style → Style
sorting_style demotes s = record s {
  locales = sorting_locales s.locales;
  name_options = record s.name_options { and_term = None; demote = Some demotes };
  macros = map sorting_macro s.macros;
  citation = sorting_citation s.citation;
  bibliography = option_map sorting_bibliography s.bibliography;
}
