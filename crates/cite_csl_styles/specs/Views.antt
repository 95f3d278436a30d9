-- What the code has, without where it lies in memory.
use Rattle.std.specs.Prelude.{List, map, string_bytes}
use Rattle.std.specs.Option.{option_map}
use Rattle.xml_tree.specs.Views.{element_view}
use Rattle.rendering_locale.specs.CodeViews.{code_view}
use Rattle.rendering_style.specs.StyleViews.{style_view}
use Rattle.csl_nodes.specs.Views.{words_view}
use Rattle.csl_styles.specs.Views.{csl_view}
use Rattle.cite_csl_styles.specs.Sources as sources
use Rattle.cite_csl_styles.specs.Sheets as sheets
use Rattle.cite_csl_styles.specs.declared.sources.SourceFile.{SourceFile}
use Rattle.cite_csl_styles.specs.declared.parents.ParentPaths.{ParentPaths}
use Rattle.cite_csl_styles.specs.declared.sheets.Found.{Found}
use Rattle.cite_csl_styles.specs.declared.sheets.Sheet.{Sheet}

abbrev pub source_view : SourceFile → sources.SourceFile
source_view f = record { path = f.path.now; bytes = f.bytes.now }

abbrev pub sources_view : List SourceFile → List sources.SourceFile
sources_view fs = map source_view fs

abbrev pub found_view : Found → sheets.Found
found_view f = record { file = source_view f.file; root = element_view f.root; means = csl_view f.means }

abbrev pub sheet_view : Sheet → sheets.Sheet
sheet_view s = record { file = source_view s.file; root = element_view s.root; words = words_view s.words; style = style_view s.style; lang = option_map code_view s.lang }

abbrev pub paths_view : ParentPaths → sheets.Paths
paths_view p = (string_bytes p.beside, string_bytes p.above)
