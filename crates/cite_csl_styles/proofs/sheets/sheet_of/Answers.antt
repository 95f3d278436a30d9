use Rattle.programs.specs.Files.{read_at}
use Rattle.csl_styles.specs.Views.{csl_view}
use Rattle.cite_csl_styles.specs.Views.{found_view}
use Rattle.cite_csl_styles.proofs.SheetsFound.{not_dependent, own_one}
use Rattle.cite_csl_styles.proofs.sheets.sheet_of.Goals as goal

pub returns-clause-sheet : goal.returns-clause-sheet
returns-clause-sheet c =
    own_one (read_at c.args.files.now) (found_view c.args.found) (csl_view c.args.found.means) c.own_sheet-in_default-means.result (not_dependent c.args.found.means c.in_default-means.not-Dependent)
    c.own_sheet-in_default-means.ensures.sheet
