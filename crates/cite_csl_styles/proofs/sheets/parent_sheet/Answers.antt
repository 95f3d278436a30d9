use Rattle.std.proofs.Common.{◌≡◌, Some, Err, rules}
use Rattle.std.specs.Option.{option_map}
use Rattle.programs.specs.Files.{read_at}
use Rattle.xml_tree.specs.Views.{element_view}
use Rattle.rendering_locale.specs.CodeViews.{code_view}
use Rattle.cite_csl_styles.specs.Sheets.{readable}
use Rattle.cite_csl_styles.specs.Views.{found_view, paths_view, source_view}
use Rattle.cite_csl_styles.proofs.SheetsFound.{parent_stopped, parent_there}
use Rattle.cite_csl_styles.proofs.sheets.parent_sheet.Goals as goal

pub returns-in_err-found_at-in-Some-clause-sheet : goal.returns-in_err-found_at-in-Some-clause-sheet
returns-in_err-found_at-in-Some-clause-sheet c =
    let path : Some c.in-Some.path.now ≡ readable (read_at c.args.files.now) (paths_view c.args.paths.now) = search rules in
    let is : c.from_residual-in_err-found_at-in-Some.result ≡ Err c.in_err-found_at-in-Some.field-0.0 = search rules in
    rw is (parent_stopped (read_at c.args.files.now) (source_view c.args.child.0) (element_view c.args.child.1.now) c.args.child.2.now (option_map code_view c.args.lang)
    (readable (read_at c.args.files.now) (paths_view c.args.paths.now)) c.in-Some.path.now (source_view c.file_at.result) c.in_err-found_at-in-Some.field-0.0 path c.file_at.ensures c.in_err-found_at-in-Some.ensures)

pub returns-in_ok-found_at-in-Some-clause-sheet : goal.returns-in_ok-found_at-in-Some-clause-sheet
returns-in_ok-found_at-in-Some-clause-sheet c =
    let path : Some c.in-Some.path.now ≡ readable (read_at c.args.files.now) (paths_view c.args.paths.now) = search rules in
    parent_there (read_at c.args.files.now) (source_view c.args.child.0) (element_view c.args.child.1.now) c.args.child.2.now (option_map code_view c.args.lang)
    (readable (read_at c.args.files.now) (paths_view c.args.paths.now)) c.in-Some.path.now (source_view c.file_at.result) (found_view c.in_ok-found_at-in-Some.field-0) c.own_sheet.result path c.file_at.ensures
    c.in_ok-found_at-in-Some.ensures c.own_sheet.ensures.sheet

pub own_sheet-requires : goal.own_sheet-requires
own_sheet-requires c = c.in_ok-found_at-in-Some.ensures.1.meant
