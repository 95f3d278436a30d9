use Rattle.std.proofs.Common.{ℕ, subst}
use Rattle.std.specs.Str.{IsCharBoundary}
use Rattle.std.proofs.lemmas.Str.{IsCharBoundary-at_seam}
use Rattle.biblatex_content.proofs.TidyPrefixes.{cut_tidily}
use Rattle.biblatex_content.proofs.tidy.split_tidy.Goals as goal

pub split_at-requires : goal.split_at-requires
split_at-requires c =
    let e = c.tidy_end.ensures in
    subst (λ (n : ℕ). IsCharBoundary c.args.text.now n) e.long (IsCharBoundary-at_seam c.args.text.now e.prefix e.rest e.parts e.rest_utf8)

pub returns-clause-parts : goal.returns-clause-parts
returns-clause-parts c = rw (c.split_at.ensures.front, c.split_at.ensures.back) (cut_tidily c.args.text.now c.tidy_end.result c.tidy_end.ensures).parts

pub returns-clause-tidy : goal.returns-clause-tidy
returns-clause-tidy c = rw c.split_at.ensures.front (cut_tidily c.args.text.now c.tidy_end.result c.tidy_end.ensures).tidy

pub returns-clause-utf8 : goal.returns-clause-utf8
returns-clause-utf8 c = rw c.split_at.ensures.back (cut_tidily c.args.text.now c.tidy_end.result c.tidy_end.ensures).utf8
