use Rattle.std.proofs.Common.{ap, ◌∙◌}
use Rattle.biblatex_content.specs.Parted.{are_parted}
use Rattle.biblatex_content.specs.Views.{spans, styled}
use Rattle.biblatex_fields.proofs.ValueCopies.{same_value}
use Rattle.biblatex_inherited_fields.proofs.passing.copied_value.Goals as goal

pub returns : goal.returns
returns c =
    let same = c.as_slice.ensures.value in
    let copies = c.in_ok-copies.ensures in
    same_value c.in_ok-copies.copies.items c.args.value.now.items (copies.styled ∙ ap styled same) (copies.spans ∙ ap spans same) (copies.parted ∙ ap are_parted same)
