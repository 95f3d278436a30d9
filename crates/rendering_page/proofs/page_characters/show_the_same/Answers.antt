use Rattle.std.specs.Str.{bytes_eq}
use Rattle.std.proofs.lemmas.Str.{IsUtf8-nil}
use Rattle.rendering_page.proofs.PageCharactersPages.{all_to_come}
use Rattle.rendering_page.proofs.page_characters.show_the_same.Goals as goal

pub loop-c-init : goal.loop-c-init
loop-c-init c = (λ i. bytes_eq (all_to_come c.args.one.now i) (all_to_come c.args.other.now i), IsUtf8-nil, IsUtf8-nil)
