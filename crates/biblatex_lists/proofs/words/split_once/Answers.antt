use Rattle.std.proofs.Common.{sym}
use Rattle.biblatex_lists.specs.Words.{split_once}
use Rattle.biblatex_lists.proofs.WordsCut.{prepended_none, cut_prepended_none}
use Rattle.biblatex_lists.proofs.words.split_once.Goals as goal

pub loop-i-init : goal.loop-i-init
loop-i-init c = record { pair = sym (prepended_none (split_once c.args.mark c.args.text.now)); cut = sym (cut_prepended_none c.args.mark c.args.text.now) }
