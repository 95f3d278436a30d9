use Rattle.std.proofs.Common.{◌≡◌, ℕ, List, length, sym, subst, ◌∙◌}
use Rattle.std.specs.Str.{chars}
use Rattle.biblatex_text.specs.Reading.{offset}
use Rattle.biblatex_text.specs.Items.{raw_at}
use Rattle.biblatex_text.specs.Views.{left, size, raw_view}
use Rattle.biblatex_text.specs.declared.cursor.Reader.{Reader}
use Rattle.biblatex_text.proofs.ItemsSpanned.{whole_ok, whole_err}
use Rattle.biblatex_text.proofs.parser.read.Goals as goal

-- a reader that stands before the whole source
all_of : (r : Reader) (source : List ℕ) → r.source.now ≡ source → left r ≡ chars source → raw_at (size r) (left r) ≡ raw_at (length source) (chars source)
all_of r source same all = λ i. raw_at (length (same i)) (all i)

pub returns-in-Ok-clause-reads : goal.returns-in-Ok-clause-reads
returns-in-Ok-clause-reads c =
    whole_ok c.args.source.now (raw_view c.in-Ok.found) c.utf8.source (sym (all_of c.new-reader.result c.args.source.now c.new-reader.ensures.source c.new-reader.ensures.left) ∙ c.in-Ok.ensures.reads)

pub returns-in-Err-Fault-clause-reads : goal.returns-in-Err-Fault-clause-reads
returns-in-Err-Fault-clause-reads c =
    let e = rw c.in-Err-Fault.field-0-is at c.in-Err-Fault.ensures.reads in
    let at : c.offset.result ≡ offset (length c.args.source.now) (left c.all.new.self) = subst (λ (s : List ℕ). c.offset.result ≡ offset (length s) (left c.all.new.self)) (c.all.ensures.on.0 ∙ c.new-reader.ensures.source) c.offset.ensures.offset in
    rw at (whole_err c.args.source.now (left c.all.new.self) c.in-Err-Fault.fault c.utf8.source (sym (all_of c.new-reader.result c.args.source.now c.new-reader.ensures.source c.new-reader.ensures.left) ∙ e))
