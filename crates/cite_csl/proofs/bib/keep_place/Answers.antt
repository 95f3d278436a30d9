use Rattle.std.proofs.Common.{ℕ, List, cond, Option, Some, sym, ap, ◌∙◌}
use Rattle.std.specs.Str.{bytes_eq}
use Rattle.std.proofs.lemmas.Map.Text.{btree_map_updates_str}
use Rattle.laws.proofs.Text.{text_of_chars}
use Rattle.cite_csl.specs.Views.{kept_at}
use Rattle.cite_csl.proofs.bib.keep_place.Goals as goal

pub returns : goal.returns
returns c = λ other.
    btree_map_updates_str c.args.key.now c.args.places.now c.insert.new.self _ c.in_ok-insert.ensures.updates other
    ∙ ap (λ (bs : List ℕ). cond (bytes_eq bs other) (Some c.args.place) (kept_at c.args.places.now other)) (sym (text_of_chars c.args.key.now c.utf8.key))
