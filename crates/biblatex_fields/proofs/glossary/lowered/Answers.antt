use Rattle.std.proofs.Common.{◌≡◌, List, ℕ, IfOk, map, string_bytes, sym, subst}
use Rattle.std.specs.Char.{to_ascii_lowercase}
use Rattle.std.proofs.lemmas.Str.{encodes-chars}
use Rattle.biblatex_fields.proofs.glossary.lowered.Goals as goal

pub returns : goal.returns
returns c = subst (λ (bs : List ℕ). IfOk c.to_ascii_lowercase.result (λ s. string_bytes s ≡ map to_ascii_lowercase bs)) (sym (encodes-chars c.args.text.now c.utf8.text)) c.to_ascii_lowercase.ensures.ok
