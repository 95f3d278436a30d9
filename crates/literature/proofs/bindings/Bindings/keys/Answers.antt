use Rattle.std.proofs.Common.{ap, ◌∙◌, map, string_bytes}
use Rattle.literature.proofs.BindingsNames.{names_in_order}
use Rattle.literature.proofs.bindings.Bindings.keys.Goals as goal

pub returns : goal.returns
returns c = c.new.ensures ∙ (ap (map (λ p. string_bytes p.0)) c.as_slice.ensures.value ∙ names_in_order c.args.self.now.entries.items)
