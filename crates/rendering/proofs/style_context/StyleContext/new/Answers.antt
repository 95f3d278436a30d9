use Rattle.rendering.proofs.style_context.StyleContext.new.Goals as goal

pub invariant_of-result : goal.invariant_of-result
invariant_of-result c = record { language = c.in_ok-own_words.ensures; resolved = c.citation_options.ensures; suffix = c.prints_suffix.ensures }
