-- The code's values without where they lie in memory.
use Rattle.rendering_context.specs.Contexts as contexts
use Rattle.rendering_entries.specs.Answers.{Answers}
use Rattle.rendering_nodes.specs.Views.{walk_context}
use Rattle.rendering_writing.specs.declared.context.Context.{Context}

-- what is printed from, with what the entry answers
abbrev pub writing_context_view : {E : Type 0} → Answers → Context E → contexts.Context
writing_context_view a x = walk_context a x.walk
