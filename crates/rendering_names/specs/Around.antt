-- What is said of names around their node.
use Rattle.rendering_style.specs.Options.{NameOptions, open_options}

-- what counts whatever a node says of names, and what counts where it says nothing
pub record NamesAround : Type 0 where
  pub overriding : NameOptions
  pub options : NameOptions

-- options that count where a node says nothing, and nothing that overrides it
abbrev pub not_overriding : NameOptions → NamesAround
not_overriding o = record { overriding = open_options; options = o }
