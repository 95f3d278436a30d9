-- The parts that an entry is described by.
use Rattle.cite_styles.specs.Nodes.{title, locator, year, authors, short_authors, source}
use Rattle.cite_styles.specs.declared.parts.Part.{Part}
use Rattle.cite_styles.specs.declared.parts.Part.TheVariants as parts
use Rattle.rendering_style.specs.Nodes.{Node}

-- the node of a part
abbrev pub part_node : Part → Node
part_node parts.Authors = authors
part_node parts.ShortAuthors = short_authors
part_node parts.Title = title
part_node parts.Source = source
part_node parts.Year = year
part_node parts.Locator = locator
