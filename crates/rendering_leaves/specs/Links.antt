-- Links that hold the end of the prefix before them.
use Rattle.std.specs.Prelude.{ℕ, Bool, not, ◌==◌, ◌&&◌, List, [], ◌∷◌, reverse, if◌then◌else◌, Option, Some, None}
use Rattle.std.specs.Option.{option_and_then, option_map}
use Rattle.rendering_style.specs.Nodes.{Look, TextLook}
use Rattle.rendering_context.specs.Answering.{Answer, address}

-- what follows in a list that begins with another one
abbrev pub after_start : List ℕ → List ℕ → Option (List ℕ)
after_start [] ys = Some ys
after_start (x ∷ xs) [] = None
after_start (x ∷ xs) (y ∷ ys) = if x == y then after_start xs ys else None

-- what stands before an end of a text, where the text has that end
abbrev pub before_end : List ℕ → List ℕ → Option (List ℕ)
before_end end cs = option_map reverse (after_start (reverse end) (reverse cs))

-- What of the prefix of a text stands before its link, which holds the rest: in a published style the prefix ends in what the address has
-- before its text, as `https://doi.org/` before a DOI, and no quote stands between.
abbrev pub before_link : Bool → TextLook → Answer → Option (List ℕ)
before_link is_published look (address cs url) =
    if is_published && not look.quotes
    then option_and_then (λ start. before_end start look.look.prefix) (before_end cs url)
    else None
before_link is_published look h = None

-- a look with that as its prefix
abbrev pub look_before : Option (List ℕ) → Look → Look
look_before None l = l
look_before (Some prefix) l = record l { prefix = prefix }

-- an answer whose link shows all of its address
abbrev pub whole_address : Answer → Answer
whole_address (address cs url) = address url url
whole_address h = h

-- an answer whose link shows all of its address where it holds a prefix
abbrev pub linked_answer : Option (List ℕ) → Answer → Answer
linked_answer None h = h
linked_answer (Some prefix) h = whole_address h
