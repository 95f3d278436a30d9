-- Styled texts: characters, each Normal or Verbatim, and math pieces, each of which stands as one member.
use Rattle.std.specs.Prelude.{ℕ, List, [], ◌∷◌, map}
use Rattle.std.specs.List.{flat_map}
use Rattle.biblatex_content.specs.declared.chunk.Kind.{Kind}

pub data Member : Type 0 where
  Letter : Kind → ℕ → Member
  Math : List ℕ → Member

-- characters of one kind
abbrev pub letters : Kind → List ℕ → List Member
letters kind cs = map (Letter kind) cs

-- a character whatever its kind; of math what stands between the dollar signs
abbrev pub member_text : Member → List ℕ
member_text (Letter kind c) = c ∷ []
member_text (Math cs) = cs

-- the texts of all members, one after the other
abbrev pub plain : List Member → List ℕ
plain ms = flat_map member_text ms
