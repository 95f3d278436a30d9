-- Markers as a grammar by cases. Each relation takes a text, what is spelled from its first character on, and the text that follows.
-- Characters are numbers.
use Rattle.std.specs.Prelude.{◌≡◌, ◌⊎◌, ℕ, true, false, List, [], ◌∷◌, ◌++◌, Option, Some, None}
use Rattle.laws.specs.Characters.{space, hyphen, semicolon, at_sign, open_bracket, close_bracket}
use Rattle.rendering_taxonomy.specs.declared.cite.CitePurpose.{CitePurpose}
use Rattle.cite_markers.specs.Marker.{Cite, CiteLocator, Beginning}
use Rattle.cite_markers_grammar.specs.Characters.{is_of_name, is_of_value, IsRun, IsOptional, IsTight}
use Rattle.cite_markers_grammar.specs.Words.{written_purpose, written_label, is_named}

-- a text, what it spells, and the text that follows
abbrev pub Spells : Type 0 → Type 1
Spells X = List ℕ → X → List ℕ → Type 0

-- A purpose is its word and a space, or there is none.
abbrev pub IsPurpose : Spells (Option CitePurpose)
IsPurpose cs None rest = cs ≡ rest
IsPurpose cs (Some p) rest = cs ≡ written_purpose p ++ space ∷ rest

-- A cite begins with a hyphen, where it is hidden, a purpose or none, and an at sign.
abbrev pub IsBeginning : Spells Beginning
IsBeginning cs b rest = (a : List ℕ) × IsOptional hyphen cs b.hidden a × IsPurpose a b.purpose (at_sign ∷ rest)

-- A locator is a space, a label that markers name, a space and its value; there is none where no space stands.
abbrev pub IsLocator : Spells (Option CiteLocator)
IsLocator cs None rest = IsOptional space cs false rest
IsLocator cs (Some l) rest =
    (is_named l.label ≡ true) × (a : List ℕ) × (cs ≡ space ∷ (written_label l.label ++ space ∷ a)) × IsRun is_of_value a l.value rest × IsTight l.value

-- A cite is its beginning, a name, and a locator or none.
abbrev pub IsCite : Spells Cite
IsCite cs c rest = (a : List ℕ) × (b : List ℕ) × IsBeginning cs (record { hidden = c.hidden; purpose = c.purpose }) a × IsRun is_of_name a c.name b × IsLocator b c.locator rest

-- Cites are parted by a semicolon and a space, and a closing bracket ends them.
abbrev pub AreCites : Spells (List Cite)
AreCites cs [] rest = ⊥
AreCites cs (c ∷ cites) rest = (a : List ℕ) × IsCite cs c a × (((cites ≡ []) × (a ≡ close_bracket ∷ rest)) ⊎ ((b : List ℕ) × (a ≡ semicolon ∷ space ∷ b) × AreCites b cites rest))

-- A marker is an opening bracket and cites.
abbrev pub IsMarker : Spells (List Cite)
IsMarker cs cites rest = (a : List ℕ) × (cs ≡ open_bracket ∷ a) × AreCites a cites rest

-- An opening is an opening bracket and the beginning of a cite.
abbrev pub IsOpening : List ℕ → Type 0
IsOpening cs = (a : List ℕ) × (b : Beginning) × (rest : List ℕ) × (cs ≡ open_bracket ∷ a) × IsBeginning a b rest
