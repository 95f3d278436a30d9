-- Styled texts that are made of characters.
use Rattle.std.specs.Prelude.{◌∷◌, [], List}
use Rattle.std.specs.List.{AllByRecursion}
use Rattle.biblatex_content.specs.Styled.{Member, Letter, Math}
use Rattle.biblatex_laws.specs.Raw.{AreCharacters}

abbrev pub IsMemberText : Member → Type 0
IsMemberText (Letter kind c) = AreCharacters (c ∷ [])
IsMemberText (Math cs) = AreCharacters cs

abbrev pub AreMembersText : List Member → Type 0
AreMembersText ms = AllByRecursion IsMemberText ms
