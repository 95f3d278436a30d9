-- What an entry's type means for the fields that it inherits and passes on.
use Rattle.std.specs.Prelude.{Bool, true, false, [], ◌∷◌, if◌then◌else◌, codes}
use Rattle.biblatex_entries.specs.TypeNames.{TypeName, is_one_of}
use Rattle.biblatex_entries.specs.declared.role.Role.{Role}
use Rattle.biblatex_entries.specs.declared.role.Role.TheVariants.{Article, Periodical, PartOfBook, PartOfOther, Book, MultiVolumeBook, Volume, MultiVolume, XData, Set, Other}

abbrev pub role_of : TypeName → Role
role_of t =
    if is_one_of (codes "article" ∷ codes "suppperiodical" ∷ []) t then Article
    else (if is_one_of (codes "periodical" ∷ []) t then Periodical
    else (if is_one_of (codes "inbook" ∷ codes "bookinbook" ∷ codes "suppbook" ∷ []) t then PartOfBook
    else (if is_one_of (codes "incollection" ∷ codes "suppcollection" ∷ codes "inreference" ∷ codes "inproceedings" ∷ []) t then PartOfOther
    else (if is_one_of (codes "book" ∷ []) t then Book
    else (if is_one_of (codes "mvbook" ∷ []) t then MultiVolumeBook
    else (if is_one_of (codes "collection" ∷ codes "proceedings" ∷ codes "reference" ∷ []) t then Volume
    else (if is_one_of (codes "mvcollection" ∷ codes "mvproceedings" ∷ codes "mvreference" ∷ []) t then MultiVolume
    else (if is_one_of (codes "xdata" ∷ []) t then XData
    else (if is_one_of (codes "set" ∷ []) t then Set
    else Other)))))))))

abbrev pub is_multi_volume : Role → Bool
is_multi_volume MultiVolumeBook = true
is_multi_volume MultiVolume = true
is_multi_volume _ = false

abbrev pub is_collection : Role → Bool
is_collection Volume = true
is_collection MultiVolume = true
is_collection _ = false
