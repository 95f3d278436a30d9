-- Names of fields that no reference has under another one.
use Rattle.std.proofs.Common.{◌≡◌, ℕ, Bool, true, false, true≢false, ◌&&◌, List, bytes_eq, codes, slice_index, refl, sym}
use Rattle.std.specs.Prelude.{if◌then◌else◌}
use Rattle.biblatex_content.proofs.NamesApart.{differ}
use Rattle.biblatex_entries.specs.declared.role.Role.{Role}
use Rattle.biblatex_entries.specs.Roles.{is_multi_volume}
use Rattle.biblatex_inherited_fields.specs.Table.{is_periodical, is_part, is_volume, is_part_of_book, is_book, is_third_of_renamed, renamed_in_part, renamed}

-- a name that is not renamed
pub record IsNotRenamed (q : List ℕ) : Type 0 where
  pub journaltitle : bytes_eq q (codes "journaltitle") ≡ false
  pub journalsubtitle : bytes_eq q (codes "journalsubtitle") ≡ false
  pub maintitle : bytes_eq q (codes "maintitle") ≡ false
  pub mainsubtitle : bytes_eq q (codes "mainsubtitle") ≡ false
  pub booktitle : bytes_eq q (codes "booktitle") ≡ false
  pub booksubtitle : bytes_eq q (codes "booksubtitle") ≡ false
  pub bookauthor : bytes_eq q (codes "bookauthor") ≡ false

passed : (a b : Bool) (x y z : List ℕ) → b ≡ false → y ≡ z → (if a && b then x else y) ≡ z
passed true true x y z e is = absurd (true≢false e)
passed true false x y z e is = is
passed false b x y z e is = is

same_in_part : (to from : Role) (q : List ℕ) → IsNotRenamed q → renamed_in_part to from q ≡ q
unfolding renamed_in_part
same_in_part to from q n =
    passed (is_part to && is_volume from) (bytes_eq q (codes "booktitle")) _ _ q n.booktitle
    (passed (is_part to && is_volume from) (bytes_eq q (codes "booksubtitle")) _ _ q n.booksubtitle
    (passed (is_part_of_book to && is_book from) (bytes_eq q (codes "bookauthor")) _ _ q n.bookauthor refl))

-- the reference has the field under the same name
pub same_renamed : (to from : Role) (q : List ℕ) → IsNotRenamed q → renamed to from q ≡ q
same_renamed to from q n =
    passed (is_periodical from) (bytes_eq q (codes "journaltitle")) _ _ q n.journaltitle
    (passed (is_periodical from) (bytes_eq q (codes "journalsubtitle")) _ _ q n.journalsubtitle
    (passed (is_multi_volume from) (bytes_eq q (codes "maintitle")) _ _ q n.maintitle
    (passed (is_multi_volume from) (bytes_eq q (codes "mainsubtitle")) _ _ q n.mainsubtitle
    (same_in_part to from q n))))

-- so it is with a name whose third byte is none of theirs
pub kept : (to from : Role) (q : List ℕ) → is_third_of_renamed (slice_index q 2) ≡ false → q ≡ renamed to from q
kept to from q other =
    sym (same_renamed to from q (record {
      journaltitle = differ is_third_of_renamed q (codes "journaltitle") other refl;
      journalsubtitle = differ is_third_of_renamed q (codes "journalsubtitle") other refl;
      maintitle = differ is_third_of_renamed q (codes "maintitle") other refl;
      mainsubtitle = differ is_third_of_renamed q (codes "mainsubtitle") other refl;
      booktitle = differ is_third_of_renamed q (codes "booktitle") other refl;
      booksubtitle = differ is_third_of_renamed q (codes "booksubtitle") other refl;
      bookauthor = differ is_third_of_renamed q (codes "bookauthor") other refl;
    }))
