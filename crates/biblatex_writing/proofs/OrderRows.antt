-- Rows of names, in the order of written names.
use Rattle.std.proofs.Common.{◌≡◌, ℕ, Bool, true, false, cond, ◌&&◌, ◌||◌, List, [], ◌∷◌, ◌++◌, bytes_eq, refl, sym, ap, subst, ◌∙◌, true≢false}
use Rattle.std.specs.List.{list_any, AllByRecursion}
use Rattle.std.proofs.lemmas.Slice.Eq.{bytes_eq-Decides}
use Rattle.biblatex_writing.specs.Written.{is_less}
use Rattle.biblatex_writing.specs.Order.{Row, comes_before, rows_before, rows_after}
use Rattle.biblatex_writing.proofs.OrderNames.{less_trans, less_back, less_itself, less_other, less_after}

-- a field of that name is one of the rows
abbrev pub has_row : List ℕ → List Row → Bool
has_row name rows = list_any (λ row. bytes_eq name row.1) rows

-- no field of that name is
abbrev pub HasNoRow : List ℕ → List Row → Type 0
HasNoRow name rows = AllByRecursion (λ row. bytes_eq name row.1 ≡ false) rows

pub no_row : (name : List ℕ) (rows : List Row) → has_row name rows ≡ false → HasNoRow name rows
no_row name [] e = tt
no_row name (row ∷ rows) e = by_test (bytes_eq name row.1) refl e (no_row name rows)
  where
    by_test : (t : Bool) → bytes_eq name row.1 ≡ t → (t || has_row name rows) ≡ false → (has_row name rows ≡ false → HasNoRow name rows) → (bytes_eq name row.1 ≡ false) × HasNoRow name rows
    by_test true h e more = absurd (true≢false e)
    by_test false h e more = (h, more e)

-- what follows from what holds of each
pub all_then : {X : Type 0} (P Q : X → Type 0) (xs : List X) → ((x : X) → P x → Q x) → AllByRecursion P xs → AllByRecursion Q xs
all_then P Q [] f all = tt
all_then P Q (x ∷ xs) f all = (f x all.0, all_then P Q xs f all.1)

pub all_both : {X : Type 0} (P Q : X → Type 0) (xs : List X) → AllByRecursion P xs → AllByRecursion Q xs → AllByRecursion (λ x. P x × Q x) xs
all_both P Q [] p q = tt
all_both P Q (x ∷ xs) p q = ((p.0, q.0), all_both P Q xs p.1 q.1)

-- the row of a name, with what holds of all rows
pub at_row : (name : List ℕ) (P : Row → Type 0) (rows : List Row) → has_row name rows ≡ true → AllByRecursion P rows → (row : Row) × (row.1 ≡ name) × P row
at_row name P [] e all = absurd (true≢false (sym e))
at_row name P (row ∷ rows) e all = by_test (bytes_eq name row.1) refl e (λ h. at_row name P rows h all.1)
  where
    by_test : (t : Bool) → bytes_eq name row.1 ≡ t → (t || has_row name rows) ≡ true → (has_row name rows ≡ true → (r : Row) × (r.1 ≡ name) × P r) → (r : Row) × (r.1 ≡ name) × P r
    by_test true h e more = (row, sym ((bytes_eq-Decides name row.1).0 h), all.0)
    by_test false h e more = more e

pub all_before : (P : Row → Type 0) (n : List ℕ) (rows : List Row) → AllByRecursion P rows → AllByRecursion P (rows_before n rows)
all_before P n [] all = tt
all_before P n (row ∷ rows) all = by_test (comes_before row n) (all_before P n rows all.1)
  where
    by_test : (t : Bool) → AllByRecursion P (rows_before n rows) → AllByRecursion P (cond t (row ∷ rows_before n rows) [])
    by_test true more = (all.0, more)
    by_test false more = tt

pub all_after : (P : Row → Type 0) (n : List ℕ) (rows : List Row) → AllByRecursion P rows → AllByRecursion P (rows_after n rows)
all_after P n [] all = tt
all_after P n (row ∷ rows) all = by_test (comes_before row n) (all_after P n rows all.1)
  where
    by_test : (t : Bool) → AllByRecursion P (rows_after n rows) → AllByRecursion P (cond t (rows_after n rows) (row ∷ rows))
    by_test true more = more
    by_test false more = all

-- rows are those before a name, and those after it
pub rows_parted : (n : List ℕ) (rows : List Row) → rows ≡ rows_before n rows ++ rows_after n rows
rows_parted n [] = refl
rows_parted n (row ∷ rows) = by_test (comes_before row n) (rows_parted n rows)
  where
    by_test : (t : Bool) → rows ≡ rows_before n rows ++ rows_after n rows → row ∷ rows ≡ cond t (row ∷ rows_before n rows) [] ++ cond t (rows_after n rows) (row ∷ rows)
    by_test true more = ap (λ (x : List Row). row ∷ x) more
    by_test false more = refl

-- a name that is not before a name is after it
pub is_later : (name n : List ℕ) (rows : List Row) → has_row name rows ≡ true → has_row name (rows_before n rows) ≡ false → has_row name (rows_after n rows) ≡ true
is_later name n [] e f = e
is_later name n (row ∷ rows) e f = by_test (comes_before row n) refl f (is_later name n rows)
  where
    by_name : (s : Bool) → (s || has_row name rows) ≡ true → (s || has_row name (rows_before n rows)) ≡ false → (has_row name rows ≡ true → has_row name (rows_before n rows) ≡ false → has_row name (rows_after n rows) ≡ true) → has_row name (rows_after n rows) ≡ true
    by_name true e f more = absurd (true≢false f)
    by_name false e f more = more e f

    by_test : (t : Bool) → comes_before row n ≡ t → has_row name (cond t (row ∷ rows_before n rows) []) ≡ false → (has_row name rows ≡ true → has_row name (rows_before n rows) ≡ false → has_row name (rows_after n rows) ≡ true)
        → has_row name (cond t (rows_after n rows) (row ∷ rows)) ≡ true
    by_test true h f more = by_name (bytes_eq name row.1) e f more
    by_test false h f more = e

-- a name that is less than another has no more rows before it
pub comes_sooner : (row : Row) (n g : List ℕ) → comes_before row n ≡ true → is_less n g ≡ true → comes_before row g ≡ true
comes_sooner row n g e l = by_less (is_less row.0 n) refl e
  where
    first : (b c : Bool) → b ≡ true → (b || c) ≡ true
    first true c h = refl
    first false c h = absurd (true≢false (sym h))

    by_same : (s : Bool) → bytes_eq row.0 n ≡ s → (s && is_less row.1 n) ≡ true → is_less row.0 g ≡ true
    by_same true h e = subst (λ (x : List ℕ). is_less x g ≡ true) (sym ((bytes_eq-Decides row.0 n).0 h)) l
    by_same false h e = absurd (true≢false (sym e))

    by_less : (t : Bool) → is_less row.0 n ≡ t → (t || (bytes_eq row.0 n && is_less row.1 n)) ≡ true → comes_before row g ≡ true
    by_less true h e = first (is_less row.0 g) (bytes_eq row.0 g && is_less row.1 g) (less_trans row.0 n g h l)
    by_less false h e = first (is_less row.0 g) (bytes_eq row.0 g && is_less row.1 g) (by_same (bytes_eq row.0 n) refl e)

-- the rows before the greater of two names
pub before_greater : (n g : List ℕ) (rows : List Row) → is_less n g ≡ true → rows_before g rows ≡ rows_before n rows ++ rows_before g (rows_after n rows)
before_greater n g [] l = refl
before_greater n g (row ∷ rows) l = by_test (comes_before row n) refl (before_greater n g rows l)
  where
    by_test : (t : Bool) → comes_before row n ≡ t → rows_before g rows ≡ rows_before n rows ++ rows_before g (rows_after n rows)
        → rows_before g (row ∷ rows) ≡ cond t (row ∷ rows_before n rows) [] ++ rows_before g (cond t (rows_after n rows) (row ∷ rows))
    by_test true h more = ap (λ (b : Bool). cond b (row ∷ rows_before g rows) []) (comes_sooner row n g h l) ∙ ap (λ (x : List Row). row ∷ x) more
    by_test false h more = refl

pub after_greater : (n g : List ℕ) (rows : List Row) → is_less n g ≡ true → rows_after g rows ≡ rows_after g (rows_after n rows)
after_greater n g [] l = refl
after_greater n g (row ∷ rows) l = by_test (comes_before row n) refl (after_greater n g rows l)
  where
    by_test : (t : Bool) → comes_before row n ≡ t → rows_after g rows ≡ rows_after g (rows_after n rows) → rows_after g (row ∷ rows) ≡ rows_after g (cond t (rows_after n rows) (row ∷ rows))
    by_test true h more = ap (λ (b : Bool). cond b (rows_after g rows) (row ∷ rows)) (comes_sooner row n g h l) ∙ more
    by_test false h more = refl

-- each row comes before a name where it does so by its written name, or by its own where these are one
pub before_each : (n : List ℕ) (rows : List Row) → AllByRecursion (λ row. comes_before row n ≡ true) (rows_before n rows)
before_each n [] = tt
before_each n (row ∷ rows) = by_test (comes_before row n) refl (before_each n rows)
  where
    by_test : (t : Bool) → comes_before row n ≡ t → AllByRecursion (λ r. comes_before r n ≡ true) (rows_before n rows) → AllByRecursion (λ r. comes_before r n ≡ true) (cond t (row ∷ rows_before n rows) [])
    by_test true h more = (h, more)
    by_test false h more = tt

-- what stands after a row: greater written names, other own names, and fields of these names are written under the former
abbrev pub Follows : (List ℕ → List ℕ) → Row → Row → Type 0
Follows w row later = (is_less row.0 later.0 ≡ true) × (bytes_eq row.1 later.1 ≡ false) × (w later.1 ≡ later.0)

-- rows in the order of written names, under which the fields of the other names are written
abbrev pub IsTable : (List ℕ → List ℕ) → List Row → Type 0
IsTable w [] = Unit {0}
IsTable w (row ∷ rows) = (w row.1 ≡ row.0) × AllByRecursion (Follows w row) rows × IsTable w rows

-- a row that does not come before a name is not less
not_less : (row : Row) (n : List ℕ) → comes_before row n ≡ false → is_less row.0 n ≡ false
not_less row n e = by_test (is_less row.0 n) e
  where
    by_test : (t : Bool) → (t || (bytes_eq row.0 n && is_less row.1 n)) ≡ false → t ≡ false
    by_test true e = absurd (true≢false e)
    by_test false e = refl

each_after : (w : List ℕ → List ℕ) (row : Row) (n : List ℕ) (rows : List Row) → is_less row.0 n ≡ false → AllByRecursion (Follows w row) rows → AllByRecursion (λ r. is_less r.0 n ≡ false) rows
each_after w row n [] l all = tt
each_after w row n (later ∷ rows) l all = (by_test (is_less later.0 n) refl, each_after w row n rows l all.1)
  where
    by_test : (t : Bool) → is_less later.0 n ≡ t → t ≡ false
    by_test true h = absurd (true≢false (sym (less_trans row.0 later.0 n all.0.0 h) ∙ l))
    by_test false h = refl

module _ (w : List ℕ → List ℕ) where
  -- no row after a name is less than it
  pub after_each : (n : List ℕ) (rows : List Row) → IsTable w rows → AllByRecursion (λ row. is_less row.0 n ≡ false) (rows_after n rows)
  after_each n [] table = tt
  after_each n (row ∷ rows) table = by_test (comes_before row n) refl (after_each n rows table.2)
    where
      by_test : (t : Bool) → comes_before row n ≡ t → AllByRecursion (λ r. is_less r.0 n ≡ false) (rows_after n rows) → AllByRecursion (λ r. is_less r.0 n ≡ false) (cond t (rows_after n rows) (row ∷ rows))
      by_test true h more = more
      by_test false h more = (not_less row n h, each_after w row n rows (not_less row n h) table.1)

  pub table_before : (n : List ℕ) (rows : List Row) → IsTable w rows → IsTable w (rows_before n rows)
  table_before n [] table = tt
  table_before n (row ∷ rows) table = by_test (comes_before row n) (table_before n rows table.2)
    where
      by_test : (t : Bool) → IsTable w (rows_before n rows) → IsTable w (cond t (row ∷ rows_before n rows) [])
      by_test true more = (table.0, all_before (Follows w row) n rows table.1, more)
      by_test false more = tt

  pub table_after : (n : List ℕ) (rows : List Row) → IsTable w rows → IsTable w (rows_after n rows)
  table_after n [] table = tt
  table_after n (row ∷ rows) table = by_test (comes_before row n) (table_after n rows table.2)
    where
      by_test : (t : Bool) → IsTable w (rows_after n rows) → IsTable w (cond t (rows_after n rows) (row ∷ rows))
      by_test true more = more
      by_test false more = table

  follows_written : (row later : Row) → Follows w row later → (is_less row.0 (w later.1) ≡ true)
  follows_written row later f = subst (λ (x : List ℕ). is_less row.0 x ≡ true) (sym f.2) f.0

  -- the written name of a later row is greater
  pub written_later : (row : Row) (name : List ℕ) (rows : List Row) → has_row name rows ≡ true → AllByRecursion (Follows w row) rows → is_less row.0 (w name) ≡ true
  written_later row name rows has all =
      let later : (r : Row) × (r.1 ≡ name) × Follows w row r = at_row name (Follows w row) rows has all in
      subst (λ (x : List ℕ). is_less row.0 (w x) ≡ true) later.1 (follows_written row later.0 later.2)

  -- the written name of a row after a name is greater than those of the rows before it
  pub before_later : (name n : List ℕ) (rows : List Row) → IsTable w rows → has_row name (rows_after n rows) ≡ true → AllByRecursion (λ row. is_less (w row.1) (w name) ≡ true) (rows_before n rows)
  before_later name n [] table has = tt
  before_later name n (row ∷ rows) table has = by_test (comes_before row n) has (before_later name n rows table.2)
    where
      by_test : (t : Bool) → has_row name (cond t (rows_after n rows) (row ∷ rows)) ≡ true
          → (has_row name (rows_after n rows) ≡ true → AllByRecursion (λ r. is_less (w r.1) (w name) ≡ true) (rows_before n rows))
          → AllByRecursion (λ r. is_less (w r.1) (w name) ≡ true) (cond t (row ∷ rows_before n rows) [])
      by_test true has more =
          (subst (λ (x : List ℕ). is_less x (w name) ≡ true) (sym table.0) (written_later row name (rows_after n rows) has (all_after (Follows w row) n rows table.1)), more has)
      by_test false has more = tt

  -- a name has no second row
  pub no_second : (row : Row) (name : List ℕ) (rows : List Row) → name ≡ row.1 → AllByRecursion (Follows w row) rows → HasNoRow name rows
  no_second row name rows is all = all_then (Follows w row) (λ r. bytes_eq name r.1 ≡ false) rows (λ r f. subst (λ (x : List ℕ). bytes_eq x r.1 ≡ false) (sym is) f.1) all

  -- fields are written under the names of their rows
  pub all_written : (rows : List Row) → IsTable w rows → AllByRecursion (λ row. w row.1 ≡ row.0) rows
  all_written [] table = tt
  all_written (row ∷ rows) table = (table.0, all_written rows table.2)

  -- a name before another has no second row after it
  pub only_before : (name n : List ℕ) (rows : List Row) → IsTable w rows → has_row name (rows_before n rows) ≡ true → HasNoRow name (rows_after n rows)
  only_before name n [] table has = tt
  only_before name n (row ∷ rows) table has = by_test (comes_before row n) has (only_before name n rows table.2)
    where
      by_name : (s : Bool) → bytes_eq name row.1 ≡ s → (s || has_row name (rows_before n rows)) ≡ true → (has_row name (rows_before n rows) ≡ true → HasNoRow name (rows_after n rows)) → HasNoRow name (rows_after n rows)
      by_name true h e more = no_second row name (rows_after n rows) ((bytes_eq-Decides name row.1).0 h) (all_after (Follows w row) n rows table.1)
      by_name false h e more = more e

      by_test : (t : Bool) → has_row name (cond t (row ∷ rows_before n rows) []) ≡ true → (has_row name (rows_before n rows) ≡ true → HasNoRow name (rows_after n rows))
          → HasNoRow name (cond t (rows_after n rows) (row ∷ rows))
      by_test true has more = by_name (bytes_eq name row.1) refl has more
      by_test false has more = absurd (true≢false (sym has))

  -- a name whose row comes before another one is not written after it
  pub written_sooner : (name n : List ℕ) (rows : List Row) → IsTable w rows → has_row name (rows_before n rows) ≡ true → is_less n (w name) ≡ false
  written_sooner name n [] table has = absurd (true≢false (sym has))
  written_sooner name n (row ∷ rows) table has = by_test (comes_before row n) refl has (written_sooner name n rows table.2)
    where
      by_same : (s : Bool) → bytes_eq row.0 n ≡ s → (s && is_less row.1 n) ≡ true → is_less n row.0 ≡ false
      by_same true h e = subst (λ (x : List ℕ). is_less x row.0 ≡ false) ((bytes_eq-Decides row.0 n).0 h) (less_itself row.0)
      by_same false h e = absurd (true≢false (sym e))

      by_less : (t : Bool) → is_less row.0 n ≡ t → (t || (bytes_eq row.0 n && is_less row.1 n)) ≡ true → is_less n row.0 ≡ false
      by_less true h e = less_back row.0 n h
      by_less false h e = by_same (bytes_eq row.0 n) refl e

      by_name : (s : Bool) → bytes_eq name row.1 ≡ s → comes_before row n ≡ true → (s || has_row name (rows_before n rows)) ≡ true → (has_row name (rows_before n rows) ≡ true → is_less n (w name) ≡ false) → is_less n (w name) ≡ false
      by_name true h b e more = subst (λ (x : List ℕ). is_less n x ≡ false) (sym (ap w ((bytes_eq-Decides name row.1).0 h) ∙ table.0)) (by_less (is_less row.0 n) refl b)
      by_name false h b e more = more e

      by_test : (t : Bool) → comes_before row n ≡ t → has_row name (cond t (row ∷ rows_before n rows) []) ≡ true → (has_row name (rows_before n rows) ≡ true → is_less n (w name) ≡ false) → is_less n (w name) ≡ false
      by_test true b has more = by_name (bytes_eq name row.1) refl b has more
      by_test false b has more = absurd (true≢false (sym has))

  -- a lesser name whose row comes after another one is written after it
  pub written_after_it : (name n : List ℕ) (rows : List Row) → IsTable w rows → is_less name n ≡ true → has_row name (rows_after n rows) ≡ true → is_less n (w name) ≡ true
  written_after_it name n [] table l has = absurd (true≢false (sym has))
  written_after_it name n (row ∷ rows) table l has = by_test (comes_before row n) refl has (written_after_it name n rows table.2 l)
    where
      apart : (b t : Bool) → is_less row.1 n ≡ true → bytes_eq row.0 n ≡ b → is_less row.0 n ≡ t → (t || (b && is_less row.1 n)) ≡ false → is_less n row.0 ≡ true
      apart b true own s h e = absurd (true≢false e)
      apart true false own s h e = absurd (true≢false (sym own ∙ e))
      apart false false own s h e = less_other row.0 n h s

      by_name : (s : Bool) → bytes_eq name row.1 ≡ s → comes_before row n ≡ false → (s || has_row name rows) ≡ true → is_less n (w name) ≡ true
      by_name true h b e =
          let is = (bytes_eq-Decides name row.1).0 h in
          subst (λ (x : List ℕ). is_less n x ≡ true) (sym (ap w is ∙ table.0)) (apart (bytes_eq row.0 n) (is_less row.0 n) (subst (λ (x : List ℕ). is_less x n ≡ true) is l) refl refl b)
      by_name false h b e = less_after row.0 n (w name) (not_less row n b) (written_later row name rows e table.1)

      by_test : (t : Bool) → comes_before row n ≡ t → has_row name (cond t (rows_after n rows) (row ∷ rows)) ≡ true → (has_row name (rows_after n rows) ≡ true → is_less n (w name) ≡ true) → is_less n (w name) ≡ true
      by_test true b has more = more has
      by_test false b has more = by_name (bytes_eq name row.1) refl b has
