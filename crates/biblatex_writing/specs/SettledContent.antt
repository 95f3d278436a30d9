-- Contents that read back as they are.
use Rattle.std.specs.Prelude.{ℕ, ◌+◌, ◌-◌, Bool, true, false, not, ◌&&◌, ◌||◌, ◌==◌, List, [], ◌∷◌, Option, Some, None, if◌then◌else◌}
use Rattle.std.specs.List.{list_all}
use Rattle.laws.specs.Characters.{dollar_sign, hyphen, backslash, open_brace, close_brace}
use Rattle.biblatex_content.specs.declared.chunk.Kind.{Kind}
use Rattle.biblatex_content.specs.declared.chunk.Kind.TheVariants.{Normal, Verbatim}
use Rattle.biblatex_content.specs.Styled.{Member, Letter, Math}
use Rattle.biblatex_content.specs.Tidy.{is_tidy_from}

-- whether tidying leaves a styled text as it is; it leaves an empty one
abbrev pub is_tidy_styled : List Member → Bool
is_tidy_styled [] = true
is_tidy_styled (m ∷ ms) = is_tidy_from true (m ∷ ms)

-- the kind of a hyphen
abbrev pub hyphen_kind : Member → Option Kind
hyphen_kind (Letter kind c) = if c == hyphen then Some kind else None
hyphen_kind (Math text) = None

-- two hyphens of one kind
abbrev pub are_of_one_kind : Option Kind → Option Kind → Bool
are_of_one_kind None k = false
are_of_one_kind (Some kind) None = false
are_of_one_kind (Some Normal) (Some Normal) = true
are_of_one_kind (Some Normal) (Some Verbatim) = false
are_of_one_kind (Some Verbatim) (Some Normal) = false
are_of_one_kind (Some Verbatim) (Some Verbatim) = true

-- no two neighbours are hyphens of one kind
abbrev pub has_single_hyphens : List Member → Bool
has_single_hyphens [] = true
has_single_hyphens (m ∷ []) = true
has_single_hyphens (m ∷ n ∷ ms) = not (are_of_one_kind (hyphen_kind m) (hyphen_kind n)) && has_single_hyphens (n ∷ ms)

-- a character of math that no backslash escapes, where so many braces are open: no dollar sign outside braces, and no closing brace without a
-- partner
abbrev pub may_stand : ℕ → ℕ → Bool
may_stand depth c = not (depth == 0 && (c == dollar_sign || c == close_brace))

-- how many braces are open after such a character
abbrev pub depth_after : ℕ → ℕ → ℕ
depth_after depth c = if c == open_brace then depth + 1 else (if c == close_brace then depth - 1 else depth)

-- Whether a math text may stand between dollar signs, after a backslash that takes the next character with it or not, and where so many braces are
-- open: its braces balance, no dollar sign stands outside them, and no such backslash stands at the end.
abbrev pub is_math_from : Bool → ℕ → List ℕ → Bool
is_math_from is_escaped depth [] = not is_escaped && depth == 0
is_math_from true depth (c ∷ cs) = is_math_from false depth cs
is_math_from false depth (c ∷ cs) = may_stand depth c && is_math_from (c == backslash) (depth_after depth c) cs

abbrev pub is_math : List ℕ → Bool
is_math cs = is_math_from false 0 cs

-- a character, or math that may stand between dollar signs
abbrev pub is_writable : Member → Bool
is_writable (Letter kind c) = true
is_writable (Math text) = is_math text

abbrev pub is_verbatim : Member → Bool
is_verbatim (Letter Normal c) = false
is_verbatim (Letter Verbatim c) = true
is_verbatim (Math text) = false

-- an ordinary field: tidy, its hyphens apart, its math balanced
abbrev pub is_settled_ordinary : List Member → Bool
is_settled_ordinary ms = is_tidy_styled ms && has_single_hyphens ms && list_all is_writable ms

-- a verbatim field: tidy, and verbatim throughout
abbrev pub is_settled_verbatim : List Member → Bool
is_settled_verbatim ms = is_tidy_styled ms && list_all is_verbatim ms

-- the content of a field, verbatim or ordinary, that reads back as it is
abbrev pub is_settled_content : Bool → List Member → Bool
is_settled_content false ms = is_settled_ordinary ms
is_settled_content true ms = is_settled_verbatim ms
