-- Labels of locators with one index are one, as variables of one kind are, and `==` says so.
use Rattle.std.proofs.Common.{◌≡◌, ℕ, Bool, ◌==◌, List, [], ◌∷◌, get_or, refl, sym, rules}
use denote.Enum.Bare.{same_true, true_same}
use Rattle.std.specs.Bool.{Decides}
use Rattle.laws.proofs.Equality.{Decides-moved}
use Rattle.rendering_taxonomy.specs.Kinds.{locator_index, is_locator}
use Rattle.rendering_taxonomy.specs.Variables.{standard_index, number_index, date_index, is_variable, is_name_variable}
use Rattle.rendering_taxonomy.proofs.Indices.{Decides-indices, Decides-is_name_variable, Decides-names}
use Rattle.rendering_tree.proofs.ViewsEquality.{agreed}
use Rattle.rendering_taxonomy.specs.declared.locator.Locator.{Locator}
use Rattle.rendering_taxonomy.specs.declared.locator.Locator.TheVariants as locators
use Rattle.rendering_taxonomy.specs.declared.variable.StandardVariable.{StandardVariable}
use Rattle.rendering_taxonomy.specs.declared.variable.StandardVariable.TheVariants as standard
use Rattle.rendering_taxonomy.specs.declared.variable.NumberVariable.{NumberVariable}
use Rattle.rendering_taxonomy.specs.declared.variable.NumberVariable.TheVariants as number
use Rattle.rendering_taxonomy.specs.declared.variable.NameVariable.{NameVariable}
use Rattle.rendering_taxonomy.specs.declared.variable.DateVariable.{DateVariable}
use Rattle.rendering_taxonomy.specs.declared.variable.DateVariable.TheVariants as date
use Rattle.rendering_taxonomy.specs.declared.variable.Variable.{Variable}
use Rattle.rendering_taxonomy.specs.declared.variable.Variable.TheVariants as variables
use Rattle.rendering_taxonomy.specs.contracts.locator.Locator.{the_type as locator_type}
use Rattle.rendering_taxonomy.specs.contracts.locator.LocatorPartialEq.TheImpl as locator_eq
use Rattle.rendering_taxonomy.specs.contracts.variable.StandardVariable.{the_type as standard_type}
use Rattle.rendering_taxonomy.specs.contracts.variable.StandardVariablePartialEq.TheImpl as standard_eq
use Rattle.rendering_taxonomy.specs.contracts.variable.NumberVariable.{the_type as number_type}
use Rattle.rendering_taxonomy.specs.contracts.variable.NumberVariablePartialEq.TheImpl as number_eq
use Rattle.rendering_taxonomy.specs.contracts.variable.NameVariablePartialEq.TheImpl as name_eq
use Rattle.rendering_taxonomy.specs.contracts.variable.DateVariable.{the_type as date_type}
use Rattle.rendering_taxonomy.specs.contracts.variable.DateVariablePartialEq.TheImpl as date_eq
use Rattle.rendering_taxonomy.specs.contracts.variable.VariablePartialEq.TheImpl as variable_eq

-- the labels in the order of their indices
abbrev labels : List Locator
labels =
    locators.Act ∷ locators.Appendix ∷ locators.ArticleLocator ∷ locators.Book ∷ locators.Canon ∷ locators.Chapter ∷ locators.Column
    ∷ locators.Elocation ∷ locators.Equation ∷ locators.Figure ∷ locators.Folio ∷ locators.Issue ∷ locators.Line ∷ locators.Note ∷ locators.Opus
    ∷ locators.Page ∷ locators.Paragraph ∷ locators.Part ∷ locators.Rule ∷ locators.Scene ∷ locators.Section ∷ locators.SubVerbo ∷ locators.Supplement
    ∷ locators.Table ∷ locators.Timestamp ∷ locators.TitleLocator ∷ locators.Verse ∷ locators.Version ∷ locators.Volume ∷ locators.Custom ∷ []

abbrev label_at : ℕ → Locator
label_at n = get_or labels n locators.Custom

label_back : (l : Locator) → label_at (locator_index l) ≡ l
label_back locators.Act = refl
label_back l = refl

Decides-labels : (l m : Locator) → Decides (locator_eq.ghosts.eq l m) (l ≡ m)
Decides-labels l m = (same_true locator_type (search rules) l m, true_same locator_type l m)

-- `==` of labels says whether they are one
pub same_label : (l m : Locator) → locator_eq.ghosts.eq l m ≡ is_locator l m
same_label l m = agreed (locator_eq.ghosts.eq l m) (is_locator l m) (Decides-labels l m) (Decides-indices locator_index label_at label_back l m)

-- the variables that are texts, in the order of their indices; `==` says whether they are one
abbrev standards_in_order : List StandardVariable
standards_in_order =
    standard.Abstract ∷ standard.Annote ∷ standard.Archive ∷ standard.ArchiveCollection ∷ standard.ArchiveLocation ∷ standard.ArchivePlace
    ∷ standard.Authority ∷ standard.CallNumber ∷ standard.CitationKey ∷ standard.CitationLabel ∷ standard.CollectionTitle ∷ standard.ContainerTitle
    ∷ standard.ContainerTitleShort ∷ standard.Dimensions ∷ standard.Division ∷ standard.Doi ∷ standard.Event ∷ standard.EventPlace
    ∷ standard.EventTitle ∷ standard.Genre ∷ standard.Isbn ∷ standard.Issn ∷ standard.Jurisdiction ∷ standard.Keyword ∷ standard.Language
    ∷ standard.License ∷ standard.Medium ∷ standard.Note ∷ standard.OriginalPublisher ∷ standard.OriginalPublisherPlace ∷ standard.OriginalTitle
    ∷ standard.PartTitle ∷ standard.Pmcid ∷ standard.Pmid ∷ standard.Publisher ∷ standard.PublisherPlace ∷ standard.References
    ∷ standard.ReviewedGenre ∷ standard.ReviewedTitle ∷ standard.Scale ∷ standard.Source ∷ standard.Status ∷ standard.Title ∷ standard.TitleShort
    ∷ standard.Url ∷ standard.VolumeTitle ∷ standard.YearSuffix ∷ []

abbrev standard_at : ℕ → StandardVariable
standard_at n = get_or standards_in_order n standard.YearSuffix

standard_back : (v : StandardVariable) → standard_at (standard_index v) ≡ v
standard_back standard.Abstract = refl
standard_back v = refl

Decides-standards : (v w : StandardVariable) → Decides (standard_eq.ghosts.eq v w) (v ≡ w)
Decides-standards v w = (same_true standard_type (search rules) v w, true_same standard_type v w)

-- the same of numbers
abbrev numbers_in_order : List NumberVariable
numbers_in_order =
    number.ChapterNumber ∷ number.CitationNumber ∷ number.CollectionNumber ∷ number.Edition ∷ number.FirstReferenceNoteNumber ∷ number.Issue
    ∷ number.Locator ∷ number.Number ∷ number.NumberOfPages ∷ number.NumberOfVolumes ∷ number.PageFirst ∷ number.PartNumber ∷ number.PrintingNumber
    ∷ number.Section ∷ number.SupplementNumber ∷ number.Version ∷ number.Volume ∷ []

abbrev number_at : ℕ → NumberVariable
number_at n = get_or numbers_in_order n number.Volume

number_back : (v : NumberVariable) → number_at (number_index v) ≡ v
number_back number.ChapterNumber = refl
number_back v = refl

Decides-numbers : (v w : NumberVariable) → Decides (number_eq.ghosts.eq v w) (v ≡ w)
Decides-numbers v w = (same_true number_type (search rules) v w, true_same number_type v w)

-- the same of dates
abbrev dates_in_order : List DateVariable
dates_in_order =
    date.Accessed ∷ date.AvailableDate ∷ date.EventDate ∷ date.Issued ∷ date.OriginalDate ∷ date.Submitted ∷ []

abbrev date_at : ℕ → DateVariable
date_at n = get_or dates_in_order n date.Submitted

date_back : (v : DateVariable) → date_at (date_index v) ≡ v
date_back date.Accessed = refl
date_back v = refl

Decides-dates : (v w : DateVariable) → Decides (date_eq.ghosts.eq v w) (v ≡ w)
Decides-dates v w = (same_true date_type (search rules) v w, true_same date_type v w)

-- where `==` says whether values are one, and each index leads back to its value, it says whether the indices are one
same_by : {A : Type 0} (same : A → A → Bool) (index : A → ℕ) (value : ℕ → A) → ((a b : A) → Decides (same a b) (a ≡ b)) → ((a : A) → value (index a) ≡ a)
    → (v w : A) → same w v ≡ (index v == index w)
same_by same index value decides back v w = agreed (same w v) (index v == index w) (Decides-moved (same w v) (decides w v) sym sym) (Decides-indices index value back v w)

-- people
same_name : (v w : NameVariable) → name_eq.ghosts.eq w v ≡ is_name_variable v w
same_name v w = agreed (name_eq.ghosts.eq w v) (is_name_variable v w) (Decides-moved (name_eq.ghosts.eq w v) (Decides-names w v) sym sym) (Decides-is_name_variable v w)

-- `==` of variables says whether they are one
pub same_variable : (v w : Variable) → variable_eq.ghosts.eq w v ≡ is_variable v w
same_variable (variables.Standard v) (variables.Standard w) = same_by standard_eq.ghosts.eq standard_index standard_at Decides-standards standard_back v w
same_variable (variables.Number v) (variables.Number w) = same_by number_eq.ghosts.eq number_index number_at Decides-numbers number_back v w
same_variable (variables.Name v) (variables.Name w) = same_name v w
same_variable (variables.Date v) (variables.Date w) = same_by date_eq.ghosts.eq date_index date_at Decides-dates date_back v w
same_variable variables.Page variables.Page = refl
same_variable v w = refl
