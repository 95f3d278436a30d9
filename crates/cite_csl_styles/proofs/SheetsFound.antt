-- The style of a file, by what the file was found to be.
use Rattle.std.proofs.Common.{◌≡◌, ℕ, List, Option, Some, None, Result, Ok, refl, sym, subst, String}
use Rattle.std.specs.Global.{Global}
use Rattle.xml_tree.specs.Trees.{Element}
use Rattle.rendering_locale.specs.declared.code.LocaleCode.{LocaleCode}
use Rattle.csl_styles.specs.Files as files
use Rattle.csl_styles.specs.Files.{Dependent, Independent, Localized}
use Rattle.csl_styles.specs.Views.{csl_view}
use Rattle.csl_styles.specs.declared.file.Csl.{Csl}
use Rattle.csl_styles.specs.declared.file.Csl.TheVariants as kinds
use Rattle.cite_csl_styles.specs.Answers.{IsStop, Answers, Returns}
use Rattle.cite_csl_styles.specs.Sheets as sheets
use Rattle.cite_csl_styles.specs.Sheets.{Found, IsCslRead, IsParentAt, IsSheetOf, own_sheet}
use Rattle.cite_csl_styles.specs.Sources.{Reads, SourceFile, file_at}
use Rattle.cite_csl_styles.specs.Stages.{Lines, Gives}
use Rattle.cite_csl_styles.specs.Views.{sheet_view}
use Rattle.cite_csl_styles.specs.declared.sheets.Sheet.{Sheet}
use Rattle.cite_csl_styles.specs.declared.stop.Stop.{Stop}
use Rattle.cite_csl_styles.proofs.Staged.{then_goes_on, then_stops}
use Rattle.cite_csl_styles.proofs.Stopped.{answers_weaker}

-- the other side of an equation
gives : (r : Result Sheet Stop) (x : Result sheets.Sheet Lines) → Returns sheet_view r x → Answers sheet_view r (Gives x)
gives r x h = answers_weaker sheet_view r (λ a. x ≡ a) (Gives x) (λ a e. sym e) h

-- the parent that lies there
pub parent_there : (read : Reads) (file : SourceFile) (root : Element) (name : List ℕ) (lang o : Option (List ℕ)) (path : List ℕ) (at : SourceFile) (p : Found) (r : Result Sheet Stop)
    → Some path ≡ o → at ≡ file_at read path → IsCslRead at (Ok p) → Returns sheet_view r (own_sheet lang p p.means) → Answers sheet_view r (IsParentAt read file root name lang o)
parent_there read file root name lang o path at p r is same found h =
    subst (λ (q : Option (List ℕ)). Answers sheet_view r (IsParentAt read file root name lang q)) is
    (then_goes_on sheet_view r (IsCslRead (file_at read path)) (λ (f : Found). Gives (own_sheet lang f f.means)) p (subst (λ (s : SourceFile). IsCslRead s (Ok p)) same found) (gives r (own_sheet lang p p.means) h))

pub parent_stopped : (read : Reads) (file : SourceFile) (root : Element) (name : List ℕ) (lang o : Option (List ℕ)) (path : List ℕ) (at : SourceFile) (e : Stop)
    → Some path ≡ o → at ≡ file_at read path → IsStop e (IsCslRead at) → IsStop e (IsParentAt read file root name lang o)
parent_stopped read file root name lang o path at e is same h =
    subst (λ (q : Option (List ℕ)). IsStop e (IsParentAt read file root name lang q)) is
    (then_stops e (IsCslRead (file_at read path)) (λ (f : Found). Gives (own_sheet lang f f.means)) (subst (λ (s : SourceFile). IsStop e (IsCslRead s)) same h))

-- the style of a file without a parent
pub own_one : (read : Reads) (f : Found) (m : files.Csl) (r : Result Sheet Stop) → ((name : List ℕ) (lang : Option (List ℕ)) → m ≡ Dependent name lang → ⊥) → Returns sheet_view r (own_sheet None f m)
    → Answers sheet_view r (IsSheetOf read f m)
own_one read f (Dependent name lang) r other h = absurd (other name lang refl)
own_one read f (Independent words s) r other h = gives r (own_sheet None f (Independent words s)) h
own_one read f (Localized words l) r other h = gives r (own_sheet None f (Localized words l)) h

pub not_dependent : (m : Csl) → ((parent : String Global) (lang : Option LocaleCode) → m ≡ kinds.Dependent parent lang → ⊥) → (name : List ℕ) (lang : Option (List ℕ)) → csl_view m ≡ Dependent name lang → ⊥
not_dependent (kinds.Dependent parent default) other name lang is = other parent default refl
not_dependent (kinds.Independent words s) other name lang is = cc
not_dependent (kinds.Localized words l) other name lang is = cc
