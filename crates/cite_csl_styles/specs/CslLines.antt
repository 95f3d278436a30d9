-- What is said of a text that is no file of CSL.
use Rattle.std.specs.Prelude.{ℕ, List, [], ◌∷◌, ◌++◌, codes}
use Rattle.laws.specs.Text.{text}
use Rattle.xml_schema.specs.Faults.{Stray, NoAttribute, NoValue, Lacking, Crowded, Childless, Repeated, Texts}
use Rattle.xml_schema.specs.Faults as schema
use Rattle.xml_text.specs.declared.fault.Fault.{Fault}
use Rattle.xml_text.specs.declared.fault.Fault.TheVariants as faults
use Rattle.rendering_style.specs.Opening.{macro_ring, too_deep}
use Rattle.rendering_style.specs.Opening as styles
use Rattle.csl_styles.specs.Faults.{Wrong, BySchema, NoCitation, SecondMacro, UnknownMacro}
use Rattle.csl_styles.specs.Reading.{Refusal, OfText, OfTree, OfStyle}

-- why a text is no XML
abbrev pub xml_text : Fault → List ℕ
xml_text faults.Unclosed = codes "not closed"
xml_text faults.Unexpected = codes "unexpected character"
xml_text faults.Doctype = codes "document type declarations are not read"
xml_text faults.ReservedTarget = codes "XML declaration not at the beginning"
xml_text faults.Declaration = codes "malformed XML declaration"
xml_text faults.Encoding = codes "encoding other than UTF-8"
xml_text faults.UnknownEntity = codes "unknown entity"
xml_text faults.NoCharacter = codes "reference to no character"
xml_text faults.Repeated = codes "repeated attribute"
xml_text faults.Namespace = codes "namespace declaration that is not allowed"
xml_text faults.Unbound = codes "undeclared prefix"
xml_text faults.TooDeep = codes "too many levels of elements"
xml_text faults.SecondRoot = codes "second root element"
xml_text faults.Unopened = codes "end-tag of no element"
xml_text faults.Mismatched = codes "end-tag of another element"
xml_text faults.Outside = codes "text outside the root element"
xml_text faults.NoRoot = codes "no element"
xml_text faults.Unfinished = codes "element not closed"

-- words with a comma between
abbrev pub listed : List (List ℕ) → List ℕ
listed [] = []
listed (w ∷ []) = w
listed (w ∷ v ∷ ws) = w ++ (codes ", " ++ listed (v ∷ ws))

-- what is wrong with an element by the schema
abbrev pub schema_text : schema.Wrong → List ℕ
schema_text (Stray rule) = codes "element that may not stand in " ++ rule
schema_text (NoAttribute name) = codes "unknown attribute " ++ text name
schema_text (NoValue name) = codes "unknown value of " ++ text name
schema_text (Lacking names) = codes "lacks an attribute: " ++ listed names
schema_text (Crowded names) = codes "more than one attribute of: " ++ listed names
schema_text (Childless name) = codes "lacks an element " ++ name
schema_text (Repeated name) = codes "more than one element " ++ name
schema_text Texts = codes "text that may not stand here"

-- what is wrong with an element
abbrev pub wrong_text : Wrong → List ℕ
wrong_text (BySchema wrong) = schema_text wrong
wrong_text NoCitation = codes "lacks an element citation"
wrong_text SecondMacro = codes "second macro of its name"
wrong_text UnknownMacro = codes "call of an unknown macro"

-- why a style is refused
abbrev pub style_text : styles.Refusal → List ℕ
style_text (macro_ring name) = codes "circular macro " ++ name
style_text too_deep = codes "more than 200 levels"

-- why a text is refused, and how many of its bytes are left there
abbrev pub refusal_text : Refusal → List ℕ
refusal_text (OfText r) = xml_text r.0
refusal_text (OfTree f) = wrong_text f.wrong
refusal_text (OfStyle r left) = style_text r

abbrev pub refusal_left : Refusal → ℕ
refusal_left (OfText r) = r.1
refusal_left (OfTree f) = f.left
refusal_left (OfStyle r left) = left
