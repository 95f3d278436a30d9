-- What files of CSL are found to be, and why they are refused.
use Rattle.std.proofs.Common.{◌≡◌, ℕ, true, List, [], Option, Some, None, Result, Ok, Err, IfOk, IfSome, inl, inr, refl, sym, ap, ◌∙◌, subst, codes}
use Rattle.std.specs.Prelude.{IfNone, IsSomeAnd}
use Rattle.std.specs.Option.{option_map}
use Rattle.std.specs.Str.{chars, IsUtf8, is_utf8}
use Rattle.std.specs.Str.Lossy.{utf8_valid_len}
use Rattle.std.proofs.lemmas.Bool.{false_from_ne_true}
use Rattle.std.proofs.lemmas.Str.{is_utf8-from_IsUtf8, IsUtf8-from_is_utf8}
use Rattle.xml_tree.specs.Trees.{Element}
use Rattle.xml_tree.specs.Grammar.{Spells}
use Rattle.xml_tree.specs.declared.tree.Element.{out-Element}
use Rattle.xml_schema.specs.Faults.{left_at}
use Rattle.xml_schema.proofs.Contents.{element_opened}
use Rattle.fault_lines.specs.Messages.{fault_lines}
use Rattle.csl_styles.specs.Faults.{faults}
use Rattle.csl_styles.specs.Files.{Csl}
use Rattle.csl_styles.specs.Reading.{Refusal, IsRefused, MeansBy}
use Rattle.cite_csl_styles.specs.Answers.{IsStop, IsRefusal}
use Rattle.cite_csl_styles.specs.CslLines.{refusal_left, refusal_text}
use Rattle.cite_csl_styles.specs.Sheets.{Found, IsCslRead, IsRootOf, ParentsAt, parents_of, root_lines}
use Rattle.cite_csl_styles.specs.Sources.{Reads, SourceFile, file_at, lines_left}
use Rattle.cite_csl_styles.specs.Stages.{Lines, Wanted}
use Rattle.cite_csl_styles.specs.Views.{found_view, paths_view, source_view}
use Rattle.cite_csl_styles.specs.declared.parents.ParentPaths.{ParentPaths}
use Rattle.cite_csl_styles.specs.declared.sheets.Found as code
use Rattle.cite_csl_styles.specs.declared.stop.Stop.{Stop}
use Rattle.cite_csl_styles.specs.declared.stop.Stop.TheVariants as stops
use Rattle.cite_csl_styles.proofs.Stopped.{stopped}

-- a text that means something
pub text_found : (file : SourceFile) (t : List ℕ) (x : Element) (m : Csl) → t ≡ file.bytes → IsUtf8 t → MeansBy (chars t) x m → IsCslRead file (Ok (record { file = file; root = x; means = m }))
text_found file t x m same utf8 (spelled, sound, meant, answered) = (
  refl,
  record {
    is_text = subst (λ (bs : List ℕ). is_utf8 bs ≡ true) same (is_utf8-from_IsUtf8 t utf8);
    spelled = subst (λ (bs : List ℕ). Spells x (chars bs)) same spelled;
    sound = sound;
    meant = meant;
    answered = answered;
  },
)

-- the root of a text without a fault
pub root_found : (file : SourceFile) (t : List ℕ) (x : Element) → t ≡ file.bytes → IsUtf8 t → Spells x (chars t) × (faults x ≡ []) → IsRootOf file (Ok x)
root_found file t x same utf8 (spelled, sound) =
    (subst (λ (bs : List ℕ). is_utf8 bs ≡ true) same (is_utf8-from_IsUtf8 t utf8), subst (λ (bs : List ℕ). Spells x (chars bs)) same spelled, sound)

-- bytes that are no text
pub no_text : (file : SourceFile) (at : ℕ) (e : Stop) → (IsUtf8 file.bytes → ⊥) → at ≡ utf8_valid_len file.bytes → IsRefusal e (fault_lines file.path file.bytes at (codes "not UTF-8")) → IsStop e (IsCslRead file)
no_text file at e bad valid said =
    stopped e (fault_lines file.path file.bytes at (codes "not UTF-8")) (IsCslRead file) said
    (inl (false_from_ne_true (is_utf8 file.bytes) (λ t. bad (IsUtf8-from_is_utf8 file.bytes t)), ap (λ (n : ℕ). fault_lines file.path file.bytes n (codes "not UTF-8")) valid))

-- a text that is refused, and one for which memory ran out
pub text_stopped : (file : SourceFile) (t : List ℕ) (r : Option Refusal) (e : Stop) → t ≡ file.bytes → IsUtf8 t → IfSome r (IsRefused (chars t)) → IfSome r (λ q. IsRefusal e (lines_left file (refusal_left q) (refusal_text q)))
    → IfNone r (e ≡ stops.Memory) → IsStop e (IsCslRead file)
text_stopped file t None e same utf8 refused said memory = subst (λ (s : Stop). IsStop s (IsCslRead file)) (sym memory) tt
text_stopped file t (Some q) e same utf8 refused said memory =
    stopped e (lines_left file (refusal_left q) (refusal_text q)) (IsCslRead file) said (inr (record {
      refusal = q;
      is_text = subst (λ (bs : List ℕ). is_utf8 bs ≡ true) same (is_utf8-from_IsUtf8 t utf8);
      refused = subst (λ (bs : List ℕ). IsRefused (chars bs) q) same refused;
      said = refl;
    }))

-- the lines for a text that is refused, by what is said of it
pub text_said : (o : Option Refusal) (file : SourceFile) (e : Stop) (why said : List ℕ) (left : ℕ) → IsSomeAnd o (λ r. (why ≡ refusal_text r) × (left ≡ refusal_left r)) → said ≡ why → IsRefusal e (lines_left file left said)
    → IfSome o (λ r. IsRefusal e (lines_left file (refusal_left r) (refusal_text r)))
text_said None file e why said left is same refused = tt
text_said (Some r) file e why said left is same refused =
    subst (λ (n : ℕ). IsRefusal e (lines_left file n (refusal_text r))) is.1 (subst (λ (w : List ℕ). IsRefusal e (lines_left file left w)) (same ∙ is.0) refused)

-- lines at the root
pub root_refused : {X : Type 0} (found : code.Found) (why : List ℕ) (e : Stop) (wanted : Wanted X) → IsRefusal e (lines_left (source_view found.file) (out-Element found.root).left why)
    → wanted (Err (root_lines (found_view found) why)) → IsStop e wanted
root_refused found why e wanted said fits =
    stopped e (lines_left (source_view found.file) (out-Element found.root).left why) wanted said
    (subst (λ (n : ℕ). wanted (Err (lines_left (source_view found.file) n why))) (ap left_at (element_opened found.root)) fits)

-- where the parent of a file may lie
pub parents_found : {E : Type 0} (read : Reads) (path : List ℕ) (file : SourceFile) (f : Found) (r : Result (Option ParentPaths) E) → file ≡ file_at read path → IsCslRead file (Ok f)
    → IfOk r (λ p. option_map paths_view p ≡ parents_of f) → IfOk r (λ p. ParentsAt read path (option_map paths_view p))
parents_found read path file f (Ok p) same is here = (Ok f, subst (λ (s : SourceFile). IsCslRead s (Ok f)) same is, here)
parents_found read path file f (Err e) same is here = tt

pub parents_refused : (read : Reads) (path : List ℕ) (file : SourceFile) (lines : Lines) → file ≡ file_at read path → IsCslRead file (Err lines) → ParentsAt read path None
parents_refused read path file lines same is = (Err lines, subst (λ (s : SourceFile). IsCslRead s (Err lines)) same is, refl)
