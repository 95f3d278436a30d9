use Rattle.biblatex_content.specs.declared.chunk.Kind.TheVariants.{Normal, Verbatim}
use Rattle.biblatex_content.proofs.TidyTexts.{letters_after}
use Rattle.biblatex_content.proofs.tidy.after_chunk.Goals as goal

pub returns-in-Normal : goal.returns-in-Normal
returns-in-Normal c = λ ms.
    rw c.in-Normal.is
    (letters_after Normal c.args.is_after_space c.after_text.result c.as_str.ensures.value c.after_text.ensures ms)

pub returns-in-Verbatim : goal.returns-in-Verbatim
returns-in-Verbatim c = λ ms.
    rw c.in-Verbatim.is
    (letters_after Verbatim c.args.is_after_space c.after_text-in-Verbatim.result c.as_str-in-Verbatim.ensures.value c.after_text-in-Verbatim.ensures ms)
