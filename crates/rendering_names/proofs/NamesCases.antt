-- Words that are there or not.
use Rattle.std.proofs.Common.{◌≡◌, ℕ, true, false, cond, List, [], ◌∷◌, refl}
use Rattle.std.specs.Option.{unwrap_or}
use Rattle.laws.specs.Text.{is_filled}
use Rattle.rendering_page.specs.Pages.{Manner}
use Rattle.rendering_page.specs.Pieces.{normal}
use Rattle.rendering_style.specs.Options.{NameOptions}
use Rattle.rendering_taxonomy.specs.Formats.{changed}
use Rattle.rendering_names.specs.Names.{NameStyle, before_last_by, delimiter_by, delimits_last, delimits_et_al, et_al_by}
use Rattle.rendering_taxonomy.specs.declared.name.DelimiterBehavior.TheVariants as behaviors
use Rattle.laws.specs.Characters.{space}

-- without a word there is the delimiter
pub before_last-none : (m : Manner) (o : NameOptions) (n : ℕ) (cs : List ℕ) → is_filled cs ≡ false → before_last_by m o n cs ≡ normal m (delimiter_by o) ∷ []
before_last-none m o n [] e = refl
before_last-none m o n (c ∷ cs) e = absurd cc

-- before a word there is the delimiter or a space, after it a space
pub before_last-some : (m : Manner) (o : NameOptions) (n : ℕ) (cs : List ℕ) → is_filled cs ≡ true
    → before_last_by m o n cs
    ≡ normal m (cond (delimits_last o n (unwrap_or o.delimiter_precedes_last behaviors.Contextual)) (delimiter_by o) (space ∷ [])) ∷ normal m cs ∷ normal m (space ∷ []) ∷ []
before_last-some m o n [] e = absurd cc
before_last-some m o n (c ∷ cs) e = refl

-- without a term there is nothing
pub et_al-none : (s : NameStyle) (shown : ℕ) (cs : List ℕ) → is_filled cs ≡ false → et_al_by s shown cs ≡ []
et_al-none s shown [] e = refl
et_al-none s shown (c ∷ cs) e = absurd cc

-- before a term there is the delimiter or a space
pub et_al-some : (s : NameStyle) (shown : ℕ) (cs : List ℕ) → is_filled cs ≡ true
    → et_al_by s shown cs
    ≡ normal s.manner
    (cond (delimits_et_al s.options shown (unwrap_or s.options.delimiter_precedes_et_al behaviors.Contextual)) (delimiter_by s.options) (space ∷ []))
    ∷ normal (record s.manner { formatting = changed s.et_al.formatting s.manner.formatting }) cs ∷ []
et_al-some s shown [] e = absurd cc
et_al-some s shown (c ∷ cs) e = refl
