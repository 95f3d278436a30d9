-- Offsets of what is left of a text.
use Rattle.std.proofs.Common.{◌≡◌, ℕ, ◌+◌, ◌≤◌, Bool, List, ◌∷◌, length, ap, ◌∙◌, length-append, arith}
use Rattle.std.specs.Prelude.{encode_utf8}
use Rattle.laws.specs.Text.{text as text_of}
use Rattle.laws.proofs.Text.{text-append}
use Rattle.biblatex_text.specs.Raw.{At}
use Rattle.biblatex_text.specs.Run.{prefix_of, after}
use Rattle.biblatex_text.specs.Reading.{offset, run_at}
use Rattle.biblatex_grammar.specs.Characters.{IsRun}
use Rattle.biblatex_grammar.specs.Values.{IsOffset, IsAt}
use Rattle.biblatex_grammar.proofs.States.{Run}
use Rattle.biblatex_grammar.proofs.Runs.{Takes, parts, run-prefix, run-after}

-- the text has at most so many bytes
abbrev pub Within : ℕ → List ℕ → Type 0
Within n cs = length (text_of cs) ≤ n

pub offset-again : (n k : ℕ) (cs : List ℕ) → IsOffset n k cs → offset n cs ≡ k
offset-again n k cs is = omega arith

pub offset-takes : (n : ℕ) (cs : List ℕ) → Within n cs → IsOffset n (offset n cs) cs
offset-takes n cs within = omega arith

pub within-offset : (n k : ℕ) (cs : List ℕ) → IsOffset n k cs → Within n cs
within-offset n k cs is = omega arith

pub within-tail : (n c : ℕ) (cs : List ℕ) → Within n (c ∷ cs) → Within n cs
within-tail n c cs within = omega (arith, length-append (encode_utf8 c) (text_of cs))

pub within-after : (n : ℕ) (run : Run) (cs : List ℕ) → Within n cs → Within n (after run cs)
within-after n run cs within =
    let long : length (text_of cs) ≡ length (text_of (prefix_of run cs)) + length (text_of (after run cs)) =
    ap (λ (x : List ℕ). length (text_of x)) (parts run cs) ∙ (ap length (text-append (prefix_of run cs) (after run cs)) ∙ length-append (text_of (prefix_of run cs)) (text_of (after run cs))) in
    omega (arith, long)

-- something with the range that it should have
pub at_same : {X : Type 0} (v : X) (start end : ℕ) (x : At X) → v ≡ x.v → start ≡ x.start → end ≡ x.end → ◌≡◌ {A = At X} (record { v = v; start = start; end = end }) x
at_same v start end x a b c = λ j. record { v = a j; start = b j; end = c j }

pub run_at-again : (n : ℕ) (run : Run) (test : ℕ → Bool) → Takes run test → (cs rest : List ℕ) (x : At (List ℕ)) → IsRun test cs x.v rest → IsAt n cs x rest → run_at n run cs ≡ x
run_at-again n run test takes cs rest x is at =
    at_same (prefix_of run cs) (offset n cs) (offset n (after run cs)) x (run-prefix run test takes cs x.v rest is) (offset-again n x.start cs at.0) (ap (offset n) (run-after run test takes cs x.v rest is) ∙ offset-again n x.end rest at.1)

pub run_at-takes : (n : ℕ) (run : Run) (cs : List ℕ) → Within n cs → IsAt n cs (run_at n run cs) (after run cs)
run_at-takes n run cs within = (offset-takes n cs within, offset-takes n (after run cs) (within-after n run cs within))
