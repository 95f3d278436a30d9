use Rattle.std.proofs.Common.{◌≡◌, ℕ, List, ◌++◌, rules, ap, ◌∙◌}
use Rattle.std.specs.Prelude.{OnOk, string_bytes, codes}
use Rattle.std.proofs.lemmas.Result.{on_ok_weaker}
use Rattle.interop.specs.DateFields.{field_name}
use Rattle.cite_command.proofs.ProgramLines.{put_four}
use Rattle.cite_command.proofs.program.push_message.Goals as goal

pub returns : goal.returns
returns c =
    let old = string_bytes c.args.written.now in
    let key = string_bytes c.args.found.now.key in
    let field = field_name c.args.found.now.field in
    let first : string_bytes c.push_str.new.self ≡ old ++ codes "fields: " = search rules in
    let second : string_bytes c.push_str-2.new.self ≡ string_bytes c.push_str.new.self ++ key = search rules in
    let third : string_bytes c.push_str-3.new.self ≡ string_bytes c.push_str-2.new.self ++ codes ": " = search rules in
    let last : OnOk c.push_str-4.result (string_bytes c.push_str-4.new.self ≡ string_bytes c.push_str-3.new.self ++ field) = search rules in
    let before : string_bytes c.push_str-3.new.self ≡ ((old ++ codes "fields: ") ++ key) ++ codes ": " =
    third ∙ (λ i. (second ∙ ap (λ (x : List ℕ). x ++ key) first) i ++ codes ": ") in
    on_ok_weaker c.push_str-4.result (λ e. e ∙ ((λ i. before i ++ field) ∙ put_four old (codes "fields: ") key (codes ": ") field)) last
