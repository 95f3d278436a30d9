use Rattle.std.proofs.Common.{◌≡◌, ℕ, ◌-◌, length, map, take, sym, ap, ◌∙◌}
use Rattle.biblatex_lists.specs.Views.{named_view}
use Rattle.biblatex_lists.proofs.ViewsLists.{without_last}
use Rattle.biblatex_lists.proofs.reading.Found.finish.Goals as goal

pub returns-then-self : goal.returns-then-self
returns-then-self c = λ ps f.
    let count : c.saturating_sub-count.result ≡ length c.args.self.people.items - 1 = c.saturating_sub-count.ensures ∙ ap (λ (k : ℕ). k - 1) (c.len.ensures ∙ c.args.self.people.ok.0) in
    ap (map named_view) c.truncate.ensures.items
    ∙ (ap (λ (k : ℕ). map named_view (take k c.args.self.people.items)) count ∙ without_last c.args.self.people.items ps f.people (sym f.ends ∙ c.if-self.true))
