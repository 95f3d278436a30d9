use Rattle.std.proofs.Common.{◌≡◌, ◌↔◌, IsTrue, List, subst}
use Rattle.std.specs.List.{AllByRecursion}
use Rattle.std.proofs.lemmas.Bool.{iff_false}
use Rattle.std.proofs.lemmas.Result.{IfOk-weaker}
use Rattle.rendering_nodes.specs.Named.{AnswerAlike}
use Rattle.rendering_taxonomy.specs.declared.kind.Kind.{Kind}
use Rattle.rendering_taxonomy.specs.declared.variable.Variable.{Variable}
use Rattle.rendering_alike.specs.Naming.{names_view}
use Rattle.rendering_alike.proofs.AnswersAll.{all_alike, not_all_alike, not_each_alike, not_one_language}
use Rattle.rendering_alike.proofs.answers.answer_alike.Goals as goal

pub returns-then-not-are_in_one_language : goal.returns-then-not-are_in_one_language
returns-then-not-are_in_one_language g c =
    not_one_language (names_view c.args.names.now) (g.E.EntryLike.answers c.args.one.now) (g.E.EntryLike.answers c.args.other.now)
    (iff_false c.are_in_one_language.ensures c.if-not-are_in_one_language.true)

pub returns-then-not-are_of_one_kind : goal.returns-then-not-are_of_one_kind
returns-then-not-are_of_one_kind g c =
    let a = g.E.EntryLike.answers c.args.one.now in
    let b = g.E.EntryLike.answers c.args.other.now in
    not_all_alike (names_view c.args.names.now) a b
    (iff_false (subst (λ (ks : List Kind). IsTrue c.are_of_one_kind.result ↔ AllByRecursion (λ (k : Kind). a.kind k ≡ b.kind k) ks) c.deref.ensures.value c.are_of_one_kind.ensures) c.if-not-are_of_one_kind.true)

pub returns-then-not-branch : goal.returns-then-not-branch
returns-then-not-branch g c =
    let a = g.E.EntryLike.answers c.args.one.now in
    let b = g.E.EntryLike.answers c.args.other.now in
    not_each_alike (names_view c.args.names.now) a b
    (iff_false (subst (λ (vs : List Variable). IsTrue c.in_ok-answer_all_alike.field-0 ↔ AllByRecursion (AnswerAlike a b) vs) c.deref-2.ensures.value c.in_ok-answer_all_alike.ensures) c.if-not-branch.true)

pub returns : goal.returns
returns g c =
    let a = g.E.EntryLike.answers c.args.one.now in
    let b = g.E.EntryLike.answers c.args.other.now in
    IfOk-weaker c.are_all_written_alike.result _ _
    (λ yes e.
    all_alike (names_view c.args.names.now) a b yes (c.are_in_one_language.ensures.0 c.if-not-are_in_one_language.false) (subst (AllByRecursion (λ (k : Kind). a.kind k ≡ b.kind k)) c.deref.ensures.value (c.are_of_one_kind.ensures.0 c.if-not-are_of_one_kind.false))
    (subst (AllByRecursion (AnswerAlike a b)) c.deref-2.ensures.value (c.in_ok-answer_all_alike.ensures.0 c.if-not-branch.false))
    (subst (λ (vs : List Variable). IsTrue yes ↔ AllByRecursion (λ (v : Variable). a.written v ≡ b.written v) vs) c.deref-3.ensures.value e))
    c.are_all_written_alike.ensures
