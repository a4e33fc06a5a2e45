use Rattle.std.proofs.Common.{rules, ◌≡◌, ◌≤◌, ◌∷◌, sym, ap, subst, ◌∙◌, arith}
use Rattle.std.specs.Prelude.{All, filter, nat_lt}
use Rattle.std.proofs.lemmas.List.Elements.{All-head}
use Rattle.gw_settle.proofs.Uniting.{Ascend, above_first, above_all}
use Rattle.gw_settle.proofs.sets.above.Goals as goal

pub returns-then-first-bound : goal.returns-then-first-bound
returns-then-first-bound c =
    let is : c.args.numbers.now ≡ c.in-Some.first.now ∷ c.in-Some.later.now = search rules in
    above_first c.args.bound c.in-Some.first.now c.in-Some.later.now (omega (arith, c.if-first-bound.true)) (subst Ascend is c.requires.ascending)
    ∙ ap (λ ns. filter (λ n. nat_lt c.args.bound n) ns) (sym is)

pub returns-else-first-bound : goal.returns-else-first-bound
returns-else-first-bound c =
    let is : c.args.numbers.now ≡ c.in-Some.first.now ∷ c.in-Some.later.now = search rules in
    let least = All-head (λ n. c.args.bound ≤ n) c.in-Some.first.now c.in-Some.later.now (subst (All (λ n. c.args.bound ≤ n)) is c.requires.least) in
    is ∙ above_all c.args.bound c.in-Some.first.now c.in-Some.later.now (λ e. c.if-first-bound.false e) least (subst Ascend is c.requires.ascending)
    ∙ ap (λ ns. filter (λ n. nat_lt c.args.bound n) ns) (sym is)
