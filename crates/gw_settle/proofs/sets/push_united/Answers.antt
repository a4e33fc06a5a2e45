use Rattle.std.proofs.Common.{rules, ◌≡◌, ◌≤◌, ◌∷◌, ◌++◌, ◌+◌, [], drop, get_or, sym, ap, subst, ◌∙◌}
use Rattle.std.specs.Prelude.{All, filter, nat_lt, not}
use Rattle.gw_settle.proofs.Uniting.{Ascend, United, united_more, left_ascends, left_above, above_of_left, drop_at}
use Rattle.gw_settle.proofs.sets.push_united.Goals as goal

pub above-rest-requires-clause-ascending : goal.above-rest-requires-clause-ascending
above-rest-requires-clause-ascending c =
    let m = get_or c.args.others.now c.loop-number.number-index 0 in
    let is : c.in_ok-left.left.now ≡ filter (λ n. not (nat_lt n m)) c.loop-number.rest.now = search rules in
    subst Ascend (sym is) (left_ascends m c.loop-number.rest.now c.loop-number.invariant.ascends)

pub above-rest-requires-clause-least : goal.above-rest-requires-clause-least
above-rest-requires-clause-least c =
    let m = get_or c.args.others.now c.loop-number.number-index 0 in
    let is : c.in_ok-left.left.now ≡ filter (λ n. not (nat_lt n m)) c.loop-number.rest.now = search rules in
    subst (All (λ n. m ≤ n)) (sym is) (left_above m c.loop-number.rest.now)

pub loop-number-preserved : goal.loop-number-preserved
loop-number-preserved c =
    let m = get_or c.args.others.now c.loop-number.number-index 0 in
    let later = drop (c.loop-number.number-index + 1) c.args.others.now in
    let left : c.in_ok-left.left.now ≡ filter (λ n. not (nat_lt n m)) c.loop-number.rest.now = search rules in
    let above : c.above-rest.result.now ≡ filter (λ n. nat_lt m n) c.in_ok-left.left.now = search rules in
    let rest : c.above-rest.result.now ≡ filter (λ n. nat_lt m n) c.loop-number.rest.now = above
    ∙ ap (λ ns. filter (λ n. nat_lt m n) ns) left ∙ above_of_left m c.loop-number.rest.now in
    let all : c.push.new.self.items ≡ (c.loop-number.all.items ++ filter (λ n. nat_lt n m) c.loop-number.rest.now) ++ m ∷ [] = search rules in
    let before = subst (United c.args.all.now.items c.args.numbers.now c.args.others.now c.loop-number.all.items c.loop-number.rest.now)
    (drop_at c.args.others.now c.loop-number.number-index 0 c.loop-number-test.true) c.loop-number.invariant in
    rw (all, rest) (united_more c.args.all.now.items c.args.numbers.now c.args.others.now c.loop-number.all.items c.loop-number.rest.now m later before)
