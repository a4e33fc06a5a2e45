use Rattle.std.proofs.Common.{rules, ◌<◌, ◌∙◌, List, [], map, length, vec_len, ap, inr, arith}
use Rattle.gw_num.specs.Table.{at}
use Rattle.gw_num.proofs.Tables.{at-put, at-put_other}
use Rattle.gw_machine.specs.declared.wants.Want.{Want}
use Rattle.gw_machine.specs.Known.{wants_of}
use Rattle.gw_machine.proofs.Wanting.{map-set}
use Rattle.gw_machine.proofs.wants.Wants.put.Goals as goal

pub returns-then-is_ok-clause-others : goal.returns-then-is_ok-clause-others
returns-then-is_ok-clause-others c =
    let xs = c.reach.new.lists.items in
    let within : c.args.e < vec_len c.reach.new.lists = search rules in
    let there : c.args.e < length xs = omega (arith, within, c.reach.new.lists.ok) in
    λ k other. rw (← c.self.view_is)
    (ap (λ (ls : List (List Want)). at [] ls k) (map-set wants_of [] xs c.args.e c.args.wants there)
    ∙ at-put_other [] (map wants_of xs) c.args.e k _ other ∙ c.reach.ensures.known k)

pub returns-then-is_ok-clause-here : goal.returns-then-is_ok-clause-here
returns-then-is_ok-clause-here c =
    let xs = c.reach.new.lists.items in
    let within : c.args.e < vec_len c.reach.new.lists = search rules in
    let there : c.args.e < length xs = omega (arith, within, c.reach.new.lists.ok) in
    inr (ap (λ (ls : List (List Want)). at [] ls c.args.e) (map-set wants_of [] xs c.args.e c.args.wants there) ∙ at-put [] (map wants_of xs) c.args.e _)
