use Rattle.std.proofs.Common.{◌≡◌, ◌∙◌, List, [], drop, sym, ap, subst, arith}
use Rattle.std.proofs.lemmas.List.{drop_all}
use Rattle.gw_machine.specs.declared.wants.Want.{Want}
use Rattle.gw_machine.specs.declared.least.Least.TheVariants.{Nobody}
use Rattle.gw_machine.specs.Wants.{IsLeast, want_count}
use Rattle.gw_machine.proofs.Lessening.{least_in, least-counted}
use Rattle.gw_machine.proofs.least.least_of.Goals as goal

pub returns : goal.returns
returns c =
    let ws = c.args.wants.now in
    let ends : drop c.loop-want.want-index ws ≡ [] = drop_all c.loop-want.want-index ws (omega (arith, c.loop-want-test.false)) in
    let is : c.loop-want.least ≡ least_in c.args.blocks.now c.args.e ws Nobody =
    sym (ap (λ (xs : List Want). least_in c.args.blocks.now c.args.e xs c.loop-want.least) ends) ∙ c.loop-want.invariant in
    subst (IsLeast c.args.blocks.now c.args.e (λ b. want_count b ws)) (sym is) (least-counted c.args.blocks.now c.args.e ws)
