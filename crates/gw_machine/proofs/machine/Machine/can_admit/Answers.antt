use Rattle.std.proofs.Common.{rules, ◌≡◌, ◌∙◌, ℕ, Some, List, [], ◌∷◌, map, refl, sym, ap, subst}
use Rattle.std.specs.List.{AllByRecursion}
use Rattle.gw_num.specs.Table.{at}
use Rattle.gw_members.specs.declared.tx.Member.{Member}
use Rattle.gw_object.specs.declared.blocks.Block.{Block}
use Rattle.gw_transactions.specs.declared.Transaction.{Transaction}
use Rattle.gw_transactions.specs.Transactions.{Population, attributes_at}
use Rattle.gw_step.specs.Blocks.{admission}
use Rattle.gw_machine.specs.Coherence.{IsRanked}
use Rattle.gw_machine.specs.View.{state_of, member_number}
use Rattle.gw_machine.specs.Configuration.{Configuration}
use Rattle.gw_machine.specs.Admission.{AsksInVain, AdmitsNobody}
use Rattle.gw_machine.proofs.Changes.{delay_list-at}
use Rattle.gw_machine.proofs.Walks.{vain-looked_at, vain-first, admission-none}
use Rattle.gw_machine.proofs.machine.Machine.can_admit.Goals as goal

pub loop-waiter-init : goal.loop-waiter-init
loop-waiter-init c =
    let m = c.args.self.now in
    let all : c.into_iter-waiter-iterator.result ≡ at [] m.waits.lists c.args.e =
    rw (← c.self.view_is) (c.into_iter-waiter-iterator.ensures.into_iter_gives ∙ c.waiters-waiter-items.ensures) in
    record {
      ranked = subst (AllByRecursion (IsRanked m.transactions)) (sym all)
          (rw (← c.self.view_is) (c.self.invariant.0.delay_lists c.args.e (rw (← c.self.view_is) at c.requires.there)));
      rest = λ none. ap (λ ns. admission c.args.blocks.now c.args.e ns (state_of m)) (delay_list-at m c.args.e ∙ ap (map member_number) (sym all)) ∙ none;
      refused = λ u is. absurd cc;
    }

-- nobody enters where the first who is left doesn't, and none of the others
on : (bs : List Block) (e : ℕ) (m : Configuration) (w : Member) (before later : List Member) (t : Transaction) → before ≡ w ∷ later
    → attributes_at w.tx.number m.transactions.txs ≡ Some t → AsksInVain bs e t.next (state_of m)
    → (admission bs e (map member_number before) (state_of m) ≡ state_of m → AdmitsNobody bs e (state_of m))
    → admission bs e (map member_number later) (state_of m) ≡ state_of m → AdmitsNobody bs e (state_of m)
on bs e m w before later t begun live vain rest none =
    rest
    (ap (λ (ms : List Member). admission bs e (map member_number ms) (state_of m)) begun
    ∙ vain-first bs e w.tx.number (map member_number later) (state_of m) (vain-looked_at bs e w.tx.number (state_of m) t live vain) none)

others : (p : Population) (w : Member) (before later : List Member) → before ≡ w ∷ later → AllByRecursion (IsRanked p) before
    → AllByRecursion (IsRanked p) later
others p w before later begun all = (subst (AllByRecursion (IsRanked p)) begun all).1

pub loop-waiter-preserved-then-next-refused : goal.loop-waiter-preserved-then-next-refused
loop-waiter-preserved-then-next-refused c =
    let m = c.args.self.now in
    let w = c.in-Some.waiter.now in
    let begun : c.loop-waiter.waiter-iterator ≡ w ∷ c.next.new.self = search rules in
    let live : attributes_at w.tx.number m.transactions.txs ≡ Some c.get.result.now = rw (← c.self.view_is) c.get.ensures.value in
    record {
      ranked = others m.transactions w c.loop-waiter.waiter-iterator c.next.new.self begun c.loop-waiter.invariant.ranked;
      rest = on c.args.blocks.now c.args.e m w c.loop-waiter.waiter-iterator c.next.new.self c.get.result.now begun live
          (c.if-has_asked.ensures refl) c.loop-waiter.invariant.rest;
      refused = c.if-has_asked.ensures refl;
    }

pub loop-waiter-preserved : goal.loop-waiter-preserved
loop-waiter-preserved c =
    let m = c.args.self.now in
    let w = c.in-Some.waiter.now in
    let begun : c.loop-waiter.waiter-iterator ≡ w ∷ c.next.new.self = search rules in
    let live : attributes_at w.tx.number m.transactions.txs ≡ Some c.get.result.now = rw (← c.self.view_is) c.get.ensures.value in
    let same : c.get.result.now.next ≡ c.loop-waiter.refused = search rules in
    record {
      ranked = others m.transactions w c.loop-waiter.waiter-iterator c.next.new.self begun c.loop-waiter.invariant.ranked;
      rest = on c.args.blocks.now c.args.e m w c.loop-waiter.waiter-iterator c.next.new.self c.get.result.now begun live
          (rw same c.loop-waiter.invariant.refused) c.loop-waiter.invariant.rest;
      refused = c.loop-waiter.invariant.refused;
    }

pub returns : goal.returns
returns c =
    let ends : c.loop-waiter.waiter-iterator ≡ [] = search rules in
    λ no. c.loop-waiter.invariant.rest
    (ap (λ (ms : List Member). admission c.args.blocks.now c.args.e (map member_number ms) (state_of c.args.self.now)) ends
    ∙ admission-none c.args.blocks.now c.args.e (state_of c.args.self.now))
