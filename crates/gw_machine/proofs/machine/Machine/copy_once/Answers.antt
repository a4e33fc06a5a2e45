use Rattle.std.proofs.Common.{◌≡◌, refl, ap, ◌∙◌, rules, List, Option, ℕ, ℤ, length, None, arith}
use Rattle.gw_transactions.specs.Parameters.{Numbered}
use Rattle.std.proofs.lemmas.Int.{to_z-of_z}
use Rattle.gw_members.specs.Chain.{behind}
use Rattle.gw_members.specs.declared.tx.Member.{Member}
use Rattle.gw_transactions.proofs.Populations.{transaction_of}
use Rattle.gw_step.specs.Times.{parameters_of}
use Rattle.gw_step.specs.Changes.{with_copy}
use Rattle.gw_machine.specs.View.{state_of}
use Rattle.gw_machine.proofs.AtCopies.{state-copied, linked-copied, parameters-copied}
use Rattle.gw_machine.specs.Shown.{configuration_of}
use Rattle.gw_machine.proofs.Knowing.{known-apart, written-same, nowhere-apart}
use Rattle.gw_num.proofs.Tables.{at_past}
use Rattle.gw_machine.proofs.machine.Machine.copy_once.Goals as goal

abbrev numbered : List (Option ℤ) → ℕ → Numbered
numbered values last = record { values = values; last = last }

as_kept : {a b : List (Option ℤ)} {m n : ℕ} → a ≡ b → m ≡ n → numbered a m ≡ numbered b n
as_kept {b = b} {m = m} same last = ap (λ values. numbered values m) same ∙ ap (λ k. numbered b k) last

joined : (c : goal.After-insert_behind) → c.insert_behind.new.self.items
    ≡ behind (λ (x : Member). x.priority) (record { tx = c.insert_with-made.result; priority = c.args.transaction.priority })
    (configuration_of c.self.inside).current_events.items
joined c = search (rules, to_z-of_z)

made : (c : goal.After-insert_behind) → c.insert_with-made.new.self.txs
    ≡ with_copy c.args.tx.number c.args.transaction c.args.target (state_of (configuration_of c.self.inside))
made c = search (rules, (rw (← c.self.view_is) at c.requires.same))

pub returns-clause-state : goal.returns-clause-state
returns-clause-state c =
    rw (← c.self.view_is) (
    let e = c.insert_with-made.ensures in
    state-copied (configuration_of c.self.inside) c.self.invariant.0 c.args.tx.number c.args.transaction c.requires.block c.args.target
    c.insert_with-made.result c.insert_with-made.new.self (made c) e.places e.last e.number c.insert_behind.new.self.items (joined c))

pub invariant_of-self : goal.invariant_of-self
invariant_of-self c =
    let e = c.insert_with-made.ensures in (
      linked-copied (configuration_of c.self.inside) c.self.invariant.0 c.args.tx.number c.args.transaction c.requires.block c.args.target
          c.insert_with-made.result c.insert_with-made.new.self (made c) e.places e.last e.number c.insert_behind.new.self.items (joined c)
          _ refl e.sound refl refl refl (record { waits = refl; assemblies = refl; chains = refl; entities = refl; clock = refl })
          (rw (← c.self.view_is) at (returns-clause-state c)),
      known-apart c.self.inside.wants (length (configuration_of c.self.inside).transactions.txs) (state_of (configuration_of c.self.inside)) _
          (written-same (length (configuration_of c.self.inside).transactions.txs) (configuration_of c.self.inside).transactions.txs _ _ (made c)) refl refl
          (nowhere-apart (length (configuration_of c.self.inside).transactions.txs) (state_of (configuration_of c.self.inside))
          c.self.invariant.0.resides (at_past None (configuration_of c.self.inside).transactions.txs _ (omega arith))) c.self.invariant.1,
    )

pub returns-clause-same : goal.returns-clause-same
returns-clause-same c =
    rw (← c.self.view_is) (
    let u = transaction_of (configuration_of c.self.inside).transactions c.self.invariant.0.sound c.args.tx (rw (← c.self.view_is) at c.requires.held) in
    let same = ap (parameters_of c.args.tx.number) (rw (← c.self.view_is) at (returns-clause-state c))
    ∙ parameters-copied c.args.tx.number c.args.transaction c.args.target (state_of (configuration_of c.self.inside)) u.0 u.1 in
    as_kept same c.insert_with-made.ensures.last)
