-- Where who enters a block goes on to, and when no named end comes before.
use Rattle.std.specs.Prelude.{◌≡◌, ◌⊎◌, ℕ, ◌+◌, ◌≤◌, ℤ, pos, ◌-ℤ◌, List, Option, Some, None, Ok, Bool, true, is_some, unwrap_or, nat_le, not, ◌&&◌}
use Rattle.std.specs.Prelude.{if◌then◌else◌, IfSome}
use Rattle.std.specs.Option.{option_map}
use Rattle.gw_object.specs.declared.blocks.Generate.{Generate}
use Rattle.gw_object.specs.declared.blocks.Both.{Both}
use Rattle.gw_object.specs.declared.blocks.Block.{Block}
use Rattle.gw_object.specs.declared.blocks.Block.TheVariants as blocks
use Rattle.gw_object.specs.declared.parts.Parts.{Parts}
use Rattle.gw_rules.specs.Exits.{leads_to, goes_or_falls}
use Rattle.gw_rules.specs.Kinds.{block_at}
use Rattle.gw_num.specs.Arithmetic.{difference_of}
use Rattle.gw_transactions.specs.declared.Transaction.{Transaction}
use Rattle.gw_transactions.specs.Transactions.{parameter_at, live_count}
use Rattle.gw_entities.specs.Tabulation.{Tabulation, tabulation_of}
use Rattle.gw_step.specs.Outcome.{Gives}
use Rattle.gw_step.specs.State.{State}
use Rattle.gw_step.specs.Times.{moment_after}
use Rattle.gw_step.specs.Changes.{savevalue, table}
use Rattle.gw_step.specs.Blocks.{the_value, next_arrival, passes_test, is_so, led_by, choice_of, block_after, loop_target, put_by, assembly_at, is_priority}

-- no move may lead to the block of this number: it isn't there, or is a GENERATE
abbrev pub IsNoTarget : List Block → ℕ → Type 0
IsNoTarget bs b = (block_at bs b ≡ None) ⊎ ((g : Generate) × (block_at bs b ≡ Some (blocks.Generate g)))

-- whether the first of an assembly set waits at the block before a transaction, so that who enters is destroyed
abbrev pub is_awaited : Transaction → ℕ → State → Bool
is_awaited t size s = not (nat_le size 1) && is_some (assembly_at t.next t.set s)

-- the number of the block to which the transaction n, which is t, goes on that enters a block with these operand
-- values; none where it is destroyed, joins a user chain, or has two to go on to
abbrev pub goes_on_to : ℕ → Transaction → Block → List ℤ → State → Option ℕ
goes_on_to n t (blocks.Terminate by) values s = None
goes_on_to n t (blocks.Link l) values s = None
goes_on_to n t (blocks.Assemble size) values s = if is_awaited t size s then None else Some (t.next + 1)
goes_on_to n t (blocks.Test test) values s = Some (led_by t.next test.otherwise (passes_test test values))
goes_on_to n t (blocks.Gate gate) values s = Some (led_by t.next gate.otherwise (is_so gate.condition gate.entity s))
goes_on_to n t (blocks.Transfer target) values s = Some target
goes_on_to n t (blocks.TransferByFraction f) values s = Some (choice_of t.next f (the_value values))
goes_on_to n t (blocks.TransferBoth two) values s = None
goes_on_to n t (blocks.TransferToSubroutine c) values s = Some c.target
goes_on_to n t (blocks.TransferByParameter q) values s = option_map block_after (parameter_at n q s.transactions)
goes_on_to n t (blocks.Loop l) values s = option_map (λ old. loop_target t.next l.target (old -ℤ pos 1)) (parameter_at n l.parameter s.transactions)
goes_on_to n t block values s = Some (t.next + 1)

-- a block is one of the two to which a TRANSFER BOTH, the block of number b, leads
abbrev pub IsOneOfTwo : ℕ → Both → ℕ → Type 0
IsOneOfTwo b two to = (leads_to b (goes_or_falls two.first) ≡ to) ⊎ (two.second ≡ to)

-- with these operand values no named end comes before the move
abbrev pub ComesToNoEnd : Parts → ℕ → Transaction → Block → List ℤ → State → Type 0
ComesToNoEnd p n t (blocks.Generate g) values s = (after : State) × (next_arrival p t.next g s ≡ Gives after)
ComesToNoEnd p n t (blocks.Advance time) values s = (moment : ℤ) × (moment_after s.clock (the_value values) ≡ Gives moment)
ComesToNoEnd p n t (blocks.Assign a) values s = (new : ℤ)
    × (put_by a.mode (unwrap_or (parameter_at n a.parameter s.transactions) (pos 0)) (the_value values) ≡ Ok new)
ComesToNoEnd p n t (blocks.Savevalue a) values s = (new : ℤ) × (put_by a.mode (savevalue a.savevalue s) (the_value values) ≡ Ok new)
ComesToNoEnd p n t (blocks.Loop l) values s = IfSome (parameter_at n l.parameter s.transactions) (λ old. difference_of old (pos 1) ≡ Ok (old -ℤ pos 1))
ComesToNoEnd p n t (blocks.Priority a) values s = is_priority (the_value values) ≡ true
ComesToNoEnd p n t (blocks.Split c) values s = live_count s.transactions + c.copies ≤ 65536
ComesToNoEnd p n t (blocks.Tabulate e) values s = (new : Tabulation) × (tabulation_of (the_value values) (table e s) ≡ Ok new)
ComesToNoEnd p n t block values s = Unit {0}
