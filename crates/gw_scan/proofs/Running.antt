-- A running sim has a running machine, whose next step may be made.
use Rattle.std.proofs.Common.{[], ◌≡◌, ℕ, ◌^◌, ◌<◌, List, length, None, sym, ap, ◌∙◌, subst, arith}
use Rattle.gw_machine.specs.Configuration.{Configuration}
use Rattle.gw_object.specs.Grammar.{HasSpelling}
use Rattle.gw_object.specs.declared.parts.Parts.{Parts}
use Rattle.gw_rules.specs.Accepted.{Checked}
use Rattle.gw_step.specs.State.{State, delay_list, with_streams}
use Rattle.gw_step.specs.Turning.{turn_to}
use Rattle.gw_step.specs.Typing.{WellTyped}
use Rattle.gw_step.specs.Numbers.{IsWithin, made_in}
use Rattle.gw_step.specs.Operands.{BlocksFit}
use Rattle.gw_step.specs.Job.{Job, IsReached}
use Rattle.gw_machine.specs.View.{state_of, member_number}
use Rattle.gw_machine.specs.Slots.{greatest_set}
use Rattle.gw_scan.specs.Visiting.{IsReady, MayTurnToBoth}
use Rattle.gw_num.specs.Table.{at}
use Rattle.std.proofs.lemmas.List.{length-map}
use Rattle.gw_step.proofs.Operands.{blocks_fit}
use Rattle.gw_step.proofs.Suffices.{parameters_suffice}
use Rattle.gw_step.proofs.Safe.{turns_keep_types}
use Rattle.gw_step.proofs.Served.{blocks_are_served}
use Rattle.gw_machine.proofs.Changes.{delay_list-at}

after_draws : (p : Parts) (s : State) (streams : List ℕ) → WellTyped p s → WellTyped p (with_streams streams s)
after_draws p s streams typed = typed

-- a well-typed state stays so wherever its streams are, and in the turned ones too the next block may be met
turns_to_both : (p : Parts) (s : State) → Checked p → HasSpelling p → WellTyped p s → MayTurnToBoth p s
turns_to_both p s checked spelled typed n t pair active found two =
    let both = λ (streams : List ℕ). turns_keep_types p (with_streams streams s) n t pair checked (after_draws p s streams typed) active found two in (
      record {
        values = λ streams. parameters_suffice p (turn_to n t pair.0 (with_streams streams s)) checked spelled (both streams).0;
        served = λ streams. blocks_are_served p (turn_to n t pair.0 (with_streams streams s)) checked (both streams).0;
      },
      record {
        values = λ streams. parameters_suffice p (turn_to n t pair.1 (with_streams streams s)) checked spelled (both streams).1;
        served = λ streams. blocks_are_served p (turn_to n t pair.1 (with_streams streams s)) checked (both streams).1;
      },
    )

pub is_ready : (j : Job) (m : Configuration) → IsReached (record { job = j; state = state_of m }) → m.ended ≡ None → m.last
    ≡ greatest_set j.parts.blocks → IsReady j.parts m
is_ready j m r runs slots =
    let numbers = r.bounded.numbers in
    let entities : length m.entities.facilities.values ≡ length j.parts.entities = numbers.whole.entity_tables.facilities in
    let few : m.steps < 2 ^ 41 = omega (arith, r.bounded.steps, r.fits.budget_most) in
    record {
      running = record {
        steady = record {
          fit = subst (λ (n : ℕ). BlocksFit n j.parts.blocks) (sym entities) (blocks_fit j.parts r.fits.checked r.fits.spelled);
          within = subst (λ (n : ℕ). IsWithin (length j.parts.blocks) n m.steps (made_in m.steps) (state_of m)) (sym entities) numbers;
          few = omega (arith, few);
        };
        few = few;
        runs = r.bounded.counts runs;
      };
      own = entities;
      slots = slots;
      values = parameters_suffice j.parts (state_of m) r.fits.checked r.fits.spelled r.typed;
      served = blocks_are_served j.parts (state_of m) r.fits.checked r.typed;
      turns = turns_to_both j.parts (state_of m) r.fits.checked r.fits.spelled r.typed;
    }

pub waiting-of : (j : Job) (m : Configuration) (e : ℕ) → IsReached (record { job = j; state = state_of m }) → e < length j.parts.entities
    → length (at [] m.waits.lists e) ≡ length (delay_list e (state_of m))
waiting-of j m e r below =
    let entities : length m.entities.facilities.values ≡ length j.parts.entities = r.bounded.numbers.whole.entity_tables.facilities in
    sym (ap length (delay_list-at m e) ∙ length-map (at [] m.waits.lists e) member_number)
