-- What a machine lends to those who evaluate for a subject, and what may be read of it.
use Rattle.std.proofs.Common.{◌≡◌, ℕ, ◌≤◌, ◌==◌, List, [], length, pos, Some, None, false, refl, sym, ap, ◌∙◌, arith}
use Rattle.std.specs.Prelude.{sum}
use Rattle.std.specs.Option.{option_map_or}
use Rattle.std.proofs.lemmas.List.{length-map}
use Rattle.std.proofs.lemmas.List.Sums.{count_by-le-length}
use Rattle.gw_num.specs.Table.{at}
use Rattle.gw_object.specs.declared.blocks.EntityAttribute.{EntityAttribute}
use Rattle.gw_object.specs.declared.blocks.EntityAttribute.TheVariants.{ChainMembers, BlockCount}
use Rattle.gw_object.specs.declared.blocks.Operand.{Operand}
use Rattle.gw_object.specs.declared.blocks.Operand.TheVariants.{Parameter, OfEntity}
use Rattle.gw_object.specs.declared.parts.Parts.{Parts}
use Rattle.gw_entities.specs.Attributes.{attribute_of}
use Rattle.gw_entities.specs.declared.facilities.Facility.{Facility}
use Rattle.gw_entities.specs.declared.storages.Storage.{Storage}
use Rattle.gw_entities.specs.declared.contents.Contents.{Contents}
use Rattle.gw_entities.specs.Numbered.{ByNumber}
use Rattle.gw_rules.specs.Environment.{kept_value, ReadTheSame}
use Rattle.gw_user_chains.specs.Linked as chain_lists
use Rattle.gw_transactions.specs.Transactions.{LiveTransaction, here_count}
use Rattle.gw_plus.specs.declared.env.Env.{Env}
use Rattle.gw_plus.specs.Reading as lent
use Rattle.gw_step.proofs.Residence.{at-le-sum}
use Rattle.gw_step.specs.Times.{readings}
use Rattle.gw_machine.specs.Configuration.{Configuration}
use Rattle.gw_machine.specs.declared.values.Subject.{Subject}
use Rattle.gw_machine.specs.View.{state_of, handle_number}
use Rattle.gw_machine.specs.Coherence.{Linked, IsOf}
use Rattle.gw_machine.specs.Evaluating.{parameters_for, environment_for, CanEvaluate}
use Rattle.gw_machine.proofs.Changes.{user_chain-at}

-- what is lent is the machine's own
pub record Lends (m : Configuration) (subject : Subject) (env : Env) : Type 0 where
  pub number : env.number ≡ subject.number
  pub priority : env.priority ≡ subject.priority
  pub mark : env.mark ≡ subject.mark
  pub parameters : env.parameters.now.values ≡ parameters_for subject.tx (state_of m)
  pub clock : env.clock ≡ m.clock
  pub count : env.count ≡ m.count
  pub facilities : env.facilities.now ≡ m.entities.facilities
  pub storages : env.storages.now ≡ m.entities.storages
  pub queues : env.queues.now ≡ m.entities.queues
  pub switches : env.switches.now ≡ m.entities.switches
  pub savevalues : env.savevalues.now ≡ m.entities.savevalues
  pub tables : env.tables.now ≡ m.entities.tables
  pub chains : env.chains.now ≡ m.chains
  pub entries : env.entries.now ≡ m.entries
  pub here : (b : ℕ) → at 0 env.here.now b ≡ here_count b m.transactions.txs

module _ (m : Configuration) (subject : Subject) (env : Env) (l : Lends m subject env) where
  members_same : (c : ℕ) → (lent.readings_of env).members c ≡ (readings (state_of m)).members c
  members_same c =
      ap (λ (chains : chain_lists.Linked). length (at [] chains.lists c)) l.chains
      ∙ sym (ap length (user_chain-at m c) ∙ length-map (at [] m.chains.lists c) handle_number)

  of_entity_same : (attribute : EntityAttribute) (n : ℕ) → attribute_of (lent.readings_of env) attribute n ≡ attribute_of (readings (state_of m)) attribute n
  of_entity_same ChainMembers c = ap pos (members_same c)
  of_entity_same BlockCount b = let same = l.here b in cc
  of_entity_same attribute n = cc

  kept_same : (o : Operand) → kept_value (lent.environment_of env) o ≡ kept_value (environment_for subject (state_of m)) o
  kept_same (Parameter x) = ap (λ ps. at None ps x) l.parameters
  kept_same (OfEntity a) = ap Some (of_entity_same a.attribute a.number)
  kept_same o = cc

  reads_the_same : ReadTheSame (lent.environment_of env) (environment_for subject (state_of m))
  reads_the_same = record { kept = kept_same }

  lends_of : Linked m → CanEvaluate m subject → (p : Parts) → IsOf p m → lent.IsOf p env
  lends_of k can p own =
      let r = can.readable in
      record {
        facilities = ap (λ (t : ByNumber Facility). length t.values) l.facilities ∙ own;
        storages = ap (λ (t : ByNumber Storage). length t.values) l.storages ∙ r.entities.storages ∙ own;
        queues = ap (λ (t : ByNumber Contents). length t.values) l.queues ∙ r.entities.queues ∙ own;
        switches = ap length l.switches ∙ r.entities.switches ∙ own;
        savevalues = ap length l.savevalues ∙ r.entities.savevalues ∙ own;
        tables = ap length l.tables ∙ r.entities.tables ∙ own;
        chains = ap (λ (chains : chain_lists.Linked). length chains.lists) l.chains ∙ k.chained ∙ own;
        entries = λ b.
            let fewer : at 0 m.entries b ≤ sum m.entries = at-le-sum 0 (λ x. x) m.entries b refl in
            omega (arith, ap (λ (xs : List ℕ). at 0 xs b) l.entries, fewer, r.entries);
        here = λ b.
            let fewer = count_by-le-length (λ t. option_map_or (λ (t : LiveTransaction). t.attributes.current == b) t false) m.transactions.txs in
            omega (arith, l.here b, fewer, k.sound.few);
        number = omega (arith, l.number, can.number);
        clock = rw l.clock r.clock;
        mark = rw l.mark can.mark;
      }

  -- who evaluates for the subject reads the same as in the state, and of the same object
  pub lends : Linked m → CanEvaluate m subject → ReadTheSame (lent.environment_of env) (environment_for subject (state_of m))
      × ((p : Parts) → IsOf p m → lent.IsOf p env)
  lends k can = (reads_the_same, lends_of k can)
