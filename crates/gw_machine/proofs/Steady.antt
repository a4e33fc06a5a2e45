-- A steady machine through the changes of one block.
use Rattle.std.proofs.Common.{◌≡◌, ℕ, suc, ◌+◌, ◌^◌, ◌≤◌, ◌<◌, List, length, Some, sym, ap, ◌∙◌, subst, arith}
use Rattle.gw_object.specs.declared.blocks.Units.{Units}
use Rattle.gw_object.specs.declared.blocks.Block.{Block}
use Rattle.gw_members.specs.declared.tx.Tx.{Tx}
use Rattle.gw_transactions.specs.declared.Transaction.{Transaction}
use Rattle.gw_transactions.specs.Transactions.{attributes_at}
use Rattle.gw_entities.specs.Facility.{without_owner}
use Rattle.gw_entities.specs.Storage.{with_exits}
use Rattle.gw_entities.specs.declared.facilities.Facility.{Facility}
use Rattle.gw_entities.specs.Numbered.{ByNumber}
use Rattle.gw_machine.specs.Configuration.{Configuration}
use Rattle.gw_step.specs.State.{State}
use Rattle.gw_step.specs.Changes.{enters_and_falls, facility, storage, put_facility, put_storage}
use Rattle.gw_step.specs.Numbers.{IsWithin, made_in}
use Rattle.gw_machine.specs.View.{state_of}
use Rattle.gw_machine.specs.Coherence.{IsSteady, IsActive, IsPassing}
use Rattle.gw_machine.specs.Frames.{OnlyEntitiesChange}
use Rattle.gw_machine.specs.declared.entity_tables.EntityTables.{EntityTables}
use Rattle.gw_step.proofs.Within.{raises-same, within-entered, within-more, mark_from}
use Rattle.gw_step.proofs.Follows.{within-released, within-given_back}
use Rattle.gw_step.proofs.Attributes.{number_below}

-- a machine whose state keeps its numbers, and whose entities are as many as before
pub steady-now : (bs : List Block) (k l : ℕ) (m new : Configuration) → IsSteady bs k m → l ≤ k + 1 → length new.entities.facilities.values
    ≡ length m.entities.facilities.values → IsWithin (length bs) (length m.entities.facilities.values) l (made_in l) (state_of new) → l
    ≤ 2 ^ 41 → IsSteady bs l new
steady-now bs k l m new s le count within few = record {
  fit = rw count s.fit;
  within = subst (λ (n : ℕ). IsWithin (length bs) n l (made_in l) (state_of new)) (sym count) within;
  few = few;
}

-- the transaction has entered
pub steady-entered : (bs : List Block) (m new : Configuration) (tx : Tx) (t : Transaction) → IsSteady bs m.steps m → m.steps < 2 ^ 41
    → t.next ≤ length bs → attributes_at tx.number m.transactions.txs ≡ Some t
    → state_of new ≡ enters_and_falls tx.number t (state_of m) → new.entities.facilities ≡ m.entities.facilities → IsSteady bs (m.steps + 1) new
steady-entered bs m new tx t s few block live is fac =
    let es = length m.entities.facilities.values in
    let w = within-entered (length bs) es m.steps (made_in m.steps) (state_of m) s.within tx.number t (t.next + 1) (state_of m).entities
    block (number_below m.transactions.txs tx.number t live) (mark_from m.transactions.txs tx.number t s.within.marked live)
    (raises-same (state_of m).entities) in
    let e : suc m.steps ≡ m.steps + 1 = omega arith in
    let v = within-more (length bs) es (suc m.steps) (made_in m.steps) (enters_and_falls tx.number t (state_of m)) w (m.steps + 1)
    (made_in (m.steps + 1)) (omega arith) (omega arith) in
    steady-now bs m.steps (m.steps + 1) m new s (omega arith) (ap (λ (f : ByNumber Facility). length f.values) fac)
    (subst (λ (x : State). IsWithin (length bs) es (m.steps + 1) (made_in (m.steps + 1)) x) (sym is) v) (omega (arith, few))

-- a facility was given up
pub steady-released : (bs : List Block) (k : ℕ) (m new : Configuration) (f : ℕ) → IsSteady bs k m → f < length m.entities.facilities.values
    → state_of new ≡ put_facility f (without_owner (facility f (state_of m))) (state_of m) → length new.entities.facilities.values
    ≡ length m.entities.facilities.values → IsSteady bs k new
steady-released bs k m new f s here is count =
    steady-now bs k k m new s (omega arith) count
    (subst (λ (x : State). IsWithin (length bs) (length m.entities.facilities.values) k (made_in k) x) (sym is)
    (within-released (length bs) (length m.entities.facilities.values) k (made_in k) (state_of m) s.within f here)) s.few

-- units were given back
pub steady-given_back : (bs : List Block) (k : ℕ) (m new : Configuration) (u : Units) → IsSteady bs k m → u.entity
    < length m.entities.facilities.values → state_of new
    ≡ put_storage u.entity (with_exits u.number (storage u.entity (state_of m))) (state_of m) → new.entities.facilities
    ≡ m.entities.facilities → IsSteady bs k new
steady-given_back bs k m new u s here is fac =
    steady-now bs k k m new s (omega arith) (ap (λ (f : ByNumber Facility). length f.values) fac)
    (subst (λ (x : State). IsWithin (length bs) (length m.entities.facilities.values) k (made_in k) x) (sym is)
    (within-given_back (length bs) (length m.entities.facilities.values) k (made_in k) (state_of m) s.within u here)) s.few

-- nothing but room changed
pub steady-same : (bs : List Block) (k : ℕ) (m new : Configuration) → IsSteady bs k m → state_of new ≡ state_of m → new.entities.facilities
    ≡ m.entities.facilities → IsSteady bs k new
steady-same bs k m new s is fac =
    steady-now bs k k m new s (omega arith) (ap (λ (f : ByNumber Facility). length f.values) fac)
    (subst (λ (x : State). IsWithin (length bs) (length m.entities.facilities.values) k (made_in k) x) (sym is) s.within) s.few

-- ONE BLOCK

-- the block of the active transaction has changed an entity
pub passing-from : (bs : List Block) (m new : Configuration) (tx : Tx) (t : Transaction) → IsActive bs m tx t → new.steps ≡ m.steps
    → new.transactions ≡ m.transactions → IsSteady bs m.steps new → IsPassing bs new tx t
passing-from bs m new tx t a steps ts steady = record {
  steady = subst (λ k. IsSteady bs k new) (sym steps) steady;
  few = rw steps a.few;
  held = rw ts a.held;
  found = rw ts a.found;
  next = a.next;
}

pub passing-released : (bs : List Block) (m mid new : Configuration) (tx : Tx) (t : Transaction) (f : ℕ) → IsActive bs m tx t → f
    < length m.entities.facilities.values
    → state_of mid ≡ state_of m → mid ≡ record m { current_events = mid.current_events }
    → state_of new ≡ put_facility f (without_owner (facility f (state_of mid))) (state_of mid) → OnlyEntitiesChange mid new
    → length new.entities.facilities.values ≡ length mid.entities.facilities.values → IsPassing bs new tx t
passing-released bs m mid new tx t f a here same frame is frame_new count =
    let fac : mid.entities.facilities ≡ m.entities.facilities = ap (λ (x : Configuration). x.entities.facilities) frame in
    let steady = steady-same bs m.steps m mid a.steady same fac in
    passing-from bs m new tx t a
    (ap (λ (x : Configuration). x.steps) frame_new ∙ ap (λ (x : Configuration). x.steps) frame)
    (ap (λ (x : Configuration). x.transactions) frame_new ∙ ap (λ (x : Configuration). x.transactions) frame)
    (steady-released bs m.steps mid new f steady (rw fac here) is count)

pub passing-given_back : (bs : List Block) (m mid new : Configuration) (tx : Tx) (t : Transaction) (u : Units) → IsActive bs m tx t
    → u.entity < length m.entities.facilities.values
    → state_of mid ≡ state_of m → mid ≡ record m { current_events = mid.current_events }
    → state_of new ≡ put_storage u.entity (with_exits u.number (storage u.entity (state_of mid))) (state_of mid)
    → OnlyEntitiesChange mid new → new.entities ≡ record mid.entities { storages = new.entities.storages } → IsPassing bs new tx t
passing-given_back bs m mid new tx t u a here same frame is frame_new others =
    let fac : mid.entities.facilities ≡ m.entities.facilities = ap (λ (x : Configuration). x.entities.facilities) frame in
    let steady = steady-same bs m.steps m mid a.steady same fac in
    passing-from bs m new tx t a
    (ap (λ (x : Configuration). x.steps) frame_new ∙ ap (λ (x : Configuration). x.steps) frame)
    (ap (λ (x : Configuration). x.transactions) frame_new ∙ ap (λ (x : Configuration). x.transactions) frame)
    (steady-given_back bs m.steps mid new u steady (rw fac here) is (ap (λ (x : EntityTables). x.facilities) others))

-- room was made
pub active-same : (bs : List Block) (m new : Configuration) (tx : Tx) (t : Transaction) → IsActive bs m tx t → state_of new ≡ state_of m
    → new ≡ record m { current_events = new.current_events; future_events = new.future_events } → IsActive bs new tx t
active-same bs m new tx t a is frame =
    let steps = ap (λ (x : Configuration). x.steps) frame in
    let ts = ap (λ (x : Configuration). x.transactions) frame in
    record {
      steady = subst (λ k. IsSteady bs k new) (sym steps) (steady-same bs m.steps m new a.steady is (ap (λ (x : Configuration). x.entities.facilities) frame));
      few = rw steps a.few;
      runs = rw (ap (λ (x : Configuration). x.count) frame) a.runs;
      active = ap (λ (x : Configuration). x.active) frame ∙ a.active;
      held = rw ts a.held;
      found = rw ts a.found;
      next = a.next;
    }
