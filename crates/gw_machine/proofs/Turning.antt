-- What turns make of a machine.
use Rattle.std.proofs.Common.{◌≡◌, ℕ, ◌≤◌, List, Option, Some, None, sym, ap, ◌∙◌, subst}
use Rattle.std.specs.Prelude.{option_map}
use Rattle.gw_num.specs.Table.{put}
use Rattle.gw_num.proofs.Tables.{put-put, put-at}
use Rattle.gw_members.specs.declared.tx.Tx.{Tx}
use Rattle.gw_transactions.specs.declared.Transaction.{Transaction}
use Rattle.gw_transactions.specs.Transactions.{LiveTransaction, attributes_at, put_attributes, with_attributes, IsSound}
use Rattle.gw_step.specs.Residence.{ResidesOnce}
use Rattle.gw_step.specs.State.{State}
use Rattle.gw_step.specs.Turning.{towards, turn_to}
use Rattle.gw_step.proofs.Attributes.{bearer_at, attributes_of, written_at, number_below}
use Rattle.gw_step.proofs.Residence.{resides-entered}
use Rattle.gw_machine.specs.Configuration.{Configuration}
use Rattle.gw_machine.specs.View.{state_of}
use Rattle.gw_machine.specs.Coherence.{Linked, AreInBlocks}
use Rattle.gw_machine.proofs.AtSets.{priority-found}
use Rattle.gw_machine.proofs.Changes.{Keeps, linked-carried}
use Rattle.gw_machine.proofs.Handles.{carries-set, current_in}

-- who is found is in a block of an object, or was in none yet
pub current-found : (ts : List (Option LiveTransaction)) (n : ℕ) (t : Transaction) → AreInBlocks ts → attributes_at n ts ≡ Some t → t.current ≤ 4096
current-found ts n t h found =
    let u = bearer_at ts n t found in
    subst (λ (a : Transaction). a.current ≤ 4096) u.2 (current_in ts n u.0 h u.1)

-- a turn moves nobody: nor does an entry of the block where the transaction is
resides-turned : (n : ℕ) (t : Transaction) (next : ℕ) (s : State) → ResidesOnce s → ResidesOnce (turn_to n t next s)
resides-turned n t next s h = resides-entered n (record t { next = t.current }) next s h

pub linked-turned : (m new : Configuration) (tx : Tx) (t : Transaction) (next : ℕ)
    → new.transactions.txs ≡ put_attributes tx.number (towards next t) m.transactions.txs → new.transactions.places ≡ m.transactions.places
    → new.transactions.last ≡ m.transactions.last → IsSound new.transactions
    → new.active ≡ m.active → new.current_events.items ≡ m.current_events.items → new.future_events.items ≡ m.future_events.items → Keeps m new
    → state_of new ≡ turn_to tx.number t next (state_of m) → attributes_at tx.number m.transactions.txs ≡ Some t → Linked m → Linked new
linked-turned m new tx t next ts ps ls sound a cs fs k is found l =
    linked-carried m new (carries-set m.transactions new.transactions tx.number (towards next t) ts ps
    (current-found m.transactions.txs tx.number t l.blocks found) (priority-found m.transactions.txs tx.number t found) ls) sound a cs fs k
    (subst ResidesOnce (sym is) (resides-turned tx.number t next (state_of m) l.resides)) l

-- WHO TURNED

-- who turned is found with one next block
pub turned-found : (n : ℕ) (t : Transaction) (next : ℕ) (s : State) → attributes_at n s.transactions ≡ Some t
    → attributes_at n (turn_to n t next s).transactions ≡ Some (towards next t)
turned-found n t next s found =
    let u = bearer_at s.transactions n t found in
    attributes_of _ _ (written_at s.transactions n (towards next t) u.0 u.1)

-- attributes that were written twice are those of the second writing
written_twice : (ts : List (Option LiveTransaction)) (n : ℕ) (a t : Transaction) → attributes_at n ts ≡ Some t → put_attributes n t (put_attributes n a ts) ≡ ts
written_twice ts n a t found =
    let u = bearer_at ts n t found in
    let first = ap (λ o. option_map (with_attributes t) o) (written_at ts n a u.0 u.1) in
    let back : with_attributes t (with_attributes a u.0) ≡ u.0 = ap (λ (x : Transaction). record u.0 { attributes = x }) (sym u.2) in
    ap (put None (put_attributes n a ts) n) (first ∙ ap Some back)
    ∙ put-put None ts n _ (Some u.0)
    ∙ ap (put None ts n) (sym u.1)
    ∙ put-at None ts n (number_below ts n t found)

-- turning back gives the state before
pub turned-back : (n : ℕ) (t : Transaction) (next : ℕ) (s : State) → attributes_at n s.transactions ≡ Some t
    → turn_to n (towards next t) t.next (turn_to n t next s) ≡ s
turned-back n t next s found =
    ap (λ (ts : List (Option LiveTransaction)). record s { transactions = ts }) (written_twice s.transactions n (towards next t) t found)
