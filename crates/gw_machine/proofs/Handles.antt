-- The handles of a machine through a change of its transactions.
use Rattle.std.proofs.Common.{◌≡◌, ℕ, ◌≤◌, ℤ, List, [], ◌∷◌, ◌++◌, map, length, Option, Some, None, IfSome, option_map, refl, sym, ap, ◌∙◌, subst}
use Rattle.std.proofs.Common.{arith, inl, inr}
use Rattle.std.specs.List.{AllByRecursion}
use Rattle.std.proofs.lemmas.Bool.{cases_eq}
use Rattle.gw_members.specs.declared.tx.Tx.{Tx}
use Rattle.gw_members.specs.declared.tx.Member.{Member}
use Rattle.gw_members.specs.declared.tx.Event.{Event}
use Rattle.gw_assemblies.specs.declared.assemblies.Assembly.{Assembly}
use Rattle.gw_transactions.specs.declared.Transaction.{Transaction}
use Rattle.gw_num.specs.Table.{at, put}
use Rattle.gw_transactions.specs.Transactions.{LiveTransaction, Population, put_attributes, put_parameter, put_chain, with_attributes, with_parameter}
use Rattle.gw_transactions.specs.Transactions.{with_chain, Holds, IsSound}
use Rattle.gw_num.proofs.Tables.{at-put, at-put_other, by_entry}
use Rattle.gw_step.specs.State.{priority_in, priority_of}
use Rattle.gw_step.specs.Residence.{occurrences}
use Rattle.gw_machine.specs.Coherence.{AreInBlocks, IsRanked, IsHeld, IsHeldBy, Carries, Every, Others}
use Rattle.gw_step.proofs.Residence.{same_number}
use Rattle.gw_step.proofs.Attributes.{priority-attributes}

-- one more at the end
pub all_appended : {A : Type 0} (P : A → Type 0) (xs : List A) (x : A) → AllByRecursion P xs → P x → AllByRecursion P (xs ++ x ∷ [])
all_appended P [] x h p = (p, tt)
all_appended P (y ∷ ys) x h p = (h.0, all_appended P ys x h.1 p)

pub active_carried : (p q : Population) → Carries Every p q → (a : Option Tx) → IfSome a (Holds p) → IfSome a (Holds q)
active_carried p q c None h = tt
active_carried p q c (Some tx) h = c.held tx tt h

pub members_carried : (these : ℕ → Type 0) (p q : Population) → Carries these p q → (xs : List Member)
    → AllByRecursion (λ (x : Member). these x.tx.number) xs → AllByRecursion (IsRanked p) xs → AllByRecursion (IsRanked q) xs
members_carried these p q c [] ts h = tt
members_carried these p q c (x ∷ xs) ts h = (
  record { held = c.held x.tx ts.0 h.0.held; rank = c.rank x.tx ts.0 h.0.held ∙ h.0.rank },
  members_carried these p q c xs ts.1 h.1,
)

pub events_carried : (these : ℕ → Type 0) (p q : Population) → Carries these p q → (xs : List Event)
    → AllByRecursion (λ (x : Event). these x.tx.number) xs → AllByRecursion (IsHeld p) xs → AllByRecursion (IsHeld q) xs
events_carried these p q c [] ts h = tt
events_carried these p q c (x ∷ xs) ts h = (c.held x.tx ts.0 h.0, events_carried these p q c xs ts.1 h.1)

pub assemblies_carried : (these : ℕ → Type 0) (p q : Population) → Carries these p q → (xs : List Assembly)
    → AllByRecursion (λ (x : Assembly). these x.first.number) xs → AllByRecursion (IsHeldBy p) xs → AllByRecursion (IsHeldBy q) xs
assemblies_carried these p q c [] ts h = tt
assemblies_carried these p q c (x ∷ xs) ts h = (c.held x.first ts.0 h.0, assemblies_carried these p q c xs ts.1 h.1)

pub handles_carried : (these : ℕ → Type 0) (p q : Population) → Carries these p q → (xs : List Tx)
    → AllByRecursion (λ (x : Tx). these x.number) xs → AllByRecursion (Holds p) xs → AllByRecursion (Holds q) xs
handles_carried these p q c [] ts h = tt
handles_carried these p q c (x ∷ xs) ts h = (c.held x ts.0 h.0, handles_carried these p q c xs ts.1 h.1)

pub every : {A : Type 0} (f : A → ℕ) (xs : List A) → AllByRecursion (λ x. Every (f x)) xs
every f [] = tt
every f (x ∷ xs) = (tt, every f xs)

-- a number that doesn't occur in a list is none of its members'
pub others : {A : Type 0} (f : A → ℕ) (n : ℕ) (xs : List A) → occurrences n (map f xs) ≡ 0 → AllByRecursion (λ x. Others n (f x)) xs
others f n [] h = tt
others f n (x ∷ xs) h = (
  (λ e. absurd (omega (arith, same_number (f x) n e, h))),
  others f n xs (omega (arith, h)),
)

-- a parameter that is set changes no priority
priority-parameter : (k : ℕ) (value : ℤ) (o : Option LiveTransaction) → priority_in (option_map (with_parameter k value) o) ≡ priority_in o
priority-parameter k value None = refl
priority-parameter k value (Some t) = refl

pub priority-assigned : (n k : ℕ) (value : ℤ) (ts : List (Option LiveTransaction)) (m : ℕ) → priority_of (put_parameter n k value ts) m ≡ priority_of ts m
priority-assigned n k value ts m = elim (cases_eq m n) [
  | inl e ↦ ap (priority_of (put_parameter n k value ts)) e ∙ ap priority_in (at-put None ts n _)
      ∙ priority-parameter k value (at None ts n) ∙ sym (ap (priority_of ts) e)
  | inr e ↦ ap priority_in (at-put_other None ts n m _ e)
]

-- another user chain, or none, changes no priority
priority-chain : (chain : Option ℕ) (o : Option LiveTransaction) → priority_in (option_map (with_chain chain) o) ≡ priority_in o
priority-chain chain None = refl
priority-chain chain (Some t) = refl

priority-chained : (n : ℕ) (chain : Option ℕ) (ts : List (Option LiveTransaction)) (m : ℕ) → priority_of (put_chain n chain ts) m ≡ priority_of ts m
priority-chained n chain ts m = elim (cases_eq m n) [
  | inl e ↦ ap (priority_of (put_chain n chain ts)) e ∙ ap priority_in (at-put None ts n _) ∙ priority-chain chain (at None ts n) ∙ sym (ap (priority_of ts) e)
  | inr e ↦ ap priority_in (at-put_other None ts n m _ e)
]

-- CURRENT BLOCKS

-- who is there is in a block of an object, or was in none yet
abbrev InBlocks : Option LiveTransaction → Type 0
InBlocks o = IfSome o (λ (t : LiveTransaction). t.attributes.current ≤ 4096)

-- one transaction is now another, or gone
in_blocks-put : (ts : List (Option LiveTransaction)) (n : ℕ) (o : Option LiveTransaction) → InBlocks o → AreInBlocks ts → AreInBlocks (put None ts n o)
in_blocks-put ts n o here h = by_entry None ts n o (λ k v. InBlocks v) here (λ k other. h k)

with_attributes_in : (t : Transaction) (o : Option LiveTransaction) → t.current ≤ 4096 → InBlocks (option_map (with_attributes t) o)
with_attributes_in t None h = tt
with_attributes_in t (Some u) h = h

with_parameter_in : (k : ℕ) (value : ℤ) (o : Option LiveTransaction) → InBlocks o → InBlocks (option_map (with_parameter k value) o)
with_parameter_in k value None h = tt
with_parameter_in k value (Some u) h = h

with_chain_in : (chain : Option ℕ) (o : Option LiveTransaction) → InBlocks o → InBlocks (option_map (with_chain chain) o)
with_chain_in chain None h = tt
with_chain_in chain (Some u) h = h

-- the current block of one who is there
pub current_in : (ts : List (Option LiveTransaction)) (n : ℕ) (t : LiveTransaction) → AreInBlocks ts → at None ts n ≡ Some t → t.attributes.current ≤ 4096
current_in ts n t h there = subst InBlocks there (h n)

-- WHAT EACH CALL CARRIES

-- one transaction was written, with the priority that it had
pub carries-set : (p q : Population) (n : ℕ) (t : Transaction) → q.txs ≡ put_attributes n t p.txs → q.places ≡ p.places → t.current ≤ 4096
    → priority_of p.txs n ≡ t.priority → q.last ≡ p.last → Carries Every p q
carries-set p q n t ts ps block pr last = record {
  held = λ h _ is. ap (λ xs. at None xs h.number) ps ∙ is;
  rank = λ h _ is. elim (cases_eq h.number n) [
    | inl e ↦ ap (λ xs. priority_of xs h.number) ts ∙ ap (priority_of (put_attributes n t p.txs)) e
        ∙ ap priority_in (at-put None p.txs n _) ∙ priority-attributes t (at None p.txs n) pr ∙ sym (ap (priority_of p.txs) e)
    | inr e ↦ ap (λ xs. priority_of xs h.number) ts ∙ ap priority_in (at-put_other None p.txs n h.number _ e)
  ];
  blocks = λ h. subst AreInBlocks (sym ts) (in_blocks-put p.txs n _ (with_attributes_in t (at None p.txs n) block) h);
  last = last;
}

-- one transaction was written, with another priority
pub carries-ranked : (p q : Population) (n : ℕ) (t : Transaction) → q.txs ≡ put_attributes n t p.txs → q.places ≡ p.places → t.current
    ≤ 4096 → q.last ≡ p.last → Carries (Others n) p q
carries-ranked p q n t ts ps block last = record {
  held = λ h other is. ap (λ xs. at None xs h.number) ps ∙ is;
  rank = λ h other is. ap (λ xs. priority_of xs h.number) ts ∙ ap priority_in (at-put_other None p.txs n h.number _ other);
  blocks = λ h. subst AreInBlocks (sym ts) (in_blocks-put p.txs n _ (with_attributes_in t (at None p.txs n) block) h);
  last = last;
}

-- nothing changed
pub carries-same : (p q : Population) → q.txs ≡ p.txs → q.places ≡ p.places → q.last ≡ p.last → Carries Every p q
carries-same p q ts ps last =
    record {
      held = λ h _ is. ap (λ xs. at None xs h.number) ps ∙ is;
      rank = λ h _ is. ap (λ xs. priority_of xs h.number) ts;
      blocks =
          λ h. subst AreInBlocks (sym ts) h;
      last = last;
    }

-- a parameter of one was set
pub carries-assign : (p q : Population) (n k : ℕ) (value : ℤ) → q.txs ≡ put_parameter n k value p.txs → q.places ≡ p.places → q.last
    ≡ p.last → Carries Every p q
carries-assign p q n k value ts ps last = record {
  held = λ h _ is. ap (λ xs. at None xs h.number) ps ∙ is;
  rank = λ h _ is. ap (λ xs. priority_of xs h.number) ts ∙ priority-assigned n k value p.txs h.number;
  blocks = λ h. subst AreInBlocks (sym ts) (in_blocks-put p.txs n _ (with_parameter_in k value (at None p.txs n) (h n)) h);
  last = last;
}

-- one is a member of another user chain, or of none
pub carries-chain : (p q : Population) (n : ℕ) (chain : Option ℕ) → q.txs ≡ put_chain n chain p.txs → q.places ≡ p.places → q.last ≡ p.last → Carries Every p q
carries-chain p q n chain ts ps last = record {
  held = λ h _ is. ap (λ xs. at None xs h.number) ps ∙ is;
  rank = λ h _ is. ap (λ xs. priority_of xs h.number) ts ∙ priority-chained n chain p.txs h.number;
  blocks = λ h. subst AreInBlocks (sym ts) (in_blocks-put p.txs n _ (with_chain_in chain (at None p.txs n) (h n)) h);
  last = last;
}

-- one was made
pub carries-insert : (p q : Population) (t : LiveTransaction) (place : ℕ) → IsSound p → t.attributes.current ≤ 4096 → q.txs
    ≡ put None p.txs (length p.txs) (Some t) → q.places ≡ put None p.places (length p.txs) (Some place) → q.last ≡ p.last → Carries Every p q
carries-insert p q t place sound block ts ps last = record {
  held = λ h _ is. ap (λ xs. at None xs h.number) ps
      ∙ at-put_other None p.places (length p.txs) h.number (Some place) (λ e. absurd (omega (arith, sound.below h.number h.place is, e))) ∙ is;
  rank = λ h _ is. ap (λ xs. priority_of xs h.number) ts
      ∙ ap priority_in (at-put_other None p.txs (length p.txs) h.number (Some t) (λ e. absurd (omega (arith, sound.below h.number h.place is, e))));
  blocks = λ h. subst AreInBlocks (sym ts) (in_blocks-put p.txs (length p.txs) (Some t) block h);
  last = last;
}

-- one was taken out
pub carries-remove : (p q : Population) (n : ℕ) → q.txs ≡ put None p.txs n None → q.places ≡ put None p.places n None → q.last ≡ p.last → Carries (Others n) p q
carries-remove p q n ts ps last = record {
  held = λ h other is. ap (λ xs. at None xs h.number) ps ∙ at-put_other None p.places n h.number None other ∙ is;
  rank = λ h other is. ap (λ xs. priority_of xs h.number) ts ∙ ap priority_in (at-put_other None p.txs n h.number None other);
  blocks = λ h. subst AreInBlocks (sym ts) (in_blocks-put p.txs n None tt h);
  last = last;
}

-- two changes, one after the other
pub carries-then : (p q r : Population) → Carries Every p q → Carries Every q r → Carries Every p r
carries-then p q r a b = record {
  held = λ h _ is. b.held h tt (a.held h tt is);
  rank = λ h _ is. b.rank h tt (a.held h tt is) ∙ a.rank h tt is;
  blocks = λ h. b.blocks (a.blocks h);
  last = b.last ∙ a.last;
}
