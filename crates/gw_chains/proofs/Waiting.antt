-- The delay lists of all entities: what a call on one of them makes of all that are shown.
use Rattle.std.proofs.Common.{◌≡◌, ◌∙◌, ℕ, ◌+◌, ◌<◌, ◌≤◌, List, [], map, length, get_or, set, sum_by, ap, sym, subst, arith}
use Rattle.gw_num.specs.Table.{at}
use Rattle.gw_members.specs.Lists.{LosesRoom, apply_at, room_of}
use Rattle.gw_chains.specs.Waiting.{Walked}
use Rattle.gw_members.specs.declared.tx.Member.{Member}
use Rattle.gw_members.proofs.Each.{Stands, stands, here as read, after, total, at_most_total, all_kept, many_kept, one_changed, loses}

-- the list to which the call goes
pub list_of : (lists : List Walked) (shown : List (List Member)) (e : ℕ) (l : Walked) → map (λ (l : Walked). l.members) lists ≡ shown → e
    < length shown → l ≡ get_or lists e l → Stands lists e l
list_of = stands (λ (l : Walked). l.members) []

module _ (lists : List Walked) (shown : List (List Member)) (e : ℕ) (l v : Walked) (is : map (λ (l : Walked). l.members) lists ≡ shown)
    (within : e < length shown) (here : l ≡ get_or lists e l) where
  pub lists_kept : v.members ≡ l.members → map (λ (l : Walked). l.members) (set lists e v) ≡ shown
  lists_kept = all_kept (λ (l : Walked). l.members) lists shown e l v is within here

  pub waiting_kept : v.members ≡ l.members → (n : ℕ) → n ≡ sum_by length (map (λ (l : Walked). l.members) lists) → n
      ≡ sum_by length (map (λ (l : Walked). l.members) (set lists e v))
  waiting_kept = many_kept (λ (l : Walked). l.members) lists shown e l v is within here

  pub list_changed : (g : List Member → List Member) → v.members ≡ g l.members → map (λ (l : Walked). l.members) (set lists e v) ≡ apply_at e g shown
  list_changed = one_changed (λ (l : Walked). l.members) lists shown e l v is within here

  pub list_fits : length l.members ≤ sum_by length (map (λ (l : Walked). l.members) lists)
  list_fits = at_most_total (λ (l : Walked). l.members) lists e l (list_of lists shown e l is within here)

  pub waiting_changed : sum_by length (map (λ (l : Walked). l.members) (set lists e v)) + length l.members
      ≡ sum_by length (map (λ (l : Walked). l.members) lists) + length v.members
  waiting_changed = total (λ (l : Walked). l.members) lists e l v (list_of lists shown e l is within here)

  pub place_shown : (places : List ℕ) → map (λ (l : Walked). l.place) lists ≡ places → at 0 places e ≡ l.place
  place_shown places same = ap (λ ps. at 0 ps e) (sym same) ∙ read (λ (l : Walked). l.place) 0 lists e l (list_of lists shown e l is within here)

  pub place_after : at 0 (map (λ (l : Walked). l.place) (set lists e v)) e ≡ v.place
  place_after = after (λ (l : Walked). l.place) 0 lists e v (list_of lists shown e l is within here).below

  pub rooms_kept : (n : ℕ) (rooms : List ℕ) → map (λ (l : Walked). room_of n l.room) lists ≡ rooms → l.room ≤ v.room
      → LosesRoom 0 rooms (map (λ (l : Walked). room_of n l.room) (set lists e v))
  rooms_kept n rooms same more =
      subst (λ rs. LosesRoom 0 rs (map (λ (l : Walked). room_of n l.room) (set lists e v))) same
      (loses (λ (l : Walked). room_of n l.room) (λ (l : Walked). room_of n l.room) 0 (λ y. omega arith) lists e l v
      (list_of lists shown e l is within here) (omega (arith, more)))
