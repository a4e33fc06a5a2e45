-- What another of a set that comes to an assembly makes of a machine.
use Rattle.std.proofs.Common.{◌≡◌, ◌==◌, ℕ, ◌-◌, ◌<◌, ℤ, List, [], ◌∷◌, map, Option, Some, None, IfSome, Bool, true, false, if◌then◌else◌, option_map}
use Rattle.std.proofs.Common.{refl, sym, ap, ◌∙◌, subst}
use Rattle.std.specs.Prelude.{int_le, IsSome}
use Rattle.std.specs.List.{AllByRecursion, find}
use Rattle.std.proofs.lemmas.Bool.{lt-leb, eqb-true, and_parts}
use Rattle.gw_members.specs.Chain.{behind}
use Rattle.gw_assemblies.specs.Assembling.{is_of as is_held_of}
use Rattle.gw_members.specs.Firsts.{without_first, with_first_changed}
use Rattle.gw_members.specs.declared.tx.Member.{Member}
use Rattle.gw_assemblies.specs.declared.assemblies.Assembly.{Assembly as HeldAssembly}
use Rattle.gw_transactions.specs.declared.Transaction.{Transaction}
use Rattle.gw_transactions.specs.Transactions.{LiveTransaction, Holds, attributes_at}
use Rattle.gw_machine.specs.Configuration.{Configuration}
use Rattle.gw_step.specs.State.{Assembly, State, priority_of, priority_in}
use Rattle.gw_step.specs.Residence.{ResidesOnce}
use Rattle.gw_step.specs.Changes.{is_of, assemble_all, one_fewer, come_to}
use Rattle.gw_step.specs.Blocks.{assembly_at, joined_by_one}
use Rattle.gw_machine.specs.View.{state_of, lists_of, member_number, assembly_of}
use Rattle.gw_machine.specs.Coherence.{Linked, IsRanked, IsHeldBy}
use Rattle.gw_step.proofs.Lists.{all_placed, map-behind}
use Rattle.gw_step.proofs.Attributes.{bearer_at}
use Rattle.gw_step.proofs.Residence.{resides-assembled, resides-come}
use Rattle.gw_machine.proofs.Due.{agree}
use Rattle.gw_machine.proofs.AtRest.{linked-members}

-- THE FIRST THAT PASSES, SEEN THROUGH A FUNCTION

module _ {A B : Type 0} (f : A → B) (also : B → Bool) where
  abbrev passes : A → Bool
  passes x = also (f x)

  pub find-map : (xs : List A) → find also (map f xs) ≡ option_map f (find passes xs)
  find-map [] = refl
  find-map (x ∷ xs) = by_test (also (f x)) (find-map xs)
    where
      by_test : (b : Bool) → find also (map f xs) ≡ option_map f (find passes xs) → (if b then Some (f x) else find also (map f xs))
          ≡ option_map f (if b then Some x else find passes xs)
      by_test true e = refl
      by_test false e = e

  pub map-without_first : (xs : List A) → map f (without_first passes xs) ≡ without_first also (map f xs)
  map-without_first [] = refl
  map-without_first (x ∷ xs) = by_test (also (f x)) (map-without_first xs)
    where
      by_test : (b : Bool) → map f (without_first passes xs) ≡ without_first also (map f xs)
          → map f (if b then xs else x ∷ without_first passes xs) ≡ (if b then map f xs else f x ∷ without_first also (map f xs))
      by_test true e = refl
      by_test false e = ap (λ ys. f x ∷ ys) e

  pub map-with_first_changed : (change : A → A) (as_well : B → B) → ((x : A) → f (change x) ≡ as_well (f x)) → (xs : List A)
      → map f (with_first_changed passes change xs) ≡ with_first_changed also as_well (map f xs)
  map-with_first_changed change as_well same [] = refl
  map-with_first_changed change as_well same (x ∷ xs) = by_test (also (f x)) (map-with_first_changed change as_well same xs)
    where
      by_test : (b : Bool) → map f (with_first_changed passes change xs) ≡ with_first_changed also as_well (map f xs)
          → map f (if b then change x ∷ xs else x ∷ with_first_changed passes change xs)
          ≡ (if b then as_well (f x) ∷ map f xs else f x ∷ with_first_changed also as_well (map f xs))
      by_test true e = ap (λ y. y ∷ map f xs) (same x)
      by_test false e = ap (λ ys. f x ∷ ys) e

-- WHAT HOLDS OF ALL

module _ {A : Type 0} (P : A → Type 0) (passes : A → Bool) where
  all-without_first : (xs : List A) → AllByRecursion P xs → AllByRecursion P (without_first passes xs)
  all-without_first [] h = tt
  all-without_first (x ∷ xs) h = by_test (passes x) (all-without_first xs h.1)
    where
      by_test : (b : Bool) → AllByRecursion P (without_first passes xs) → AllByRecursion P (if b then xs else x ∷ without_first passes xs)
      by_test true rest = h.1
      by_test false rest = (h.0, rest)

  all-with_first_changed : (change : A → A) → ((x : A) → P x → P (change x)) → (xs : List A) → AllByRecursion P xs
      → AllByRecursion P (with_first_changed passes change xs)
  all-with_first_changed change keeps [] h = tt
  all-with_first_changed change keeps (x ∷ xs) h = by_test (passes x) (all-with_first_changed change keeps xs h.1)
    where
      by_test : (b : Bool) → AllByRecursion P (with_first_changed passes change xs)
          → AllByRecursion P (if b then change x ∷ xs else x ∷ with_first_changed passes change xs)
      by_test true rest = (keeps x h.0, h.1)
      by_test false rest = (h.0, rest)

  all-found : (xs : List A) (a : A) → find passes xs ≡ Some a → AllByRecursion P xs → P a
  all-found [] a is h = absurd cc
  all-found (x ∷ xs) a is h = by_test (passes x) is (λ later. all-found xs a later h.1)
    where
      by_test : (b : Bool) → (if b then Some x else find passes xs) ≡ Some a → (find passes xs ≡ Some a → P a) → P a
      by_test true is rest = let same : x ≡ a = cc in subst P same h.0
      by_test false is rest = rest is

-- THE ASSEMBLIES OF A MACHINE

some_of : {A B : Type 0} (f : A → B) (o : Option A) (b : B) → option_map f o ≡ Some b → IsSome o
some_of f None b h = absurd cc
some_of f (Some a) b h = refl

same_of : {A B : Type 0} (f : A → B) (o : Option A) (a : A) (b : B) → option_map f o ≡ Some b → o ≡ Some a → f a ≡ b
same_of f None a b h is = absurd cc
same_of f (Some x) a b h is = cc

-- where more are to come, who waits goes on waiting
pub more-come : (a : Assembly) (s : State) → 1 < a.missing → joined_by_one a s ≡ come_to a s
more-come a s more = ap (λ b. if b then assemble_all a s else come_to a s) (lt-leb a.missing 1 more)

-- an assembly is found as its state's is
pub assembly-found : (m : Configuration) (block set : ℕ) → option_map assembly_of (find (is_held_of block set) m.assemblies.items)
    ≡ assembly_at block set (state_of m)
assembly-found m block set = sym (find-map assembly_of (is_of block set) m.assemblies.items)

-- what is found passes
found-passes : {A : Type 0} (passes : A → Bool) (xs : List A) (a : A) → find passes xs ≡ Some a → passes a ≡ true
found-passes passes [] a is = absurd cc
found-passes {A = A} passes (x ∷ xs) a is = by_test (passes x) refl is (found-passes passes xs a)
  where
    by_test : (b : Bool) → passes x ≡ b → (if b then Some x else find passes xs) ≡ Some a → (find passes xs ≡ Some a → passes a ≡ true) → passes a ≡ true
    by_test true here is rest = let same : x ≡ a = cc in subst (λ (y : A). passes y ≡ true) same here
    by_test false here is rest = rest is

-- an assembly that is found is the one of the set at the block
pub own-found : (block set : ℕ) (xs : List HeldAssembly) (o : Option HeldAssembly) → o ≡ find (is_held_of block set) xs
    → IfSome o (λ a. (a.block ≡ block) × (a.set ≡ set))
own-found block set xs None is = tt
own-found block set xs (Some a) is =
    let both = and_parts (a.block == block) (a.set == set) (found-passes (is_held_of block set) xs a (sym is)) in
    (eqb-true a.block block both.0, eqb-true a.set set both.1)

-- the priority of who has these attributes
pub priority-found : (ts : List (Option LiveTransaction)) (n : ℕ) (t : Transaction) → attributes_at n ts ≡ Some t → priority_of ts n ≡ t.priority
priority-found ts n t h = let u = bearer_at ts n t h in ap priority_in u.1 ∙ ap (λ (a : Transaction). a.priority) u.2

module _ (m : Configuration) (l : Linked m) (a : HeldAssembly) (there : assembly_at a.block a.set (state_of m) ≡ Some (assembly_of a)) where
  abbrev found : Option HeldAssembly
  found = find (is_held_of a.block a.set) m.assemblies.items

  is_there : option_map assembly_of found ≡ Some (assembly_of a)
  is_there = assembly-found m a.block a.set ∙ there

  pub has_begun : IsSome found
  has_begun = some_of assembly_of found (assembly_of a) is_there

  -- who waits is held
  pub waiter-held : (b : HeldAssembly) → found ≡ Some b → Holds m.transactions b.first
  waiter-held b is = all-found (IsHeldBy m.transactions) (is_held_of a.block a.set) m.assemblies.items b is l.assemblies

  pub waiter-number : (b : HeldAssembly) → found ≡ Some b → b.first.number ≡ a.first.number
  waiter-number b is = ap (λ (x : Assembly). x.number) (same_of assembly_of found b (assembly_of a) is_there is)

  -- who waited goes on
  module _ (b : HeldAssembly) (is : found ≡ Some b) (priority : ℤ) (rank : priority_of m.transactions.txs b.first.number ≡ priority)
      (cs : List Member) (joined : cs ≡ behind (λ (x : Member). x.priority) (record { tx = b.first; priority = priority }) m.current_events.items)
      (sets : List HeldAssembly) (left : sets ≡ without_first (is_held_of a.block a.set) m.assemblies.items) where
    abbrev newcomer : Member
    newcomer = record { tx = b.first; priority = priority }

    pub state-assembled : record (state_of m)
        { lists = record (lists_of m) { current_events = map member_number cs; assemblies = map assembly_of sets } } ≡ assemble_all (assembly_of a) (state_of m)
    state-assembled =
        ap (λ (ns : List ℕ). record (state_of m) { lists = record (lists_of m) { current_events = ns; assemblies = map assembly_of sets } })
        (ap (map member_number) joined
        ∙ map-behind member_number (λ (x : Member). x.priority) (priority_of m.transactions.txs) newcomer m.current_events.items
        (sym rank) (agree m.transactions m.current_events.items l.current_events)
        ∙ ap (λ n. behind (priority_of m.transactions.txs) n (map member_number m.current_events.items)) (waiter-number b is))
        ∙ ap (λ (xs : List Assembly). record (assemble_all (assembly_of a) (state_of m))
        { lists = record (assemble_all (assembly_of a) (state_of m)).lists { assemblies = xs } })
        (ap (map assembly_of) left ∙ map-without_first assembly_of (is_of a.block a.set) m.assemblies.items)

    pub linked-assembled : (new : Configuration) → new.transactions ≡ m.transactions → new.active ≡ m.active → new.current_events.items
        ≡ cs → new.future_events ≡ m.future_events → new.waits ≡ m.waits → new.assemblies.items ≡ sets → new.chains ≡ m.chains
        → new.entities ≡ m.entities → new.clock ≡ m.clock → state_of new ≡ assemble_all (assembly_of a) (state_of m) → Linked new
    linked-assembled new ts active c fs w s chs entities clock now =
        linked-members m new ts (rw active l.active)
        (rw (c, joined) (all_placed (IsRanked m.transactions) (λ (y : Member). int_le priority y.priority) newcomer m.current_events.items
        (record { held = waiter-held b is; rank = rank }) l.current_events))
        fs w (rw (s, left) (all-without_first (IsHeldBy m.transactions) (is_held_of a.block a.set) m.assemblies.items l.assemblies)) chs entities clock
        (subst ResidesOnce (sym now) (resides-assembled (assembly_of a) (state_of m) there l.resides)) l

  -- more are to come
  module _ (sets : List HeldAssembly)
      (changed : sets ≡ with_first_changed (is_held_of a.block a.set) (λ (x : HeldAssembly). record x { missing = x.missing - 1 }) m.assemblies.items) where
    abbrev fewer : HeldAssembly → HeldAssembly
    fewer x = record x { missing = x.missing - 1 }

    pub state-come : record (state_of m) { lists = record (lists_of m) { assemblies = map assembly_of sets } } ≡ come_to (assembly_of a) (state_of m)
    state-come =
        ap (λ (xs : List Assembly). record (state_of m) { lists = record (lists_of m) { assemblies = xs } })
        (ap (map assembly_of) changed ∙ map-with_first_changed assembly_of (is_of a.block a.set) fewer one_fewer (λ x. refl) m.assemblies.items)

    pub linked-come : (new : Configuration) → new.transactions ≡ m.transactions → new.active ≡ m.active → new.current_events
        ≡ m.current_events → new.future_events ≡ m.future_events → new.waits ≡ m.waits → new.assemblies.items ≡ sets → new.chains ≡ m.chains
        → new.entities ≡ m.entities → new.clock ≡ m.clock → state_of new ≡ come_to (assembly_of a) (state_of m) → Linked new
    linked-come new ts active cs fs w s chs entities clock now =
        linked-members m new ts (rw active l.active) (rw cs l.current_events) fs w
        (rw (s, changed) (all-with_first_changed (IsHeldBy m.transactions) (is_held_of a.block a.set) fewer (λ x h. h) m.assemblies.items
        l.assemblies)) chs entities clock
        (subst ResidesOnce (sym now) (resides-come (assembly_of a) (state_of m) l.resides)) l
