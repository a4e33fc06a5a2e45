-- User chains: what LINK and UNLINK do to a well-typed state is a list of elementary changes, and never an error stop.
use Rattle.std.proofs.Common.{◌≡◌, ℕ, zero, suc, ◌+◌, ◌<◌, ◌≤◌, ℤ, List, [], ◌∷◌, length, Option, Some, is_some, ◌==◌, refl, ap, subst, arith, IsSome}
use Rattle.std.specs.Prelude.{All, IfSome, IsSomeAnd}
use Rattle.std.proofs.lemmas.List.Elements.{All-head, All-tail}
use Rattle.gw_object.specs.declared.blocks.Link.{Link}
use Rattle.gw_object.specs.declared.blocks.Unlink.{Unlink}
use Rattle.gw_object.specs.declared.blocks.Block.TheVariants as blocks
use Rattle.gw_object.specs.declared.parts.Parts.{Parts}
use Rattle.gw_rules.specs.declared.entities.EntityKind.TheVariants as needed
use Rattle.gw_rules.specs.declared.ways.Way.{Way}
use Rattle.gw_rules.specs.declared.ways.Way.TheVariants.{Falls, Goes as GoesTo}
use Rattle.gw_rules.specs.Exits.{leads_to}
use Rattle.gw_rules.specs.Kinds.{needs}
use Rattle.gw_rules.specs.KindsLaws.{MayBeEntered}
use Rattle.gw_rules.specs.Rows.{Row, Fits}
use Rattle.gw_rules.specs.declared.edges.Target.TheVariants as targets
use Rattle.gw_rules.specs.Blocks.{FlowEdge, move, join, members_move}
use Rattle.gw_rules.specs.Flow.{own_table}
use Rattle.gw_rules.specs.FlowLaws.{FlowHolds}
use Rattle.gw_transactions.specs.declared.Transaction.{Transaction}
use Rattle.gw_transactions.specs.Transactions.{attributes_at}
use Rattle.gw_step.specs.Numbers.{made_in}
use Rattle.gw_step.specs.State.{State, user_chain}
use Rattle.gw_step.specs.Changes.{enters_and_falls, leaves_chain}
use Rattle.gw_step.specs.Blocks.{link, first_unlinked, unlink_members, taken_by, unlink}
use Rattle.gw_step.specs.Residence.{occurrences}
use Rattle.gw_step.specs.Typing.{IsPlaced, WellTyped}
use Rattle.gw_step.proofs.Outcomes.{choose, by_option}
use Rattle.gw_step.proofs.Residence.{same_number}
use Rattle.gw_step.proofs.Balances.{balanced-nothing}
use Rattle.gw_step.proofs.Traces.{the_row, member_at, present, EntersLast, Unlinked, Trace, Done, Then, trace_on, trace-keeps}
use Rattle.gw_step.proofs.Unstopped.{Safe}
use Rattle.gw_step.proofs.AtBlock.{first_may_be_entered, named_below}
use Rattle.gw_step.proofs.Paying.{one_plain}
use Rattle.gw_step.proofs.Moving.{Acts, has_entered, unchanged, Enters, entered_once, safe_leads, at_first, goes, weighs_next, falls_paid, last_borrowed}
use Rattle.gw_rules.specs.Weights.{chain_weight}
use Rattle.gw_step.specs.Weight.{slope_addition, weighs_there}
use Rattle.gw_step.specs.Times.{parameters_of}
use Rattle.gw_rules.specs.WeightsLaws.{Weighted}
use Rattle.gw_step.proofs.Attributes.{bearer_at}
use Rattle.gw_step.proofs.Calling.{some_of}
use Rattle.gw_step.proofs.Within.{sum-raised}
use Rattle.gw_step.proofs.Calm.{trace-grows}

-- an edge leads to a row that its state fits
abbrev Arrives : Parts → FlowEdge → Type 0
Arrives p edge = IsSomeAnd (own_table p edge.target) (Fits edge.state)

module _ (p : Parts) (flow : FlowHolds p (own_table p)) (c target : ℕ) (below : c < length p.entities) (may : MayBeEntered p target)
    (on : All (Arrives p) (members_move target (own_table p (targets.Chain c))))
    (pays : (parameters : List (Option ℤ)) → Weighted p → IsSome (own_table p (targets.Chain c)) → weighs_there p target parameters ≤ chain_weight p c) where
  -- what is known of the members of the chain fits the row of the block
  fits_on : (members : Row) → own_table p (targets.Chain c) ≡ Some members → IsSomeAnd (own_table p (targets.Block target)) (Fits members)
  fits_on members is = All-head (Arrives p) _ [] (subst (λ r. All (Arrives p) (members_move target r)) is on)

  -- the first of them leaves the chain, if there is one
  first_traced : (en ar : ℕ) (s : State) → WellTyped p s → (ms : List ℕ) → user_chain c s ≡ ms → Trace p en ar 0 s en ar 0 (first_unlinked c target ms s)
  first_traced en ar s ty [] is = Done
  first_traced en ar s ty (n ∷ ns) is =
      by_option (Trace p en ar 0 s en ar 0) (attributes_at n s.transactions) (λ t. leaves_chain c target n t s) s
      (λ t found.
      let here : 1 ≤ occurrences n (user_chain c s) = omega (arith, ap (occurrences n) is, same_number n n refl) in
      let bears = bearer_at s.transactions n t found in
      let placed : IsPlaced p bears.0 = subst (λ o. IfSome o (IsPlaced p)) bears.1 (ty.placed n) in
      let members = some_of (own_table p (targets.Chain c))
      (subst (λ place. IsSome (own_table p place)) (member_at p s ty c n here bears.0 bears.1) placed.row) in
      let row = the_row (own_table p (targets.Block target)) members.0 (fits_on members.0 members.1) in
      Then (Unlinked c target n t ns members.0 row.0 is found members.1 row.1 row.2 may below
      (λ weighted. pays (parameters_of n s) weighted (ap is_some members.1))) Done)
      (λ none. Done)

  -- and so many, one after the other
  unlinked_traced : (k en ar : ℕ) (s : State) → WellTyped p s → Trace p en ar 0 s en ar 0 (unlink_members k c target s)
  unfolding unlink_members
  unlinked_traced zero en ar s ty = Done
  unlinked_traced (suc k) en ar s ty =
      let one = first_traced en ar s ty (user_chain c s) refl in
      trace_on p one (unlinked_traced k en ar (first_unlinked c target (user_chain c s) s) (trace-keeps p flow one ty))

module _ (p : Parts) (s : State) (n : ℕ) (t : Transaction) (k : ℕ) where
  pub safe_link : (l : Link) (row : Row) → Acts p s n t (blocks.Link l) row → Safe (Enters p k s n) (link n t l s)
  safe_link l row acts =
      let last = has_entered p s n t (blocks.Link l) row acts in
      let members = the_row (own_table p (targets.Chain l.chain)) row (All-head (Arrives p) (join l.chain row) [] acts.flow.each_edge) in
      record {
        entries = suc k;
        arrivals = made_in k;
        borrowed = 1;
        left = 0;
        trace = Then (EntersLast n t (blocks.Link l) row acts.is (present s.lists n acts.active) (last_borrowed p s n t (blocks.Link l) row acts)) Done;
        settles = λ weighted. omega (
          arith,
          weighs_next p s n t (blocks.Link l) row acts t t.next
              (one_plain p (record t { current = t.next }) (blocks.Link l) acts.is.block_is refl),
          (weighted.each_row t.next (blocks.Link l) row acts.is.block_is acts.is.row_is).chain,
        );
        may = (
          acts.active,
          record {
            t = last.its;
            row = row;
            members = members.0;
            found = last.found;
            row_is = last.row_is;
            members_is =
                members.1;
            fits = members.2;
            below = named_below p.entities (needs needed.Chain l.chain) [] acts.kinds.entities;
          },
        );
        few_entries = omega arith;
        few_arrivals = omega arith;
        grows = omega (arith, sum-raised t.next s.entries);
      }

  module _ (flow : FlowHolds p (own_table p)) where
    pub safe_unlink : (u : Unlink) (row : Row) → Acts p s n t (blocks.Unlink u) row → Safe (Enters p k s n) (unlink p.blocks n t u s)
    safe_unlink u row acts =
        let may = first_may_be_entered p t.next _ [] acts.kinds.exits in
        let others : MayBeEntered p u.target = All-head (λ (way : Way). MayBeEntered p (leads_to t.next way)) (GoesTo u.target) [] acts.kinds.others in
        let below = named_below p.entities (needs needed.Chain u.chain) [] acts.kinds.entities in
        let on = All-tail (Arrives p) (move (t.next + 1) row) (members_move u.target (own_table p (targets.Chain u.chain))) acts.flow.each_edge in
        let enters : Trace p k (made_in k) 0 s (suc k) (made_in k) 0 (enters_and_falls n t s) =
        Then (goes p s n t (blocks.Unlink u) row acts k (made_in k) 0 0 t (t.next + 1) row s.entities (unchanged s t) (λ q. refl)
        (at_first _ _) may (balanced-nothing p n row s.entities) (falls_paid p s n t (blocks.Unlink u) row acts Falls [] refl (λ q. refl) 0)) Done in
        let left = unlinked_traced p flow u.chain u.target below others on
        (λ parameters weighted some. let pays =
        (weighted.each_row t.next (blocks.Unlink u) row acts.is.block_is acts.is.row_is).chain in
        omega (arith, pays.1 some, ap (λ slope. slope_addition slope parameters) pays.0)) (taken_by u s) (suc k) (made_in k)
        (enters_and_falls n t s) (trace-keeps p flow enters acts.typed) in
        let made = entered_once p k s n _ (trace_on p enters left) (omega (arith, sum-raised t.next s.entries, trace-grows p left)) in
        safe_leads p (Enters p k s n) (t.next + 1) _ may
        (choose (Safe (Enters p k s n)) (taken_by u s == 0) _ _ (λ none. made) (λ some. safe_leads p (Enters p k s n) u.target _ others made))
