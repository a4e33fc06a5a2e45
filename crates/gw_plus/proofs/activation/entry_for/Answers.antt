use Rattle.std.proofs.Common.{◌≡◌, Some, None, sym, arith, lit<}
use Rattle.std.specs.List.{position}
use Rattle.std.proofs.lemmas.List.{length-map}
use Rattle.gw_plus.proofs.Counts.{is_here, found, found_taken, absent, added, added_taken}
use Rattle.gw_plus.proofs.activation.entry_for.Goals as goal
use Rattle.gw_plus.proofs.activation.entry_for.Goals.{In-Some, In-None}

there : (c : In-Some) → position (is_here c.args.place) c.args.turns.now.items ≡ Some c.in-Some.entry
there c = rw c.as_slice.ensures.value at (sym c.in-Some.ensures)

not_there : (c : In-None) → position (is_here c.args.place) c.args.turns.now.items ≡ None
not_there c = rw c.as_slice.ensures.value at (sym c.in-None.ensures)

pub push-requires : goal.push-requires
push-requires c =
    let few = c.requires (absent c.args.place c.args.turns.now.items (not_there (goal.at.push-requires c).In-None)) in
    (lit< tt, rw length-map at few)

pub returns-in-Some-clause-taken : goal.returns-in-Some-clause-taken
returns-in-Some-clause-taken c = found c.args.place c.args.turns.now.items c.in-Some.entry (there c)

pub returns-in-Some-clause-once : goal.returns-in-Some-clause-once
returns-in-Some-clause-once c = λ n. found_taken c.args.place c.args.turns.now.items c.in-Some.entry n (there c)

pub returns-in-None-clause-taken : goal.returns-in-None-clause-taken
returns-in-None-clause-taken c =
    added c.args.place c.args.turns.now.items c.push.new.self.items _ (not_there (goal.at.returns-in-None-clause-taken c).In-None)
    c.push.ensures.items (omega arith)

pub returns-in-None-clause-once : goal.returns-in-None-clause-once
returns-in-None-clause-once c =
    λ n. added_taken c.args.place c.args.turns.now.items c.push.new.self.items _ n
    (not_there (goal.at.returns-in-None-clause-once c).In-None) c.push.ensures.items (omega arith)
