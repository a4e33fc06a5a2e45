use Rattle.std.proofs.Common.{◌≡◌, ◌≤◌, ◌<◌, ◌∙◌, ℕ, ◌+◌, ◌-◌, ◌++◌, ◌∷◌, [], List, length, take, get_or, reverse, sym, ap, refl, arith}
use Rattle.std.specs.Prelude.{int_le}
use Rattle.std.proofs.lemmas.List.{length-append, length-set, get_or_default}
use Rattle.gw_members.specs.Chain.{placed_behind}
use Rattle.gw_members.specs.declared.tx.Event.{Event}
use Rattle.gw_chains.proofs.Few.{IsVacantAt, vacant_at_end, before_vacant, vacant_lower, past_none, past_one, stands_there, before_one, before_none}
use Rattle.gw_chains.proofs.fec.move_up.Goals as goal
use Rattle.gw_chains.proofs.fec.move_up.Goals.{then-loop-place-test+else-is_no_later, else-loop-place-test}

-- how many the others are
others_are : (ys xs : List Event) (e : Event) → ys ≡ xs ++ e ∷ [] → length ys ≡ length xs + 1
others_are ys xs e is = ap length is ∙ length-append xs (e ∷ [])

-- what is read before the open place is that of the others
before_place : (e d : Event) (xs ys : List Event) (i : ℕ) → 0 < i → i ≤ length xs → IsVacantAt e xs ys i → get_or ys (i - 1) d
    ≡ get_or xs (i - 1) (get_or ys (i - 1) d)
before_place e d xs ys i some within vacant =
    get_or_default ys (i - 1) d (get_or ys (i - 1) d) (omega (arith, some, within, vacant.0))
    ∙ before_vacant e xs ys i (get_or ys (i - 1) d) some within vacant

pub loop-place-init : goal.loop-place-init
loop-place-init c =
    let ys = c.args.events.now in
    let e = c.args.newcomer in
    record {
      within = omega (arith, c.requires);
      len = refl;
      vacant = λ xs is. vacant_at_end e xs ys (length ys - 1) (omega (arith, others_are ys xs e is)) is;
      past = λ xs is. past_none (λ (y : Event). int_le y.time e.time) e xs (length ys - 1) (omega (arith, others_are ys xs e is));
    }

pub loop-place-preserved : goal.loop-place-preserved
loop-place-preserved c =
    let ys = c.loop-place.events in
    let i = c.loop-place.place in
    let e = c.args.newcomer in
    let some = c.loop-place-test.true in
    let inv = c.loop-place.invariant in
    record {
      within = omega (arith, inv.within);
      len = length-set ys i _ ∙ inv.len;
      vacant = λ xs is.
          let below : i ≤ length xs = omega (arith, inv.within, others_are c.args.events.now xs e is) in
          vacant_lower e _ xs ys _ i some below (before_place e _ xs ys i some below (inv.vacant xs is)) (inv.vacant xs is) refl;
      past = λ xs is.
          let below : i ≤ length xs = omega (arith, inv.within, others_are c.args.events.now xs e is) in
          past_one (λ (y : Event). int_le y.time e.time) e xs i _ some below (before_place e _ xs ys i some below (inv.vacant xs is))
          (sym c.is_no_later.ensures ∙ c.if-is_no_later.true) (inv.past xs is);
    }

pub returns-clause-items : goal.returns-clause-items
returns-clause-items c xs is =
    let ys = c.loop-place.events in
    let i = c.loop-place.place in
    let e = c.args.newcomer in
    let passes = λ (y : Event). int_le y.time e.time in
    let inv = c.loop-place.invariant in
    let below : i ≤ length xs = omega (arith, inv.within, others_are c.args.events.now xs e is) in
    let here : placed_behind passes e (reverse (take i xs)) ≡ e ∷ reverse (take i xs) =
    elim c.loop-place-test.branch [
      | then-loop-place-test+else-is_no_later w ↦
          before_one passes e xs i _ w.loop-place-test.true below
          (before_place e _ xs ys i w.loop-place-test.true below (inv.vacant xs is)) (sym w.is_no_later.ensures ∙ w.if-is_no_later.false)
      | else-loop-place-test w ↦ before_none passes e xs i (omega (arith, w.loop-place-test.false))
    ] in
    ap reverse (inv.vacant xs is).1 ∙ stands_there passes e xs i here (inv.past xs is)
