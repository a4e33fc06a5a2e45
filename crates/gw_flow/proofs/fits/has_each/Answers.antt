use Rattle.std.proofs.Common.{rules, ◌≡◌, ◌<◌, ◌∷◌, refl, sym, subst, ◌∙◌, arith}
use Rattle.std.specs.Prelude.{All}
use Rattle.std.proofs.lemmas.List.Elements.{All-head, All-tail}
use Rattle.gw_flow.proofs.Holding.{at_end, lacking, not_enough, met, passed}
use Rattle.gw_flow.proofs.fits.has_each.Goals.{then-key-2+else-not-suffices, else-key-2}
use Rattle.gw_flow.proofs.fits.has_each.Goals as goal

pub loop-entry-init : goal.loop-entry-init
loop-entry-init g c = record { decides = record { same = refl; ascends = c.requires.asked }; each = c.requires.each_asked }

pub returns-then-key : goal.returns-then-key
returns-then-key g c =
    sym (lacking g.T.Keyed.key (g.T.Entry.enough c.args.by) c.args.held.now c.args.asked.now c.loop-entry.left.now c.loop-entry.entry-index
    c.loop-entry.invariant.decides
    c.entry-item.result c.in-Some.next.now c.in-Some.later.now c.loop-entry-test.true c.entry-item.is (search rules) c.requires.held (search rules))

pub suffices-requires-clause-asked : goal.suffices-requires-clause-asked
suffices-requires-clause-asked g c =
    let left : c.loop-entry.left.now ≡ c.in-Some.next.now ∷ c.in-Some.later.now = search rules in
    All-head g.T.Entry.can_compare c.in-Some.next.now c.in-Some.later.now (subst (All g.T.Entry.can_compare) left c.loop-entry.invariant.each)

pub returns-then-not-suffices : goal.returns-then-not-suffices
returns-then-not-suffices g c =
    sym (not_enough g.T.Keyed.key (g.T.Entry.enough c.args.by) c.args.held.now c.args.asked.now c.loop-entry.left.now
    c.loop-entry.entry-index c.loop-entry.invariant.decides
    c.entry-item.result c.in-Some.next.now c.in-Some.later.now c.loop-entry-test.true c.entry-item.is (search rules) c.requires.held
    (search rules) (search rules))

pub loop-entry-preserved : goal.loop-entry-preserved
loop-entry-preserved g c =
    let left : c.loop-entry.left.now ≡ c.in-Some.next.now ∷ c.in-Some.later.now = search rules in
    elim c.if-key-2.branch [
      | then-key-2+else-not-suffices w ↦
          record {
            decides = rw w.left-is (met g.T.Keyed.key (g.T.Entry.enough c.args.by) c.args.held.now c.args.asked.now c.loop-entry.left.now
                c.loop-entry.entry-index c.loop-entry.invariant.decides
                c.entry-item.result c.in-Some.next.now c.in-Some.later.now c.loop-entry-test.true c.entry-item.is (search rules)
                c.requires.held (search rules) (search rules));
            each = rw w.left-is (All-tail g.T.Entry.can_compare c.in-Some.next.now c.in-Some.later.now
                (subst (All g.T.Entry.can_compare) left c.loop-entry.invariant.each));
          }
      | else-key-2 w ↦
          let apart : g.T.Keyed.key c.entry-item.result < g.T.Keyed.key c.in-Some.next.now =
          omega (arith, c.key.ensures, c.key-in-loop-entry.ensures, c.key-in-loop-entry-2.ensures, c.key-in-loop-entry-3.ensures, w.if-key-2.false) in
          record {
            decides = rw w.left-is (passed g.T.Keyed.key (g.T.Entry.enough c.args.by) c.args.held.now c.args.asked.now
                c.loop-entry.left.now c.loop-entry.entry-index c.loop-entry.invariant.decides
                c.entry-item.result c.in-Some.next.now c.in-Some.later.now c.loop-entry-test.true c.entry-item.is (search rules) c.requires.held apart);
            each = rw w.left-is c.loop-entry.invariant.each;
          }
    ]

pub returns : goal.returns
returns g c =
    c.is_empty.ensures ∙ sym
    (at_end g.T.Keyed.key (g.T.Entry.enough c.args.by) c.args.held.now c.args.asked.now c.loop-entry.left.now c.loop-entry.entry-index
    c.loop-entry.invariant.decides c.loop-entry-test.false)
