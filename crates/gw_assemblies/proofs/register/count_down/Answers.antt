use Rattle.std.proofs.Common.{◌∙◌, sym, refl, ap, length}
use Rattle.gw_assemblies.specs.Assembling.{is_of}
use Rattle.gw_assemblies.specs.Register.{assemblies_of}
use Rattle.gw_assemblies.proofs.Filing.{changed-here, kept-here, found-none, changed-none, length_changed}
use Rattle.gw_assemblies.proofs.register.count_down.Goals as goal

pub returns-in-Some-clause-standing : goal.returns-in-Some-clause-standing
returns-in-Some-clause-standing c =
    changed-here c.args.key.block c.args.key.set c.args.entries.now c.in-Some.place (sym c.place_of.ensures ∙ c.in-Some.is) _
    c.saturating_sub.result c.saturating_sub.ensures

pub returns-in-Some-clause-filed : goal.returns-in-Some-clause-filed
returns-in-Some-clause-filed c =
    kept-here c.args.key.block c.args.key.set c.args.entries.now c.in-Some.place (sym c.place_of.ensures ∙ c.in-Some.is) _
    c.args.buckets.now c.requires.filed _ refl refl refl

pub returns-in_default-clause-standing : goal.returns-in_default-clause-standing
returns-in_default-clause-standing c =
    sym (changed-none (is_of c.args.key.block c.args.key.set) _ (assemblies_of c.args.entries.now)
    (found-none c.args.key.block c.args.key.set c.args.entries.now (sym c.place_of.ensures ∙ c.in_default.is)))

pub returns-in-Some-clause-count : goal.returns-in-Some-clause-count
returns-in-Some-clause-count c = ap length (returns-in-Some-clause-standing c)
    ∙ length_changed (is_of c.args.key.block c.args.key.set) _ (assemblies_of c.args.entries.now)
