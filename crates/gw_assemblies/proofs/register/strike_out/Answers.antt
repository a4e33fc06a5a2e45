use Rattle.std.proofs.Common.{◌∙◌, sym, refl, ap, length, arith}
use Rattle.std.specs.Prelude.{option_to_list}
use Rattle.gw_assemblies.specs.Assembling.{is_of}
use Rattle.gw_assemblies.specs.Register.{assemblies_of}
use Rattle.gw_assemblies.proofs.Filing.{found-here, struck-here, kept-here, found-none, without-none, length_without}
use Rattle.gw_assemblies.proofs.register.strike_out.Goals as goal

pub returns-in_err-place-clause-value : goal.returns-in_err-place-clause-value
returns-in_err-place-clause-value c = c.from_residual.ensures
    ∙ sym (found-none c.args.key.block c.args.key.set c.args.entries.now (sym c.place_of.ensures ∙ c.in_err-place.was))

pub returns-in_err-place-clause-standing : goal.returns-in_err-place-clause-standing
returns-in_err-place-clause-standing c =
    sym (without-none (is_of c.args.key.block c.args.key.set) (assemblies_of c.args.entries.now)
    (found-none c.args.key.block c.args.key.set c.args.entries.now (sym c.place_of.ensures ∙ c.in_err-place.was)))

pub returns-clause-value : goal.returns-clause-value
returns-clause-value c = sym (found-here c.args.key.block c.args.key.set c.args.entries.now c.in_ok-place.place (sym c.place_of.ensures ∙ c.in_ok-place.was) _)

pub returns-clause-standing : goal.returns-clause-standing
returns-clause-standing c = struck-here c.args.key.block c.args.key.set c.args.entries.now c.in_ok-place.place (sym c.place_of.ensures ∙ c.in_ok-place.was) _

pub returns-clause-filed : goal.returns-clause-filed
returns-clause-filed c =
    kept-here c.args.key.block c.args.key.set c.args.entries.now c.in_ok-place.place (sym c.place_of.ensures ∙ c.in_ok-place.was) _
    c.args.buckets.now c.requires.filed _ refl refl refl

pub returns-clause-count : goal.returns-clause-count
returns-clause-count c =
    omega (
      arith,
      ap length (returns-clause-standing c),
      length_without (is_of c.args.key.block c.args.key.set) (assemblies_of c.args.entries.now),
      ap (λ o. length (option_to_list o)) (returns-clause-value c),
    )
