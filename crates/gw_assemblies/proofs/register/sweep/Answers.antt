use Rattle.std.proofs.Common.{rules, ◌≡◌, ◌∙◌, ap, arith, length, filter}
use Rattle.std.proofs.lemmas.Fn.{filter_same}
use Rattle.gw_assemblies.specs.Register.{assemblies_of}
use Rattle.gw_assemblies.proofs.Filing.{standing_filter, length_filter}
use Rattle.gw_assemblies.proofs.register.sweep.Goals as goal

kept : (c : goal.After-retain) → c.retain.new.self.items ≡ filter (λ e. e.stands) c.args.entries.now.items
kept c = filter_same _ _ _ (λ x b f' k. search rules) _ _ c.retain.ensures.filtered

pub returns-clause-standing : goal.returns-clause-standing
returns-clause-standing c = ap assemblies_of (kept c) ∙ standing_filter c.args.entries.now.items

pub returns-clause-len : goal.returns-clause-len
returns-clause-len c = omega (arith, ap length (kept c), length_filter c.args.entries.now.items)
