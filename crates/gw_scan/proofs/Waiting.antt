-- Where nobody waits for an entity.
use Rattle.std.proofs.Common.{◌≡◌, ℕ, List, [], ◌∷◌, length, map, refl, ◌∙◌}
use Rattle.gw_machine.specs.Configuration.{Configuration}
use Rattle.gw_machine.specs.View.{state_of, member_number}
use Rattle.gw_machine.proofs.Changes.{delay_list-at}
use Rattle.gw_members.specs.declared.tx.Member.{Member}
use Rattle.gw_num.specs.Table.{at}
use Rattle.gw_step.specs.State.{delay_list}

none_of : (ms : List Member) → length ms ≡ 0 → map member_number ms ≡ []
none_of [] e = refl
none_of (m ∷ ms) e = absurd (cc)

pub nobody_waits : (m : Configuration) (e : ℕ) → length (at [] m.waits.lists e) ≡ 0 → delay_list e (state_of m) ≡ []
nobody_waits m e none = delay_list-at m e ∙ none_of (at [] m.waits.lists e) none
