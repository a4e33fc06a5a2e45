use Rattle.gw_transactions.proofs.Populations.{next_is, sound_of}
use Rattle.gw_transactions.proofs.Transactions.next_number.Goals as goal

pub returns-clause-number : goal.returns-clause-number
returns-clause-number c = next_is c.self.inside c.self.invariant.0 _ c.self.view_is

pub returns-clause-sound : goal.returns-clause-sound
returns-clause-sound c = sound_of c.self.inside c.self.invariant.0 _ c.self.view_is
