-- All that sound calls keep.
use Rattle.std.proofs.Common.{List, [], ◌∷◌, refl}
use Rattle.gw_service.specs.Journal.{Service, new_service}
use Rattle.gw_service.specs.Machine.{Call, next, all_next}
use Rattle.gw_service.specs.Keeping.{AllSound, IsKept, NextIsKept, EveryServiceIsKept}
use Rattle.gw_service.proofs.Replays.{next_replays}
use Rattle.gw_service.proofs.History.{next_history}
use Rattle.gw_service.proofs.Listing.{next_lists_ready}
use Rattle.gw_service.proofs.Limits.{next_within, new_within}
use Rattle.gw_service.proofs.Reaching.{next_reached}

pub next_kept : NextIsKept
next_kept c s sound h = record {
  replayed = next_replays c s h.replayed;
  history = next_history c s sound h.replayed h.history;
  listed = next_lists_ready c s h.listed;
  within = next_within c s h.listed h.within;
  reached = next_reached c s sound h.listed h.reached;
}

from_kept : (cs : List Call) (s : Service) → AllSound cs → IsKept s → IsKept (all_next cs s)
from_kept [] s sound h = h
from_kept (c ∷ cs) s sound h = from_kept cs (next c s) sound.1 (next_kept c s sound.0 h)

pub new_kept : IsKept new_service
new_kept = record { replayed = refl; history = tt; listed = λ k. refl; within = new_within; reached = tt }

pub all_kept : EveryServiceIsKept
all_kept cs sound = from_kept cs new_service sound new_kept
