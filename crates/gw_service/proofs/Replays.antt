-- The journal replays.
use Rattle.std.proofs.Common.{◌≡◌, List, [], ◌∷◌, ◌++◌, Option, Some, None, refl, ap, ◌∙◌}
use Rattle.gw_service.specs.Rows.{Jobs}
use Rattle.gw_service.specs.Journal.{Service, Event, apply, no_jobs, replay_from, IsReplayed, with_event, new_service}
use Rattle.gw_service.specs.Machine.{event_of, after_event}
use Rattle.gw_service.specs.Keeping.{NextIsReplayed, EveryJournalReplays}
use Rattle.gw_service.proofs.Grounds.{all_keep}

pub replay_from-snoc : (s : Jobs) (es : List Event) (e : Event) → replay_from s (es ++ e ∷ []) ≡ apply e (replay_from s es)
replay_from-snoc s [] e = refl
replay_from-snoc s (x ∷ es) e = replay_from-snoc (apply x s) es e

-- one event more
pub event_replays : (e : Event) (s : Service) → IsReplayed s → IsReplayed (with_event e s)
event_replays e s h = replay_from-snoc no_jobs s.journal e ∙ ap (λ (l : Jobs). apply e l) h

after_replays : (o : Option Event) (s : Service) → IsReplayed s → IsReplayed (after_event o s)
after_replays None s h = h
after_replays (Some e) s h = event_replays e s h

pub next_replays : NextIsReplayed
next_replays c s h = after_replays (event_of c s) s h

pub all_replay : EveryJournalReplays
all_replay cs = all_keep IsReplayed next_replays cs new_service refl
