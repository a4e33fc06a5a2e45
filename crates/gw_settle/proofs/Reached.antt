-- Rows that rounds have reached.
use Rattle.std.proofs.Common.{◌≡◌, ℕ, zero, suc, ◌+◌, length, sym, ap, subst, ◌∙◌}
use Rattle.gw_object.specs.declared.parts.Parts.{Parts}
use Rattle.gw_settle.specs.declared.table.Change.{Change}
use Rattle.gw_settle.specs.declared.table.Change.TheVariants.{Same}
use Rattle.gw_settle.specs.Rounds.{TableRows, change_to, round, rounds, AreReached}
use Rattle.gw_settle.specs.Settles.{AreFinal}
use Rattle.gw_settle.specs.Keeps.{IsWell, AreSound, AreKept, IsSettled}
use Rattle.gw_settle.proofs.Kept.{start_kept, visited_keep, sound_if_kept}
use Rattle.gw_settle.proofs.Falling.{Falls, falls_to, same_settles, same_stays}

rounds_kept : (p : Parts) (k : ℕ) → IsWell p → AreKept p (rounds p k)
rounds_kept p zero well = start_kept p
rounds_kept p (suc k) well = visited_keep p (length p.blocks) (rounds p k) well (rounds_kept p k well)

pub reached_kept : (p : Parts) (rows : TableRows) → IsWell p → AreReached p rows → AreKept p rows
reached_kept p rows well h = subst (AreKept p) (sym h.1) (rounds_kept p h.0 well)

pub reached_sound : (p : Parts) (rows : TableRows) → IsWell p → AreReached p rows → AreSound p rows
reached_sound p rows well h = sound_if_kept p rows (reached_kept p rows well h)

pub reached_next : (p : Parts) (now new : TableRows) → AreReached p now → new ≡ round p now → AreReached p new
reached_next p now new h is = (suc h.0, is ∙ ap (round p) h.1)

-- what fell in a round
pub fell : (p : Parts) (now new : TableRows) (change : Change) → IsWell p → AreReached p now → new ≡ round p now
    → change_to p (length p.blocks) now ≡ change → Falls (length p.blocks + 1) change now new
fell p now new change well h is changes =
    subst (λ d. Falls (length p.blocks + 1) d now new) changes
    (subst (Falls (length p.blocks + 1) (change_to p (length p.blocks) now) now) (sym is)
    (falls_to p (length p.blocks) now well (reached_sound p now well h)))

-- a round that changed nothing was the last
pub last_same : (p : Parts) (now new : TableRows) → IsWell p → AreReached p now → new ≡ round p now → change_to p (length p.blocks) now ≡ Same → new ≡ now
last_same p now new well h is changes = is ∙ same_stays p now well (reached_sound p now well h) changes

pub final_last : (p : Parts) (now new : TableRows) → IsWell p → AreReached p now → new ≡ round p now → change_to p (length p.blocks) now ≡ Same → AreFinal p new
final_last p now new well h is changes =
    let same = last_same p now new well h is changes in
    record {
      table = record { count = h.0; after = same ∙ h.1; last = ap (round p) same ∙ sym is };
      kept = subst (AreKept p) (sym same) (reached_kept p now well h);
      settled = subst (IsSettled p) (sym same) (same_settles p now well (reached_sound p now well h) changes);
    }
