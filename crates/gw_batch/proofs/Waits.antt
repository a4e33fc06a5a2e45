-- Entries that were made to wait, and those that weren't yet.
use Rattle.std.proofs.Common.{◌≡◌, List, [], ◌∷◌, ◌++◌, append_assoc, append-nil, length, map, sym, ap, ◌∙◌}
use Rattle.std.proofs.lemmas.List.{map-append}
use Rattle.gw_batch.specs.declared.entry.Entry.{Entry as StoredEntry}
use Rattle.gw_batch.specs.declared.waiting.Waiting.{Waiting}
use Rattle.gw_batch.specs.Batch.{Entry, entry_of}
use Rattle.gw_batch.specs.Waiting.{waiting_entry}

-- one entry more waits
pub waits_too : (ws : List Waiting) (w : Waiting) (e : StoredEntry) (es : List StoredEntry) (all : List Entry) → waiting_entry w ≡ entry_of e
    → map waiting_entry ws ++ map entry_of (e ∷ es) ≡ all → map waiting_entry (ws ++ w ∷ []) ++ map entry_of es ≡ all
waits_too ws w e es all same made =
    ap (λ (xs : List Entry). xs ++ map entry_of es) (map-append waiting_entry ws (w ∷ []))
    ∙ append_assoc (map waiting_entry ws) (waiting_entry w ∷ []) (map entry_of es)
    ∙ ap (λ x. map waiting_entry ws ++ (x ∷ map entry_of es)) same ∙ made

-- all wait
pub all_wait : (ws : List Waiting) (es : List StoredEntry) (all : List Entry) → length es ≡ 0 → map waiting_entry ws ++ map entry_of es
    ≡ all → map waiting_entry ws ≡ all
all_wait ws [] all none made = sym (append-nil (map waiting_entry ws)) ∙ made
all_wait ws (e ∷ es) all none made = absurd cc
