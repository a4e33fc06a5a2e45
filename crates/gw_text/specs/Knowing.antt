-- What is known of a text while it is read: its labels, how many blocks it has, and whether there was a START.
use Rattle.std.specs.Prelude.{◌≡◌, ℕ, ◌+◌, ◌≤◌, List, true, false, ◌||◌, if◌then◌else◌, cond, Option, Some, None, count_by, option_map, string_bytes, bytes_eq}
use Rattle.std.specs.declared.string.String.{String}
use Rattle.std.specs.Global.{Global}
use Rattle.std.specs.List.{list_any}
use Rattle.std.specs.BTreeSet.{BTreeSet, contains_text}
use Rattle.gw_text_tokens.specs.declared.words.Word.{Word}
use Rattle.gw_text_tokens.specs.Words.{is_block, is_start}
use Rattle.gw_text.specs.declared.model.Statement.{Statement}
use Rattle.gw_text.specs.declared.reader.First.{First}
use Rattle.gw_text.specs.declared.reader.Reader.{Reader}
use Rattle.gw_text.specs.Reading.{label_of, has_label, is_block_statement, is_start_statement, MayFollowStart}

-- a label is new among those before, and is among them then; where there is none they stay
abbrev pub Labelled : {Y : Type 0} → BTreeSet (String Y) → BTreeSet (String Y) → Option (List ℕ) → Type 0
Labelled old new None = (other : List ℕ) → contains_text new other ≡ contains_text old other
Labelled old new (Some label) = (contains_text old label ≡ false)
    × ((other : List ℕ) → contains_text new other ≡ cond (bytes_eq label other) true (contains_text old other))

-- the same of what is known, by the label of a statement, if it has one
abbrev pub TakesLabel : Reader → Reader → Option (String Global) → Type 0
TakesLabel old new label = Labelled old.labels new.labels (option_map string_bytes label)

-- a statement of this word is counted, and may stand where it does
pub record Counts (old new : Reader) (word : Word) : Type 0 where
  pub labels : new.labels ≡ old.labels
  pub blocks : new.blocks ≡ old.blocks + (if is_block word then 1 else 0)
  pub few : new.blocks ≤ 4096
  pub order : old.is_started ≡ true → MayFollowStart word
  pub started : new.is_started ≡ old.is_started || is_start word

-- a statement of this word and with this label is known then, and may stand where it does
pub record Admits (old new : Reader) (word : Word) (label : Option (List ℕ)) : Type 0 where
  pub labels : Labelled old.labels new.labels label
  pub blocks : new.blocks ≡ old.blocks + (if is_block word then 1 else 0)
  pub few : new.blocks ≤ 4096
  pub order : old.is_started ≡ true → MayFollowStart word
  pub started : new.is_started ≡ old.is_started || is_start word

-- the same by the first line of a statement
abbrev pub AdmitsFirst : Reader → Reader → Word → First → Type 0
AdmitsFirst old new word first = Admits old new word (option_map string_bytes first.label)

-- where nothing is found nothing changes; else the statement is known then
abbrev pub KnowsMore : Reader → Reader → Option Statement → Type 0
KnowsMore old new None = new ≡ old
KnowsMore old new (Some s) = Admits old new s.word (label_of s)

-- what is known is what these statements have
pub record Knows (reader : Reader) (statements : List Statement) : Type 0 where
  pub labels : (label : List ℕ) → contains_text reader.labels label ≡ list_any (has_label label) statements
  pub blocks : reader.blocks ≡ count_by is_block_statement statements
  pub few : reader.blocks ≤ 4096
  pub started : reader.is_started ≡ list_any is_start_statement statements
