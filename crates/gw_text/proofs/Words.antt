-- FUNCTION and PROCEDURE, of which each may stand anywhere, and statements on one line.
use Rattle.std.proofs.Common.{◌≡◌, ℕ, ◌≤◌, ◌<◌, List, [], false, slice_index_or, Option, Result, Ok, Err, IfOk, MatchResult, option_map, string_bytes}
use Rattle.std.proofs.Common.{inl, arith, refl, sym, subst, ◌∙◌}
use Rattle.gw_text_tokens.specs.declared.words.Word.{Word}
use Rattle.gw_text_tokens.specs.declared.words.Word.TheVariants as words
use Rattle.gw_text_tokens.specs.declared.faults.Stop.{Stop}
use Rattle.gw_text_tokens.specs.Lines.{IsShort, AreShort}
use Rattle.gw_text_tokens.specs.Words.{is_block, is_start}
use Rattle.gw_text.specs.declared.reader.First.{First}
use Rattle.gw_text.specs.declared.reader.Read.{Read}
use Rattle.gw_text.specs.declared.reader.Reader.{Reader}
use Rattle.gw_text.specs.Knowing.{Labelled, Admits}
use Rattle.gw_text.specs.Reading.{StaysWithin, StaysSingle}
use Rattle.gw_text.proofs.Known.{or_false}

-- neither is a block
function_is_no_block : is_block words.Function ≡ false
unfolding is_block
function_is_no_block = refl

procedure_is_no_block : is_block words.Procedure ≡ false
unfolding is_block
procedure_is_no_block = refl

-- what is no block and no START may stand anywhere
admits_other : (old new : Reader) (word : Word) (label : Option (List ℕ)) → is_block word ≡ false → is_start word ≡ false
    → Labelled old.labels new.labels label → new.blocks ≡ old.blocks → new.is_started ≡ old.is_started → old.blocks ≤ 4096 → Admits old new word label
admits_other old new word label no_block no_start labels blocks started few = record {
  labels = labels;
  blocks = rw no_block (omega (arith, blocks));
  few = omega (arith, blocks, few);
  order = λ _. (no_block, no_start);
  started = rw no_start (started ∙ sym (or_false old.is_started));
}

pub admits_function : (old new : Reader) (word : Word) → word ≡ words.Function → new.blocks ≡ old.blocks → new.is_started ≡ old.is_started
    → old.blocks ≤ 4096 → {E : Type 0} (r : Result Read E) → IfOk r (λ read. Labelled old.labels new.labels (option_map string_bytes read.first.label))
    → IfOk r (λ read. Admits old new word (option_map string_bytes read.first.label))
admits_function old new word is blocks started few (Ok read) h =
    subst (λ w. Admits old new w (option_map string_bytes read.first.label)) (sym is)
    (admits_other old new words.Function (option_map string_bytes read.first.label) function_is_no_block refl h blocks started few)
admits_function old new word is blocks started few (Err e) h = tt

pub admits_procedure : (old new : Reader) (word : Word) → word ≡ words.Procedure → new.blocks ≡ old.blocks → new.is_started ≡ old.is_started
    → old.blocks ≤ 4096 → {E : Type 0} (r : Result Read E) → IfOk r (λ read. Labelled old.labels new.labels (option_map string_bytes read.first.label))
    → IfOk r (λ read. Admits old new word (option_map string_bytes read.first.label))
admits_procedure old new word is blocks started few (Ok read) h =
    subst (λ w. Admits old new w (option_map string_bytes read.first.label)) (sym is)
    (admits_other old new words.Procedure (option_map string_bytes read.first.label) procedure_is_no_block refl h blocks started few)
admits_procedure old new word is blocks started few (Err e) h = tt

-- what is so of a statement on one line
pub record StaysOnLine (text : List (List ℕ)) (i count : ℕ) (word : Word) (old new : Reader) (r : Result Read (ℕ × Stop)) : Type 0 where
  pub lines : StaysWithin i count r
  pub single : StaysSingle word i r
  pub short : IfOk r (λ read. AreShort text i read.last)
  pub admits : IfOk r (λ read. Admits old new word (option_map string_bytes read.first.label))

pub stays_on_line : (lines : List (List ℕ)) (i count : ℕ) (word : Word) (old new : Reader) (first : Result First Stop) (r : Result Read (ℕ × Stop))
    → i < count → IsShort (slice_index_or lines i []) → MatchResult r (λ x. x.last ≡ i) (λ place. place.0 ≡ i) → IfOk r (λ x. first ≡ Ok x.first)
    → IfOk first (λ f. Admits old new word (option_map string_bytes f.label)) → StaysOnLine lines i count word old new r
stays_on_line lines i count word old new first (Ok read) within short last is admits = record {
  lines = (omega (arith, last), omega (arith, last, within));
  single = inl last;
  short = λ k from to. let here : i ≡ k = omega (arith, from, to, last) in subst (λ j. IsShort (slice_index_or lines j [])) here short;
  admits = subst (λ f. IfOk f (λ x. Admits old new word (option_map string_bytes x.label))) is admits;
}
stays_on_line lines i count word old new first (Err place) within short last is admits = record {
  lines = omega (arith, last, within);
  single = inl last;
  short = tt;
  admits = tt;
}
