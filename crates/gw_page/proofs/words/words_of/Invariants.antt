-- the words so far, and those of the pairs that are left
use Rattle.std.proofs.Common.{◌≡◌, ◌∷◌, ◌++◌, map}
use Rattle.std.specs.List.{flat_map}
use Rattle.std.specs.String.{string_bytes}
use Rattle.form_urlencoded.specs.Form.{raw_pairs}
use Rattle.gw_page.specs.Words as model
use Rattle.gw_page.proofs.words.words_of.Given as goal

abbrev pub invariant-loop-key : goal.invariant-loop-key
invariant-loop-key l =
    map string_bytes l.words.items ++ flat_map model.words_of_pair (raw_pairs l.key-iterator.input.now) ≡ l.name ∷ model.words_in l.query
