-- The head of a line, as it is answered.
use Rattle.std.specs.Prelude.{◌≡◌, Option, Some, None, Result, MatchResult}
use Rattle.gw_text_tokens.specs.declared.words.Word.{Word}
use Rattle.gw_text_statements.specs.declared.statements.Head.{Head}

-- a head is answered that has this word, and a refusal where there is none
abbrev pub HasWord : {E : Type 0} → Option Word → Result Head E → Type 0
HasWord word result = MatchResult result (λ head. word ≡ Some head.word) (λ _. word ≡ None)
