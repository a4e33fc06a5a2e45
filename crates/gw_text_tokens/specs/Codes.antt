-- The codes of refusals that reading a model text answers.
use Rattle.std.specs.Prelude.{ℕ}
use Rattle.gw_text_tokens.specs.declared.faults.Refusal.{Refusal}
use Rattle.gw_text_tokens.specs.declared.faults.Refusal.TheVariants.{Length, Word, Operand, Expression, Label, LeftOut, Limit, Order}
use Rattle.gw_text_tokens.specs.declared.codes.TheConstants.{LENGTH, WORD, OPERAND, EXPRESSION, LABEL, LEFT_OUT, LIMIT, ORDER}

-- a line of more than 1,000 bytes, or a text of more than 1 MiB
abbrev pub length_fault : ℕ
length_fault = LENGTH

-- a word that no statement has
abbrev pub word_fault : ℕ
word_fault = WORD

-- an operand that its statement can't have
abbrev pub operand_fault : ℕ
operand_fault = OPERAND

-- an expression that isn't one
abbrev pub expression_fault : ℕ
expression_fault = EXPRESSION

-- a label that stands before another statement already
abbrev pub label_fault : ℕ
label_fault = LABEL

-- a form of GPSS World that is left out
abbrev pub left_out : ℕ
left_out = LEFT_OUT

-- a number of blocks, a name, a whole number or a nesting past its limit
abbrev pub limit_fault : ℕ
limit_fault = LIMIT

-- a statement that comes after START and must not
abbrev pub order_fault : ℕ
order_fault = ORDER

-- the code of a refusal
abbrev pub code_of : Refusal → ℕ
code_of Length = length_fault
code_of Word = word_fault
code_of Operand = operand_fault
code_of Expression = expression_fault
code_of Label = label_fault
code_of LeftOut = left_out
code_of Limit = limit_fault
code_of Order = order_fault
