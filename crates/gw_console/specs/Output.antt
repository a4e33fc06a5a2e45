-- What the program writes to a writer whose bytes are known, given a reader whose bytes are known.
use Rattle.std.specs.Prelude.{◌≡◌, ◌≢◌, ◌<◌, ◌≤◌, ◌⊎◌, ℕ, List, [], ◌∷◌, length, take, codes, Option, IfSome, Contains, Result, MatchResult}
use Rattle.std.specs.Io.KnownBytes.{Appends, Keeps}
use Rattle.gw_console.specs.declared.fault.ProgramFault.{ProgramFault}
use Rattle.gw_console.specs.declared.fault.ProgramFault.TheVariants.{Read, Write, Memory}
use Rattle.gw_answers.specs.declared.answer.Answer.{Answer}
use Rattle.gw_answers.specs.Status.{end_status, refusal_status, failure_status, no_memory}
use Rattle.gw_answers.specs.Requests.{Answering}

-- the line on want of memory
abbrev pub memory_line : List ℕ
memory_line = codes "refused 8 Memory\n"

-- known bytes grow by a front of a text
abbrev pub AppendsFront : Option (List ℕ) → Option (List ℕ) → List ℕ → Type 0
AppendsFront old new text = (n : ℕ) × (n ≤ length text) × Appends old new (take n text)

-- a text is written whole, and its status answered; or a write failed, a front of the text is written, and the status is 3
abbrev pub Writes : List ℕ → ℕ → ℕ → Option (List ℕ) → Option (List ℕ) → Type 0
Writes text status result old new = ((result ≡ status) × Appends old new text) ⊎ ((result ≡ failure_status) × AppendsFront old new text)

-- a text is written whole; or a write failed, and a front of it is written
abbrev pub WritesText : {A : Type 0} → List ℕ → Result A ProgramFault → Option (List ℕ) → Option (List ℕ) → Type 0
WritesText text result old new =
    MatchResult result (λ _. Appends old new text) (λ fault. (fault ≡ Write) × AppendsFront old new text)

-- so many bytes of a text are written, one at least; or a write failed, and none is
abbrev pub WritesSome : List ℕ → Result ℕ ProgramFault → Option (List ℕ) → Option (List ℕ) → Type 0
WritesSome text result old new =
    MatchResult result (λ n. (0 < n) × (n ≤ length text) × Appends old new (take n text)) (λ fault. (fault ≡ Write) × Keeps old new)

-- where memory ran out its line is written; where a read or a write failed nothing is
abbrev pub Fails : ProgramFault → ℕ → Option (List ℕ) → Option (List ℕ) → Type 0
Fails Memory result old new = Writes memory_line no_memory result old new
Fails Read result old new = (result ≡ failure_status) × Keeps old new
Fails Write result old new = (result ≡ failure_status) × Keeps old new

-- an answer is written, or what is where there is none
abbrev pub WritesOrFails : Result Answer ProgramFault → ℕ → Option (List ℕ) → Option (List ℕ) → Type 0
WritesOrFails answer result old new =
    MatchResult answer (λ a. Writes a.text.items a.status result old new) (λ fault. Fails fault result old new)

-- the text and the status that answer the bytes of a reader; where those aren't known, some bytes
abbrev pub AnswersReader : Answering → Option (List ℕ) → List ℕ → ℕ → Type 0
AnswersReader Answers known text status = (bytes : List ℕ) × IfSome known (λ xs. xs ≡ bytes) × Answers bytes text status

-- they are those of an answer
abbrev pub IsAnswerTo : Answering → Option (List ℕ) → Answer → Type 0
IsAnswerTo Answers known a = AnswersReader Answers known a.text.items a.status

-- what a command writes: the answer to the bytes that it reads; where memory ran out, its line; where a read failed, nothing
abbrev pub IsOutput : Answering → Option (List ℕ) → List ℕ → ℕ → Type 0
IsOutput Answers known text status =
    AnswersReader Answers known text status
    ⊎ (((text ≡ memory_line) × (status ≡ no_memory))
    ⊎ ((text ≡ []) × (status ≡ failure_status)))

-- a command writes its output
abbrev pub Responds : Answering → Option (List ℕ) → ℕ → Option (List ℕ) → Option (List ℕ) → Type 0
Responds Answers known result old new = (text : List ℕ) × (status : ℕ) × IsOutput Answers known text status × Writes text status result old new

-- the answer is written whole, and its status answered
abbrev pub WritesAnswer : Answering → Option (List ℕ) → ℕ → Option (List ℕ) → Option (List ℕ) → Type 0
WritesAnswer Answers known result old new = (text : List ℕ) × AnswersReader Answers known text result × Appends old new text

-- what a command writes, by the status that it answers
pub record Delivers (Answers : Answering) (known : Option (List ℕ)) (result : ℕ) (old new : Option (List ℕ)) : Type 0 where
  -- the answer, unless a read or a write failed, or memory ran out
  pub answered : result ≢ failure_status → result ≢ no_memory → WritesAnswer Answers known result old new
  -- the line on want of memory
  pub memory : result ≡ no_memory → Appends old new memory_line
  pub status : Contains (end_status ∷ refusal_status ∷ failure_status ∷ no_memory ∷ []) result
  -- whatever failed: what was to be written, and how much of it was
  pub output : Responds Answers known result old new
