-- The answer to a front of the bytes that is one byte longer than an object is the answer to all of them.
use Rattle.std.proofs.Common.{◌≡◌, ◌≤◌, ◌+◌, ◌<◌, ℕ, List, length, take, nat_lt, Bool, true, false, Option, Some, None, IfSome, Err, inl, inr, arith}
use Rattle.std.proofs.Common.{refl, sym, subst, ap, ◌∙◌}
use Rattle.std.proofs.lemmas.List.{take_all, length-take-le}
use Rattle.std.proofs.lemmas.Bool.Decides.{nat_tests}
use Rattle.gw_object.specs.declared.fault.Fault.{Fault}
use Rattle.gw_object.specs.declared.fault.Place.TheVariants.{Byte, Line}
use Rattle.gw_object.specs.Codes.{limit}
use Rattle.gw_object.specs.declared.limits.TheConstants.{MOST_BYTES}
use Rattle.gw_object.specs.Reading.{first_fault}
use Rattle.gw_text_tokens.specs.Codes.{length_fault}
use Rattle.gw_answers.specs.Answer.{IsAnswer, IsCheck, job_of, object_of}
use Rattle.gw_answers.specs.Assembly.{IsAssembly, IsRefusedText, HasStatements}
use Rattle.gw_answers.specs.Requests.{answers_to}
use Rattle.gw_answers.specs.declared.request.Request.{Request}
use Rattle.gw_answers.specs.declared.request.Request.TheVariants.{Run, Check, Asm}
use Rattle.gw_console.specs.Output.{AnswersReader}

too_long : (bytes : List ℕ) → nat_lt MOST_BYTES (length bytes) ≡ true → first_fault bytes ≡ Err (record { code = limit; place = Byte 0 })
unfolding first_fault
too_long bytes h = rw (h, first_fault) refl

cases : {P : Type 0} (b : Bool) → (b ≡ true → P) → (b ≡ false → P) → P
cases true f g = f refl
cases false f g = g refl

same_fault : (bytes : List ℕ) → first_fault (take (MOST_BYTES + 1) bytes) ≡ first_fault bytes
same_fault bytes = cases (nat_lt MOST_BYTES (length bytes))
    (λ long.
    let enough : MOST_BYTES + 1 ≤ length bytes = grind (arith, nat_tests, long) in
    let front : length (take (MOST_BYTES + 1) bytes) ≡ MOST_BYTES + 1 = length-take-le (MOST_BYTES + 1) bytes enough in
    too_long (take (MOST_BYTES + 1) bytes) (ap (nat_lt MOST_BYTES) front) ∙ sym (too_long bytes long))
    (λ short.
    let within : length bytes ≤ MOST_BYTES + 1 = grind (arith, nat_tests, short) in
    ap first_fault (take_all (MOST_BYTES + 1) bytes within))

same_job : (seed count : ℕ) (bytes : List ℕ) → job_of seed count (take (MOST_BYTES + 1) bytes) ≡ job_of seed count bytes
unfolding job_of
same_job seed count bytes = rw (same_fault bytes, job_of) refl

same_object : (bytes : List ℕ) → object_of (take (MOST_BYTES + 1) bytes) ≡ object_of bytes
unfolding object_of
same_object bytes = rw (same_fault bytes, object_of) refl

-- a front of a text that is too long is too long
front_too_long : (bytes : List ℕ) → MOST_BYTES < length bytes → MOST_BYTES < length (take (MOST_BYTES + 1) bytes)
front_too_long bytes long = let front : length (take (MOST_BYTES + 1) bytes) ≡ MOST_BYTES + 1 =
    length-take-le (MOST_BYTES + 1) bytes (omega (arith, long)) in omega (arith, front)

-- the refusal of a front of a text that is too long is that of the text
refused_whole : (bytes : List ℕ) (fault : Fault) → MOST_BYTES < length bytes → IsRefusedText (take (MOST_BYTES + 1) bytes) fault → IsRefusedText bytes fault
refused_whole bytes fault long h = record { long = λ _. h.long (front_too_long bytes long); within = λ short. absurd (omega (arith, long, short)) }

assembly_of_long : (bytes text : List ℕ) (status : ℕ) → MOST_BYTES < length bytes → IsAssembly (take (MOST_BYTES + 1) bytes) text status
    → IsAssembly bytes text status
assembly_of_long bytes text status long (inl h) = let front = front_too_long bytes long in let within = h.1.within in absurd (omega (arith, front, within))
assembly_of_long bytes text status long (inr h) = inr (h.0, (h.1.0, refused_whole bytes h.1.0 long h.1.1, h.1.2, h.1.3))

assembly_of_front : (bytes text : List ℕ) (status : ℕ) → IsAssembly (take (MOST_BYTES + 1) bytes) text status → IsAssembly bytes text status
assembly_of_front bytes text status answer = cases (nat_lt MOST_BYTES (length bytes))
    (λ long. assembly_of_long bytes text status (grind (arith, nat_tests, long)) answer)
    (λ short.
    let within : length bytes ≤ MOST_BYTES + 1 = grind (arith, nat_tests, short) in
    subst (λ bs. IsAssembly bs text status) (take_all (MOST_BYTES + 1) bytes within) answer)

-- the answer to such a front is that to all of the bytes
of_front : (request : Request) (bytes text : List ℕ) (status : ℕ) → answers_to request (take (MOST_BYTES + 1) bytes) text status
    → answers_to request bytes text status
of_front (Run seed count) bytes text status answer = rw (same_job seed count bytes) at answer
of_front Check bytes text status answer = rw (same_object bytes) at answer
of_front Asm bytes text status answer = assembly_of_front bytes text status answer

-- what answers the bytes that were read answers the reader
pub answers_reader : (request : Request) (known : Option (List ℕ)) (input text : List ℕ) (status : ℕ)
    → IfSome known (λ bytes. input ≡ take (MOST_BYTES + 1) bytes)
    → answers_to request input text status → AnswersReader (answers_to request) known text status
answers_reader request None input text status h answer = (input, tt, answer)
answers_reader request (Some bytes) input text status h answer =
    (bytes, refl, of_front request bytes text status (subst (λ bs. answers_to request bs text status) h answer))
