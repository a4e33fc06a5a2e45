use Rattle.std.proofs.Common.{◌≡◌, ℕ, List, [], ◌∷◌, Ok}
use Rattle.gw_fields.specs.Fields.{byte_read}
use Rattle.gw_code_bytes.proofs.instructions.InstructionSpelledCodeFormat.read.Goals as goal

-- the first byte, and the others
first_byte : (bytes : List ℕ) (x : ℕ × List ℕ) → byte_read bytes ≡ Ok x → bytes ≡ x.0 ∷ x.1
first_byte [] x e = absurd cc
first_byte (b ∷ rest) x e = cc

pub returns-in-Some : goal.returns-in-Some
returns-in-Some c =
    let rest = c.in_ok-tag.rest.now in
    rw (first_byte c.args.bytes.now (c.in_ok-tag.tag, rest) c.in_ok-tag.ensures) (c.in-Some.ensures rest)
