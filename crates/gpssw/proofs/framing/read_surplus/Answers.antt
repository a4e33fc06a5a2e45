use Rattle.std.proofs.Common.{◌≡◌, length, vec_len, arith}
use Rattle.gpssw.proofs.Entries.{read_one}
use Rattle.gpssw.proofs.framing.read_surplus.Goals as goal

pub returns-clause-entry : goal.returns-clause-entry
returns-clause-entry g c =
    let byte = c.in_ok-byte.byte in
    let count : length byte.items ≡ vec_len byte = omega (arith, byte.ok.0) in
    let read = c.in_ok-byte.ensures in
    rw c.is_empty.ensures (read_one _ _ byte.items (vec_len byte) count (omega (arith, count, read.within)) read.taken
    (λ none. read.end (omega (arith, count, none))))
