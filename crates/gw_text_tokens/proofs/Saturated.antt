-- Where a number is cut at a limit after each digit, it is the whole number that is cut.
use Rattle.std.proofs.Common.{◌≡◌, ℕ, ◌+◌, ◌-◌, ◌*◌, ◌<◌, List, [], ◌∷◌, length, drop, get_or, min, arith, sym, ap, ◌∙◌, suc, drop-cons}
use Rattle.gw_text_tokens.specs.Numbers.{spelled_number}

pub cut_early : (limit before : ℕ) (digits : List ℕ) → min limit (spelled_number (min limit before) digits) ≡ min limit (spelled_number before digits)
cut_early limit before [] = omega arith
cut_early limit before (digit ∷ digits) =
    sym (cut_early limit (min limit before * 10 + (digit - 48)) digits)
    ∙ ap (λ n. min limit (spelled_number n digits)) (cut_once limit before (digit - 48))
    ∙ cut_early limit (before * 10 + (digit - 48)) digits
  where
    cut_once : (limit before digit : ℕ) → min limit (min limit before * 10 + digit) ≡ min limit (before * 10 + digit)
    cut_once limit before digit = omega arith

-- the next digit
pub next_digit : (limit value : ℕ) (digits : List ℕ) (i : ℕ) → i < length digits
    → min limit (spelled_number (min limit (min limit (value * 10) + (get_or digits i 0 - 48))) (drop (i + 1) digits))
    ≡ min limit (spelled_number value (drop i digits))
next_digit limit value digits i below =
    ap (λ n. min limit (spelled_number n (drop (i + 1) digits))) (cut_twice limit value (get_or digits i 0 - 48))
    ∙ cut_early limit (value * 10 + (get_or digits i 0 - 48)) (drop (i + 1) digits)
    ∙ ap (λ k. min limit (spelled_number (value * 10 + (get_or digits i 0 - 48)) (drop k digits))) (behind i)
    ∙ ap (λ ds. min limit (spelled_number value ds)) (sym (drop-cons digits i 0 below))
  where
    cut_twice : (limit value digit : ℕ) → min limit (min limit (value * 10) + digit) ≡ min limit (value * 10 + digit)
    cut_twice limit value digit = omega arith

    behind : (i : ℕ) → i + 1 ≡ suc i
    behind i = omega arith
