-- The words of ends.
use Rattle.std.proofs.Common.{◌≡◌, ◌∙◌, ◌==◌, ◌+◌, ◌*◌, ◌<◌, ◌≢◌, false, ℕ, List, [], ◌∷◌, get_or, refl, sym, ap, lit<}
use Rattle.std.specs.Str.{bytes_eq}
use Rattle.std.proofs.lemmas.Bool.{true≢false}
use Rattle.std.proofs.lemmas.Slice.Eq.{bytes_eq-Decides}
use Rattle.std.specs.Prelude.{if◌then◌else◌}
use Rattle.gw_step.specs.declared.ends.End.{End}
use Rattle.gw_step.specs.declared.ends.End.TheVariants.{Done, Number, ZeroDivisor, NegativeTime, LoopLimit, NoMoreEvents, Budget, Live}
use Rattle.gw_scan.specs.declared.sim.Status.TheVariants.{Ended}
use Rattle.gw_report.specs.Report.{status_word}

-- the end of a word, by its first two bytes
end_by : ℕ → End
end_by n =
    if n == 17519 then Done
    else if n == 20085 then Number
    else if n == 23141 then ZeroDivisor
    else if n == 20069 then NegativeTime
    else if n == 19567 then LoopLimit
    else if n == 20079 then NoMoreEvents
    else if n == 17013 then Budget
    else Live

end_of : List ℕ → End
end_of word = end_by (get_or word 0 0 * 256 + get_or word 1 0)

end_of_word : (end : End) → end_of (status_word (Ended end)) ≡ end
unfolding end_by end_of
end_of_word Done = refl
end_of_word Number = refl
end_of_word ZeroDivisor = refl
end_of_word NegativeTime = refl
end_of_word LoopLimit = refl
end_of_word NoMoreEvents = refl
end_of_word Budget = refl
end_of_word Live = refl

-- no two ends have one word
pub same_end : (a b : End) → status_word (Ended a) ≡ status_word (Ended b) → a ≡ b
same_end a b is = sym (end_of_word a) ∙ ap end_of is ∙ end_of_word b

-- where an end stands among all
abbrev pub place_of : End → ℕ
place_of Done = 0
place_of Number = 1
place_of ZeroDivisor = 2
place_of NegativeTime = 3
place_of LoopLimit = 4
place_of NoMoreEvents = 5
place_of Budget = 6
place_of Live = 7

pub place_below : (end : End) → place_of end < 8
place_below Done = lit< tt
place_below Number = lit< tt
place_below ZeroDivisor = lit< tt
place_below NegativeTime = lit< tt
place_below LoopLimit = lit< tt
place_below NoMoreEvents = lit< tt
place_below Budget = lit< tt
place_below Live = lit< tt

abbrev pub all_ends : List End
all_ends = Done ∷ Number ∷ ZeroDivisor ∷ NegativeTime ∷ LoopLimit ∷ NoMoreEvents ∷ Budget ∷ Live ∷ []

pub at_place : (end : End) → get_or all_ends (place_of end) Done ≡ end
at_place Done = refl
at_place Number = refl
at_place ZeroDivisor = refl
at_place NegativeTime = refl
at_place LoopLimit = refl
at_place NoMoreEvents = refl
at_place Budget = refl
at_place Live = refl

-- where the word at a place is another, the end stands elsewhere
pub elsewhere : (i : ℕ) (end : End) (word : List ℕ) → bytes_eq (status_word (Ended (get_or all_ends i Done))) word ≡ false
    → word ≡ status_word (Ended end) → i ≢ place_of end
elsewhere i end word other is same =
    let there : get_or all_ends i Done ≡ end = ap (λ k. get_or all_ends k Done) same ∙ at_place end in
    true≢false (sym ((bytes_eq-Decides (status_word (Ended (get_or all_ends i Done))) word).1 (ap (λ e. status_word (Ended e)) there ∙ sym is)) ∙ other)
