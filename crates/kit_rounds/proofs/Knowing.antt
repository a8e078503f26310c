-- What follows from the rule, and what a federate knows.
use Rattle.std.proofs.Common.{◌≡◌, ℕ, zero, suc, ◌+◌, ◌<◌, ◌≤◌, inl, inr, Bool, true, List, [], ◌∷◌, length, get_or, arith, refl, sym, ap, subst, ◌∙◌, length-append, eq-eqb}
use Rattle.std.specs.List.{count_by}
use Rattle.std.specs.Prelude.{slice_index_or, ◌==◌, ◌&&◌}
use Rattle.std.proofs.lemmas.List.{get_or_append_left, get_or-set_same, get_or-set_other}
use Rattle.std.proofs.lemmas.List.Sums.{sum_by-cons, sum_by-append}
use Rattle.kit_model.specs.declared.share.Share.{Share}
use Rattle.kit_rounds.specs.declared.contribution.Contribution.{Contribution}
use Rattle.kit_rounds.specs.Ledgers.{Stamp, Ledger, nothing, blank, at_round}
use Rattle.kit_rounds.specs.Channels.{same_stamp, stamps_with}
use Rattle.kit_rounds.specs.Rounds.{HasContributed, result_of, run_of}
use Rattle.kit_rounds.specs.Rule.{RoundRule}
use Rattle.kit_rounds.specs.Laws.{LowIsGreatest, BoundsRise, ColoursAreNear, CopiesAreNear, OpensNext, OpensAtFirst, OpensWithResult, RunIsKnown, NextContributionsKeep, ContributionsLast, ResultsLast, OthersAreUnreceived, RestIsUnreceived, StepsInLists}
use Rattle.kit_rounds.proofs.Stamps.{one_if, weight, count_with}
use Rattle.kit_rounds.proofs.Lists.{counted_is}
use Rattle.kit_rounds.proofs.Results.{run_ended, run_within, same_runs, same_result, result_low_le, result_low_greatest}
use Rattle.kit_rounds.proofs.Colours.{colour_near}
use Rattle.kit_rounds.proofs.Contributing.{contributions_keep}
use Rattle.kit_rounds.proofs.Closing.{full_rounds_close}

pub low_is_greatest : LowIsGreatest
low_is_greatest n k v ledgers some =
    let share : ℕ → Share = λ j. (at_round (ledgers j) k).share in
    (λ h. result_low_greatest share n v (omega arith) h, λ h j lt. omega (arith, h, result_low_le share n j lt))

contributed_to : (n done j l : ℕ) (ledgers : ℕ → Ledger) → RoundRule n ledgers done → j < n → l < done → HasContributed (ledgers j) l
contributed_to n done j l ledgers rule lt less = elim (rule.rounds.counted j lt) [ inl e ↦ omega (arith, e) | inr e ↦ omega (arith, e) ]

pub bounds_rise : BoundsRise
bounds_rise n done k l ledgers some rule kl ld first second =
    result_low_greatest (λ j. (at_round (ledgers j) l).share) n (result_of n ledgers k).low (omega arith)
    (λ j lt.
    let has = contributed_to n done j l ledgers rule lt ld in
    (rule.lasting k (omega arith) first).lows j l lt has
    (omega (arith, rule.rounds.runs j l lt has, run_ended (result_of n ledgers) k first, run_within (result_of n ledgers) (suc k) l (omega arith))))

pub colours_are_near : ColoursAreNear
colours_are_near n done i j ledgers rule here there =
    omega (arith, (colour_near n ledgers done i rule.rounds here).0, (colour_near n ledgers done j rule.rounds there).1)

pub copies_are_near : CopiesAreNear
copies_are_near n done i j s ledgers rule here there un =
    let newest : s.colour ≤ run_of n ledgers done = counted_is (λ t. t.colour ≤ run_of n ledgers done) j s (ledgers i).posted (rule.newest i here) (omega (arith, un)) in
    omega (arith, newest, (colour_near n ledgers done j rule.rounds there).1)

pub opens_next : OpensNext
opens_next n done i ledgers rule here least =
    elim (rule.rounds.counted i here) [
      | inl e ↦ subst (RoundRule n ledgers) (sym e) rule
      | inr e ↦ subst (RoundRule n ledgers) (sym e) (full_rounds_close n done ledgers rule (λ j lt. omega (arith, least j lt, e)))
    ]

pub opens_at_first : OpensAtFirst
opens_at_first n done i ledgers rule here none =
    subst (RoundRule n ledgers) none (opens_next n done i ledgers rule here (λ j lt. omega (arith, none)))

pub opens_with_result : OpensWithResult
opens_with_result n done i k ledgers rule here last all =
    subst (RoundRule n ledgers) last (opens_next n done i ledgers rule here (λ j lt. omega (arith, last, all j lt)))

pub run_is_known : RunIsKnown
run_is_known n k ledgers results h = same_runs results (result_of n ledgers) k h

pub next_contributions_keep : NextContributionsKeep
next_contributions_keep n done i c ledgers after results rule here changed least known in_run gives =
    let k = length (ledgers i).contributions in
    contributions_keep n i k c ledgers after (opens_next n done i ledgers rule here least) here changed refl (in_run ∙ run_is_known n k ledgers results known) gives

pub contributions_last : ContributionsLast
contributions_last j k ledgers after more e has = (
  omega (arith, ap length e, length-append (ledgers j).contributions more),
  ap (λ cs. slice_index_or cs k nothing) e ∙ get_or_append_left (ledgers j).contributions more nothing k has,
)

pub results_last : ResultsLast
results_last n k ledgers after some full longer =
    same_result n (λ j. (at_round (after j) k).share) (λ j. (at_round (ledgers j) k).share) some
    (λ j lt. ap (λ (x : Contribution). x.share) (contributions_last j k ledgers after (longer j lt).0 (longer j lt).1 (full j lt)).1)

-- each stamp of a list is counted there
counted_there : (ss : List Stamp) (k : ℕ) (d : Stamp) → k < length ss → 0 < count_by (λ t. same_stamp t (get_or ss k d)) ss
counted_there [] k d lt = absurd (omega arith)
counted_there (s ∷ ss) zero d lt =
    let itself : same_stamp s s ≡ true = ap (λ b. b && (s.time == s.time)) (eq-eqb s.colour s.colour refl) ∙ eq-eqb s.time s.time refl in
    omega (arith, sum_by-cons (weight (λ t. same_stamp t s)) s ss, ap one_if itself)
counted_there (s ∷ ss) (suc k) d lt =
    omega (arith, sum_by-cons (weight (λ t. same_stamp t (get_or ss k d))) s ss, counted_there ss k d (omega arith))

pub others_are_unreceived : OthersAreUnreceived
others_are_unreceived ledgers i j others h =
    (λ s. omega (arith, h s), λ k d lt. omega (arith, h (get_or others k d), counted_there others k d lt))

pub rest_is_unreceived : RestIsUnreceived
rest_is_unreceived ledgers i j others e =
    others_are_unreceived ledgers i j others
    (λ s.
    let same : Stamp → Bool = λ t. same_stamp t s in
    count_with same j (ledgers i).posted ∙ ap (count_by same) e ∙ sum_by-append (weight same) (stamps_with i (ledgers j).received) others
    ∙ ap (λ m. m + count_by same others) (sym (count_with same i (ledgers j).received)))

pub steps_in_lists : StepsInLists
steps_in_lists ledgers i l lt =
    (record { others = λ j ne. get_or-set_other ledgers i j l blank ne }, get_or-set_same ledgers i l blank lt)
