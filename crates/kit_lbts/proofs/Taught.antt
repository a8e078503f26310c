-- Who has taken in all places has the result of the round.
use Rattle.std.proofs.Common.{◌≡◌, ℕ, ◌+◌, ◌-◌, ◌<◌, ◌≤◌, inl, inr, List, length, get_or, arith, sym, ap, ◌∙◌, subst}
use Rattle.std.proofs.lemmas.Bool.{cases_lt}
use mathlib.Core.Option.{some}
use lib.ListN.{get_elem?}
use Rattle.kit_ground.specs.declared.place.Place.{Place}
use Rattle.kit_ground.proofs.Lists.{at_inside}
use Rattle.kit_rounds.specs.Ledgers.{Ledger, nothing, at_round}
use Rattle.kit_rounds.specs.Rounds.{HasContributed, result_of, EndsRun}
use Rattle.kit_rounds.specs.Rule.{IsBound}
use Rattle.kit_rounds.proofs.Opening.{equal_sums_bound}
use Rattle.kit_lbts.specs.declared.view.LbtsView.{LbtsView}
use Rattle.kit_lbts.specs.Promises.{ledgers_of}
use Rattle.kit_lbts.specs.Reduction.{sources, share_with_taken}
use Rattle.kit_lbts.specs.Registers.{shares_at, Learnt}
use Rattle.kit_lbts.specs.Progress.{own_share}
use Rattle.kit_lbts.specs.Rule.{RoundsHold}
use Rattle.kit_lbts.specs.ReductionLaws.{AreValues}
use Rattle.kit_lbts.specs.LookLaws.{AllTaughtIsResult}
use Rattle.kit_lbts.proofs.Covering.{covers}
use Rattle.kit_lbts.proofs.Gathering.{all_is_result}
use Rattle.kit_lbts.proofs.RoundSteps.{ledger_before}

module _ (places : List (Place LbtsView)) (j : ℕ) (p : Place LbtsView) (at : get_elem? places j ≡ some p) (few : length places ≤ 16) (rounds : RoundsHold places) where
  abbrev n : ℕ
  n = length places

  abbrev ledgers : ℕ → Ledger
  ledgers = ledgers_of places

  abbrev k : ℕ
  k = length p.client.results

  j_in : j < n
  j_in = at_inside places j p at

  module _ (learnt : Learnt n ledgers j p) (way : length p.client.contributions ≡ k + 1) (all : length p.client.taken ≡ length (sources p.client.scheme n j)) where
    -- all have contributed
    pub everybody_did : (i : ℕ) → i < n → HasContributed (ledgers i) k
    everybody_did i lt = elim (covers p.client.scheme n j i j_in few lt) [
      | inl e ↦
          let own : length (ledgers j).contributions ≡ k + 1 = ap (λ (l : Ledger). length l.contributions) (ledger_before places j p p at) ∙ way in
          subst (λ x. HasContributed (ledgers x) k) (sym e) (omega (arith, own))
      | inr c ↦ (learnt.taken c.place (omega (arith, all, c.within))).made i lt c.takes
    ]

    own_is : own_share p.client ≡ shares_at ledgers k j
    own_is =
        let last : length p.client.contributions - 1 ≡ k = omega (arith, way) in
        ap (λ m. (get_or p.client.contributions m nothing).share) last ∙ sym (ap (λ (l : Ledger). (at_round l k).share) (ledger_before places j p p at))

    values : AreValues p.client.scheme n j (shares_at ledgers k) p.client.taken
    values = record { few = learnt.few; each = λ l lt. (learnt.taken l lt).is }

    pub result_is : share_with_taken p.client.scheme n j (own_share p.client) p.client.taken ≡ result_of n ledgers k
    result_is = ap (λ own. share_with_taken p.client.scheme n j own p.client.taken) own_is ∙ all_is_result p.client.scheme n j (shares_at ledgers k) p.client.taken j_in few values all

    pub bound_is : EndsRun n ledgers k → IsBound n ledgers (result_of n ledgers k).low
    bound_is ended = elim (cases_lt k rounds.0) [
      | inl less ↦ rounds.1.bound k less ended
      | inr ge ↦
          let same : k ≡ rounds.0 = elim (rounds.1.rounds.counted j j_in) [ inl e ↦ omega (arith, e, everybody_did j j_in, ge) | inr e ↦ omega (arith, e, everybody_did j j_in, ge) ] in
          subst (λ d. ((i : ℕ) → i < n → HasContributed (ledgers i) d) → EndsRun n ledgers d → IsBound n ledgers (result_of n ledgers d).low) (sym same)
          (equal_sums_bound n rounds.0 ledgers rounds.1) everybody_did ended
    ]

pub all_taught_is_result : AllTaughtIsResult
all_taught_is_result = λ places j p at few rounds learnt way all.
    (result_is places j p at few rounds learnt way all, everybody_did places j p at few rounds learnt way all, bound_is places j p at few rounds learnt way all)
