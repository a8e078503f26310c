-- The rounds, after one federate's ledger made a step.
use Rattle.std.proofs.Common.{◌≡◌, ℕ, ◌-◌, ◌<◌, ◌≤◌, inl, inr, List, length, map, arith, sym, ap, ◌∙◌, subst, subst₂}
use Rattle.std.specs.Prelude.{slice_set}
use Rattle.std.proofs.lemmas.Bool.{cases_lt}
use Rattle.std.proofs.lemmas.List.{length-set, length-map, map-set}
use mathlib.Core.Option.{some}
use lib.ListN.{get_elem?}
use Rattle.kit_ground.specs.declared.place.Place.{Place}
use Rattle.kit_ground.proofs.Lists.{at_inside, at_map_or}
use Rattle.kit_rounds.specs.Ledgers.{Ledger, IsChanged, blank, in_list}
use Rattle.kit_rounds.specs.Rounds.{run_after}
use Rattle.kit_rounds.specs.Rule.{RoundRule}
use Rattle.kit_rounds.specs.Steps.{Posts, Receives, Rises, Contributes}
use Rattle.kit_rounds.proofs.PostSteps.{posts_keep}
use Rattle.kit_rounds.proofs.ReceiptSteps.{receipts_keep}
use Rattle.kit_rounds.proofs.RiseSteps.{rises_keep}
use Rattle.kit_rounds.proofs.Knowing.{next_contributions_keep, steps_in_lists}
use Rattle.kit_lbts.specs.declared.view.LbtsView.{LbtsView}
use Rattle.kit_lbts.specs.Promises.{ledger_of, ledgers_of, result_at}
use Rattle.kit_lbts.specs.Rule.{RoundsHold}
use Rattle.kit_lbts.specs.RoundLaws.{PostsKeepRounds, ReceiptsKeepRounds, RisesKeepRounds, ContributionsKeepRounds}

module _ (places : List (Place LbtsView)) (j : ℕ) (p q : Place LbtsView) (at : get_elem? places j ≡ some p) where
  abbrev after : List (Place LbtsView)
  after = slice_set places j q

  pub within : j < length places
  within = at_inside places j p at

  -- its ledger before and after
  pub ledger_before : ledgers_of places j ≡ ledger_of p
  ledger_before = at_map_or ledger_of places j p blank at

  list_after : map ledger_of after ≡ slice_set (map ledger_of places) j (ledger_of q)
  list_after = map-set ledger_of places j q

  steps : IsChanged j (in_list (map ledger_of places)) (in_list (slice_set (map ledger_of places) j (ledger_of q))) × (in_list (slice_set (map ledger_of places) j (ledger_of q)) j ≡ ledger_of q)
  steps = steps_in_lists (map ledger_of places) j (ledger_of q) (omega (arith, within, length-map places ledger_of))

  pub ledger_after : ledgers_of after j ≡ ledger_of q
  ledger_after = ap (λ ls. in_list ls j) list_after ∙ steps.1

  pub changed : IsChanged j (ledgers_of places) (ledgers_of after)
  changed = subst (λ ls. IsChanged j (ledgers_of places) (in_list ls)) (sym list_after) steps.0

  -- a rule of as many federates
  as_many : (done : ℕ) → RoundRule (length places) (ledgers_of after) done → RoundsHold after
  as_many done rule = (done, subst (λ n. RoundRule n (ledgers_of after) done) (sym (length-set places j q)) rule)

  -- what is said of the two ledgers
  between : (R : Ledger → Ledger → Type 0) → R (ledger_of p) (ledger_of q) → R (ledgers_of places j) (ledgers_of after j)
  between R h = subst₂ R (sym ledger_before) (sym ledger_after) h

pub posts_keep_rounds : PostsKeepRounds
posts_keep_rounds places j p q c at rounds h =
    as_many places j p q at rounds.0
    (posts_keep (length places) j rounds.0 c (ledgers_of places) (ledgers_of (slice_set places j q)) rounds.1 (within places j p q at) (changed places j p q at) (between places j p q at (Posts (length places) c) h))

pub receipts_keep_rounds : ReceiptsKeepRounds
receipts_keep_rounds places i j p q s at there rounds un h =
    as_many places j p q at rounds.0
    (receipts_keep (length places) i j rounds.0 s (ledgers_of places) (ledgers_of (slice_set places j q)) rounds.1 there (within places j p q at) (changed places j p q at) un (between places j p q at (Receives i s) h))

pub rises_keep_rounds : RisesKeepRounds
rises_keep_rounds places j p q at rounds h =
    as_many places j p q at rounds.0
    (rises_keep (length places) j rounds.0 (ledgers_of places) (ledgers_of (slice_set places j q)) rounds.1 (within places j p q at) (changed places j p q at) (between places j p q at Rises h))

pub contributions_keep_rounds : ContributionsKeepRounds
contributions_keep_rounds places j p q c at rounds learnt same in_run h =
    let ledgers = ledgers_of places in
    let before = ledger_before places j p q at in
    let count : length (ledgers j).contributions ≡ length p.client.contributions = ap (λ (l : Ledger). length l.contributions) before in
    let least : (i : ℕ) → i < length places → length (ledgers j).contributions ≤ length (ledgers i).contributions = λ i lt.
    elim (cases_lt 0 (length p.client.results)) [
      | inl more ↦ omega (arith, count, same, (learnt.results (length p.client.results - 1) (omega arith)).1 i lt)
      | inr none ↦ omega (arith, count, same)
    ] in
    as_many places j p q at (length (ledgers j).contributions)
    (next_contributions_keep (length places) rounds.0 j c ledgers (ledgers_of (slice_set places j q)) (result_at p.client) rounds.1 (within places j p q at) (changed places j p q at)
    (λ i lt. least i lt)
    (λ l lt. (learnt.results l (omega (arith, lt, count, same))).0)
    (in_run ∙ ap (run_after (result_at p.client)) (sym count))
    (between places j p q at (Contributes c) h))
