-- A federate's colour and the run of its next round: the colour is no greater than the number of rounds to which it
-- contributed, and the run is the colour or the one after it.
use Rattle.std.proofs.Common.{◌≡◌, ℕ, zero, suc, ◌+◌, ◌-◌, ◌<◌, ◌≤◌, ⊎_elim, length, ap, arith}
use Rattle.std.proofs.lemmas.Bool.{cases_lt}
use Rattle.kit_ground.specs.declared.place.Place.{Place}
use Rattle.kit_ground.proofs.Lists.{at_inside}
use Rattle.kit_model.specs.declared.share.Share.{Share}
use Rattle.kit_rounds.specs.Ledgers.{Ledger, last_run}
use Rattle.kit_rounds.specs.Rounds.{RoundsAt, result_of, run_after, run_of}
use Rattle.kit_rounds.proofs.Colours.{colour_is, colour_none}
use Rattle.kit_rounds.proofs.Results.{run_next, same_runs}
use Rattle.kit_lbts.specs.declared.view.LbtsView.{LbtsView}
use Rattle.kit_lbts.specs.Promises.{ledger_of, ledgers_of, next_run, result_at}
use Rattle.kit_lbts.specs.SeatLaws.{IsInWorld}
use Rattle.kit_lbts.proofs.GrantAgreement.{without_agreement}
use Rattle.kit_lbts.proofs.RoundSteps.{ledger_before}

abbrev P : Type 0
P = Place LbtsView

pub runs_few : (results : ℕ → Share) (k : ℕ) → run_after results k ≤ k + 1
runs_few results zero = omega arith
runs_few results (suc k) = omega (arith, (run_next results k).1, runs_few results k)

colours_few : (n : ℕ) (ledgers : ℕ → Ledger) (done j : ℕ) → RoundsAt n ledgers done → j < n → (ledgers j).colour ≤ length (ledgers j).contributions
colours_few n ledgers done j rounds lt =
    let count : ℕ = length (ledgers j).contributions in
    ⊎_elim
    (λ (some_ : 0 < count). let is = colour_is n ledgers done j (count - 1) rounds lt (omega arith) in let few = runs_few (result_of n ledgers) (count - 1) in omega arith)
    (λ (none : count ≤ 0). let is = colour_none n ledgers done j rounds lt (omega arith) in omega arith)
    (cases_lt 0 count)

pub colour_few : (p : P) → IsInWorld p → last_run p.client.contributions ≤ length p.client.contributions
colour_few p (m, places, w) =
    let x = without_agreement p m places w in
    let me : ℕ = p.own.number in
    let few = colours_few (length places) (ledgers_of places) x.client.rounds.0 me x.client.rounds.1.rounds (at_inside places me p x.here) in
    let is : ledgers_of places me ≡ ledger_of p = ledger_before places me p p x.here in
    let colour : (ledgers_of places me).colour ≡ last_run p.client.contributions = ap (λ (y : Ledger). y.colour) is in
    let count : length (ledgers_of places me).contributions ≡ length p.client.contributions = ap (λ (y : Ledger). length y.contributions) is in
    omega arith

-- the next run is the federate's colour or the one after it
pub runs_near : (p : P) → IsInWorld p → length p.client.contributions ≡ length p.client.results
    → (last_run p.client.contributions ≤ next_run p.client) × (next_run p.client ≤ last_run p.client.contributions + 1)
runs_near p (m, places, w) level =
    let x = without_agreement p m places w in
    let me : ℕ = p.own.number in
    let before = ledger_before places me p p x.here in
    let learnt = (x.client.each me p x.here).learnt in
    let count : length (ledgers_of places me).contributions ≡ length p.client.contributions = ap (λ (l : Ledger). length l.contributions) before in
    let colour : (ledgers_of places me).colour ≡ last_run p.client.contributions = ap (λ (l : Ledger). l.colour) before in
    let same = same_runs (result_at p.client) (result_of (length places) (ledgers_of places)) (length p.client.contributions) (λ l lt. (learnt.results l (omega (arith, lt, level))).0) in
    let near = by (length places) (ledgers_of places) x.client.rounds.0 me (length p.client.contributions) x.client.rounds.1.rounds (at_inside places me p x.here) count in
    (omega (arith, near.0, same, colour), omega (arith, near.1, same, colour))
  where
    by : (n : ℕ) (ledgers : ℕ → Ledger) (done j c : ℕ) → RoundsAt n ledgers done → j < n → length (ledgers j).contributions ≡ c → ((ledgers j).colour ≤ run_of n ledgers c) × (run_of n ledgers c ≤ (ledgers j).colour + 1)
    by n ledgers done j zero rounds lt e = let none = colour_none n ledgers done j rounds lt e in (omega (arith, none), omega (arith, none))
    by n ledgers done j (suc m) rounds lt e =
        let is = colour_is n ledgers done j m rounds lt e in
        let next = run_next (result_of n ledgers) m in
        (omega (arith, is, next.0), omega (arith, is, next.1))
