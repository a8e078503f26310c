-- What the rule says of each federate, each two and the rounds.
use Rattle.std.proofs.Common.{◌≡◌, ℕ, zero, suc, ◌+◌, ◌<◌, ◌≤◌, ◌⊎◌, inl, inr, ⊎_elim, List, length, map, Option, Some, None, IfSome, refl, sym, ap, ◌∙◌, subst, arith}
use Rattle.std.specs.List.{count_by, Contains}
use Rattle.std.specs.Prelude.{slice_index}
use Rattle.std.specs.Int.{bit_at}
use Rattle.std.proofs.lemmas.Bool.{cases_lt}
use Rattle.std.proofs.lemmas.List.Elements.{All-contains, All-contains_itself, All-weaker}
use Rattle.std.proofs.lemmas.Nat.Bits.{bit_at-lt}
use mathlib.Core.Option.{some}
use lib.ListN.{get_elem?}
use Rattle.kit_ground.specs.declared.place.Place.{Place}
use Rattle.kit_ground.specs.Memory.{Memory}
use Rattle.kit_ground.proofs.Lists.{at_inside}
use Rattle.kit_model.specs.declared.share.Share.{Share}
use Rattle.kit_model.specs.Journals.{now_of}
use Rattle.kit_parts.specs.Fronts.{part, seat_after}
use Rattle.kit_parts.specs.OwnLaws.{IsReached}
use Rattle.kit_parts.proofs.Ends.{ends_are_whole_law}
use Rattle.kit_parts.proofs.Reaching.{fronts_are_reached_law}
use Rattle.kit_queue.specs.declared.entry.Entry.{Entry}
use Rattle.kit_rounds.specs.Ledgers.{Ledger}
use Rattle.kit_rounds.specs.Rounds.{EndsRun}
use Rattle.kit_rounds.specs.Rule.{RoundRule}
use Rattle.kit_rounds.proofs.Closing.{full_rounds_close}
use Rattle.kit_rounds.proofs.Knowing.{bounds_rise, colours_are_near}
use Rattle.kit_rounds.proofs.Leasts.{least_is_kept, old_copies_balance}
use Rattle.kit_rules.specs.declared.table.Request.{Request}
use Rattle.kit_rules.specs.Federation.{IsFederation}
use Rattle.kit_rules.specs.Parts.{Parts}
use Rattle.kit_rules.specs.Simulation.{Block, Seat}
use Rattle.kit_lbts.specs.declared.view.LbtsView.{LbtsView}
use Rattle.kit_lbts.specs.declared.view.Noted.{Noted}
use Rattle.kit_lbts.specs.Agreement.{Agrees, AgreeingRule, blocks_in}
use Rattle.kit_lbts.specs.AgreementLaws.{IsComplete}
use Rattle.kit_lbts.specs.Letters.{letter_in}
use Rattle.kit_lbts.specs.Promises.{ledgers_of}
use Rattle.kit_lbts.specs.Rule.{FederateRule}
use Rattle.kit_lbts.specs.Seats.{waits_in}
use Rattle.kit_lbts.specs.Views.{is_in_hand, is_spent, time_of}
use Rattle.kit_lbts.specs.WorldLaws as world
use Rattle.kit_lbts.specs.WorldLaws.{IsCurrent, StandsAsSimulated}
use Rattle.kit_lbts.proofs.Bounds.{bound_from, known_bounds_bound}
use Rattle.kit_lbts.proofs.Hands.{count_has, waits_here}

abbrev P : Type 0
P = Place LbtsView

-- ---- a federate of a world
module _ (m : Memory) (places : List P) (rule : AgreeingRule m places) (j : ℕ) (p : P) (at : get_elem? places j ≡ some p) where
  of : FederateRule m places j p
  of = rule.floor.each j p at

  agrees : Agrees j p.client
  agrees = rule.agree j p at

  pub sound : IsFederation p.client.federation
  sound = subst IsFederation (sym (rule.floor.common.each j p at).0) rule.floor.common.sound

  pub within : j < length p.client.federation.federates
  within = subst (λ (x : Parts). j < length x.federates) (sym (rule.floor.common.each j p at).0) (subst (λ (n : ℕ). j < n) rule.floor.common.many (at_inside places j p at))

  stands : StandsAsSimulated j p.client
  stands = record {
    new = agrees.new;
    seat = λ r is.
        let reached : IsReached p.client.federation j (blocks_in j p.client) = fronts_are_reached_law p.client.federation sound j within (blocks_in j p.client) agrees.front in
        (reached.grants, reached.blocks, reached.seat ∙ agrees.seat r is);
  }

  complete : p.client.federation.end ≤ time_of p.client → IsComplete j p.client
  complete end = by p.client.request refl
    where
      by : (o : Option Request) → p.client.request ≡ o → IsComplete j p.client
      by None e =
          let zero_time : time_of p.client ≡ 0 = ap (λ (es : List Noted). now_of (map (λ (x : Noted). x.entry) es)) (of.sends.new e).2 in
          let one = sound.end in
          absurd (omega arith)
      by (Some r) e =
          let f : Parts = p.client.federation in
          let late : f.end ≤ (seat_after f j (blocks_in j p.client)).now = subst (λ (s : Seat). f.end ≤ s.now) (sym (agrees.seat r e)) end in
          let all : blocks_in j p.client ≡ part f j = ends_are_whole_law f sound j within (blocks_in j p.client) agrees.front late in
          record {
            blocks = all;
            vars = ap (λ (s : Seat). s.state.vars) (sym (agrees.seat r e)) ∙ ap (λ (bs : List Block). (seat_after f j bs).state.vars) all;
          }

pub blocks_are_a_front : world.BlocksAreAFront
blocks_are_a_front m places rule j p at = let h = rule.agree j p at in (h.whole, h.front)

pub delivered_was_received : world.DeliveredWasReceived
delivered_was_received m places rule j p at = (of m places rule j p at).heard.came

pub states_are_simulated : world.StatesAreSimulated
states_are_simulated m places rule j p at = stands m places rule j p at

pub outboxes_stand_behind : world.OutboxesStandBehind
outboxes_stand_behind m places rule j p at = (of m places rule j p at).sends.behind

pub sends_are_posted : world.SendsArePosted
sends_are_posted m places rule j p at = (of m places rule j p at).sends.each

pub waiting_is_late : world.WaitingIsLate
waiting_is_late m places rule j p at = (of m places rule j p at).sends.late

pub queues_are_pending : world.QueuesArePending
queues_are_pending m places rule j p at = (of m places rule j p at).queue.is

pub settled_are_below : world.SettledAreBelow
settled_are_below m places rule j p at = (of m places rule j p at).queue.settled

pub orphans_are_retracted : world.OrphansAreRetracted
orphans_are_retracted m places rule j p at = (of m places rule j p at).heard.orphans

pub copies_are_in_one_place : world.CopiesAreInOnePlace
copies_are_in_one_place m places rule i j p q ati atj = rule.floor.ways i j p q ati atj

pub messages_are_charged_once : world.MessagesAreChargedOnce
messages_are_charged_once m places rule j p at = (of m places rule j p at).sends.once

pub counted_are_letters : world.CountedAreLetters
counted_are_letters m places rule j p at = (of m places rule j p at).letters.counted

pub half_posted_are_first : world.HalfPostedAreFirst
half_posted_are_first m places rule j p at k owed = let h = (of m places rule j p at).letters in h.sending k (h.others k owed)

pub ended_are_complete : world.EndedAreComplete
ended_are_complete m places rule j p at end = complete m places rule j p at end

held : (h a b c : ℕ) → h ≡ a + b + c → h < 2 → 0 < b → h ≡ 1
held h a b c e lt pos = omega arith

pub entries_lie_in_buffers : world.EntriesLieInBuffers
entries_lie_in_buffers m places rule i j p q ati atj =
    All-weaker (Contains q.client.queue) (λ (e : Entry). e.message.sender ≡ i → IfSome e.buffer (λ k. (bit_at (slice_index q.own.stock.holds i) k ≡ 1) × ((letter_in p.client k).message ≡ e.message)))
    (λ e has from. by e has from e.buffer refl) q.client.queue (All-contains_itself q.client.queue)
  where
    by : (e : Entry) → Contains q.client.queue e → e.message.sender ≡ i → (o : Option ℕ) → e.buffer ≡ o
        → IfSome o (λ k. (bit_at (slice_index q.own.stock.holds i) k ≡ 1) × ((letter_in p.client k).message ≡ e.message))
    by e has from None is = tt
    by e has from (Some k) is =
        let rule_q = of m places rule j q atj in
        let inside = All-contains (λ (x : Entry). (x.message.sender < q.own.federates) × IfSome x.buffer (λ b. b < q.own.buffers)) q.client.queue e rule_q.holdings.queue has in
        let li : i < q.own.federates = subst (λ (n : ℕ). n < q.own.federates) from inside.0 in
        let lk : k < q.own.buffers = subst (λ (o : Option ℕ). IfSome o (λ b. b < q.own.buffers)) is inside.1 in
        let some_wait : 0 < count_by (waits_in i k) q.client.queue = count_has (waits_in i k) q.client.queue e has (waits_here i k e from is) in
        let lies = All-contains (λ (x : Entry). x.message.sender ≡ i → IfSome x.buffer (λ b. (letter_in p.client b).message ≡ x.message)) q.client.queue e (rule.floor.ways i j p q ati atj).lies has from in (
          held (bit_at (slice_index q.own.stock.holds i) k) (count_by (is_in_hand i k) q.client.in_hand) (count_by (waits_in i k) q.client.queue) (count_by (is_spent i k) q.client.spent)
              (rule_q.holdings.each i k li lk) (bit_at-lt (slice_index q.own.stock.holds i) k) some_wait,
          subst (λ (o : Option ℕ). IfSome o (λ b. (letter_in p.client b).message ≡ e.message)) is lies,
        )

-- ---- the rounds
-- either one has done no more than so many, or all have done one more
first_open : (n : ℕ) (f : ℕ → ℕ) (d : ℕ) → ((j : ℕ) → j < n → (f j ≡ d) ⊎ (f j ≡ suc d)) → ((j : ℕ) × (j < n) × (f j ≡ d)) ⊎ ((j : ℕ) → j < n → f j ≡ suc d)
first_open zero f d each = inr (λ j lt. absurd (omega arith))
first_open (suc n) f d each = ⊎_elim
    (λ (h : (j : ℕ) × (j < n) × (f j ≡ d)). inl (h.0, omega (arith, h.1), h.2))
    (λ (h : (j : ℕ) → j < n → f j ≡ suc d). ⊎_elim
    (λ (e : f n ≡ d). inl (n, omega arith, e))
    (λ (e : f n ≡ suc d). inr (λ j lt. ⊎_elim
    (λ (less : j < n). h j less)
    (λ (ge : n ≤ j). let same : n ≡ j = omega arith in subst (λ (x : ℕ). f x ≡ suc d) same e)
    (cases_lt j n)))
    (each n (omega arith)))
    (first_open n f d (λ j lt. each j (omega arith)))

-- where none has done fewer, those of a number before have contributed to each round before it
current_at : (n : ℕ) (ledgers : ℕ → Ledger) (done : ℕ) → ((j : ℕ) → j < n → (done ≤ length (ledgers j).contributions) × (length (ledgers j).contributions ≤ done + 1))
    → (j : ℕ) × (j < n) × (length (ledgers j).contributions ≡ done) → IsCurrent n ledgers done
current_at n ledgers done each lacking = record { before = λ j k lj lk. omega (arith, lk, (each j lj).0); after = λ j lj. (each j lj).1; lacking = lacking }

current_by : (n d : ℕ) (ledgers : ℕ → Ledger) → 0 < n → RoundRule n ledgers d → (done : ℕ) × IsCurrent n ledgers done
current_by n d ledgers there rule = ⊎_elim
    (λ (h : (j : ℕ) × (j < n) × (length (ledgers j).contributions ≡ d)).
    (d, current_at n ledgers d (λ j lj. ⊎_elim (λ (e : length (ledgers j).contributions ≡ d). (omega (arith, e), omega (arith, e))) (λ (e : length (ledgers j).contributions ≡ suc d). (omega (arith, e), omega (arith, e))) (rule.rounds.counted j lj)) h))
    (λ (h : (j : ℕ) → j < n → length (ledgers j).contributions ≡ suc d).
    (suc d, current_at n ledgers (suc d) (λ j lj. (omega (arith, h j lj), omega (arith, h j lj))) (0, there, h 0 there)))
    (first_open n (λ j. length (ledgers j).contributions) d rule.rounds.counted)

-- the rule holds of the rounds up to the one that is current
pub rule_of_current : (n : ℕ) (ledgers : ℕ → Ledger) (done : ℕ) → (d : ℕ) × RoundRule n ledgers d → IsCurrent n ledgers done → RoundRule n ledgers done
rule_of_current n ledgers done (d, rule) current = ⊎_elim
    (λ (e : length (ledgers current.lacking.0).contributions ≡ d). subst (RoundRule n ledgers) (sym e ∙ current.lacking.2) rule)
    (λ (e : length (ledgers current.lacking.0).contributions ≡ suc d).
    let is : suc d ≡ done = sym e ∙ current.lacking.2 in
    subst (RoundRule n ledgers) is (full_rounds_close n d ledgers rule (λ j lj. current.before j d lj (omega (arith, is)))))
    (rule.rounds.counted current.lacking.0 current.lacking.1)

module _ (m : Memory) (places : List P) (rule : AgreeingRule m places) where
  some_place : 0 < length places
  some_place = omega (arith, rule.floor.common.many, rule.floor.common.sound.federates.count.0)

  at_current : (done : ℕ) → IsCurrent (length places) (ledgers_of places) done → RoundRule (length places) (ledgers_of places) done
  at_current done current = rule_of_current (length places) (ledgers_of places) done rule.floor.rounds current

pub one_is_current : world.OneIsCurrent
one_is_current m places rule = current_by (length places) rule.floor.rounds.0 (ledgers_of places) (some_place m places rule) rule.floor.rounds.1

pub colours_differ_by_one : world.ColoursDifferByOne
colours_differ_by_one m places rule i j li lj = colours_are_near (length places) rule.floor.rounds.0 i j (ledgers_of places) rule.floor.rounds.1 li lj

pub contributions_are_faithful : world.ContributionsAreFaithful
contributions_are_faithful m places rule j k lj has = rule.floor.rounds.1.rounds.faithful j k lj has

pub old_copies_are_balanced : world.OldCopiesAreBalanced
old_copies_are_balanced m places rule done current = old_copies_balance (length places) done (ledgers_of places) (at_current m places rule done current)

pub ended_runs_bound : world.EndedRunsBound
ended_runs_bound m places rule done current k lk ended = (at_current m places rule done current).bound k lk ended

pub bounds_never_fall : world.BoundsNeverFall
bounds_never_fall m places rule done current k l lk ll ek el = bounds_rise (length places) done k l (ledgers_of places) (some_place m places rule) (at_current m places rule done current) lk ll ek el

pub least_holds : world.LeastHolds
least_holds m places rule j p at done current = least_is_kept (p.client.federation.end + 1) (length places) done (ledgers_of places) (at_current m places rule done current)

pub none_is_newer : world.NoneIsNewer
none_is_newer m places rule done current j lj = (at_current m places rule done current).newest j lj

-- ---- the words and the registers
pub counts_are_of_sets : world.CountsAreOfSets
counts_are_of_sets p m places w = w.floor.pool

pub registers_show : world.RegistersShow
registers_show m places rule j p at = (rule.floor.each j p at).registers

pub learnt_is_true : world.LearntIsTrue
learnt_is_true m places rule j p at = (rule.floor.each j p at).learnt

pub known_bound_is_of_a_run : world.KnownBoundIsOfARun
known_bound_is_of_a_run m places rule j p at = elim (bound_from 0 p.client.results) [
  | inl e ↦ inl e
  | inr h ↦
      let known = (rule.floor.each j p at).learnt.results h.round h.within in
      let ended : EndsRun (length places) (ledgers_of places) h.round = subst (λ (s : Share). s.out ≡ s.inn) known.0 h.equal in
      inr (h.round, known.1, ended, h.low ∙ ap (λ (s : Share). s.low) known.0)
]

pub known_bound_bounds : world.KnownBoundBounds
known_bound_bounds m places rule j p at = known_bounds_bound places j p at rule.floor.rounds (rule.floor.each j p at).learnt

pub grants_are_below : world.GrantsAreBelow
grants_are_below m places rule j p at = (rule.floor.each j p at).granting.below

pub clocks_show : world.ClocksShow
clocks_show m places rule j p at = (rule.floor.each j p at).registers.clock

pub journals_are_lawful : world.JournalsAreLawful
journals_are_lawful m places rule j p at = (rule.floor.each j p at).granting.lawful
