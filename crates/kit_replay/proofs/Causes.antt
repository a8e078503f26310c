-- What the causes of bad ends tell of the federation.
use Rattle.std.proofs.Common.{◌≡◌, ◌≢◌, ℕ, ◌<◌, List, [], ◌∷◌, length, refl, arith, ⊎_elim}
use Rattle.std.proofs.lemmas.List.Elements.{All-contains}
use Rattle.kit_base.specs.declared.message.Message.{Message}
use Rattle.kit_ground.specs.declared.place.Place.{Place}
use Rattle.kit_rules.specs.Step.{no_message}
use Rattle.kit_parts.specs.OwnLaws.{Spends}
use Rattle.kit_lbts.specs.declared.view.LbtsView.{LbtsView}
use Rattle.kit_lbts.specs.AgreementLaws.{IsShort}
use Rattle.kit_lbts.specs.SeatLaws.{IsInWorld, PlaceTells}
use Rattle.kit_lbts.proofs.NextBlocks.{spent_at_grants, spent_at_starts}
use Rattle.kit_lbts.proofs.SeatFacts.{places_tell}
use Rattle.kit_lbts.proofs.Shortage.{full_pools_are_short}
use Rattle.kit_node.specs.Mirrors.{IsCalm}
use Rattle.kit_node.specs.Seats.{LacksBuffer, SpendsNumbers}
use Rattle.kit_node.specs.Sending.{first_waiting}
use Rattle.kit_replay.specs.Endings.{IsShortOf}

abbrev P : Type 0
P = Place LbtsView

some_there : (ms : List Message) → ms ≢ [] → 0 < length ms
some_there [] some_ = absurd (some_ refl)
some_there (m ∷ ms) some_ = omega arith

-- a federate that lacks a buffer has fewer than it needs
pub is_short : (number : ℕ) (q : P) → IsInWorld q → LacksBuffer number q → IsCalm q.client → IsShortOf q.client.federation q.own.number number
is_short number q w lacks calm =
    let short : IsShort q = full_pools_are_short q lacks.waits calm.sending lacks.held_up w.0 w.1 w.2 in
    let t : PlaceTells q = places_tell q w in
    let lt : 0 < length q.client.outbox = some_there q.client.outbox lacks.waits in
    record {
      needs = let n = short.needs in let b = t.buffers in omega arith;
      message = first_waiting q;
      sent = short.sent 0 no_message lt;
      sender = All-contains (λ (m : Message). m.sender ≡ q.own.number) q.client.state.sends (first_waiting q) t.sends.own (t.sends.waiting 0 no_message lt);
      number_is = lacks.first;
      transported = t.sends.transported 0 no_message lt;
    }

-- one whose numbers do not suffice spends them in the simulation
pub is_spent : (q : P) → IsInWorld q → SpendsNumbers q → Spends q.client.federation q.own.number
is_spent q w spends = ⊎_elim
    (λ s. spent_at_starts q s.new w.0 w.1 w.2 s.past)
    (λ s. spent_at_grants q s.may w.0 w.1 w.2 s.past)
    spends
