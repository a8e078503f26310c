-- A federate agrees with the sequential simulation. This is said of each federate by itself; what is on its way
-- then, and which bounds are known, follows from the rule of the floor.
use Rattle.std.specs.Prelude.{◌≡◌, ℕ, zero, suc, not, List, [], ◌∷◌, ◌++◌, replicate, slice_index_or, Option, Some, None}
use mathlib.Core.Option.{some}
use lib.ListN.{get_elem?}
use Rattle.kit_base.specs.declared.message.Message.{Message}
use Rattle.kit_ground.specs.declared.place.Place.{Place}
use Rattle.kit_ground.specs.Memory.{Memory}
use Rattle.kit_ground.specs.Rules as rules
use Rattle.kit_model.specs.declared.journal.JournalEntry.{JournalEntry}
use Rattle.kit_model.specs.declared.journal.JournalEntry.TheVariants.{Received, Delivered, Granted}
use Rattle.kit_model.specs.Journals.{lines_told}
use Rattle.kit_parts.specs.Fronts.{IsFront, Standing, seat_after}
use Rattle.kit_rules.specs.declared.table.Request.{Request}
use Rattle.kit_rules.specs.Parts.{federate_at}
use Rattle.kit_rules.specs.Simulation.{Block, Seat, block, lines_of}
use Rattle.kit_rules.specs.Step.{opening_state}
use Rattle.kit_lbts.specs.declared.view.Filled.{Filled}
use Rattle.kit_lbts.specs.declared.view.LbtsView.{LbtsView}
use Rattle.kit_lbts.specs.Views.{messages_delivered, entries_of, is_empty, messages_received, time_of}
use Rattle.kit_lbts.specs.Letters.{letter_in}
use Rattle.kit_lbts.specs.Seats.{left_of}
use Rattle.kit_lbts.specs.Ways.{copies_on_way, mark_in_mail}
use Rattle.kit_lbts.specs.Rule.{LbtsRule}

-- the grants of a journal, each with what was delivered since the one before; first these were delivered
abbrev pub blocks_from : ℕ → List Message → List JournalEntry → List Block
blocks_from j got [] = []
blocks_from j got (Received m ∷ es) = blocks_from j got es
blocks_from j got (Delivered granted m ∷ es) = blocks_from j (got ++ m ∷ []) es
blocks_from j got (Granted t ∷ es) = block j t got ∷ blocks_from j [] es

abbrev pub blocks_in : ℕ → LbtsView → List Block
blocks_in j v = blocks_from j [] (entries_of v)

-- what the federate has come to, as in the simulation
abbrev pub seat_of : Request → LbtsView → Seat
seat_of r v = record { now = time_of v; request = r; state = v.state; got = messages_delivered v }

-- the deliveries and grants of its journal are whole blocks, and those are the first of its part; and it has come
-- to what the start's rules and these blocks lead to
pub record Agrees (j : ℕ) (v : LbtsView) : Type 0 where
  pub new : v.request ≡ None → v.state ≡ opening_state (federate_at v.federation j)
  pub whole : lines_told j (entries_of v) ≡ lines_of (blocks_in j v)
  pub front : IsFront v.federation j (blocks_in j v)
  pub seat : (r : Request) → v.request ≡ Some r → seat_after v.federation j (blocks_in j v) ≡ seat_of r v

abbrev pub AllAgree : List (Place LbtsView) → Type 0
AllAgree places = (j : ℕ) (p : Place LbtsView) → get_elem? places j ≡ some p → Agrees j p.client

-- the rule of a federation, with agreement
pub record AgreeingRule (m : Memory) (places : List (Place LbtsView)) : Type 0 where
  pub floor : LbtsRule m places
  pub agree : AllAgree places

abbrev pub agreeing_rule : rules.Rule LbtsView
agreeing_rule = record { holds = AgreeingRule; sees = λ m places g. Unit {0} }

-- ---- the moment of a run that a floor shows

-- its blocks, once its start's rules have run
abbrev pub done_of : Option Request → List Block → Option (List Block)
done_of None done = None
done_of (Some r) done = Some done

abbrev pub progress_of : ℕ → LbtsView → Standing
progress_of j v = record { done = done_of v.request (blocks_in j v); waits = not (is_empty v.outbox); received = messages_received v }

-- the messages of b buffers with these letters, each as often as copies of it are on their way
abbrev pub messages_on_way : (ℕ → Filled) → (ℕ → ℕ) → ℕ → List Message
messages_on_way letter copies zero = []
messages_on_way letter copies (suc b) = messages_on_way letter copies b ++ replicate (copies b) (letter b).message

-- the place of a number, or this one where there is none
abbrev pub place_at : Place LbtsView → List (Place LbtsView) → ℕ → Place LbtsView
place_at p places j = slice_index_or places j p

abbrev pub progress_at : Place LbtsView → List (Place LbtsView) → ℕ → Standing
progress_at p places j = progress_of j (place_at p places j).client

-- what j posted to i, and i has not received
abbrev pub transit_at : Memory → Place LbtsView → List (Place LbtsView) → ℕ → ℕ → List Message
transit_at m p places j i =
    let sender = place_at p places j in
    messages_on_way (letter_in sender.client) (copies_on_way (mark_in_mail m j i) j (place_at p places i).client.in_hand) sender.own.buffers

-- what j has still to post to i
abbrev pub waiting_at : Place LbtsView → List (Place LbtsView) → ℕ → ℕ → List Message
waiting_at p places j i =
    let sender = place_at p places j in
    left_of sender.client.sending sender.own.stock sender.client.federation i sender.client.outbox
