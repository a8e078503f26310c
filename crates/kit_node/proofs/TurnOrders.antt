-- What the parts of a turn after the receipt leave of what was received.
use Rattle.std.proofs.Common.{◌≡◌, ℕ, Bool, true, false, map, refl, ap, ◌∙◌}
use Rattle.kit_ground.specs.declared.place.Deed.TheVariants.{SawStop}
use Rattle.kit_ground.specs.declared.place.Place.{Place}
use Rattle.kit_ground.specs.Steps.{place_after}
use Rattle.kit_lbts.specs.declared.view.Filled.{Filled}
use Rattle.kit_lbts.specs.declared.view.LbtsView.{LbtsView}
use Rattle.kit_lbts.specs.Progress.{due_in, view_after}
use Rattle.kit_lbts.specs.Promises.{bound_of}
use Rattle.kit_lbts.specs.Views.{due_of, messages_received}
use Rattle.kit_lbts.proofs.ReadySteps.{same_receipts}
use Rattle.kit_node.specs.Granting.{HasGranted}
use Rattle.kit_node.specs.Receiving.{ReceivesInOrder}
use Rattle.kit_node.specs.Reducing.{HasReduced}
use Rattle.kit_node.specs.Sending.{HasPosted}
use Rattle.kit_node.specs.Settling.{HasSettled}
use Rattle.kit_node.specs.Turns.{IsPosted}
use Rattle.kit_node.proofs.ReceiptOrders.{received_by_journal, received_then}
use Rattle.kit_node.proofs.Working.{view_reduced}

abbrev P : Type 0
P = Place LbtsView

pub received_looked : (set : Bool) (p q : P) → q ≡ place_after view_after (SawStop set) p → messages_received q.client ≡ messages_received p.client
received_looked set p q is = ap (λ (x : P). messages_received x.client) is

pub received_posted : (count : ℕ) (p q : P) → HasPosted count p q → messages_received q.client ≡ messages_received p.client
received_posted count p q h = ap messages_received h.view

pub received_settled : (posted reduced released : Bool) (p q r s : P) → IsPosted posted p q → HasReduced reduced q r → HasSettled (bound_of r.client) released r s → messages_received s.client ≡ messages_received p.client
received_settled posted reduced released p q r s sent did settled =
    ap messages_received settled.view
    ∙ (received_by_journal q.client r.client (view_reduced reduced q r did).journal ∙ received_posted sent.sent.count p q sent.sent.done)

pub received_granted : (did : Bool) (p q : P) → HasGranted did p q → messages_received q.client ≡ messages_received p.client
received_granted false p q h = ap (λ (x : P). messages_received x.client) (h.none refl).0
received_granted true p q h =
    ap (λ (x : P). messages_received x.client) (h.one refl).1 ∙ ap (map (λ (f : Filled). f.message)) (same_receipts (due_of p.client) (due_in (due_of p.client) p.client.queue) p.client.journal)

-- A TURN that went through all of its parts
pub turn_in_order : (posted reduced released granted : Bool) (p p1 p2 p3 p4 q : P) → ReceivesInOrder p p1 → IsPosted posted p1 p2 → HasReduced reduced p2 p3
    → HasSettled (bound_of p3.client) released p3 p4 → HasGranted granted p4 q → ReceivesInOrder p q
turn_in_order posted reduced released granted p p1 p2 p3 p4 q order sent did settled grant =
    received_then p p1 q order (received_granted granted p4 q grant ∙ received_settled posted reduced released p1 p2 p3 p4 sent did settled)
