-- A grant by the queue is the simulation's next block.
use Rattle.std.proofs.Common.{◌≡◌, ℕ, ◌<◌, List, [], ◌∷◌, ◌++◌, refl, sym, subst}
use Rattle.kit_base.specs.declared.message.Message.{Message}
use Rattle.kit_rules.specs.declared.table.Request.{Request}
use Rattle.kit_rules.specs.declared.table.Request.TheVariants as request
use Rattle.kit_rules.specs.Parts.{Parts}
use Rattle.kit_rules.specs.Delivery.{pending_messages, due_time, due_messages}
use Rattle.kit_rules.specs.Simulation.{block}
use Rattle.kit_parts.specs.Fronts.{seat_after, IsFront}
use Rattle.kit_parts.specs.Queues.{queue_of, due_by_queue, DueByQueue, GrantsAgreeByQueue}
use Rattle.kit_parts.proofs.Agreement.{grants_agree_law}
use Rattle.kit_parts.proofs.InOrder.{due_by_first_law}
use Rattle.kit_parts.proofs.Queueing.{queue_delivers_law}

pub dues_by_queue : (p : Parts) (i : ℕ) (r : Request) (got received : List Message) → due_time r (pending_messages p i got received) ≡ due_by_queue r (queue_of p i got received)
dues_by_queue p i (request.Tar t) got received = refl
dues_by_queue p i (request.Ner t) got received = due_by_first_law p i t got received

pub due_by_queue_law : DueByQueue
due_by_queue_law p i received s = dues_by_queue p i s.request s.got received

pub grants_agree_by_queue_law : GrantsAgreeByQueue
grants_agree_by_queue_law p f bound i lt received heard done front below early =
    let s = seat_after p i done in
    let e = due_by_queue_law p i received s in
    let P : ℕ → Type 0 = λ d. d < bound in
    let Q : ℕ → Type 0 = λ d. IsFront p i (done ++ block i d (due_messages p i d s.got received) ∷ []) in
    let R : List Message → Type 0 = λ ms. IsFront p i (done ++ block i (due_by_queue s.request (queue_of p i s.got received)) ms ∷ []) in
    subst R (queue_delivers_law p i (due_by_queue s.request (queue_of p i s.got received)) s.got received) (subst Q e (grants_agree_law p f bound i lt received heard done front below (subst P (sym e) early)))
