-- What stands in the queue is timed later than now, and is not taken back below what is heard.
use Rattle.std.proofs.Common.{◌≡◌, ℕ, zero, suc, inl, inr, ◌+◌, ◌<◌, ◌≤◌, length, false, List, [], ◌∷◌, ◌++◌, filter, arith, refl, sym, ap, ◌∙◌, subst, length-append}
use Rattle.std.specs.List.{list_any}
use Rattle.std.proofs.lemmas.Bool.{cases_lt, both_ways}
use Rattle.kit_base.specs.declared.message.Message.{Message}
use Rattle.kit_rules.specs.Parts.{Parts}
use Rattle.kit_rules.specs.Federation.{IsFederation}
use Rattle.kit_rules.specs.Delivery.{is_same, is_due}
use Rattle.kit_laws.proofs.Pendings.{same_self}
use Rattle.kit_parts.specs.Queues.{SettledIsSafe, QueueIsAhead}
use Rattle.kit_parts.proofs.Among.{Among, among_right, among_contains, contains_among, any_among}
use Rattle.kit_parts.proofs.Orders.{among_arranged}
use Rattle.kit_parts.proofs.Due.{Held, held, not_kept, pending_here}
use Rattle.kit_parts.proofs.Agreement.{due_from_parts}
use Rattle.kit_parts.proofs.Whole.{message_later, retraction_same}
use Rattle.kit_rules.specs.Simulation.{Seat, Block, seat_at, seat_at_start, simulation}
use Rattle.kit_laws.proofs.Pendings.{any_left}
use Rattle.kit_parts.specs.Cuts.{HasAllBelow}
use Rattle.kit_parts.proofs.Seats.{from_append}
use Rattle.kit_parts.proofs.Ways.{next_block}
use Rattle.kit_parts.proofs.Sent.{Comes, comes, front_next, seat_then, later_sent}
use Rattle.kit_parts.proofs.Needing.{front_shorter, front_length, same_fronts, last_split}
use Rattle.kit_parts.specs.Fronts.{seat_after, IsFront}
use Rattle.kit_parts.proofs.Queueing.{queue_is_received_law}

pub settled_is_safe_law : SettledIsSafe
settled_is_safe_law p f bound i got received heard m c below r whole e =
    let q = queue_is_received_law p i got received m c in
    let h = held p i got received m q.1 in
    let real = (heard.sent m q.0).0 in
    let like = retraction_same p m r f (contains_among m (simulation p).messages real) (contains_among r (simulation p).messages whole) e in
    not_kept p i got received m r h (contains_among r received (heard.came r whole (like.1 i ∙ h.here) (omega (arith, like.0)))) e

-- what was delivered in a block is among what a federate got
got_block : (p : Parts) (i : ℕ) (xs : List Block) (b : Block) (m : Message) → Among m b.delivered → Among m (seat_after p i (xs ++ b ∷ [])).got
got_block p i xs b m a =
    let P : Seat → Type 0 = λ s. Among m s.got in
    subst P (sym (from_append p i (seat_at_start p i) xs (b ∷ []))) (among_right m (seat_after p i xs).got b.delivered a)

got_before : (p : Parts) (i : ℕ) (xs : List Block) (b : Block) (m : Message) → list_any (is_same m) (seat_after p i (xs ++ b ∷ [])).got ≡ false → list_any (is_same m) (seat_after p i xs).got ≡ false
got_before p i xs b m h =
    let P : Seat → Type 0 = λ s. list_any (is_same m) s.got ≡ false in
    any_left (is_same m) (seat_after p i xs).got b.delivered (subst P (from_append p i (seat_at_start p i) xs (b ∷ [])) h)

-- after a block nothing is pending that is timed its time or less
ahead_of_block : (p : Parts) (i bound : ℕ) (received : List Message) (xs : List Block) → IsFederation p → i < length p.federates → (heard : HasAllBelow p bound i received) → (c : Comes p i xs) → c.due < bound
    → (m : Message) → Among m received → Held p i (seat_after p i (xs ++ next_block p c.world (c.due, i) ∷ [])).got received m → m.time ≤ c.due → ⊥
ahead_of_block p i bound received xs f lt heard c below m a h le =
    let g : ℕ × ℕ = (c.due, i) in
    let b = next_block p c.world g in
    let whole = contains_among m (simulation p).messages (heard.sent m (among_contains m received a)).0 in
    let s = seat_at c.world i in
    let seat : s ≡ seat_after p i xs = seat_then p i xs c lt in
    let P : Seat → Type 0 = λ v. list_any (is_same m) v.got ≡ false in
    let before : Held p i s.got received m = record { event = h.event; here = h.here; fresh = subst P (sym seat) (got_before p i xs b m h.fresh); kept = h.kept } in
    let there : Held p i s.got c.world.messages m = pending_here p f c.left c.last c.world g c.way c.next c.goes bound i s.got received m
    (λ r in_r here early. contains_among r received (heard.came r (among_contains r (simulation p).messages in_r) here early)) whole (omega arith) before in
    elim (later_sent p c.left c.last c.world g m f c.way c.next c.goes whole) [
      | inl old ↦ (let due : Among m b.delivered = among_arranged m [] (filter (is_due p i c.due s.got c.world.messages) c.world.messages) (due_from_parts p i c.due s.got c.world.messages m old le there) in
          both_ways (list_any (is_same m) (seat_after p i (xs ++ b ∷ [])).got) h.fresh (any_among (is_same m) m (seat_after p i (xs ++ b ∷ [])).got (got_block p i xs b m due) (same_self m)))
      | inr late ↦ absurd (let l : c.due < m.time = late in omega arith)
    ]

pub queue_is_ahead_law : QueueIsAhead
queue_is_ahead_law p f bound i lt received heard done front early m c =
    let q = queue_is_received_law p i (seat_after p i done).got received m c in
    let h = held p i (seat_after p i done).got received m q.1 in
    by (length done) done front refl early h
  where
    in_received : Among m received
    in_received = contains_among m received (queue_is_received_law p i (seat_after p i done).got received m c).0

    by : (k : ℕ) (done : List Block) → IsFront p i done → length done ≡ k → (seat_after p i done).now < bound → Held p i (seat_after p i done).got received m → (seat_after p i done).now < m.time
    by zero [] front e early h = message_later p m f (contains_among m (simulation p).messages (heard.sent m (among_contains m received in_received)).0)
    by zero (x ∷ xs) front e early h = absurd (omega arith)
    by (suc k) done front e early h =
        let r = last_split done k e in
        let Q : List Block → Type 0 = IsFront p i in
        let before : IsFront p i r.0 = front_shorter p i r.0 (r.1 ∷ []) (subst Q r.2 front) in
        through done front early h r.0 (comes p i r.0 f before (omega (arith, front_length p i done front, r.3))) (omega (arith, r.3, e))
      where
        through : (done : List Block) → IsFront p i done → (seat_after p i done).now < bound → Held p i (seat_after p i done).got received m → (xs : List Block) → Comes p i xs → length xs + 1 ≡ length done → (seat_after p i done).now < m.time
        through done front early h xs c e =
            let b = next_block p c.world (c.due, i) in
            let same : xs ++ b ∷ [] ≡ done = same_fronts p i (xs ++ b ∷ []) done (front_next p i xs c) front (omega (arith, length-append xs (b ∷ []))) in
            let now : (seat_after p i done).now ≡ c.due = ap (λ bs. (seat_after p i bs).now) (sym same) ∙ ap (λ (s : Seat). s.now) (from_append p i (seat_at_start p i) xs (b ∷ [])) in
            let P : List Block → Type 0 = λ bs. Held p i (seat_after p i bs).got received m in
            elim (cases_lt (seat_after p i done).now m.time) [
              | inl lt' ↦ lt'
              | inr ge ↦ absurd (ahead_of_block p i bound received xs f lt heard c (omega (arith, now)) m in_received (subst P (sym same) h) (let g : m.time ≤ (seat_after p i done).now = ge in omega (arith, now)))
            ]
