-- What a federate sends is late enough, and its steps keep its promise.
use Rattle.std.proofs.Common.{◌≡◌, ℕ, inl, inr, ◌+◌, ◌<◌, ◌≤◌, min, Bool, true, false, List, [], ◌∷◌, ◌++◌, Some, None, arith, refl, sym, ap, ◌∙◌, subst}
use Rattle.std.specs.List.{All, AllByRecursion}
use Rattle.std.proofs.lemmas.Bool.{cases_lt, lt-ltb, le-ltb}
use Rattle.std.proofs.lemmas.List.{append-nil}
use Rattle.std.proofs.lemmas.List.Elements.{All-from_recursion}
use Rattle.kit_base.specs.declared.message.Message.{Message}
use Rattle.kit_rules.specs.declared.table.Wish.{Wish}
use Rattle.kit_rules.specs.declared.table.Wish.TheVariants as wish
use Rattle.kit_rules.specs.declared.table.Request.{Request}
use Rattle.kit_rules.specs.declared.table.Request.TheVariants as request
use Rattle.kit_rules.specs.declared.table.Trigger.TheVariants.{Start}
use Rattle.kit_rules.specs.Parts.{Parts, federate_at, effective_lookahead}
use Rattle.kit_rules.specs.declared.scene.State.{State}
use Rattle.kit_rules.specs.Step.{opening_state}
use Rattle.kit_rules.specs.Delivery.{is_pending, pending_messages, due_messages, due_time}
use Rattle.kit_rules.specs.Simulation.{Seat, Block, block, seat_at_start, seat_at, seat_due, request_at}
use Rattle.kit_rules.proofs.Lookaheads.{lookahead_is_positive}
use Rattle.kit_laws.proofs.Sane.{time_of}
use Rattle.kit_laws.proofs.Pendings.{From, gone, due_from, earliest_low, pending_before_sent}
use Rattle.kit_laws.proofs.Rising.{grants}
use Rattle.kit_parts.specs.Fronts.{seat_with, seat_after}
use Rattle.kit_parts.specs.Promises.{promise_after, seat_promise, promise_at}
use Rattle.kit_parts.specs.PromiseLaws.{AddsFrom, StepsSendLate, StartsSendLate, GrantsSendLate, WaitingKeepsPromise, StartKeepsPromise, GrantKeepsPromise, PostKeepsPromise, DueIsAhead, ReceiptKeepsPromise, PromisesAreCapped}
use Rattle.kit_parts.proofs.Among.{among_cases, among_filter, filter_among}
use Rattle.kit_parts.proofs.Gains.{Gain, gain_by_step, gain_by_block}
use Rattle.kit_parts.proofs.Seats.{from_append}
use Rattle.kit_parts.proofs.Sent.{comes, seat_then}
use Rattle.kit_parts.proofs.Agreement.{unfinished, due_agrees}
use Rattle.kit_parts.proofs.Due.{earliest_cases, earliest_among}

-- what is sent
adds_from : {t : ℕ} (a b : State) → Gain t a b → AddsFrom t a.sends b.sends
adds_from {t} a b g = record { made = g.made; sends = g.sends; late = All-from_recursion (λ (m : Message). t ≤ m.time) g.made g.late }

pub steps_send_late_law : StepsSendLate
steps_send_late_law p f i lt on now value s = adds_from s _ (gain_by_step p i on now value s f lt)

pub starts_send_late_law : StartsSendLate
starts_send_late_law p f i lt =
    let g = adds_from (opening_state (federate_at p i)) (seat_at_start p i).state (gain_by_step p i Start 0 0 (opening_state (federate_at p i)) f lt) in
    let P : List Message → Type 0 = All (λ (m : Message). effective_lookahead p i ≤ m.time) in
    subst P (sym g.sends) (λ k d within. let l = g.late k d within in omega arith)

pub grants_send_late_law : GrantsSendLate
grants_send_late_law p f i lt b s = adds_from s.state (seat_with p i b s).state (gain_by_block p i b.time s.state b.delivered f lt)

-- promises by cases
pub below_end : (p : Parts) (i : ℕ) (waits : Bool) (received : List Message) (s : Seat) → s.now < p.end → seat_promise p i waits received s ≡ promise_at p.end (effective_lookahead p i) s.now (seat_due p received i s) waits
below_end p i waits received s lt = rw (lt-ltb s.now p.end lt) refl

pub at_end : (p : Parts) (i : ℕ) (waits : Bool) (received : List Message) (s : Seat) → p.end ≤ s.now → seat_promise p i waits received s ≡ p.end + 1
at_end p i waits received s le = rw (le-ltb s.now p.end le) refl

pub promises_are_capped_law : PromisesAreCapped
promises_are_capped_law p i waits received None = omega arith
promises_are_capped_law p i waits received (Some done) =
    let s = seat_after p i done in
    elim (cases_lt s.now p.end) [
      | inl lt ↦ omega (arith, below_end p i waits received s lt)
      | inr le ↦ omega (arith, at_end p i waits received s le)
    ]

pub waiting_keeps_promise_law : WaitingKeepsPromise
waiting_keeps_promise_law p f i lt received done =
    let s = seat_after p i done in
    elim (cases_lt s.now p.end) [
      | inl below ↦ omega (arith, below_end p i true received s below)
      | inr le ↦ (let l : p.end ≤ s.now = le in omega (arith, at_end p i true received s l, lookahead_is_positive p i f))
    ]

pub start_keeps_promise_law : StartKeepsPromise
start_keeps_promise_law p f i before after received =
    let s = seat_at_start p i in
    let e = below_end p i after received s (omega (arith, f.end.0)) in
    by after e
  where
    by : (after : Bool) → seat_promise p i after received (seat_at_start p i) ≡ promise_at p.end (effective_lookahead p i) 0 (seat_due p received i (seat_at_start p i)) after → promise_at p.end (effective_lookahead p i) 0 0 true ≤ seat_promise p i after received (seat_at_start p i)
    by true e = omega (arith, e)
    by false e = omega (arith, e)

request_from : (w : Wish) (now end : ℕ) → now < end → now ≤ time_of (request_at w now end)
request_from (wish.Tar step) now end lt = omega arith
request_from (wish.Ner step) now end lt = omega arith

-- after a grant of d the next request is due at d or later
next_due : (p : Parts) (i d : ℕ) (received : List Message) (s : Seat) → d < p.end → d ≤ seat_due p received i (seat_with p i (block i d (due_messages p i d s.got received)) s)
next_due p i d received s lt =
    let new = seat_with p i (block i d (due_messages p i d s.got received)) s in
    let Q : List Message → Type 0 = λ xs. AllByRecursion (From (d + 1)) (pending_messages p i new.got xs) in
    let late : AllByRecursion (From (d + 1)) (pending_messages p i new.got received) = subst Q (append-nil received) (gone p i d s.got received [] tt) in
    let R : Request → Type 0 = λ r. d ≤ time_of r in
    let time : d ≤ time_of new.request = rw (lt-ltb d p.end lt) (request_from new.state.wish d p.end lt) in
    due_from d new.request (pending_messages p i new.got received) time (weak (pending_messages p i new.got received) late)
  where
    weak : (xs : List Message) → AllByRecursion (From (d + 1)) xs → AllByRecursion (From d) xs
    weak [] h = tt
    weak (x ∷ xs) h = (omega (arith, h.0), weak xs h.1)

pub grant_keeps_promise_law : GrantKeepsPromise
grant_keeps_promise_law p i after received done lt =
    let s = seat_after p i done in
    let d = seat_due p received i s in
    let b = block i d (due_messages p i d s.got received) in
    let new = seat_with p i b s in
    let P : Seat → Type 0 = λ v. promise_after p i false received (Some done) ≤ seat_promise p i after received v in
    subst P (sym (from_append p i (seat_at_start p i) done (b ∷ [])))
    (elim (cases_lt d p.end) [
      | inl below ↦ by after (below_end p i false received s lt) (below_end p i after received new below) below
      | inr le ↦ omega (arith, at_end p i after received new le, promises_are_capped_law p i false received (Some done))
    ])
  where
    by : (after : Bool) → let s = seat_after p i done in let d = seat_due p received i s in let new = seat_with p i (block i d (due_messages p i d s.got received)) s in
        seat_promise p i false received s ≡ min (p.end + 1) (d + effective_lookahead p i) → seat_promise p i after received new ≡ promise_at p.end (effective_lookahead p i) new.now (seat_due p received i new) after → d < p.end
        → seat_promise p i false received s ≤ seat_promise p i after received new
    by true e h below = omega (arith, e, h)
    by false e h below = let s = seat_after p i done in let d = seat_due p received i s in omega (arith, e, h, next_due p i d received s below)

pub post_keeps_promise_law : PostKeepsPromise
post_keeps_promise_law p i received done le =
    let s = seat_after p i done in
    elim (cases_lt s.now p.end) [
      | inl below ↦ omega (arith, below_end p i true received s below, below_end p i false received s below)
      | inr past ↦ omega (arith, at_end p i true received s past, at_end p i false received s past)
    ]

-- once the end is granted it does not matter whether sends wait
pub ended_promise : (p : Parts) (i : ℕ) (received : List Message) (done : List Block) → p.end ≤ (seat_after p i done).now → promise_after p i true received (Some done) ≡ promise_after p i false received (Some done)
ended_promise p i received done past = at_end p i true received (seat_after p i done) past ∙ sym (at_end p i false received (seat_after p i done) past)

-- a request is due no sooner than now
pub due_is_ahead_law : DueIsAhead
due_is_ahead_law p f bound i lt received heard done front below early =
    let s = seat_after p i done in
    elim (cases_lt (seat_due p received i s) bound) [
      | inr ge ↦ (let g : bound ≤ seat_due p received i s = ge in omega arith)
      | inl due ↦ (let c = comes p i done f front (unfinished p i done f lt front below) in
          let seat = seat_then p i done c lt in
          let P : Seat → Type 0 = λ v. seat_due p received i v < bound in
          let e : seat_due p received i (seat_at c.world i) ≡ c.due = due_agrees p f bound i received heard done c (subst P (sym seat) due) in
          let gr = grants p c.last c.world (c.due, i) c.way.reached c.next in
          let Q : Seat → Type 0 = λ v. v.now < seat_due p received i v in
          subst Q seat (omega (arith, e, gr.forward)))
    ]

-- a receipt
receipt_due : (p : Parts) (i : ℕ) (r : Request) (got received : List Message) (m : Message) → min (due_time r (pending_messages p i got received)) m.time ≤ due_time r (pending_messages p i got (received ++ m ∷ []))
receipt_due p i (request.Tar t) got received m = omega arith
receipt_due p i (request.Ner t) got received m =
    let new = pending_messages p i got (received ++ m ∷ []) in
    elim (earliest_cases t new) [
      | inl e ↦ omega (arith, e, earliest_low t (pending_messages p i got received))
      | inr g ↦ (let q = filter_among (is_pending p i got (received ++ m ∷ [])) g.0 (received ++ m ∷ []) g.1 in
          elim (among_cases g.0 received (m ∷ []) q.0) [
            | inl old ↦ omega (arith, g.2, earliest_among t (pending_messages p i got received) g.0 (among_filter (is_pending p i got received) g.0 received old (pending_before_sent p i got received (m ∷ []) g.0 q.1)))
            | inr here ↦ elim here [
              | inl e ↦ (let same : m.time ≡ g.0.time = ap (λ (x : Message). x.time) e in omega (arith, g.2))
              | inr none ↦ elim none [ ]
            ]
          ])
    ]

pub receipt_keeps_promise_law : ReceiptKeepsPromise
receipt_keeps_promise_law p f i lt waits received m None = omega arith
receipt_keeps_promise_law p f i lt waits received m (Some done) =
    let s = seat_after p i done in
    elim (cases_lt s.now p.end) [
      | inr past ↦ omega (arith, at_end p i waits (received ++ m ∷ []) s past)
      | inl below ↦ by waits (below_end p i waits received s below) (below_end p i waits (received ++ m ∷ []) s below)
    ]
  where
    by : (waits : Bool) → let s = seat_after p i done in
        seat_promise p i waits received s ≡ promise_at p.end (effective_lookahead p i) s.now (seat_due p received i s) waits
        → seat_promise p i waits (received ++ m ∷ []) s ≡ promise_at p.end (effective_lookahead p i) s.now (seat_due p (received ++ m ∷ []) i s) waits
        → min (seat_promise p i waits received s) (min (m.time + 1) (p.end + 1)) ≤ seat_promise p i waits (received ++ m ∷ []) s
    by true e h = omega (arith, e, h)
    by false e h = let s = seat_after p i done in omega (arith, e, h, receipt_due p i s.request s.got received m, lookahead_is_positive p i f)
