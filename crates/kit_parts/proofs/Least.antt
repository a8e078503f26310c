-- The least of the times by which promises go is below every promise.
use Rattle.std.proofs.Common.{◌≡◌, ℕ, inl, inr, ◌<◌, ◌≤◌, Bool, true, false, cond, nat_lt, List, [], ◌∷◌, length, Option, Some, None, IfSome, arith}
use Rattle.std.proofs.lemmas.Bool.{cases_lt}
use Rattle.kit_base.specs.declared.message.Message.{Message}
use Rattle.kit_rules.specs.Parts.{Parts, effective_lookahead}
use Rattle.kit_rules.specs.Federation.{IsFederation}
use Rattle.kit_rules.specs.Delivery.{pending_messages}
use Rattle.kit_rules.specs.Simulation.{Seat, Block, seat_at_start, request_at, seat_due}
use Rattle.kit_rules.proofs.Lookaheads.{lookahead_is_positive}
use Rattle.kit_laws.proofs.Sane.{time_of}
use Rattle.kit_laws.proofs.Pendings.{due_capped}
use Rattle.kit_laws.proofs.Sanity.{request_capped}
use Rattle.kit_parts.specs.Fronts.{seat_with, seat_from, seat_after}
use Rattle.kit_parts.specs.Promises.{promise_at, promise_after, seat_promise, time_after, promise_time}
use Rattle.kit_parts.specs.PromiseLaws.{LeastIsBelow}
use Rattle.kit_parts.proofs.Promising.{below_end, at_end}

-- requests do not go past the end
capped_with : (p : Parts) (i : ℕ) (b : Block) (s : Seat) → time_of s.request ≤ p.end → time_of (seat_with p i b s).request ≤ p.end
capped_with p i b s h =
    elim (nat_lt b.time p.end) as (λ t. time_of (cond t (request_at (seat_with p i b s).state.wish b.time p.end) s.request) ≤ p.end)
    [ true ↦ request_capped (seat_with p i b s).state.wish b.time p.end | false ↦ h ]

capped_from : (p : Parts) (i : ℕ) (s : Seat) (bs : List Block) → time_of s.request ≤ p.end → time_of (seat_from p i s bs).request ≤ p.end
capped_from p i s [] h = h
capped_from p i s (b ∷ bs) h = capped_from p i (seat_with p i b s) bs (capped_with p i b s h)

pub request_within : (p : Parts) (i : ℕ) (done : List Block) → time_of (seat_after p i done).request ≤ p.end
request_within p i done = capped_from p i (seat_at_start p i) done (request_capped (seat_at_start p i).state.wish 0 p.end)

-- so the time by which a promise goes is not past the end
time_capped : (p : Parts) (i : ℕ) (waits : Bool) (received : List Message) (o : Option (List Block)) → IfSome o (λ done. (seat_after p i done).now < p.end) → time_after p i waits received o ≤ p.end
time_capped p i waits received None h = omega arith
time_capped p i true received (Some done) h = let l : (seat_after p i done).now < p.end = h in omega arith
time_capped p i false received (Some done) h =
    let s = seat_after p i done in
    omega (arith, due_capped s.request (pending_messages p i s.got received), request_within p i done)

-- and what is no later than it is below the promise
below_promise : (p : Parts) (j t : ℕ) (waits : Bool) (received : List Message) (o : Option (List Block)) → IsFederation p → j < length p.federates → t ≤ p.end
    → (IfSome o (λ done. (seat_after p j done).now < p.end) → t ≤ time_after p j waits received o) → t < promise_after p j waits received o
below_promise p j t waits received None f lt cap le = omega (arith, le tt, lookahead_is_positive p j f)
below_promise p j t waits received (Some done) f lt cap le =
    let s = seat_after p j done in
    elim (cases_lt s.now p.end) [
      | inl below ↦ by waits (below_end p j waits received s below) (le below)
      | inr past ↦ omega (arith, at_end p j waits received s past)
    ]
  where
    by : (waits : Bool) → seat_promise p j waits received (seat_after p j done) ≡ promise_at p.end (effective_lookahead p j) (seat_after p j done).now (seat_due p received j (seat_after p j done)) waits → t ≤ time_after p j waits received (Some done) → t < seat_promise p j waits received (seat_after p j done)
    by true e h = omega (arith, e, h, lookahead_is_positive p j f)
    by false e h = omega (arith, e, h, lookahead_is_positive p j f)

pub least_is_below_law : LeastIsBelow
least_is_below_law p f all i lt goes least j lj =
    below_promise p j (promise_time p i (all i)) (all j).waits (all j).received (all j).done f lj (time_capped p i (all i).waits (all i).received (all i).done goes) (λ h. least j lj h)
