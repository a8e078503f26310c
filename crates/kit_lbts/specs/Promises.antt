-- What a federate promises, and what it has written down for the rounds.
use Rattle.std.specs.Prelude.{◌≡◌, ◌==◌, ℕ, ◌+◌, nat_le, nat_lt, min, Bool, if◌then◌else◌, List, [], ◌∷◌, length, map, fold, slice_index_or, Option, Some, None}
use Rattle.kit_ground.specs.declared.place.Place.{Place}
use Rattle.kit_model.specs.declared.share.Share.{Share}
use Rattle.kit_model.specs.Counts.{old_count}
use Rattle.kit_parts.specs.Promises.{promise_at}
use Rattle.kit_rules.specs.Parts.{effective_lookahead}
use Rattle.kit_rounds.specs.declared.contribution.Contribution.{Contribution}
use Rattle.kit_rounds.specs.Ledgers.{Stamp, Copy, Ledger, colours, in_list, last_run}
use Rattle.kit_rounds.specs.Rounds.{run_after}
use Rattle.kit_lbts.specs.declared.view.Filled.{Filled}
use Rattle.kit_lbts.specs.declared.view.Posting.{Posting}
use Rattle.kit_lbts.specs.declared.view.LbtsView.{LbtsView}
use Rattle.kit_lbts.specs.Views.{time_of, due_of, is_waiting, receipts}

-- what a promise adds to a time: the effective lookahead, which is past the end where the federate sends nothing
abbrev pub added_of : Place LbtsView → ℕ
added_of p = effective_lookahead p.client.federation p.own.number

-- the promise of a federate at the time `now` with this due time, and `end + 1` once the end was granted
abbrev pub promise_by : ℕ → ℕ → ℕ → ℕ → Bool → ℕ
promise_by end add now due waiting = if nat_le end now then end + 1 else promise_at end add now due waiting

abbrev pub promise_of : Place LbtsView → ℕ
promise_of p = promise_by p.client.federation.end (added_of p) (time_of p.client) (due_of p.client) (is_waiting p.client)

-- whether a federate may be granted its due time
abbrev pub may_be_granted : ℕ → ℕ → Bool
may_be_granted due bound = nat_lt due bound

-- the stamp of a message's copies
abbrev pub stamp_of : Filled → Stamp
stamp_of f = record { colour = f.colour; time = f.message.time }

abbrev pub copy_posted : Posting → Copy
copy_posted x = record { peer = x.to; stamp = stamp_of x.filled }

abbrev pub copy_received : Filled → Copy
copy_received f = record { peer = f.message.sender; stamp = stamp_of f }

abbrev pub ledger_of : Place LbtsView → Ledger
ledger_of p = record {
  promise = promise_of p;
  colour = last_run p.client.contributions;
  posted = map copy_posted p.client.posted;
  received = map copy_received (receipts p.client);
  contributions = p.client.contributions;
}

-- the ledgers of all
abbrev pub ledgers_of : List (Place LbtsView) → ℕ → Ledger
ledgers_of places = in_list (map ledger_of places)

-- a result that is not known
abbrev pub unknown : Share
unknown = record { out = 0; inn = 0; low = 0 }

abbrev pub result_at : LbtsView → ℕ → Share
result_at v k = slice_index_or v.results k unknown

-- the bound that the results tell: the low of the last whose sums are equal, or 0
abbrev pub bound_in : List Share → ℕ
bound_in results = fold (λ (bound : ℕ) (s : Share). if s.out == s.inn then s.low else bound) 0 results

abbrev pub bound_of : LbtsView → ℕ
bound_of v = bound_in v.results

-- the run of its next round
abbrev pub next_run : LbtsView → ℕ
next_run v = run_after (result_at v) (length v.contributions)

-- the least of a promise and of the times of the posts of a run's colour
abbrev pub low_in : ℕ → ℕ → List Copy → ℕ
low_in run promise posted = fold (λ (low : ℕ) (c : Copy). if c.stamp.colour == run then min low c.stamp.time else low) promise posted

-- the lesser of a number and of another, where there is one
abbrev pub least_with : ℕ → Option ℕ → ℕ
least_with low None = low
least_with low (Some time) = min low time

-- the least time of the posts of a run's colour, where there is one
abbrev pub least_post : ℕ → List Copy → Option ℕ
least_post run [] = None
least_post run (c ∷ cs) = if c.stamp.colour == run then Some (least_with c.stamp.time (least_post run cs)) else least_post run cs

-- what it contributes to its next round
abbrev pub next_contribution : Place LbtsView → Contribution
next_contribution p =
    let l = ledger_of p in
    let run = next_run p.client in
    record {
      run = run;
      share = record { out = old_count run (colours l.posted); inn = old_count run (colours l.received); low = low_in run l.promise l.posted };
      posts = length l.posted;
      receipts = length l.received;
    }

-- the low is the lesser of the promise and of the least time of these posts
abbrev pub LowsAreLeast : Type 0
LowsAreLeast = (run promise : ℕ) (posted : List Copy) → low_in run promise posted ≡ least_with promise (least_post run posted)
