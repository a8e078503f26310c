-- To post a letter is a post of the federate's ledger.
use Rattle.std.proofs.Common.{◌≡◌, ℕ, ◌≤◌, Bool, true, false, [], ◌∷◌, ◌++◌, map, arith, ap, ◌∙◌}
use Rattle.std.proofs.lemmas.List.{map-append}
use Rattle.kit_ground.specs.declared.place.Deed.TheVariants.{PostedTo}
use Rattle.kit_lbts.specs.Views.{time_of, due_of, is_waiting}
use Rattle.kit_lbts.specs.Promises.{added_of, promise_of, promise_by, ledger_of, copy_posted}
use Rattle.kit_lbts.specs.Letters.{letter_in}
use Rattle.kit_lbts.specs.LedgerLaws.{after, PostsAre}
use Rattle.kit_lbts.proofs.Promising.{late_enough, rises_idle}

-- a promise of one who waits is no greater than it is afterwards
rises_from : (end lookahead now due : ℕ) (waiting then : Bool) → waiting ≡ true → now ≤ due → promise_by end lookahead now due waiting ≤ promise_by end lookahead now due then
rises_from end lookahead now due waiting true e le = omega (arith, ap (promise_by end lookahead now due) e)
rises_from end lookahead now due waiting false e le = omega (arith, ap (promise_by end lookahead now due) e, rises_idle end lookahead now due le)

pub posts_are : PostsAre
posts_are n p k j f to h =
    let q = after (PostedTo k j) p in
    record {
      addressed = to;
      stamped = h.colour;
      timed =
          omega (
            arith,
            ap (promise_by p.client.federation.end (added_of p) (time_of p.client) (due_of p.client)) h.waits,
            late_enough p.client.federation.end (added_of p) (time_of p.client) (due_of p.client) f.message.time h.some h.late,
          );
      rises = rises_from p.client.federation.end (added_of p) (time_of p.client) (due_of p.client) (is_waiting p.client) (is_waiting q.client) h.waits h.ahead;
      is =
          ap (λ xs. record (ledger_of p) { promise = promise_of q; posted = xs }) (map-append copy_posted p.client.posted (record { to = j; filled = letter_in p.client k } ∷ []))
          ∙ ap (λ x. record (ledger_of p) { promise = promise_of q; posted = map copy_posted p.client.posted ++ copy_posted (record { to = j; filled = x }) ∷ [] }) h.is;
    }
