-- What the rule tells of a federate's due time and of what its promise adds.
use Rattle.std.proofs.Common.{◌≡◌, ◌≢◌, ℕ, ◌+◌, ◌<◌, ◌≤◌, List, Option, Some, None, refl, sym, subst, arith}
use Rattle.std.specs.List.{AllByRecursion}
use Rattle.std.proofs.lemmas.List.Elements.{All-map, recursion_from_All, All-weaker}
use Rattle.kit_base.specs.declared.message.Message.{Message}
use Rattle.kit_ground.specs.declared.place.Place.{Place}
use Rattle.kit_ground.specs.Memory.{Memory}
use Rattle.kit_ground.specs.Rules.{World}
use Rattle.kit_laws.proofs.Pendings.{From, due_capped, due_from}
use Rattle.kit_laws.proofs.Sane as sane
use Rattle.kit_queue.specs.declared.entry.Entry.{Entry}
use Rattle.kit_queue.specs.Entries.{messages_of}
use Rattle.kit_rules.specs.Federation.{IsFederation, IsWish}
use Rattle.kit_rules.specs.declared.table.Request.{Request}
use Rattle.kit_rules.specs.Simulation.{request_at}
use Rattle.kit_rules.proofs.Lookaheads.{lookahead_is_positive}
use Rattle.kit_lbts.specs.declared.view.LbtsView.{LbtsView}
use Rattle.kit_lbts.specs.Views.{time_of, due_of, due_by}
use Rattle.kit_lbts.specs.Promises.{added_of}
use Rattle.kit_lbts.specs.Seats.{Granting, Queue}
use Rattle.kit_lbts.specs.Rule.{lbts_rule}
use Rattle.kit_lbts.proofs.Blocks.{asked_after, asked_within}

abbrev P : Type 0
P = Place LbtsView

by_request : (r : Option Request) (v : LbtsView) (ms : List Message) → r ≢ None → ((x : Request) → r ≡ Some x → x ≡ request_at v.state.wish (time_of v) v.federation.end)
    → IsWish v.state.wish → time_of v < v.federation.end → AllByRecursion (From (time_of v + 1)) ms → (time_of v < due_by r ms) × (due_by r ms ≤ v.federation.end)
by_request None v ms there asked wished lt ahead = absurd (there refl)
by_request (Some r) v ms there asked wished lt ahead =
    let between : (time_of v + 1 ≤ sane.time_of r) × (sane.time_of r ≤ v.federation.end) =
    subst (λ (x : Request). (time_of v + 1 ≤ sane.time_of x) × (sane.time_of x ≤ v.federation.end)) (sym (asked r refl))
    (asked_after v.state.wish (time_of v) v.federation.end wished lt, asked_within v.state.wish (time_of v) v.federation.end) in
    (omega (arith, due_from (time_of v + 1) r ms between.0 ahead), omega (arith, due_capped r ms, between.1))

-- below the end a request is due after the logical time, and not after the end
pub due_between : (j : ℕ) (p : P) → Granting p → Queue j p → p.client.request ≢ None → time_of p.client < p.client.federation.end
    → (time_of p.client < due_of p.client) × (due_of p.client ≤ p.client.federation.end)
due_between j p g q there lt = by_request p.client.request p.client (messages_of p.client.queue) there (λ x e. g.asked x e lt) g.wish lt
    (recursion_from_All (From (time_of p.client + 1)) (messages_of p.client.queue) (All-map (From (time_of p.client + 1)) (λ (e : Entry). e.message) p.client.queue
    (All-weaker (λ (e : Entry). time_of p.client < e.message.time) (λ (e : Entry). time_of p.client + 1 ≤ e.message.time) (λ e h. omega (arith, h)) p.client.queue q.ahead)))

pub due_ahead : (j : ℕ) (p : P) → Granting p → Queue j p → p.client.request ≢ None → time_of p.client < p.client.federation.end → time_of p.client ≤ due_of p.client
due_ahead j p g q there lt = omega (arith, (due_between j p g q there lt).0)

-- a promise adds something
pub adds : (p : P) (m : Memory) (places : List P) → World lbts_rule p m places → 1 ≤ added_of p
adds p m places w =
    let c = w.client.common in
    lookahead_is_positive p.client.federation p.own.number (subst IsFederation (sym (c.each p.own.number p w.here).0) c.sound)
