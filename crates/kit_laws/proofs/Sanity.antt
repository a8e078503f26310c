-- Requests that stay within the end, and grants that go to a federate there is.
use Rattle.std.proofs.Common.{◌≡◌, ℕ, ◌+◌, ◌<◌, ◌≤◌, true, false, cond, List, [], ◌∷◌, length, Option, Some, None, IfSome, nat_lt, arith, sym, subst, ◌∙◌, length-set}
use Rattle.std.specs.List.{All, AllByRecursion}
use Rattle.std.proofs.lemmas.List.Elements.{All-set, All-head, All-tail}
use Rattle.std.proofs.lemmas.List.FromFn.{get_or-map-range_with_len, length-map-range_with_len}
use Rattle.kit_base.specs.declared.message.Message.{Message}
use Rattle.kit_rules.specs.declared.table.Wish.{Wish}
use Rattle.kit_rules.specs.declared.table.Wish.TheVariants as wish
use Rattle.kit_rules.specs.Parts.{Parts}
use Rattle.kit_rules.specs.Delivery.{pending_messages}
use Rattle.kit_laws.proofs.Sane.{IsSane, time_of}
use Rattle.kit_laws.proofs.Pendings.{due_capped}
use Rattle.kit_laws.proofs.Least.{least_keeps}
use Rattle.kit_rules.specs.Simulation.{Seat, World, request_at, seat_due, waiting_from, least_pair, world_at_start, seat_at_start, seat_at, seat_after_pair, world_after_grant, seat_after_grant}

pub request_capped : (w : Wish) (now end : ℕ) → time_of (request_at w now end) ≤ end
request_capped (wish.Tar step) now end = omega arith
request_capped (wish.Ner step) now end = omega arith

abbrev Fine : ℕ → ℕ → ℕ × ℕ → Type 0
Fine n end g = (g.1 < n) × (g.0 ≤ end)

waiting_fine : (p : Parts) (sent : List Message) (i n : ℕ) (ss : List Seat) → i + length ss ≤ n → All (λ (s : Seat). time_of s.request ≤ p.end) ss → AllByRecursion (Fine n p.end) (waiting_from p sent i ss)
waiting_fine p sent i n [] le h = tt
waiting_fine p sent i n (s ∷ ss) le h =
    let capped : time_of s.request ≤ p.end = All-head (λ (s : Seat). time_of s.request ≤ p.end) s ss h in
    let rest : AllByRecursion (Fine n p.end) (waiting_from p sent (i + 1) ss) = waiting_fine p sent (i + 1) n ss (omega arith) (All-tail (λ (s : Seat). time_of s.request ≤ p.end) s ss h) in
    elim (nat_lt s.now p.end) as (λ b. AllByRecursion (Fine n p.end) (cond b ((seat_due p sent i s, i) ∷ waiting_from p sent (i + 1) ss) (waiting_from p sent (i + 1) ss)))
    [ true ↦ ((omega arith, omega (arith, capped, due_capped s.request (pending_messages p i s.got sent))), rest) | false ↦ rest ]

pub next_fine : (p : Parts) (sent : List Message) (ss : List Seat) (g : ℕ × ℕ) → IsSane p ss → least_pair None (waiting_from p sent 0 ss) ≡ Some g → (g.1 < length ss) × (g.0 ≤ p.end)
next_fine p sent ss g sane is =
    let P : Option (ℕ × ℕ) → Type 0 = λ o. IfSome o (Fine (length ss) p.end) in
    subst P is (least_keeps (Fine (length ss) p.end) None (waiting_from p sent 0 ss) tt (waiting_fine p sent 0 (length ss) ss (omega arith) sane.capped))

pub started_sane : (p : Parts) → IsSane p (world_at_start p).seats
started_sane p = record {
  count = length-map-range_with_len (seat_at_start p) 0 (length p.federates);
  capped = λ k d lt.
      let below : k < length p.federates = omega (arith, length-map-range_with_len (seat_at_start p) 0 (length p.federates)) in
      let P : Seat → Type 0 = λ s. time_of s.request ≤ p.end in
      subst P (sym (get_or-map-range_with_len (seat_at_start p) 0 (length p.federates) k k d below (omega arith))) (request_capped (seat_at_start p k).state.wish 0 p.end);
}

pub granted_capped : (p : Parts) (i d : ℕ) (sent : List Message) (s : Seat) → time_of s.request ≤ p.end → time_of (seat_after_grant p i d sent s).request ≤ p.end
granted_capped p i d sent s h =
    let after = (seat_after_grant p i d sent s).state in
    elim (nat_lt d p.end) as (λ b. time_of (cond b (request_at after.wish d p.end) s.request) ≤ p.end)
    [ true ↦ request_capped after.wish d p.end | false ↦ h ]

pub granted_sane : (p : Parts) (w : World) (g : ℕ × ℕ) → g.1 < length w.seats → IsSane p w.seats → IsSane p (world_after_grant p w g).seats
granted_sane p w g lt sane = record {
  count = length-set w.seats g.1 (seat_after_pair p w g) ∙ sane.count;
  capped = All-set (λ (s : Seat). time_of s.request ≤ p.end) w.seats g.1 (seat_after_pair p w g) (granted_capped p g.1 g.0 w.messages (seat_at w g.1) (sane.capped g.1 _ lt)) sane.capped;
}
