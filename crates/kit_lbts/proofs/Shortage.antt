-- A federate whose buffers all have messages that are still outstanding, and one more that waits, needs more of them.
use Rattle.std.proofs.Common.{◌≡◌, ◌≢◌, ℕ, zero, suc, ◌+◌, ◌<◌, ◌≤◌, ◌==◌, ◌&&◌, nat_lt, true, List, [], ◌∷◌, length, Option, Some, None, refl, sym, ap, ◌∙◌, subst, arith, eq-eqb}
use Rattle.std.specs.List.{All, AllPairs, Contains}
use Rattle.std.specs.Prelude.{unwrap_or}
use Rattle.std.proofs.lemmas.Bool.{and_from, lt-ltb}
use Rattle.std.proofs.lemmas.List.Elements.{All-cons, All-contains, All-nil, All-weaker}
use Rattle.std.proofs.lemmas.List.Kept.{AllPairs-cons}
use Rattle.std.proofs.lemmas.Option.{none-some}
use Rattle.kit_base.specs.declared.message.Message.{Message}
use Rattle.kit_ground.specs.declared.place.Place.{Place}
use Rattle.kit_ground.specs.Memory.{Memory}
use Rattle.kit_ground.specs.Rules.{World}
use Rattle.kit_parts.specs.Fronts.{seat_after}
use Rattle.kit_parts.proofs.Among.{Among, among_contains, contains_among}
use Rattle.kit_parts.proofs.Needing.{need_holds_law}
use Rattle.kit_parts.proofs.Whole.{front_sent}
use Rattle.kit_rules.specs.declared.table.Request.{Request}
use Rattle.kit_rules.specs.Delivery.{is_transported}
use Rattle.kit_rules.specs.Need.{is_outstanding}
use Rattle.kit_rules.specs.Parts.{Parts}
use Rattle.kit_rules.specs.Simulation.{Seat, simulation}
use Rattle.kit_rules.specs.Step.{no_message}
use Rattle.kit_lbts.specs.declared.view.Filled.{Filled}
use Rattle.kit_lbts.specs.declared.view.LbtsView.{LbtsView}
use Rattle.kit_lbts.specs.Views.{filled_in, time_of}
use Rattle.kit_lbts.specs.Letters.{letter_in}
use Rattle.kit_lbts.specs.Promises.{added_of}
use Rattle.kit_lbts.specs.Seats.{Sends}
use Rattle.kit_lbts.specs.Agreement.{Agrees, agreeing_rule, blocks_in}
use Rattle.kit_lbts.specs.AgreementLaws.{FullPoolsAreShort, IsShort, PoolIsOutstanding}
use Rattle.kit_lbts.proofs.Copies.{contains_filter}
use Rattle.kit_lbts.proofs.Dues.{adds}
use Rattle.kit_lbts.proofs.GrantAgreement.{without_agreement}
use Rattle.kit_lbts.proofs.NextBlocks.{sound, within}

-- the messages of the first b buffers, and one more
abbrev held : LbtsView → Message → ℕ → List Message
held v first zero = first ∷ []
held v first (suc b) = (letter_in v b).message ∷ held v first b

held_long : (v : LbtsView) (first : Message) (b : ℕ) → length (held v first b) ≡ b + 1
held_long v first zero = refl
held_long v first (suc b) = omega (arith, held_long v first b)

-- what holds of the one and of the letter of each buffer holds of all
all_held : (A : Message → Type 0) (v : LbtsView) (first : Message) (b : ℕ) → A first → ((k : ℕ) → k < b → A (letter_in v k).message) → All A (held v first b)
all_held A v first zero one each = All-cons A first [] one (All-nil A)
all_held A v first (suc b) one each = All-cons A (letter_in v b).message (held v first b) (each b (omega arith)) (all_held A v first b one (λ k lk. each k (omega arith)))

all_apart : (v : LbtsView) (first : Message) (b : ℕ) → ((k : ℕ) → k < b → (letter_in v k).message ≢ first) → ((k l : ℕ) → k < b → l < b → k ≢ l → (letter_in v k).message ≢ (letter_in v l).message)
    → AllPairs (λ a b. a ≢ b) (held v first b)
all_apart v first zero one each = AllPairs-cons (λ a b. a ≢ b) first [] (All-nil (λ x. first ≢ x)) (λ i j d lt lj. absurd (omega arith))
all_apart v first (suc b) one each =
    let m : Message = (letter_in v b).message in
    AllPairs-cons (λ a b. a ≢ b) m (held v first b) (all_held (λ x. m ≢ x) v first b (one b (omega arith)) (λ k lk. each b k (omega arith) (omega arith) (λ e. omega arith)))
    (all_apart v first b (λ k lk. one k (omega arith)) (λ k l lk ll. each k l (omega arith) (omega arith)))

module _ (p : Place LbtsView) (idle : p.client.sending ≡ None) (outstanding : PoolIsOutstanding p) (m : Memory) (places : List (Place LbtsView)) (w : World agreeing_rule p m places) where
  abbrev me : ℕ
  me = p.own.number

  abbrev f : Parts
  f = p.client.federation

  abbrev v : LbtsView
  v = p.client

  abbrev now : ℕ
  now = time_of p.client

  sends : Sends p.own.number p
  sends = (w.client.floor.each me p w.here).sends

  agrees : Agrees p.own.number p.client
  agrees = w.client.agree me p w.here

  -- each buffer was charged with something
  filled : (k : ℕ) → k < p.own.buffers → filled_in p.client k ≡ Some (letter_in p.client k)
  filled k lk = by (filled_in v k) refl
    where
      by : (o : Option Filled) → filled_in p.client k ≡ o → filled_in p.client k ≡ Some (letter_in p.client k)
      by None e =
          let t : letter_in v k ≡ record { message = no_message; colour = 0 } = ap (λ (o : Option Filled). unwrap_or o (record { message = no_message; colour = 0 })) e in
          let z : (letter_in v k).message.time ≡ 0 = ap (λ (x : Filled). x.message.time) t in
          let l = outstanding k lk in
          absurd (omega arith)
      by (Some x) e = e ∙ ap Some (sym (ap (λ (o : Option Filled). unwrap_or o (record { message = no_message; colour = 0 })) e))

  idle_not : (k : ℕ) → p.client.sending ≢ Some k
  idle_not k e = none-some k (sym idle ∙ e)

  module _ (first : Message) (rest : List Message) (waits : p.client.outbox ≡ first ∷ rest) where
    first_in : Contains p.client.outbox first
    first_in = subst (λ (o : List Message). Contains o first) (sym waits) (0, omega arith, refl)

    abbrev Is : Message → Type 0
    Is x = Contains p.client.state.sends x × (is_outstanding p.client.federation p.own.number (time_of p.client) x ≡ true)

    tested : (x : Message) → Contains p.client.state.sends x → is_transported p.client.federation x ≡ true → time_of p.client < x.time → Is x
    tested x has passes late = (
      has,
      and_from (x.sender == me && is_transported f x) (nat_lt now x.time)
          (and_from (x.sender == me) (is_transported f x) (eq-eqb x.sender me (All-contains (λ (y : Message). y.sender ≡ me) v.state.sends x sends.own has)) passes)
          (lt-ltb now x.time late),
    )

    first_is : Is first
    first_is =
        let late = All-contains (λ (x : Message). now + added_of p ≤ x.time) v.outbox first sends.late first_in in
        let a = adds p m places (without_agreement p m places w) in
        tested first (All-contains (Contains v.state.sends) v.outbox first sends.waiting first_in) (All-contains (λ (x : Message). is_transported f x ≡ true) v.outbox first sends.transported first_in) (omega arith)

    letter_is : (k : ℕ) → k < p.own.buffers → Is (letter_in p.client k).message
    letter_is k lk =
        let t = contains_filter (is_transported f) v.state.sends (letter_in v k).message (sends.once.sent k (letter_in v k) (filled k lk)) in
        tested (letter_in v k).message t.1 t.0 (outstanding k lk)

    apart : AllPairs (λ a b. a ≢ b) (held p.client first p.own.buffers)
    apart = all_apart v first p.own.buffers
        (λ k lk e. sends.once.gone k (letter_in v k) (filled k lk) (idle_not k) (subst (Contains v.outbox) (sym e) first_in))
        (λ k l lk ll ne e. sends.once.apart k l (letter_in v k) (letter_in v l) ne (filled k lk) (filled l ll) (ap (λ (x : Message). x.number) e))

    by_request : (o : Option Request) → p.client.request ≡ o → IsShort p
    by_request None e = absurd (let n = (sends.new e).3 in (cc))
    by_request (Some r) e =
        let seat : seat_after f me (blocks_in me v) ≡ _ = agrees.seat r e in
        let all = all_held Is v first p.own.buffers first_is letter_is in
        let there : All (λ (x : Message). Contains (seat_after f me (blocks_in me v)).state.sends x × (is_outstanding f me (seat_after f me (blocks_in me v)).now x ≡ true)) (held v first p.own.buffers) =
        subst (λ (s : Seat). All (λ (x : Message). Contains s.state.sends x × (is_outstanding f me s.now x ≡ true)) (held v first p.own.buffers)) (sym seat) all in
        let h = need_holds_law f (sound p m places w) me (within p m places w) (blocks_in me v) agrees.front (held v first p.own.buffers) apart there in
        record {
          needs = omega (arith, h, held_long v first p.own.buffers);
          sent = All-weaker (Contains v.state.sends) (Contains (simulation f).messages)
              (λ x has. among_contains x (simulation f).messages (front_sent f me (blocks_in me v) x (sound p m places w) (within p m places w) agrees.front
              (subst (λ (s : Seat). Among x s.state.sends) (sym seat) (contains_among x v.state.sends has))).0) v.outbox sends.waiting;
        }

pub full_pools_are_short : FullPoolsAreShort
full_pools_are_short p waits idle outstanding m places w = by p.client.outbox refl
  where
    by : (o : List Message) → p.client.outbox ≡ o → IsShort p
    by [] e = absurd (waits e)
    by (x ∷ xs) e = by_request p idle outstanding m places w x xs e p.client.request refl
