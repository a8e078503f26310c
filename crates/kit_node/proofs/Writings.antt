-- An own buffer that was seen free may be charged with the first message, once this was written in it.
use Rattle.std.proofs.Common.{◌≡◌, ℕ, ◌+◌, ◌^◌, ◌<◌, ◌≤◌, true, List, ◌∷◌, length, map, sym, ap, ◌∙◌, subst, arith, length-set}
use Rattle.std.specs.Int.{bit_at}
use Rattle.std.specs.Prelude.{All, Contains, slice_index_or}
use Rattle.std.proofs.lemmas.List.{get_or_default, length-map}
use Rattle.std.proofs.lemmas.List.Elements.{All-contains, All-head}
use Rattle.kit_base.specs.declared.message.Message.{Message}
use Rattle.kit_base.specs.Words.{FitsHead, body_word, head_word}
use Rattle.kit_ground.specs.declared.place.Buffer.{Buffer}
use Rattle.kit_ground.specs.declared.place.Place.{Place}
use Rattle.kit_ground.specs.declared.place.SeatBuffers.{SeatBuffers}
use Rattle.kit_ground.specs.Steps.{buffer_after_write, buffer_of, with_buffer}
use Rattle.kit_rules.specs.Delivery.{is_transported, receivers_of}
use Rattle.kit_rules.specs.Step.{no_message}
use Rattle.kit_rounds.specs.Ledgers.{last_run}
use Rattle.kit_lbts.specs.declared.view.LbtsView.{LbtsView}
use Rattle.kit_lbts.specs.MessageLaws.{MayCharge}
use Rattle.kit_lbts.specs.SeatLaws.{IsInWorld, PlaceTells}
use Rattle.kit_lbts.specs.Seats.{most_sends}
use Rattle.kit_lbts.proofs.Owing.{buffer_here}
use Rattle.kit_lbts.proofs.SeatFacts.{places_tell}
use Rattle.kit_node.specs.Mirrors.{time_put}
use Rattle.kit_node.specs.Sending.{CarriesMessage, IsFirstOf, written_place}
use Rattle.kit_node.proofs.PlaceTells.{stock_long}
use Rattle.kit_rules.proofs.ReceiverMasks.{receivers_below, receivers_without, transported_early, transported_group, transported_some}

abbrev P : Type 0
P = Place LbtsView

-- what both writes leave of a buffer
written_buffer : (s : SeatBuffers) (k head body : ℕ) → k < length s.buffers
    → buffer_of (with_buffer k (buffer_after_write 1 body (buffer_of (with_buffer k (buffer_after_write 0 head (buffer_of s k)) s) k)) (with_buffer k (buffer_after_write 0 head (buffer_of s k)) s)) k
    ≡ buffer_after_write 1 body (buffer_after_write 0 head (buffer_of s k))
written_buffer s k head body lk =
    let t : SeatBuffers = with_buffer k (buffer_after_write 0 head (buffer_of s k)) s in
    let long : length t.buffers ≡ length s.buffers = length-set s.buffers k (buffer_after_write 0 head (buffer_of s k)) in
    buffer_here t k (buffer_after_write 1 body (buffer_of t k)) (omega arith) ∙ ap (buffer_after_write 1 body) (buffer_here s k (buffer_after_write 0 head (buffer_of s k)) lk)

pub written_long : (p : P) (m : Message) (colour k : ℕ) → length (written_place m colour k p).own.stock.buffers ≡ length p.own.stock.buffers
written_long p m colour k =
    let s : SeatBuffers = p.own.stock in
    let t : SeatBuffers = with_buffer k (buffer_after_write 0 (head_word m colour) (buffer_of s k)) s in
    length-set t.buffers k (buffer_after_write 1 (body_word m) (buffer_of t k)) ∙ length-set s.buffers k (buffer_after_write 0 (head_word m colour) (buffer_of s k))

-- the first message is of the federate, is transported, and has a number
pub first_is : {X : Type 0} (A : X → Type 0) (m : X) (rest outbox : List X) → outbox ≡ m ∷ rest → All A outbox → A m
first_is A m rest outbox is all = All-head A m rest (subst (All A) is all)

module _ (p : P) (w : IsInWorld p) (m : Message) (first : IsFirstOf m p.client) where
  abbrev tells : PlaceTells p
  tells = places_tell p w

  first_sent : Contains p.client.state.sends m
  first_sent = first_is (Contains p.client.state.sends) m first.rest p.client.outbox first.outbox tells.sends.waiting

  pub first_own : m.sender ≡ p.own.number
  first_own = All-contains (λ (x : Message). x.sender ≡ p.own.number) p.client.state.sends m tells.sends.own first_sent

  pub first_transported : is_transported p.client.federation m ≡ true
  first_transported = first_is (λ (x : Message). is_transported p.client.federation x ≡ true) m first.rest p.client.outbox first.outbox tells.sends.transported

  first_number : m.number < 2 ^ 16
  first_number =
      let sends : List Message = p.client.state.sends in
      let k : ℕ = first_sent.0 in
      let inside : k < length sends = first_sent.1 in
      let few : length sends ≤ most_sends = tells.sends.few in
      let is : (slice_index_or sends k no_message).number ≡ k + 1 = tells.sends.numbered k inside in
      let here : slice_index_or sends k no_message ≡ m = get_or_default sends k no_message m inside ∙ first_sent.2 in
      let n : m.number ≡ k + 1 = sym (ap (λ (x : Message). x.number) here) ∙ is in
      omega arith

  first_group : m.group < 128
  first_group =
      let inside : m.group < length p.client.federation.groups = transported_group p.client.federation m first_transported in
      let few = tells.federation.groups.few in
      omega arith

  first_early : m.time ≤ 100000
  first_early =
      let in_time : m.time ≤ p.client.federation.end = transported_early p.client.federation m first_transported in
      let end = tells.federation.end in
      omega arith

  pub carries : (colour : ℕ) → colour < 2 ^ 40 → CarriesMessage m colour
  carries colour small = record { group_fits = first_group; colour_fits = small; time_fits = let early = first_early in omega arith }

  fits_head : FitsHead m
  fits_head = record { number = first_number; group = first_group }

  -- the place after both writes
  module _ (colour k mask : ℕ) (inside : k < p.own.buffers) (free : (buffer_of p.own.stock k).free ≡ true) (all : mask ≡ receivers_of p.client.federation m.sender m.group)
      (is_colour : colour ≡ last_run p.client.contributions) (value : m.value < 2 ^ 32) where
    abbrev q : P
    q = written_place m colour k p

    in_stock : k < length p.own.stock.buffers
    in_stock = let long : length p.own.stock.buffers ≡ p.own.buffers = stock_long p w in omega arith

    here : buffer_of q.own.stock k ≡ buffer_after_write 1 (body_word m) (buffer_after_write 0 (head_word m colour) (buffer_of p.own.stock k))
    here = written_buffer p.own.stock k (head_word m colour) (body_word m) in_stock

    pub may_charge : MayCharge q k mask m first.rest
    may_charge = record {
      within = inside;
      chargeable = (ap (λ (c : Buffer). c.free) here ∙ free, ap (λ (c : Buffer). c.has_head) here, ap (λ (c : Buffer). c.has_body) here);
      others = (
        λ none. transported_some p.client.federation m first_transported (sym all ∙ none),
        subst (λ (n : ℕ). mask < 2 ^ n) (sym tells.federates) (subst (λ (x : ℕ). x < 2 ^ length p.client.federation.federates) (sym all) (receivers_below p.client.federation tells.federation m.sender m.group)),
        subst (λ (x : ℕ). bit_at x p.own.number ≡ 0) (sym all) (subst (λ (j : ℕ). bit_at (receivers_of p.client.federation m.sender m.group) j ≡ 0) first_own (receivers_without p.client.federation m.sender m.group)),
      );
      all = all;
      outbox = first.outbox;
      none = first.whole;
      head = ap (λ (c : Buffer). c.head) here ∙ ap (head_word m) is_colour;
      body = ap (λ (c : Buffer). c.body) here;
      fits = fits_head;
      value = value;
    }

-- each own buffer has a time that was put in it
pub in_put : (p : P) → IsInWorld p → (k : ℕ) → k < p.own.buffers → (put : List ℕ) → put ≡ map time_put p.client.filled → k < length put
in_put p w k inside put is =
    let filled : length p.client.filled ≡ p.own.buffers = (places_tell p w).filled in
    let long : length put ≡ length p.client.filled = ap length is ∙ length-map p.client.filled time_put in
    omega arith
