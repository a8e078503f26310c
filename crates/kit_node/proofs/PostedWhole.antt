-- The first message of the outbox is put in a buffer, that is charged, and posted to all of its receivers.
use Rattle.std.proofs.Common.{◌≡◌, ◌≢◌, ℕ, ◌-◌, ◌^◌, ◌<◌, ◌≤◌, List, [], ◌∷◌, ◌++◌, length, map, filter, take, drop, Option, Some, None, refl, sym, ap, ◌∙◌, subst, arith, length-set}
use Rattle.std.specs.Prelude.{slice_set}
use Rattle.std.specs.List.{range_with_len}
use Rattle.std.proofs.lemmas.List.{append-nil, length-drop, map-set}
use Rattle.kit_base.specs.declared.message.Message.{Message}
use Rattle.kit_ground.specs.declared.place.Buffer.{Buffer}
use Rattle.kit_ground.specs.declared.place.Place.{Place}
use Rattle.kit_ground.specs.Steps.{buffer_after_charge, buffer_of}
use Rattle.kit_rules.specs.Delivery.{has_bit, receivers_of}
use Rattle.kit_lbts.specs.declared.view.Filled.{Filled}
use Rattle.kit_lbts.specs.declared.view.LbtsView.{LbtsView}
use Rattle.kit_lbts.specs.declared.view.Posting.{Posting}
use Rattle.kit_lbts.specs.Letters.{letter_in, letter_of}
use Rattle.kit_lbts.specs.Progress.{first_letter}
use Rattle.kit_lbts.specs.SeatLaws.{IsInWorld}
use Rattle.kit_lbts.proofs.LetterFacts.{letter_from, letter_put}
use Rattle.kit_lbts.proofs.Owing.{buffer_here}
use Rattle.kit_lbts.proofs.SeatFacts.{places_tell}
use Rattle.kit_node.specs.declared.outbox.Outbox.{Outbox}
use Rattle.kit_node.specs.declared.posts.Posts.{Posts}
use Rattle.kit_node.specs.Fields.{waiting_in}
use Rattle.kit_node.specs.Mirrors.{MirrorsOutbox, MirrorsPosts, colour_of, time_put}
use Rattle.kit_node.specs.Sending.{HasPosted, IsFirstOf, charged_place, copies_of, copies_of_all, posted_place, posts_after, written_place}
use Rattle.kit_node.proofs.CountedPosts.{CountsPosts, counts_below, counts_of, mirrors_of}
use Rattle.kit_node.proofs.PlaceTells.{stock_long}
use Rattle.kit_node.proofs.PostsBelow.{made_below, owes_below, view_whole}
use Rattle.kit_rules.proofs.ReceiverMasks.{receivers_below, transported_some}
use Rattle.kit_node.proofs.Writings.{first_transported, written_long}

abbrev P : Type 0
P = Place LbtsView

-- a charged buffer is still to be posted to the whole mask
pub charged_owes : (p : P) (m : Message) (colour k mask : ℕ) → k < length p.own.stock.buffers → (buffer_of (charged_place m colour k mask p).own.stock k).to_post ≡ mask
charged_owes p m colour k mask lk =
    let w : P = written_place m colour k p in
    let long : length w.own.stock.buffers ≡ length p.own.stock.buffers = written_long p m colour k in
    ap (λ (c : Buffer). c.to_post) (buffer_here w.own.stock k (buffer_after_charge mask (buffer_of w.own.stock k)) (omega arith))

pub charged_long : (p : P) (m : Message) (colour k mask : ℕ) → length (charged_place m colour k mask p).own.stock.buffers ≡ length p.own.stock.buffers
charged_long p m colour k mask =
    let w : P = written_place m colour k p in
    length-set w.own.stock.buffers k (buffer_after_charge mask (buffer_of w.own.stock k)) ∙ written_long p m colour k

module _ (p : P) (w : IsInWorld p) (m : Message) (colour k mask : ℕ) (first : IsFirstOf m p.client) (inside : k < p.own.buffers) (all : mask ≡ receivers_of p.client.federation m.sender m.group) where
  abbrev v : LbtsView
  v = p.client

  abbrev n : ℕ
  n = p.own.federates

  abbrev q1 : P
  q1 = charged_place m colour k mask p

  abbrev q : P
  q = posted_place k mask q1

  in_stock : k < length p.own.stock.buffers
  in_stock = let long : length p.own.stock.buffers ≡ p.own.buffers = stock_long p w in omega arith

  in_charged : k < length q1.own.stock.buffers
  in_charged = let long : length q1.own.stock.buffers ≡ length p.own.stock.buffers = charged_long p m colour k mask in let l = in_stock in omega arith

  small : mask < 2 ^ n
  small =
      let t = places_tell p w in
      subst (λ (x : ℕ). mask < 2 ^ x) (sym t.federates) (subst (λ (x : ℕ). x < 2 ^ length v.federation.federates) (sym all) (receivers_below v.federation t.federation m.sender m.group))

  some_ : mask ≢ 0
  some_ none = transported_some v.federation m (first_transported p w m first) (sym all ∙ none)

  -- the letter that the buffer has
  filled_is : q1.client.filled ≡ slice_set v.filled k (Some (letter_of v m))
  filled_is = ap (λ (o : List Message). slice_set v.filled k (first_letter v o)) first.outbox

  letter_is : letter_in q1.client k ≡ letter_of v m
  letter_is =
      ap (λ (fs : List (Option Filled)). letter_from fs k) filled_is
      ∙ letter_put v.filled k (letter_of v m) (let long : length v.filled ≡ p.own.buffers = (places_tell p w).filled in omega arith)

  abbrev made : List Posting
  made = made_below n k mask q1.client

  made_is : made ≡ copies_of v n m
  made_is = λ i. map (λ (j : ℕ). record { to = j; filled = letter_is i }) (filter (has_bit (all i)) (range_with_len 0 n))

  abbrev R : LbtsView
  R = record q1.client { posted = v.posted ++ made; outbox = drop 1 v.outbox; sending = None }

  view_is : q.client ≡ R
  view_is = view_whole k mask q1 in_charged (charged_owes p m colour k mask in_stock) some_ refl n small

  abbrev OnlySends : LbtsView → Type 0
  OnlySends c = c ≡ record v { outbox = c.outbox; posted = c.posted; filled = c.filled }

  only_sends : OnlySends R
  only_sends = λ i. record v { outbox = drop 1 v.outbox; posted = v.posted ++ made; filled = q1.client.filled; sending = sym first.whole i }

  pub posted_first : HasPosted 1 p q
  posted_first =
      let o = owes_below n k mask q1 in_charged (charged_owes p m colour k mask in_stock) in
      record {
        seat = record { number = o.seat.number; federates = o.seat.federates; buffers = o.seat.buffers; steps = let s = o.seat.steps in omega arith; stops = o.seat.stops };
        registers = o.registers;
        mail = o.mail;
        stop = o.stop;
        shown = o.shown;
        collects = o.collects;
        holds = o.holds;
        few = let l : length v.outbox ≡ length (m ∷ first.rest) = ap length first.outbox in omega arith;
        posted = ap (λ (c : LbtsView). c.posted) view_is ∙ ap (λ (l : List Posting). v.posted ++ l) (made_is ∙ (sym (append-nil (copies_of v n m)) ∙ ap (λ (l : List Message). copies_of_all v n (take 1 l)) (sym first.outbox)));
        left = ap (λ (c : LbtsView). c.outbox) view_is;
        view = subst OnlySends (sym view_is) only_sends;
      }

  -- and the fields that mirror it
  module _ (o after : Outbox) (mirrors : MirrorsOutbox o p.client) (is_colour : colour ≡ colour_of p.client) (waiting : waiting_in after ≡ drop 1 (waiting_in o)) (done : after.done ≤ length after.messages.items)
      (emptied : waiting_in after ≡ [] → after.messages.items ≡ []) (put : after.put.items ≡ slice_set o.put.items k m.time) (posts : after.posts ≡ posts_after m.time mask n o.posts) where
    left_is : waiting_in after ≡ R.outbox
    left_is = waiting ∙ ap (drop 1) mirrors.messages

    counted : MirrorsPosts after.posts R
    counted =
        let before : CountsPosts o.posts (colour_of v) v.posted = counts_of o.posts v mirrors.posts in
        let now : CountsPosts (posts_after m.time mask n o.posts) (colour_of v) (v.posted ++ made) = counts_below o.posts (colour_of v) m.time k mask n q1.client v.posted (ap (λ (f : Filled). f.colour) letter_is) (ap (λ (f : Filled). f.message.time) letter_is) before in
        mirrors_of after.posts R (subst (λ (x : Posts). CountsPosts x (colour_of v) (v.posted ++ made)) (sym posts) now)

    put_is : after.put.items ≡ map time_put R.filled
    put_is =
        put ∙ (ap (λ (l : List ℕ). slice_set l k m.time) mirrors.put
        ∙ (sym (map-set time_put v.filled k (Some (letter_of v m)))
        ∙ ap (map time_put) (sym filled_is)))

    mirrors_here : MirrorsOutbox after R
    mirrors_here = record { done = done; messages = left_is; emptied = λ none. emptied (left_is ∙ none); put = put_is; posts = counted }

    pub mirrors_first : MirrorsOutbox after q.client
    mirrors_first = subst (MirrorsOutbox after) (sym view_is) mirrors_here

-- the first message is there
pub some_waits : (o : Outbox) (m : Message) (rest : List Message) → waiting_in o ≡ m ∷ rest → o.done < length o.messages.items
some_waits o m rest is = let l : length (drop o.done o.messages.items) ≡ length o.messages.items - o.done = length-drop o.done o.messages.items in let z : length (drop o.done o.messages.items) ≡ length (m ∷ rest) = ap length is in omega arith
