-- The rule of the letters after a step that is allowed. The floor's laws say who is due then, and that the words of those who are stay.
use Rattle.std.proofs.Common.{◌≡◌, ◌≢◌, ◌⊎◌, ℕ, ◌<◌, List, [], length, map, sym, ap, ◌∙◌, subst, ⊎_elim, arith, length-set, get_or-set_same, get_or-set_other}
use Rattle.std.proofs.lemmas.List.{length-map, map-set}
use Rattle.std.specs.Prelude.{Contains, slice_index, slice_index_or, slice_set, Some}
use Rattle.std.specs.Int.{bit_at}
use mathlib.Core.Logic.{dite}
use mathlib.Core.Option.{some}
use native.Mathlib.Decide.{ℕ_discrete}
use lib.ListN.{get_elem?}
use Rattle.kit_ground.specs.declared.address.Address.TheVariants.{Part}
use Rattle.kit_ground.specs.declared.place.Deed.{Deed}
use Rattle.kit_ground.specs.declared.place.Deed.TheVariants.{Looked, Published, Stopped, SawStop, SawFree, Wrote, Charged, PostedTo, Collected, ReadPart, Released}
use Rattle.kit_ground.specs.declared.place.Place.{Place}
use Rattle.kit_ground.specs.Laws.{ChargesFor}
use Rattle.kit_ground.specs.Memory.{Memory, with_word}
use Rattle.kit_ground.specs.Rules.{FloorHolds, World, stock_of}
use Rattle.kit_ground.specs.Sets.{due}
use Rattle.kit_ground.specs.Steps.{Allowed, address_of, becomes, place_after, stock_after}
use Rattle.kit_ground.proofs.DueSteps.{were_charged}
use Rattle.kit_ground.proofs.Lists.{at_inside, at_map_or}
use Rattle.kit_ground.proofs.PlaceFacts.{held_due}
use Rattle.kit_ground.proofs.PlaceSteps.{each_after}
use Rattle.kit_ground.proofs.ReaderWords.{words_stay}
use Rattle.kit_courier.specs.declared.view.CourierView.{CourierView}
use Rattle.kit_courier.specs.declared.view.Letter.{Letter}
use Rattle.kit_courier.specs.declared.view.Reading.{Reading}
use Rattle.kit_courier.specs.declared.view.Receipt.{Receipt}
use Rattle.kit_courier.specs.declared.view.Sent.{Sent}
use Rattle.kit_courier.specs.Couriers.{courier_rule}
use Rattle.kit_courier.specs.Deliveries.{view_after}
use Rattle.kit_courier.specs.Letters.{Corresponds, IsReading, Letters, WasSentTo, letter_in, sent_by, sent_of}

abbrev P : Type 0
P = Place CourierView

-- what the federate at a place sent
pub sent_here : (places : List P) (j : ℕ) (p : P) → get_elem? places j ≡ some p → sent_by places j ≡ p.client.sent
sent_here places j p at = at_map_or sent_of places j p [] at

abbrev nth : List (List Sent) → ℕ → List Sent
nth lists i = slice_index_or lists i []

-- nothing that was sent is taken back
pub sent_still : (places : List P) (me : ℕ) (p q : P) → get_elem? places me ≡ some p → ((x : Sent) → Contains p.client.sent x → Contains q.client.sent x)
    → (i : ℕ) (x : Sent) → Contains (sent_by places i) x → Contains (sent_by (slice_set places me q) i) x
sent_still places me p q at more i x has =
    let Has : List Sent → Type 0 = λ l. Contains l x in
    let lists : List (List Sent) = map sent_of places in
    let inside = at_inside places me p at in
    let long = length-map places sent_of in
    let is : sent_by (slice_set places me q) i ≡ nth (slice_set lists me q.client.sent) i = ap (λ (l : List (List Sent)). nth l i) (map-set sent_of places me q) in
    subst Has (sym is) (dite (ℕ_discrete i me)
    (λ same. subst Has (sym (ap (nth (slice_set lists me q.client.sent)) same ∙ get_or-set_same lists me q.client.sent [] (omega arith))) (more x (subst Has (ap (sent_by places) same ∙ sent_here places me p at) has)))
    (λ other. subst Has (sym (get_or-set_other lists me i q.client.sent [] other)) has))

-- where more was sent, what was sent to somebody still was
pub sent_more : (l k : List Sent) → ((x : Sent) → Contains l x → Contains k x) → (j : ℕ) (letter : Letter) → WasSentTo l j letter → WasSentTo k j letter
sent_more l k more j letter h = record { to = h.to; has = more (record { to = h.to; letter = letter }) h.has; reader = h.reader }

-- a seat that is reading a buffer is due for it
pub reading_due : (b : ℕ) (m : Memory) (places : List P) → FloorHolds b m places → (j : ℕ) (p : P) → get_elem? places j ≡ some p → (r : Reading) → IsReading m p.own r → due m (map stock_of places) r.from r.buffer j ≡ 1
reading_due b m places floor j p at r h =
    let own = floor.each j p at in
    held_due b m places floor j p at r.from r.buffer (subst (λ (n : ℕ). r.from < n) own.federates h.from) (subst (λ (k : ℕ). r.buffer < k) own.buffers h.buffer) h.held

-- a seat charges its own buffers alone
charges_own : (me : ℕ) (deed : Deed) (i k j : ℕ) → ChargesFor me deed i k j → i ≡ me
charges_own me (Charged c mask) i k j h = h.0
charges_own me (Looked r word) i k j h = absurd h
charges_own me (Published r word) i k j h = absurd h
charges_own me Stopped i k j h = absurd h
charges_own me (SawStop set) i k j h = absurd h
charges_own me (SawFree c free) i k j h = absurd h
charges_own me (Wrote c x word) i k j h = absurd h
charges_own me (PostedTo c x) i k j h = absurd h
charges_own me (Collected x w mail) i k j h = absurd h
charges_own me (ReadPart x c y word) i k j h = absurd h
charges_own me (Released x c) i k j h = absurd h

module _ (p : P) (m : Memory) (places : List P) (w : World courier_rule p m places) (deed : Deed) (allowed : Allowed p.own deed (m (address_of p.own deed))) where
  abbrev me : ℕ
  me = p.own.number

  abbrev pub now : Memory
  now = with_word m (address_of p.own deed) (becomes deed (m (address_of p.own deed)))

  abbrev q : P
  q = place_after view_after deed p

  abbrev new : List P
  new = slice_set places p.own.number q

  inside : p.own.number < length places
  inside = at_inside places p.own.number p w.here

  pub mine : Corresponds m (map stock_of places) (length places) (sent_by places) p.own.number p
  mine = w.client.letters.each p.own.number p w.here

  due_before : (i k d : ℕ) → i < length places → k < p.own.buffers → d < length places → due now (map stock_of new) i k d ≡ 1 → (due m (map stock_of places) i k d ≡ 1) ⊎ ChargesFor p.own.number deed i k d
  due_before i k d = were_charged p.own.buffers m places p.own.number p view_after deed w.floor w.here allowed i k d

  words : (i k d x : ℕ) → i < length places → k < p.own.buffers → d < length places → x < 2 → due m (map stock_of places) i k d ≡ 1 → now (Part i k x) ≡ m (Part i k x)
  words i k d x = words_stay p.own.buffers m places p.own.number p deed w.floor w.here allowed i k d x

  letter_still : (i k d : ℕ) → i < length places → k < p.own.buffers → d < length places → due m (map stock_of places) i k d ≡ 1 → letter_in m i k ≡ letter_in now i k
  letter_still i k d li lk ld one = λ t. record { head = sym (words i k d 0 li lk ld (omega arith) one) t; body = sym (words i k d 1 li lk ld (omega arith) one) t }

  -- the head of a buffer that is being read stays
  pub head_still : (j : ℕ) (r : P) → get_elem? places j ≡ some r → (x : Reading) → IsReading m r.own x → now (Part x.from x.buffer 0) ≡ x.head
  head_still j r at x h =
      let own = w.floor.each j r at in
      words x.from x.buffer j 0 (subst (λ (n : ℕ). x.from < n) own.federates h.from) (subst (λ (k : ℕ). x.buffer < k) own.buffers h.buffer) (at_inside places j r at) (omega arith) (reading_due p.own.buffers m places w.floor j r at x h) ∙ h.head

  module _ (more : (x : Sent) → Contains p.client.sent x → Contains q.client.sent x) where
    receipt_still : (j : ℕ) (t : Receipt) → WasSentTo (sent_by places t.from) j t.letter → WasSentTo (sent_by new t.from) j t.letter
    receipt_still j t = sent_more (sent_by places t.from) (sent_by new t.from) (sent_still places p.own.number p q w.here more t.from) j t.letter

    -- the rule after a step, from what it sends, and what the seat is reading and has got then
    pub letters_after : ((k d : ℕ) → k < p.own.buffers → ChargesFor p.own.number deed p.own.number k d → WasSentTo q.client.sent d (letter_in now p.own.number k))
        → ((x : Reading) → q.client.reading ≡ Some x → IsReading now q.own x)
        → ((t : Receipt) → Contains q.client.got t → WasSentTo (sent_by places t.from) p.own.number t.letter)
        → Letters now new
    letters_after charged reading got =
        let F : ℕ → P → Type 0 = λ j r. Corresponds now (map stock_of new) (length places) (sent_by new) j r in
        let here : F p.own.number q = record {
          due = λ k lk d ld one. ⊎_elim
              (λ before. subst (WasSentTo q.client.sent d) (letter_still p.own.number k d inside lk ld before) (sent_more p.client.sent q.client.sent more d (letter_in m p.own.number k) (mine.due k lk d ld before)))
              (λ c. charged k d lk c)
              (due_before p.own.number k d inside lk ld one);
          reading = reading;
          got = λ t has. receipt_still p.own.number t (got t has);
        } in
        let others : (j : ℕ) (r : P) → j ≢ p.own.number → get_elem? places j ≡ some r → F j r = λ j r other at.
        let h = w.client.letters.each j r at in
        let own = w.floor.each j r at in
        let lj = at_inside places j r at in record {
          due = λ k lk d ld one.
              let lk' : k < p.own.buffers = subst (λ (x : ℕ). k < x) own.buffers lk in
              ⊎_elim
              (λ before. subst (WasSentTo r.client.sent d) (letter_still j k d lj lk' ld before) (h.due k lk d ld before))
              (λ c. absurd (other (charges_own p.own.number deed j k d c)))
              (due_before j k d lj lk' ld one);
          reading = λ x is. let y = h.reading x is in record { from = y.from; buffer = y.buffer; held = y.held; head = head_still j r at x y };
          got = λ t has. receipt_still j t (h.got t has);
        } in
        record { each = λ j r at. subst (λ (n : ℕ). Corresponds now (map stock_of new) n (sent_by new) j r) (sym (length-set places p.own.number q)) (each_after F places p.own.number q here others j r at) }

  -- after a step that charges and sends nothing
  pub letters_still : ((i k j : ℕ) → ChargesFor p.own.number deed i k j → ⊥) → (view_after deed p).sent ≡ p.client.sent
      → ((x : Reading) → (view_after deed p).reading ≡ Some x → IsReading now q.own x)
      → ((t : Receipt) → Contains (view_after deed p).got t → WasSentTo (sent_by places t.from) p.own.number t.letter)
      → Letters now new
  letters_still none same reading got = letters_after (λ x has. subst (λ (l : List Sent). Contains l x) (sym same) has) (λ k d lk c. absurd (none p.own.number k d c)) reading got

  -- after one that leaves the view, and what the seat holds
  pub letters_aside : ((i k j : ℕ) → ChargesFor p.own.number deed i k j → ⊥) → view_after deed p ≡ p.client → (stock_after deed p.own.stock).holds ≡ p.own.stock.holds → Letters now new
  letters_aside none view holds = letters_still none (ap (λ (v : CourierView). v.sent) view)
      (λ x is.
      let h = mine.reading x (sym (ap (λ (v : CourierView). v.reading) view) ∙ is) in
      record { from = h.from; buffer = h.buffer; held = ap (λ (l : List ℕ). bit_at (slice_index l x.from) x.buffer) holds ∙ h.held; head = head_still p.own.number p w.here x h })
      (λ t has. mine.got t (subst (λ (v : CourierView). Contains v.got t) view has))
