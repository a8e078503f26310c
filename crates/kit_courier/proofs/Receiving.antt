-- The steps by which a letter is got_after: mail is collected, head and body are read, and the buffer is released.
use Rattle.std.proofs.Common.{arith, Bool, true, false, ◌≡◌, ◌≢◌, ℕ, ◌<◌, ◌==◌, ◌&&◌, if◌then◌else◌, List, [], ◌∷◌, ◌++◌, length, get_or, refl, sym, ap, ◌∙◌, subst, ⊎_elim, eq-eqb}
use Rattle.std.proofs.lemmas.Bool.{true≢false}
use Rattle.std.proofs.lemmas.List.Elements.{Contains-push_cases}
use Rattle.std.proofs.lemmas.Option.{none-some, same_Some}
use Rattle.std.specs.Prelude.{Contains, Option, None, Some, slice_index}
use Rattle.std.specs.Int.{bit_at}
use mathlib.Core.Option.{some}
use lib.ListN.{get_elem?}
use Rattle.kit_ground.specs.declared.address.Address.TheVariants.{Mail, Count, Part}
use Rattle.kit_ground.specs.declared.place.Deed.TheVariants.{Collected, ReadPart, Released}
use Rattle.kit_ground.specs.declared.place.Place.{Place}
use Rattle.kit_ground.specs.Layout.{mail_words}
use Rattle.kit_ground.specs.Memory.{Memory, with_word}
use Rattle.kit_ground.specs.Rules.{Keeps, World}
use Rattle.kit_ground.specs.Steps.{becomes, mail_mask, Allowed, address_of}
use Rattle.kit_ground.proofs.HeldMasks.{held_less, held_more}
use Rattle.kit_ground.proofs.Lists.{at_inside, at_or}
use Rattle.kit_ground.proofs.Memories.{stored_same}
use Rattle.kit_ground.proofs.PlaceFacts.{holds_wide}
use Rattle.kit_courier.specs.declared.view.CourierView.{CourierView}
use Rattle.kit_courier.specs.declared.view.Reading.{Reading}
use Rattle.kit_courier.specs.declared.view.Receipt.{Receipt}
use Rattle.kit_courier.specs.declared.view.Sent.{Sent}
use Rattle.kit_courier.specs.Couriers.{courier_rule}
use Rattle.kit_courier.specs.Deliveries.{view_after, reading_after, got_after}
use Rattle.kit_courier.specs.Letters.{IsReading, WasSentTo, letter_in, sent_by}
use Rattle.kit_courier.proofs.Keeping.{kept_aside}
use Rattle.kit_courier.proofs.LetterSteps.{head_still, letters_still, mine, reading_due, sent_here}

abbrev P : Type 0
P = Place CourierView

-- what is still being read is another buffer
reading_after_tells : (i k : ℕ) (o : Option Reading) (x : Reading) → reading_after i k o ≡ Some x → (o ≡ Some x) × (x.from ≡ i → x.buffer ≢ k)
reading_after_tells i k None x is = absurd (none-some x is)
reading_after_tells i k (Some r) x is = by (r.from == i && r.buffer == k) refl
  where
    by : (t : Bool) → (r.from == i && r.buffer == k) ≡ t → (Some r ≡ Some x) × (x.from ≡ i → x.buffer ≢ k)
    by true e = absurd (none-some x (sym (ap (λ (t : Bool). if t then None else Some r) e) ∙ is))
    by false e =
        let kept : Some r ≡ Some x = sym (ap (λ (t : Bool). if t then None else Some r) e) ∙ is in
        let same : r ≡ x = same_Some r x kept in
        (kept, λ a c. true≢false (sym (λ t. eq-eqb r.from i (ap (λ (y : Reading). y.from) same ∙ a) t && eq-eqb r.buffer k (ap (λ (y : Reading). y.buffer) same ∙ c) t) ∙ e))

-- a letter whose head was read, and whose body lies there still, is one that its sender sent to the seat
pub read_was_sent : (p : P) (m : Memory) (places : List P) → World courier_rule p m places → (i k head : ℕ) → p.client.reading ≡ Some (record { from = i; buffer = k; head = head })
    → WasSentTo (sent_by places i) p.own.number (record { head = head; body = m (Part i k 1) })
read_was_sent p m places w i k head is =
    let r : Reading = record { from = i; buffer = k; head = head } in
    let here = w.floor.each p.own.number p w.here in
    let h = (w.client.letters.each p.own.number p w.here).reading r is in
    let li : i < length places = subst (λ (n : ℕ). i < n) here.federates h.from in
    let d : P = p in
    let sender : P = get_or places i d in
    let at : get_elem? places i ≡ some sender = at_or places i d li in
    let own = w.floor.each i sender at in
    let lk : k < sender.own.buffers = subst (λ (b : ℕ). k < b) (sym own.buffers) h.buffer in
    let has = (w.client.letters.each i sender at).due k lk p.own.number (at_inside places p.own.number p w.here) (reading_due p.own.buffers m places w.floor p.own.number p w.here r h) in
    let letter : letter_in m i k ≡ record { head = head; body = m (Part i k 1) } = λ t. record { head = h.head t; body = m (Part i k 1) } in
    subst (λ (l : List Sent). WasSentTo l p.own.number (record { head = head; body = m (Part i k 1) })) (sym (sent_here places i sender at)) (subst (WasSentTo sender.client.sent p.own.number) letter has)

module _ (p : P) where
  pub collects : (from word : ℕ) → from < p.own.federates → from ≢ p.own.number → word < mail_words p.own.buffers → Keeps courier_rule view_after p (Mail p.own.number from word) (λ mail. Collected from word mail)
  collects from word lf other lw m places w =
      let me : ℕ = p.own.number in
      let mail : ℕ = m (Mail me from word) in
      let deed = Collected from word mail in
      let allowed : Allowed p.own deed (m (address_of p.own deed)) = (lf, other, lw, refl) in
      let rule = mine p m places w deed allowed in
      let here = w.floor.each me p w.here in
      let wide : length p.own.stock.holds ≡ length places = holds_wide p.own.buffers m places w.floor me p w.here in
      kept_aside p m places w (with_word m (Mail me from word) 0) deed (λ j. refl) refl
      (letters_still p m places w deed allowed (λ i x j c. c) refl
      (λ r is.
      let h = rule.reading r is in
      record { from = h.from; buffer = h.buffer; held = held_more p.own.stock.holds from (mail_mask word mail) r.from r.buffer (subst (λ (n : ℕ). r.from < n) (here.federates ∙ sym wide) h.from) h.held; head = head_still p m places w deed allowed me p w.here r h })
      (λ t has. rule.got t has))

  -- from now on the seat is reading this buffer
  pub reads_head : (i k : ℕ) → i < p.own.federates → k < p.own.buffers → bit_at (slice_index p.own.stock.holds i) k ≡ 1 → Keeps courier_rule view_after p (Part i k 0) (λ word. ReadPart i k 0 word)
  reads_head i k li lk held m places w =
      let word : ℕ = m (Part i k 0) in
      let deed = ReadPart i k 0 word in
      let now : Memory = with_word m (Part i k 0) word in
      let zero_there : 0 < 2 = omega arith in
      let allowed : Allowed p.own deed (m (address_of p.own deed)) = (li, lk, zero_there, held, refl) in
      let begun : Reading = record { from = i; buffer = k; head = word } in
      let rule = mine p m places w deed allowed in
      let begins : IsReading now p.own begun = record { from = li; buffer = lk; held = held; head = λ t. stored_same m (Part i k 0) t (Part i k 0) } in
      kept_aside p m places w now deed (λ j. refl) refl
      (letters_still p m places w deed allowed (λ a x j c. c) refl
      (λ r is. let h = subst (IsReading now p.own) (same_Some begun r is) begins in record { from = h.from; buffer = h.buffer; held = h.held; head = h.head })
      (λ t has. rule.got t has))

  -- the letter is whole
  pub reads_body : (i k head : ℕ) → i < p.own.federates → k < p.own.buffers → bit_at (slice_index p.own.stock.holds i) k ≡ 1 → p.client.reading ≡ Some (record { from = i; buffer = k; head = head })
      → Keeps courier_rule view_after p (Part i k 1) (λ word. ReadPart i k 1 word)
  reads_body i k head li lk held reading m places w =
      let word : ℕ = m (Part i k 1) in
      let deed = ReadPart i k 1 word in
      let one_there : 1 < 2 = omega arith in
      let allowed : Allowed p.own deed (m (address_of p.own deed)) = (li, lk, one_there, held, refl) in
      let receipt : Receipt = record { from = i; letter = record { head = head; body = word } } in
      let rule = mine p m places w deed allowed in
      let got : got_after p.client.reading word p.client.got ≡ p.client.got ++ receipt ∷ [] = ap (λ (o : Option Reading). got_after o word p.client.got) reading in
      kept_aside p m places w (with_word m (Part i k 1) word) deed (λ j. refl) refl
      (letters_still p m places w deed allowed (λ a x j c. c) refl
      (λ r is. absurd (none-some r is))
      (λ t has. ⊎_elim (λ before. rule.got t before) (λ is. subst (λ (x : Receipt). WasSentTo (sent_by places x.from) p.own.number x.letter) is (read_was_sent p m places w i k head reading))
      (Contains-push_cases p.client.got receipt t (subst (λ (l : List Receipt). Contains l t) got has))))

  -- a buffer that the seat holds
  pub releases : (i k : ℕ) → i < p.own.federates → k < p.own.buffers → bit_at (slice_index p.own.stock.holds i) k ≡ 1 → Keeps courier_rule view_after p (Count i k) (λ _. Released i k)
  releases i k li lk held m places w =
      let me : ℕ = p.own.number in
      let deed = Released i k in
      let allowed : Allowed p.own deed (m (address_of p.own deed)) = (li, lk, held) in
      let rule = mine p m places w deed allowed in
      let here = w.floor.each me p w.here in
      let wide : length p.own.stock.holds ≡ length places = holds_wide p.own.buffers m places w.floor me p w.here in
      kept_aside p m places w (with_word m (Count i k) (becomes deed (m (Count i k)))) deed (λ j. refl) refl
      (letters_still p m places w deed allowed (λ a x j c. c) refl
      (λ r is.
      let t = reading_after_tells i k p.client.reading r is in
      let h = rule.reading r t.0 in
      record { from = h.from; buffer = h.buffer; held = held_less p.own.stock.holds i k r.from r.buffer (subst (λ (n : ℕ). r.from < n) (here.federates ∙ sym wide) h.from) t.1 h.held; head = head_still p m places w deed allowed me p w.here r h })
      (λ t has. rule.got t has))
