-- A charge of a buffer: what it carries from now on was sent to those of the mask.
use Rattle.std.proofs.Common.{◌≡◌, ℕ, ◌<◌, [], ◌∷◌, ◌++◌, refl, sym, ◌∙◌, subst, arith}
use Rattle.std.proofs.lemmas.List.Elements.{Contains-append_left, Contains-push}
use Rattle.std.specs.Prelude.{Contains}
use Rattle.kit_ground.specs.declared.address.Address.TheVariants.{Count}
use Rattle.kit_ground.specs.declared.place.Deed.TheVariants.{Charged}
use Rattle.kit_ground.specs.declared.place.Place.{Place}
use Rattle.kit_ground.specs.Laws.{ChargesFor}
use Rattle.kit_ground.specs.Memory.{Memory, with_word}
use Rattle.kit_ground.specs.Rules.{Keeps}
use Rattle.kit_ground.specs.Steps.{IsChargeable, IsMask, becomes, buffer_of, Allowed, address_of}
use Rattle.kit_ground.proofs.PlaceFacts.{content_is}
use Rattle.kit_courier.specs.declared.view.CourierView.{CourierView}
use Rattle.kit_courier.specs.declared.view.Letter.{Letter}
use Rattle.kit_courier.specs.declared.view.Sent.{Sent}
use Rattle.kit_courier.specs.Couriers.{courier_rule}
use Rattle.kit_courier.specs.Deliveries.{view_after, letter_of}
use Rattle.kit_courier.specs.Letters.{WasSentTo, letter_in}
use Rattle.kit_courier.proofs.Keeping.{kept_aside}
use Rattle.kit_courier.proofs.LetterSteps.{head_still, letters_after, mine}

module _ (p : Place CourierView) where
  pub charges : (k mask : ℕ) → k < p.own.buffers → IsChargeable p.own k → IsMask p.own mask → Keeps courier_rule view_after p (Count p.own.number k) (λ _. Charged k mask)
  charges k mask lk ready others m places w =
      let me : ℕ = p.own.number in
      let deed = Charged k mask in
      let now : Memory = with_word m (Count me k) (becomes deed (m (Count me k))) in
      let sent : Sent = record { to = mask; letter = letter_of (buffer_of p.own.stock k) } in
      let content : letter_of (buffer_of p.own.stock k) ≡ letter_in m me k = λ t. record {
        head = sym (content_is p.own.buffers m places w.floor me p w.here k 0 lk (omega arith)) t;
        body = sym (content_is p.own.buffers m places w.floor me p w.here k 1 lk (omega arith)) t;
      } in
      let allowed : Allowed p.own deed (m (address_of p.own deed)) = (lk, ready, others) in
      let rule = mine p m places w deed allowed in
      let charged : (y d : ℕ) → y < p.own.buffers → ChargesFor me deed me y d → WasSentTo (p.client.sent ++ sent ∷ []) d (letter_in now me y) = λ y d ly c. record {
        to = mask;
        has = subst (λ (l : Letter). Contains (p.client.sent ++ sent ∷ []) (record { to = mask; letter = l })) (content ∙ (λ t. letter_in m me (sym c.1 t))) (Contains-push p.client.sent sent);
        reader = c.2;
      } in
      kept_aside p m places w now deed (λ j. refl) refl
      (letters_after p m places w deed allowed (λ x has. Contains-append_left p.client.sent (sent ∷ []) x has) charged
      (λ r is. let h = rule.reading r is in record { from = h.from; buffer = h.buffer; held = h.held; head = head_still p m places w deed allowed me p w.here r h })
      (λ t has. rule.got t has))
